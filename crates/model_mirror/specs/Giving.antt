-- Why each answer comes where the lead is given by hand. (This project's own, as all here.)
use Rattle.std.specs.Prelude.{◌≡◌, not, Bool, true, false, [], ◌∷◌}
use Rattle.model_sectors.specs.Discs.{Standing, On, Off}
use Rattle.model_drive.specs.declared.RecordOut.{RecordOut}
use Rattle.model_drive.specs.declared.RecordOut.TheVariants as records
use Rattle.model_drive.specs.Shown.{IsOn}
use Rattle.model_mirror.specs.declared.GiveOut.{GiveOut}
use Rattle.model_mirror.specs.declared.GiveOut.TheVariants as outs
use Rattle.model_mirror.specs.declared.Leader.{Leader}
use Rattle.model_mirror.specs.declared.Leader.TheVariants as leaders
use Rattle.model_mirror.specs.Leading.{floor_of, next_number}
use Rattle.model_mirror.specs.Shown.{MirrorShown, turned, mirror_turned_off, given_by_hand}
use Rattle.model_mirror.specs.Taking.{LeadRaises}

-- whether the sides exchange their roles for the one that is meant to be named first
abbrev pub is_to_turn : (lead_is_a to_a : Bool) → Bool
is_to_turn true to_a = not to_a
is_to_turn false to_a = to_a

-- The side that is meant, which is named first once the roles are turned, where they are to be.
module _ (turns : Bool) (old new : MirrorShown) where
  -- it has it, and leads
  pub record IsGiven : Type 0 where
    pub mid : MirrorShown
    pub is_on : IsOn (turned turns old).lead
    pub raises : LeadRaises (turned turns old) mid (floor_of (turned turns old).who.other) records.Good
    pub new_is : new ≡ given_by_hand mid

  -- it has not, and who leads is as before
  pub record IsNotGiven (told : RecordOut) : Type 0 where
    pub mid : MirrorShown
    pub is_on : IsOn (turned turns old).lead
    pub raises : LeadRaises (turned turns old) mid (floor_of (turned turns old).who.other) told
    pub new_is : new ≡ mirror_turned_off (turned turns mid)

  -- by the answer
  abbrev pub Gives : GiveOut → Type 0
  Gives outs.Given = IsGiven
  Gives (outs.NoUpdate counter) =
      IsNotGiven records.Lost × (counter ≡ next_number (floor_of (turned turns old).who.other))
  Gives outs.Cut = IsNotGiven records.Cut
  Gives outs.Off = ¬ IsOn (turned turns old).lead × (new ≡ old)
  Gives outs.Fault = IsNotGiven records.Fault

-- The cause of each answer where the lead is given by hand to side a, or to side b.
abbrev pub GiveLeadCause : MirrorShown → MirrorShown → (to_a : Bool) → GiveOut → Type 0
GiveLeadCause old new to_a out = Gives (is_to_turn old.lead_is_a to_a) old new out

-- What it makes of what the side stands for that is meant: nothing new, but that its power may be off.
abbrev pub GiveStep : (after : Standing → Type 0) → Standing → GiveOut → Type 0
GiveStep after s outs.Given = after s
GiveStep after s (outs.NoUpdate counter) = after s
GiveStep after s outs.Off = after s
GiveStep after (On disc) outs.Cut = after (Off (disc ∷ []))
GiveStep after (On disc) outs.Fault = after (Off (disc ∷ []))
GiveStep after (Off discs) _ = ⊥

-- what it makes of what a side stands for that may be meant, or not
abbrev pub GiveStepOf : (meant : Bool) → (after : Standing → Type 0) → Standing → GiveOut → Type 0
GiveStepOf true after s out = GiveStep after s out
GiveStepOf false after s out = after s

-- who leads, by whether it is known and whether side a does
abbrev pub leader_as : (known lead_is_a : Bool) → Leader
leader_as true true = leaders.A
leader_as true false = leaders.B
leader_as false lead_is_a = leaders.Unknown

-- as far as it is known
abbrev pub leader_of : MirrorShown → Leader
leader_of shown = leader_as shown.who.known shown.lead_is_a

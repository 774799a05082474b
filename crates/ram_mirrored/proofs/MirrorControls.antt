-- A block of a side that fails or is worn, and a cut that is armed: the register of a sector is left.
use Rattle.std.specs.Prelude.{◌≡◌, ◌≢◌, ℕ, Bool, true, false, if◌then◌else◌, List}
use Rattle.std.proofs.Common.{refl, sym, ap, ◌∙◌, inl, inr, subst}
use Rattle.model_geometry.specs.Geometry.{total}
use Rattle.model_medium.specs.Cells.{Cell, Dead, cell_at}
use Rattle.model_medium.specs.World.{World}
use Rattle.model_medium.specs.Machine.{Machine}
use Rattle.model_medium.specs.declared.Fate.{Fate}
use Rattle.model_medium.specs.declared.WornBlock.{WornBlock}
use Rattle.model_medium.proofs.CellFacts.{cell_at-set_other, cell_at-set_dead}
use Rattle.model_sectors.specs.Discs.{Standing, On, Off}
use Rattle.model_drive.specs.Shown.{Shown, StandsFor, cells_in}
use Rattle.model_drive.specs.Parts.{AreSameOrDead}
use Rattle.model_drive.proofs.Dying.{one_dies, same_on, same_candidates}
use Rattle.model_mirror.specs.Shown.{MirrorShown}
use Rattle.model_mirror.specs.Sides.{side_a, side_b, named_side}
use Rattle.ram_medium.specs.Control.{WearRule, with_armed_cut}
use Rattle.ram_medium.specs.declared.control.FailEnd.{FailEnd}
use Rattle.ram_medium.specs.declared.control.FailEnd.TheVariants as fails
use Rattle.ram_medium.specs.declared.control.Arm.{Arm}
use Rattle.ram_medium.specs.declared.control.Arm.TheVariants as arming
use Rattle.ram_states.specs.Control.{KeepsMemory, FailOnDrive}
use Rattle.ram_report.specs.declared.printing.MirrorEvent.{MirrorEvent}
use Rattle.ram_machine.specs.Register.{Value}
use Rattle.ram_machine.proofs.SectorBoth.{one_lost, other_lost}
use Rattle.ram_pair.specs.Told.{one_cut, fail_told}
use Rattle.ram_pair.specs.PairLines.{with_side, KeepsAll, FailCall, WearCall, CutCall}
use Rattle.ram_mirrored.specs.MirrorRegister.{MirrorRegister}
use Rattle.ram_mirrored.proofs.MirrorSectors.{Held, SideFalls, SidesFall, MatchesMirror, Turned, match_led, match_none}
use Rattle.ram_mirrored.proofs.MirrorCalls.{by_known}

-- ---- a side whose cells die, or that is armed, stands for the same
module _ (old new : Shown) where
  still : KeepsMemory old new → new.medium.world.known ≡ old.medium.world.known → new.medium.world.power ≡ old.medium.world.power → AreSameOrDead (cells_in old) (cells_in new) → (s : Standing) → StandsFor old s → StandsFor new s
  still keeps known power dies (On disc) stood =
      same_on old new keeps.same_shape known (record { same_lists = keeps.same_lists; same_mark = keeps.same_mark }) keeps.same_buffer (power ∙ stood.1) dies disc stood
  still keeps known power dies (Off discs) stood = same_candidates old new keeps.same_shape known (λ on. stood.1 (sym power ∙ on)) dies discs stood

  armed : KeepsMemory old new → new.medium.world ≡ old.medium.world → (s : Standing) → StandsFor old s → StandsFor new s
  armed keeps same = still keeps (ap (λ (w : World). w.known) same) (ap (λ (w : World). w.power) same) (λ block. inl (ap (λ (w : World). cell_at w.cells block) same))

  pub failed_stands : (block : ℕ) (end : FailEnd) → (end ≡ fails.Failed → ⊥) → FailOnDrive old new block end → (s : Standing) → StandsFor old s → StandsFor new s
  failed_stands block fails.Done done rule =
      let is = ap (λ (m : Machine). m.world.cells) rule.0.1 in
      still rule.1 (ap (λ (m : Machine). m.world.known) rule.0.1) (ap (λ (m : Machine). m.world.power) rule.0.1)
      (one_dies old new block (record {
        others = λ other ne. ap (λ (l : List Cell). cell_at l other) is ∙ cell_at-set_other (cells_in old) block other Dead ne;
        left = inr (ap (λ (l : List Cell). cell_at l block) is ∙ cell_at-set_dead (cells_in old) block);
      }))
  failed_stands block (fails.NoBlock blocks) done rule = armed rule.1 (ap (λ (m : Machine). m.world) rule.0.2)
  failed_stands block fails.Failed done rule = absurd (done refl)

  pub worn_stands : (worn : WornBlock) (end : Arm) → WearRule (total old.shape) old.medium new.medium worn end → KeepsMemory old new → (s : Standing) → StandsFor old s → StandsFor new s
  worn_stands worn arming.Set rule keeps = armed keeps (ap (λ (m : Machine). m.world) rule.2)
  worn_stands worn (arming.NoBlock blocks) rule keeps = armed keeps (ap (λ (m : Machine). m.world) rule.2)
  worn_stands worn arming.Full rule keeps = armed keeps (ap (λ (m : Machine). m.world) rule.2)

  pub cut_stands : (n : ℕ) (fate : Fate) → new.medium ≡ with_armed_cut n fate old.medium → KeepsMemory old new → (s : Standing) → StandsFor old s → StandsFor new s
  cut_stands n fate is keeps = armed keeps (ap (λ (m : Machine). m.world) is)

-- ---- the other side is as it was
other_b : (shown : MirrorShown) (x : Shown) → side_b (with_side true x shown) ≡ side_b shown
other_b shown x = go shown.lead_is_a
  where
    go : (l : Bool) → ◌≡◌ {A = Shown} (if l then (if l then shown.other else x) else (if l then x else shown.lead)) (if l then shown.other else shown.lead)
    go true = refl
    go false = refl

other_a : (shown : MirrorShown) (x : Shown) → side_a (with_side false x shown) ≡ side_a shown
other_a shown x = go shown.lead_is_a
  where
    go : (l : Bool) → ◌≡◌ {A = Shown} (if l then (if l then shown.lead else x) else (if l then x else shown.other)) (if l then shown.lead else shown.other)
    go true = refl
    go false = refl

same_known : (on_a : Bool) (x : Shown) (shown : MirrorShown) → (with_side on_a x shown).who.known ≡ shown.who.known
same_known true x shown = refl
same_known false x shown = refl

same_on_off : (on_a : Bool) (x : Shown) (shown : MirrorShown) → (with_side on_a x shown).on ≡ shown.on
same_on_off true x shown = refl
same_on_off false x shown = refl

module _ (at : ℕ) (old new : MirrorShown) (r : MirrorRegister) (was : MatchesMirror at old r) where
  -- one side stands for the same, and the other one was not touched
  module _ (on_a : Bool) (rest : new ≡ with_side on_a (named_side on_a new) old) (keeps : KeepsAll old new)
      (stands : (s : Standing) → StandsFor (named_side on_a old) s → StandsFor (named_side on_a new) s) where
    sides_stand : (on_a : Bool) → new ≡ with_side on_a (named_side on_a new) old → ((s : Standing) → StandsFor (named_side on_a old) s → StandsFor (named_side on_a new) s)
        → ((s : Standing) → StandsFor (side_a old) s → StandsFor (side_a new) s) × ((s : Standing) → StandsFor (side_b old) s → StandsFor (side_b new) s)
    sides_stand true is stands = (stands, λ s at. subst (λ (x : Shown). StandsFor x s) (sym (ap (λ (m : MirrorShown). side_b m) is ∙ other_b old (side_a new))) at)
    sides_stand false is stands = (λ s at. subst (λ (x : Shown). StandsFor x s) (sym (ap (λ (m : MirrorShown). side_a m) is ∙ other_a old (side_b new))) at, stands)

    side_falls : (lost : List ℕ) (before after : Shown) (falls : List Value) → ((s : Standing) → StandsFor before s → StandsFor after s) → SideFalls lost at before falls → SideFalls lost at after falls
    side_falls lost before after falls each side = record { standing = side.standing; stands = each side.standing side.stands; fall = side.fall }

    both_fall : (lost : List ℕ) → SidesFall lost at old r.falls → SidesFall lost at new r.falls
    both_fall lost sides =
        let each = sides_stand on_a rest stands in
        record { a = side_falls lost (side_a old) (side_a new) r.falls each.0 sides.a; b = side_falls lost (side_b old) (side_b new) r.falls each.1 sides.b }

    held : (lost : List ℕ) → Held lost at old r → Held lost at new r
    held lost it = record { standing = it.standing; stands = keeps it.standing it.stands; fits = it.fits }

    pub left_standing : Turned at new (λ after. after ≡ r)
    left_standing =
        let known_is = ap (λ (m : MirrorShown). m.who.known) rest ∙ same_known on_a (named_side on_a new) old in
        let on_is = ap (λ (m : MirrorShown). m.on) rest ∙ same_on_off on_a (named_side on_a new) old in
        by_known at old new r was (λ after. after ≡ r)
        (λ known led both. record { after = r; rule = refl; matches = match_led at new r (known_is ∙ known) led (record { one = held one_lost both.one; other = held other_lost both.other }) })
        (λ known led none. record { after = r; rule = refl; matches = match_none at new r (known_is ∙ known) led (record { off = on_is ∙ none.off; none = none.none; one = both_fall one_lost none.one; other = both_fall other_lost none.other }) })

  -- no image failed
  pub fail_called : (on_a : Bool) (block : ℕ) (told : MirrorEvent) → told ≢ one_cut → FailCall old new on_a block told → Turned at new (λ after. after ≡ r)
  fail_called on_a block told done call =
      let not_failed : call.end ≡ fails.Failed → ⊥ = λ is. done (call.told_is ∙ ap fail_told is) in
      left_standing on_a call.rest (call.keeps not_failed) (failed_stands (named_side on_a old) (named_side on_a new) block call.end not_failed call.rule)

  pub wear_called : (on_a : Bool) (block n : ℕ) (told : MirrorEvent) → WearCall old new on_a block n told → Turned at new (λ after. after ≡ r)
  wear_called on_a block n told call =
      left_standing on_a call.rest call.keeps (worn_stands (named_side on_a old) (named_side on_a new) (record { block = block; left = n }) call.end call.rule call.memory)

  pub cut_called : (on_a : Bool) (n : ℕ) (fate : Fate) (told : MirrorEvent) → CutCall old new on_a n fate told → Turned at new (λ after. after ≡ r)
  cut_called on_a n fate told call = left_standing on_a call.rest call.keeps (cut_stands (named_side on_a old) (named_side on_a new) n fate call.armed call.memory)

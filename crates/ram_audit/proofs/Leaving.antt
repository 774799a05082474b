-- What reads leave of a medium over an image on which nothing is armed: its bytes, and with them its cells.
use Rattle.std.specs.Prelude.{◌≡◌, ◌≢◌, ℕ, ◌≤◌, ◌⊎◌, Bool, true, false, IsTrue, IsSome, Option, Some, None, is_some, IfSome, List, [], ◌∷◌}
use Rattle.std.specs.Option.{option_map_or}
use Rattle.std.specs.Bool.{OnTrue}
use Rattle.std.proofs.Common.{refl, sym, ap, ◌∙◌, inl, inr, subst, arith}
use Rattle.std.proofs.lemmas.Bool.{true≢false, cases_Bool}
use Rattle.model_counts.specs.Counts.{Rose}
use Rattle.model_bytes.specs.Known.{WhereKnown}
use Rattle.model_geometry.specs.Geometry.{Shape, total}
use Rattle.model_medium.specs.Cells.{Cell, Good, Dead, IsGood, cell_at}
use Rattle.model_medium.specs.World.{World, UseContinues}
use Rattle.model_medium.specs.Machine.{Machine, is_killed, arms_after, fate_due, cut_after, begun, cut_off, after_read}
use Rattle.model_medium.specs.Exact.{Event, Read, Write, PowerOn, PowerOff, Exactly, ReadExactly}
use Rattle.model_medium.specs.Happened.{Happens}
use Rattle.model_medium.specs.declared.Fate.{Fate}
use Rattle.model_medium.specs.declared.WornBlock.{WornBlock}
use Rattle.model_medium.specs.declared.ReadEnd.{ReadEnd}
use Rattle.model_medium.specs.declared.ReadEnd.TheVariants as reads
use Rattle.model_stops.specs.declared.Stop.{Stop}
use Rattle.model_stops.specs.declared.Stop.TheVariants as stops
use Rattle.model_image.specs.Cells.{cells_of, cells_known}
use Rattle.model_places.specs.Places as places
use Rattle.ram_outside.specs.declared.image.Image.{Ghosts}
use Rattle.ram_copies.specs.Calls.{StoppedCounts}
use Rattle.ram_copies.specs.ReadsAlone.{AreReads, ReadsAlone}
use Rattle.ram_image.specs.declared.medium.ImageMedium.{ImageMedium}
use Rattle.ram_image.specs.declared.medium.Looked.{Looked}
use Rattle.ram_image.specs.declared.medium.Looked.TheVariants as looks
use Rattle.ram_image.specs.declared.cells.StateRead.{StateRead}
use Rattle.ram_image.specs.declared.cells.StateRead.TheVariants as states
use Rattle.ram_image.specs.Begun.{FailsWithin, HasBytesRule, IsDeadRule}
use Rattle.ram_image.specs.EventBytes.{ReadBytes, WearsBytes}
use Rattle.ram_image.specs.Medium.{shape_of_medium, world_of, machine_in, bytes_in, ImageTakes}
use Rattle.ram_lists.specs.Chosen.{FoundRule}
use Rattle.ram_lists.specs.declared.choosing.FoundLists.{FoundLists}
use Rattle.ram_lists.specs.declared.choosing.FoundLists.TheVariants as founds
use Rattle.ram_audit.specs.Leaving.{IsUnarmed, IsLeft, LooksOn, FailsLooking}
use Rattle.ram_audit.specs.Telling.{FindsIn, HasBytesOrNone, IsDeadOrNot, IsGoodOrNot, cells_in_image}

-- a count that rose twice rose
rose_then : (a b c : ℕ) → Rose a b → Rose b c → Rose a c
rose_then a b c one two = omega (arith, one, two)

-- ---- one read

bytes_stay : (block : ℕ) (before after : Option (List ℕ)) → WhereKnown before after (WearsBytes false block) → after ≡ before
bytes_stay block None None h = refl
bytes_stay block None (Some held') h = absurd h
bytes_stay block (Some held) None h = absurd h
bytes_stay block (Some held) (Some held') h = ap Some h

bytes_stay_in : (block : ℕ) (before after : Option (List ℕ)) (how : ReadEnd) → ReadBytes false block before after how → after ≡ before
bytes_stay_in block before after reads.Done h = bytes_stay block before after h
bytes_stay_in block before after reads.Unreadable h = bytes_stay block before after h
bytes_stay_in block before after reads.Cut h = bytes_stay block before after h
bytes_stay_in block before after reads.Off h = h
bytes_stay_in block before after reads.Failed h = may before after h
  where
    may : (before after : Option (List ℕ)) → WhereKnown before after (λ held held'. (held' ≡ held) ⊎ (held' ≡ held)) → after ≡ before
    may None None h = refl
    may None (Some held') h = absurd h
    may (Some held) None h = absurd h
    may (Some held) (Some held') (inl same) = ap Some same
    may (Some held) (Some held') (inr same) = ap Some same

-- what it does to the machine on which nothing is armed
pub record ReadKeeps (old new : Machine) : Type 0 where
  pub no_arms : new.arms ≡ []
  pub no_cut : new.cut ≡ None
  pub ended : ((new.world.power ≡ old.world.power) × (new.world.faults ≡ old.world.faults)) ⊎ Rose old.world.faults new.world.faults

begins_alone : (old new : Machine) (block : ℕ) → old.arms ≡ [] → old.cut ≡ None → fate_due old.cut ≡ None → new ≡ after_read block old → ReadKeeps old new
begins_alone old new block arms cut due is =
    let begins : new ≡ begun block old = is ∙ ap (λ (f : Option Fate). option_map_or (λ (fate : Fate). cut_off (begun block old)) f (begun block old)) due in
    record {
      no_arms = ap (λ (m : Machine). m.arms) begins ∙ ap (arms_after block) arms;
      no_cut = ap (λ (m : Machine). m.cut) begins ∙ ap cut_after cut;
      ended = inl (ap (λ (m : Machine). m.world.power) begins, ap (λ (m : Machine). m.world.faults) begins);
    }

read_keeps : (old new : Machine) (block : ℕ) (into into' : List ℕ) (how : ReadEnd) → old.arms ≡ [] → old.cut ≡ None → ReadExactly old new block into into' how → ReadKeeps old new
read_keeps old new block into into' reads.Done arms cut did = begins_alone old new block arms cut did.not_due did.exactly
read_keeps old new block into into' reads.Unreadable arms cut did = begins_alone old new block arms cut did.not_due did.exactly
read_keeps old new block into into' reads.Cut arms cut did = absurd (true≢false (sym (subst (λ c. IsSome (fate_due c)) cut did.0.due)))
read_keeps old new block into into' reads.Off arms cut did = record {
  no_arms = ap (λ (m : Machine). m.arms) did.0.nothing ∙ arms;
  no_cut = ap (λ (m : Machine). m.cut) did.0.nothing ∙ cut;
  ended = inl (ap (λ (m : Machine). m.world.power) did.0.nothing, ap (λ (m : Machine). m.world.faults) did.0.nothing);
}
read_keeps old new block into into' reads.Failed arms cut did = record {
  no_arms = did.1.arms ∙ ap (arms_after block) arms;
  no_cut = did.1.cut ∙ ap cut_after cut;
  ended = inr did.0.failed.fault;
}

-- ---- reads of a medium over an image

-- the disc is left as it was, and the power and the count of failures are as they were, or that rose
pub record ReadsLeave {I : Type 0} {d : Ghosts I} (old new : ImageMedium I d) : Type 0 where
  pub left : IsLeft old new
  pub ended : (((world_of new).power ≡ (world_of old).power) × ((world_of new).faults ≡ (world_of old).faults)) ⊎ Rose (world_of old).faults (world_of new).faults

module _ {I : Type 0} {d : Ghosts I} where
  pub read_leaves : (a b : ImageMedium I d) (block : ℕ) (into into' : List ℕ) (how : ReadEnd) → IsUnarmed a → ImageTakes a b (Read block into into' how) → ReadsLeave a b
  read_leaves a b block into into' how unarmed did =
      let keeps = read_keeps (machine_in a) (machine_in b) block into into' how unarmed.no_arms unarmed.no_cut did.exactly in
      record {
        left = record {
          same_shape = did.same_shape;
          same_bytes = bytes_stay_in block (bytes_in a) (bytes_in b) how (subst (λ (arms : List WornBlock). ReadBytes (is_killed block arms) block (bytes_in a) (bytes_in b) how) unarmed.no_arms did.bytes);
          unarmed = record { no_arms = keeps.no_arms; no_cut = keeps.no_cut };
        };
        ended = keeps.ended;
      }

  leaves_none : (a : ImageMedium I d) → IsUnarmed a → ReadsLeave a a
  leaves_none a unarmed = record { left = record { same_shape = refl; same_bytes = refl; unarmed = unarmed }; ended = inl (refl, refl) }

  leaves_then : (a b c : ImageMedium I d) → ReadsLeave a b → ReadsLeave b c → ReadsLeave a c
  leaves_then a b c one two = record {
    left = record {
      same_shape = two.left.same_shape ∙ one.left.same_shape;
      same_bytes = two.left.same_bytes ∙ one.left.same_bytes;
      unarmed = two.left.unarmed;
    };
    ended = elim one.ended [
      | inl same ↦ elim two.ended [
        | inl same' ↦ inl (same'.0 ∙ same.0, same'.1 ∙ same.1)
        | inr rose ↦ inr (subst (λ (n : ℕ). Rose n (world_of c).faults) same.1 rose)
      ]
      | inr rose ↦ elim two.ended [
        | inl same' ↦ inr (subst (λ (n : ℕ). Rose (world_of a).faults n) (sym same'.1) rose)
        | inr rose' ↦ inr (rose_then (world_of a).faults (world_of b).faults (world_of c).faults rose rose')
      ]
    ];
  }

  leaves_after : (a b : ImageMedium I d) (events : List Event) → IsUnarmed a → AreReads events → Happens ImageTakes a events b → ReadsLeave a b
  leaves_after a b [] unarmed reads same = subst (ReadsLeave a) (sym same) (leaves_none a unarmed)
  leaves_after a b (Read block into into' how ∷ events) unarmed reads did =
      let before = leaves_after a did.0 events unarmed reads.1 did.1 in
      leaves_then a did.0 b before (read_leaves did.0 b block into into' how before.left.unarmed did.2)
  leaves_after a b (Write block bytes how ∷ events) unarmed reads did = absurd reads.0
  leaves_after a b (PowerOn ∷ events) unarmed reads did = absurd reads.0
  leaves_after a b (PowerOff ∷ events) unarmed reads did = absurd reads.0

  pub reads_leave : (a b : ImageMedium I d) → IsUnarmed a → ReadsAlone ImageTakes a b → ReadsLeave a b
  reads_leave a b unarmed reads = leaves_after a b reads.events unarmed reads.reads reads.happens

  -- ---- one look after another

  pub looks_then : (a b c : ImageMedium I d) → LooksOn a b → LooksOn b c → LooksOn a c
  looks_then a b c one two = record {
    left = record {
      same_shape = two.left.same_shape ∙ one.left.same_shape;
      same_bytes = two.left.same_bytes ∙ one.left.same_bytes;
      unarmed = two.left.unarmed;
    };
    same_power = two.same_power ∙ one.same_power;
    no_fault = two.no_fault ∙ one.no_fault;
  }

  pub fails_then : (a b c : ImageMedium I d) → LooksOn a b → FailsLooking b c → FailsLooking a c
  fails_then a b c one two = record {
    left = record {
      same_shape = two.left.same_shape ∙ one.left.same_shape;
      same_bytes = two.left.same_bytes ∙ one.left.same_bytes;
      unarmed = two.left.unarmed;
    };
    fault = subst (λ (n : ℕ). Rose n (world_of c).faults) one.no_fault two.fault;
  }

  pub looks_none : (a : ImageMedium I d) → IsUnarmed a → LooksOn a a
  looks_none a unarmed = record { left = record { same_shape = refl; same_bytes = refl; unarmed = unarmed }; same_power = refl; no_fault = refl }

  -- what is known of cells now was so of the image's bytes before
  pub cells_before : (a b : ImageMedium I d) (P : List Cell → Type 0) → IsLeft a b → OnTrue (world_of b).known (P (world_of b).cells) → IfSome (bytes_in a) (λ held. P (cells_in_image (shape_of_medium a) held))
  cells_before a b P left known =
      by_bytes (bytes_in a)
      (subst (λ (s : Shape). OnTrue (is_some (bytes_in a)) (P (cells_known (total s) (bytes_in a)))) left.same_shape
      (subst (λ (o : Option (List ℕ)). OnTrue (is_some o) (P (cells_known (total (shape_of_medium b)) o))) left.same_bytes known))
    where
      by_bytes : (o : Option (List ℕ)) → OnTrue (is_some o) (P (cells_known (total (shape_of_medium a)) o)) → IfSome o (λ held. P (cells_in_image (shape_of_medium a) held))
      by_bytes None h = tt
      by_bytes (Some held) h = h

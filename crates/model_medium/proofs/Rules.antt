-- The exact steps of a controllable medium obey the rules of any medium, and one use reaches one use further.
use Rattle.std.specs.Prelude.{◌≡◌, ℕ, ◌⊎◌, Bool, true, false, IsTrue, if◌then◌else◌, Option, Some, None, IsSome, List, [], set}
use Rattle.std.specs.Bool.{OnTrue, OnFalse}
use Rattle.std.specs.Option.{option_map_or}
use Rattle.std.proofs.Common.{refl, sym, ap, ◌∙◌, inl, inr, subst}
use Rattle.std.proofs.lemmas.Bool.{cases_Bool, false≢true}
use Rattle.std.proofs.lemmas.List.{set-get_or}
use Rattle.model_counts.specs.Counts.{counted}
use Rattle.model_medium.specs.Cells.{Cell, Good, Dead, cell_at, IsSameOrDead, MayLeave, written, cut_short}
use Rattle.model_medium.specs.World.{ShowsNoneUnknown, IsUse, UseContinues, IsCut, ReadRule, WriteRule, ReadContinues, WriteContinues}
use Rattle.model_medium.specs.Machine.{Machine, is_killed, cells_worn, fate_due, IsToCome, begun, cut_off, with_cell, after_read, after_write}
use Rattle.model_medium.specs.Exact.{ReadExactly, WriteExactly}
use Rattle.model_medium.specs.Reach.{Reach, ReachBy}
use Rattle.model_medium.specs.declared.Fate.{Fate}
use Rattle.model_medium.specs.declared.ReadEnd.{ReadEnd}
use Rattle.model_medium.specs.declared.ReadEnd.TheVariants as reads
use Rattle.model_medium.specs.declared.WriteEnd.{WriteEnd}
use Rattle.model_medium.specs.declared.WriteEnd.TheVariants as writes
use Rattle.model_medium.proofs.CellFacts.{IsTame, same_is_kind, written_is_kind, cut_short_is_harsh, cut_short-may_leave, written-leaves}
use Rattle.model_medium.proofs.Uses.{Used, cell_here, cell_other, dead_here, killed_here, spared_here, reach_on, reach_off}
use Rattle.model_medium.proofs.Compose.{reach_none}

fate_of_due : (due : Option Fate) → IsSome due → (fate : Fate) × (due ≡ Some fate)
fate_of_due None e = absurd (false≢true e)
fate_of_due (Some fate) e = (fate, refl)

module _ (old new : Machine) (block : ℕ) where
  -- what a use is exactly, where no cut is due and where one is
  read_on : fate_due old.cut ≡ None → new ≡ after_read block old → new ≡ begun block old
  read_on e exactly = exactly ∙ ap (λ due. option_map_or (λ fate. cut_off (begun block old)) due (begun block old)) e

  read_off : (fate : Fate) → fate_due old.cut ≡ Some fate → new ≡ after_read block old → new ≡ cut_off (begun block old)
  read_off fate e exactly = exactly ∙ ap (λ due. option_map_or (λ fate. cut_off (begun block old)) due (begun block old)) e

  abbrev cut_write : List ℕ → Fate → Machine
  cut_write bytes fate = cut_off (with_cell block (cut_short fate bytes) (begun block old))

  abbrev done_write : List ℕ → Machine
  done_write bytes = with_cell block (written bytes) (begun block old)

  write_on : (bytes : List ℕ) → fate_due old.cut ≡ None → new ≡ after_write block bytes old → new ≡ done_write bytes
  write_on bytes e exactly = exactly ∙ ap (λ due. option_map_or (cut_write bytes) due (done_write bytes)) e

  write_off : (bytes : List ℕ) (fate : Fate) → fate_due old.cut ≡ Some fate → new ≡ after_write block bytes old → new ≡ cut_write bytes fate
  write_off bytes fate e exactly = exactly ∙ ap (λ due. option_map_or (cut_write bytes) due (done_write bytes)) e

  module _ (was_on : IsTrue old.world.power) where
    abbrev worn : List Cell
    worn = cells_worn block old.arms old.world.cells

    -- a use that left these cells, this power and this many cuts
    used_by : (change : Cell → Cell) (cells : List Cell) (power : Bool) (cuts : ℕ) → cells ≡ set worn block (change (cell_at worn block))
        → new ≡ record (begun block old) { world = record (begun block old).world { cells = cells; power = power; cuts = cuts } } → Used old new block change
    used_by change cells power cuts is x = record {
      was_on = was_on;
      same_label = ap (λ m. m.world.label) x;
      as_known = ap (λ m. m.world.known) x;
      counts = ap (λ m. m.world.uses) x;
      no_fault = ap (λ m. m.world.faults) x;
      cells = ap (λ m. m.world.cells) x ∙ is;
      arms = ap (λ m. m.arms) x;
      cut = ap (λ m. m.cut) x;
    }

    pub used_read : new ≡ begun block old → Used old new block (λ cell. cell)
    used_read x = used_by (λ cell. cell) worn old.world.power old.world.cuts (sym (set-get_or worn block Dead)) x

    used_cut_read : new ≡ cut_off (begun block old) → Used old new block (λ cell. cell)
    used_cut_read x = used_by (λ cell. cell) worn false (counted old.world.cuts 1) (sym (set-get_or worn block Dead)) x

    used_write : (bytes : List ℕ) → new ≡ done_write bytes → Used old new block (written bytes)
    used_write bytes x = used_by (written bytes) (done_write bytes).world.cells old.world.power old.world.cuts refl x

    used_cut_write : (bytes : List ℕ) (fate : Fate) → new ≡ cut_write bytes fate → Used old new block (cut_short fate bytes)
    used_cut_write bytes fate x = used_by (cut_short fate bytes) (cut_write bytes fate).world.cells false (counted old.world.cuts 1) refl x

  -- one use reaches one use further
  use_continues : fate_due old.cut ≡ None → IsTrue old.world.power → new ≡ begun block old → Reach old new 1
  use_continues due was_on x = reach_on old new block (λ cell. cell) (used_read was_on x) same_is_kind due (ap (λ m. m.world.power) x) (ap (λ m. m.world.cuts) x)

  off_now : new.world.power ≡ false → ¬ IsTrue new.world.power
  off_now e on = false≢true (sym e ∙ on)

  pub read_continues : (into into' : List ℕ) (end : ReadEnd) → IsToCome old.cut → ReadExactly old new block into into' end → ReadContinues (ReachBy old new) end
  read_continues into into' reads.Done to_come rule = use_continues rule.not_due rule.was_on (read_on rule.not_due rule.exactly)
  read_continues into into' reads.Unreadable to_come rule = use_continues rule.not_due rule.was_on (read_on rule.not_due rule.exactly)
  read_continues into into' reads.Cut to_come rule =
      let due = fate_of_due (fate_due old.cut) rule.0.due in
      let x = read_off due.0 due.1 rule.0.exactly in
      reach_off old new block (λ cell. cell) due.0 (used_cut_read rule.0.was_on x) (record { tame = same_is_kind.tame; may_tear = λ cell h. inl (same_is_kind.stays_good cell h) }) to_come due.1 (off_now (ap (λ m. m.world.power) x))
      (ap (λ m. m.world.cuts) x)
  read_continues into into' reads.Off to_come rule = subst (λ m. Reach old m 0) (sym rule.0.nothing) (reach_none old to_come)
  read_continues into into' reads.Failed to_come rule = tt

  pub write_continues : (bytes : List ℕ) (end : WriteEnd) → IsToCome old.cut → WriteExactly old new block bytes end → WriteContinues (ReachBy old new) end
  write_continues bytes writes.Done to_come rule =
      let x = write_on bytes rule.not_due rule.exactly in
      reach_on old new block (written bytes) (used_write rule.was_on bytes x) (written_is_kind bytes) rule.not_due (ap (λ m. m.world.power) x) (ap (λ m. m.world.cuts) x)
  write_continues bytes writes.Cut to_come rule =
      let due = fate_of_due (fate_due old.cut) rule.due in
      let x = write_off bytes due.0 due.1 rule.exactly in
      reach_off old new block (cut_short due.0 bytes) due.0 (used_cut_write rule.was_on bytes due.0 x) (cut_short_is_harsh due.0 bytes) to_come due.1 (off_now (ap (λ m. m.world.power) x)) (ap (λ m. m.world.cuts) x)
  write_continues bytes writes.Off to_come rule = subst (λ m. Reach old m 0) (sym rule.nothing) (reach_none old to_come)
  write_continues bytes writes.Failed to_come rule = tt

  -- the rules of any medium
  module _ (change : Cell → Cell) (tame : IsTame change) where
    is_use : Used old new block change → IsUse old.world new.world block
    is_use used = record {
      was_on = used.was_on;
      same_label = used.same_label;
      as_known = used.as_known;
      counts = used.counts;
      others = cell_other old new block change used tame;
      stays_dead = dead_here old new block change used tame;
    }

  pub left_by_read : Used old new block (λ cell. cell) → IsSameOrDead (cell_at old.world.cells block) (cell_at new.world.cells block)
  left_by_read used = elim (cases_Bool (is_killed block old.arms)) [
    | inl killed ↦ inr (killed_here old new block (λ cell. cell) used same_is_kind.tame killed)
    | inr spared ↦ inl (spared_here old new block (λ cell. cell) used same_is_kind.tame spared)
  ]

  -- a read that is done changed no cell
  worn_none : (killed : Bool) (cells : List Cell) → cells ≡ [] → (if killed then set cells block Dead else cells) ≡ cells
  worn_none true cells e = ap (λ held. set held block Dead) e ∙ sym e
  worn_none false cells e = refl

  worn_same : (killed : Bool) → killed ≡ false → (if killed then set old.world.cells block Dead else old.world.cells) ≡ old.world.cells
  worn_same true e = absurd (cc)
  worn_same false e = refl

  unchanged : (known : Bool) → OnFalse known (old.world.cells ≡ []) → (into' : List ℕ) → Used old new block (λ cell. cell) → OnTrue known (cell_at new.world.cells block ≡ Good into')
      → new.world.cells ≡ cells_worn block old.arms old.world.cells → new.world.cells ≡ old.world.cells
  unchanged true hidden into' used gives e = elim (cases_Bool (is_killed block old.arms)) [
    | inl killed ↦ absurd (let clash : Good into' ≡ Dead = sym gives ∙ killed_here old new block (λ cell. cell) used same_is_kind.tame killed in cc)
    | inr spared ↦ e ∙ worn_same (is_killed block old.arms) spared
  ]
  unchanged false hidden into' used gives e = e ∙ worn_none (is_killed block old.arms) old.world.cells hidden

  stays_on : IsTrue old.world.power → new ≡ begun block old → UseContinues old.world new.world
  stays_on was_on x = record { stays_on = ap (λ m. m.world.power) x ∙ was_on; no_cut = ap (λ m. m.world.cuts) x; no_fault = ap (λ m. m.world.faults) x }

  is_cut : new ≡ cut_off (begun block old) → IsCut old.world new.world
  is_cut x = record { turns_off = off_now (ap (λ m. m.world.power) x); one_cut = ap (λ m. m.world.cuts) x; no_fault = ap (λ m. m.world.faults) x }

  pub read_rule : (into into' : List ℕ) (end : ReadEnd) → ShowsNoneUnknown old.world → ReadExactly old new block into into' end → ReadRule old.world new.world block into into' end
  read_rule into into' reads.Done hidden rule =
      let x = read_on rule.not_due rule.exactly in
      let used = used_read rule.was_on x in
      record {
        one = is_use (λ cell. cell) same_is_kind.tame used;
        use_continues = stays_on rule.was_on x;
        same = unchanged old.world.known hidden into' used rule.gives (ap (λ m. m.world.cells) x);
        gives = rule.gives;
      }
  read_rule into into' reads.Unreadable hidden rule =
      let x = read_on rule.not_due rule.exactly in
      let used = used_read rule.was_on x in
      record { one = is_use (λ cell. cell) same_is_kind.tame used; use_continues = stays_on rule.was_on x; left = left_by_read used; not_good = rule.not_good; kept = rule.kept }
  read_rule into into' reads.Cut hidden rule =
      let due = fate_of_due (fate_due old.cut) rule.0.due in
      let x = read_off due.0 due.1 rule.0.exactly in
      let used = used_cut_read rule.0.was_on x in
      record { one = is_use (λ cell. cell) same_is_kind.tame used; cut = is_cut x; left = left_by_read used; kept = rule.1 }
  read_rule into into' reads.Off hidden rule = (record { was_off = rule.0.was_off; nothing = ap (λ m. m.world) rule.0.nothing }, rule.1)
  read_rule into into' reads.Failed hidden rule = rule.0

  left_by_write : (bytes : List ℕ) → Used old new block (written bytes) → (cell_at new.world.cells block ≡ Good bytes) ⊎ (cell_at new.world.cells block ≡ Dead)
  left_by_write bytes used =
      subst (λ cell. (cell ≡ Good bytes) ⊎ (cell ≡ Dead)) (sym (cell_here old new block (written bytes) used (written_is_kind bytes).tame))
      (written-leaves bytes (cell_at (cells_worn block old.arms old.world.cells) block))

  left_by_cut : (bytes : List ℕ) (fate : Fate) → Used old new block (cut_short fate bytes) → MayLeave (cell_at old.world.cells block) bytes (cell_at new.world.cells block)
  left_by_cut bytes fate used = elim (cases_Bool (is_killed block old.arms)) [
    | inl killed ↦ inr (inr (inr (killed_here old new block (cut_short fate bytes) used (cut_short_is_harsh fate bytes).tame killed)))
    | inr spared ↦ subst (MayLeave (cell_at old.world.cells block) bytes) (sym (spared_here old new block (cut_short fate bytes) used (cut_short_is_harsh fate bytes).tame spared))
        (cut_short-may_leave fate bytes (cell_at old.world.cells block))
  ]

  pub write_rule : (bytes : List ℕ) (end : WriteEnd) → WriteExactly old new block bytes end → WriteRule old.world new.world block bytes end
  write_rule bytes writes.Done rule =
      let x = write_on bytes rule.not_due rule.exactly in
      let used = used_write rule.was_on bytes x in
      record {
        one = is_use (written bytes) (written_is_kind bytes).tame used;
        use_continues = record { stays_on = ap (λ m. m.world.power) x ∙ rule.was_on; no_cut = ap (λ m. m.world.cuts) x; no_fault = ap (λ m. m.world.faults) x };
        left = left_by_write bytes used;
      }
  write_rule bytes writes.Cut rule =
      let due = fate_of_due (fate_due old.cut) rule.due in
      let x = write_off bytes due.0 due.1 rule.exactly in
      let used = used_cut_write rule.was_on bytes due.0 x in
      record {
        one = is_use (cut_short due.0 bytes) (cut_short_is_harsh due.0 bytes).tame used;
        cut = record { turns_off = off_now (ap (λ m. m.world.power) x); one_cut = ap (λ m. m.world.cuts) x; no_fault = ap (λ m. m.world.faults) x };
        left = left_by_cut bytes due.0 used;
      }
  write_rule bytes writes.Off rule = record { was_off = rule.was_off; nothing = ap (λ m. m.world) rule.nothing }
  write_rule bytes writes.Failed rule = rule.0

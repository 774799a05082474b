-- What a write of a state byte, and a write that ends by a fate, do to an image.
use Rattle.std.specs.Prelude.{◌≡◌, ℕ, ◌<◌, Option, Some, None, IfSome, List, [], ◌∷◌, length}
use Rattle.std.specs.Option.{ForSome}
use Rattle.std.proofs.Common.{refl, sym, ap, ◌∙◌, inl, inr, subst, arith}
use Rattle.model_counts.specs.Counts.{Rose}
use Rattle.model_bytes.specs.Known.{WhereKnown}
use Rattle.model_medium.specs.Cells.{Cell, Blank, Good, Torn, Dead, cell_at, unless_dead, cut_short}
use Rattle.model_medium.specs.declared.Fate.{Fate}
use Rattle.model_medium.specs.declared.Fate.TheVariants as fates
use Rattle.model_image.specs.Cells.{state_offset, image_len, cell_of, cell_in, cells_of, SetsCell, StopsInCell, StopsInState}
use Rattle.model_image.proofs.Writes.{cell_at-cells_of}
use Rattle.model_image.proofs.StateWrites.{known-put_state, known-stopped_state}
use Rattle.model_image.proofs.KnownCells.{known_more, same_where_known, sets_same}
use Rattle.ram_outside.specs.Image.{IsUnchanged, ImageFails, WriteAtRule}
use Rattle.ram_outside.specs.declared.image.Moved.{Moved}
use Rattle.ram_outside.specs.declared.image.Moved.TheVariants as moves
use Rattle.ram_image.specs.CellCalls.{call_between, WriteStateRule, WriteCellRule, StopsInLeaving, LeavesByFate, LeaveCellRule}

-- a write of a state byte
pub state_written : (total block : ℕ) → block < total → (byte : ℕ) (cell : Cell) → ((bytes : List ℕ) → cell_of byte bytes ≡ cell) → (before after : Option (List ℕ)) → ForSome before (λ held. length held ≡ image_len total)
    → (f f' : ℕ) (r : Moved) → WriteAtRule before after f f' (state_offset block) (byte ∷ []) r → WriteStateRule (call_between total block before after f f') cell r
state_written total block inside byte cell always before after whole f f' moves.Done rule = (known-put_state total block inside byte cell always before after whole rule.changed, rule.count)
state_written total block inside byte cell always before after whole f f' moves.Failed rule = (known-stopped_state total block inside byte cell always before after whole rule.1, rule.0)

module _ (total block : ℕ) (inside : block < total) (bytes : List ℕ) where
  -- nothing was written
  none_left : (held : List ℕ) → StopsInLeaving total block bytes held held
  none_left held = record {
    stops = record { cell = cell_at (cells_of total held) block; may = inl refl; sets = sets_same total block held (cell_at (cells_of total held) block) refl };
    stays_dead = λ e. e;
  }

  pub left_unread : (before after : Option (List ℕ)) (f f' : ℕ) → ImageFails before after f f' → WhereKnown before after (StopsInLeaving total block bytes) × Rose f f'
  left_unread before after f f' failed = (same_where_known (StopsInLeaving total block bytes) (λ held. Unit {0}) (λ held p. none_left held) before after (any before) failed.same, failed.count)
    where
      any : (o : Option (List ℕ)) → IfSome o (λ held. Unit {0})
      any None = tt
      any (Some held) = tt

  -- a dead block is left as it is
  dead_left : (fate : Fate) → cut_short fate bytes Dead ≡ Dead
  dead_left fates.Old = refl
  dead_left fates.New = refl
  dead_left fates.Torn = refl

  here : (held : List ℕ) → cell_at (cells_of total held) block ≡ cell_in total held block
  here held = cell_at-cells_of total held block inside

  pub left_dead : (fate : Fate) (before after : Option (List ℕ)) → IfSome before (λ held. cell_in total held block ≡ Dead) → after ≡ before → WhereKnown before after (LeavesByFate total block bytes fate)
  left_dead fate before after dead e =
      same_where_known (LeavesByFate total block bytes fate) (λ held. cell_in total held block ≡ Dead)
      (λ held d. let is : cell_at (cells_of total held) block ≡ Dead = here held ∙ d in sets_same total block held _ (ap (cut_short fate bytes) is ∙ dead_left fate ∙ sym is)) before after dead e

  -- a block that is not dead
  alive : (old cell : Cell) → ¬ (old ≡ Dead) → unless_dead old cell ≡ cell
  alive Blank cell h = refl
  alive (Good held) cell h = refl
  alive Torn cell h = refl
  alive Dead cell h = absurd (h refl)

  abbrev IsAlive : List ℕ → Type 0
  IsAlive held = ¬ (cell_in total held block ≡ Dead)

  module _ (before mid after : Option (List ℕ)) (f f1 f2 : ℕ) (unchanged : IsUnchanged before mid f f1) (lives : IfSome before IsAlive) where
    stops : WhereKnown mid after (StopsInCell total block bytes) → Rose f1 f2 → WhereKnown before after (StopsInLeaving total block bytes) × Rose f f2
    stops known rose = (
      known_more (StopsInCell total block bytes) (StopsInLeaving total block bytes) IsAlive (λ held held' p r. record { stops = r; stays_dead = λ e. absurd (p (sym (here held) ∙ e)) }) before after lives
          (subst (λ o. WhereKnown o after (StopsInCell total block bytes)) unchanged.same known),
      omega (arith, unchanged.count, rose),
    )

    sets : (cell : Cell) (fate : Fate) → ((old : Cell) → cut_short fate bytes old ≡ unless_dead old cell) → WhereKnown mid after (SetsCell total block cell) → WhereKnown before after (LeavesByFate total block bytes fate)
    sets cell fate is known =
        known_more (SetsCell total block cell) (LeavesByFate total block bytes fate) IsAlive
        (λ held held' p r. subst (λ c. SetsCell total block c held held') (sym (is (cell_at (cells_of total held) block) ∙ alive (cell_at (cells_of total held) block) cell (λ e. p (sym (here held) ∙ e)))) r) before after lives
        (subst (λ o. WhereKnown o after (SetsCell total block cell)) unchanged.same known)

    pub left_new : (fate : Fate) → fate ≡ fates.New → (r : Moved) → WriteCellRule (call_between total block mid after f1 f2) bytes r → LeaveCellRule (call_between total block before after f f2) bytes fate r
    left_new fate e moves.Done rule = subst (λ fate. LeaveCellRule (call_between total block before after f f2) bytes fate moves.Done) (sym e) (sets (Good bytes) fates.New (λ old. refl) rule.0, rule.1 ∙ unchanged.count)
    left_new fate e moves.Failed rule = stops rule.0 rule.1

    torn_stops : (held held' : List ℕ) → StopsInState total block Torn held held' → StopsInCell total block bytes held held'
    torn_stops held held' r = record { cell = r.left; may = elim r.may [ inl e ↦ inl e | inr e ↦ inr (inr (inl e)) ]; sets = r.sets }

    pub left_torn : (fate : Fate) → fate ≡ fates.Torn → (r : Moved) → WriteStateRule (call_between total block mid after f1 f2) Torn r → LeaveCellRule (call_between total block before after f f2) bytes fate r
    left_torn fate e moves.Done rule = subst (λ fate. LeaveCellRule (call_between total block before after f f2) bytes fate moves.Done) (sym e) (sets Torn fates.Torn (λ old. refl) rule.0, rule.1 ∙ unchanged.count)
    left_torn fate e moves.Failed rule =
        stops (known_more (StopsInState total block Torn) (StopsInCell total block bytes) (λ held. Unit {0}) (λ held held' p r. torn_stops held held' r) mid after (any mid) rule.0) rule.1
      where
        any : (o : Option (List ℕ)) → IfSome o (λ held. Unit {0})
        any None = tt
        any (Some held) = tt

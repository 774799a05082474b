-- What the look for the rest of a block leaves, before a part of a request is merged into it.
use Rattle.std.specs.Prelude.{◌≡◌, ℕ, suc, ◌+◌, ◌*◌, ◌<◌, ◌&&◌, not, if◌then◌else◌, Bool, true, false, IsTrue, List, length}
use Rattle.std.proofs.Common.{refl, sym, ap, ◌∙◌, inl, inr, subst}
use Rattle.std.proofs.lemmas.Bool.{both_ways, cond-true, cond-false}
use Rattle.model_geometry.specs.Geometry.{Shape}
use Rattle.model_medium.specs.Cells.{Cell, Good, cell_at}
use Rattle.model_medium.specs.World.{World, Span}
use Rattle.model_buffer.specs.Buffer.{numbers_in, touched_one}
use Rattle.model_buffer.proofs.Touched.{touched_twice}
use Rattle.model_sectors.specs.Discs.{Agrees, block_of}
use Rattle.model_sectors.specs.Requests.{block_with, is_partly, merged_in}
use Rattle.model_sectors.specs.Uses.{touched_from, is_buffered, is_at_hand, reads_rest, touched_refused}
use Rattle.model_buffer.proofs.Numbers.{numbers_in-with_newest}
use Rattle.model_sectors.proofs.Covering.{bytes_at_some}
use Rattle.model_sectors.proofs.Pieces.{length_block}
use Rattle.model_sectors.proofs.Merges.{merged_whole}
use Rattle.model_stops.specs.Stops.{Continues}
use Rattle.model_places.specs.Places.{Lists, logical_count, home_of}
use Rattle.model_volume.specs.Covers.{FitsUnder}
use Rattle.model_drive.specs.Shown.{HoldsBlocksOf}
use Rattle.model_drive.specs.Course.{uses_of_rest}
use Rattle.ram_medium.specs.Laws.{MediumLaws}
use Rattle.ram_medium.proofs.Parts.{continues_none}
use Rattle.ram_transfer.specs.Blocks.{IsFetched}
use Rattle.ram_transfer.specs.Writing.{HasRest}
use Rattle.ram_transfer.proofs.Buffers.{holds_found, holds_newest}
use Rattle.ram_transfer.proofs.ReadTurns.{where_known}

false_of : (p : Bool) → ¬ IsTrue p → p ≡ false
false_of true h = absurd (h refl)
false_of false h = refl

-- how many uses the rest takes
rest_whole : (p b : Bool) → ¬ IsTrue p → ◌≡◌ {A = ℕ} (if p && not b then 1 else 0) 0
rest_whole false b h = refl
rest_whole true b h = absurd (h refl)

rest_at_hand : (p b : Bool) → b ≡ true → ◌≡◌ {A = ℕ} (if p && not b then 1 else 0) 0
rest_at_hand false true e = refl
rest_at_hand true true e = refl
rest_at_hand p false e = absurd (both_ways false refl e)

rest_missing : (p b : Bool) → IsTrue p → ¬ IsTrue b → ◌≡◌ {A = ℕ} (if p && not b then 1 else 0) 1
rest_missing true false e missing = refl
rest_missing true true e missing = absurd (missing refl)
rest_missing false b e missing = absurd (both_ways false refl e)

both_true : (p b : Bool) → IsTrue p → ¬ IsTrue b → IsTrue (p && not b)
both_true true false e missing = refl
both_true true true e missing = absurd (missing refl)
both_true false b e missing = absurd (both_ways false refl e)

module _ {M : Type 0} (world : M → World) (block_count : M → ℕ) (reaches : M → M → Span → Type 0) (laws : MediumLaws world block_count reaches) (shape : Shape) (lists : Lists)
    (old : M) (held : List (ℕ × List ℕ)) (b : List ℕ) (lba n k : ℕ) (touched : numbers_in held ≡ touched_from b (block_with lba) k) where
  abbrev i : ℕ
  i = block_with lba + k

  abbrev home : ℕ
  home = home_of shape lists i

  -- whether it is buffered now is whether it is at hand
  hand_is : is_at_hand b (block_with lba) k ≡ is_buffered (numbers_in held) i
  hand_is = ap (λ (l : List ℕ). is_buffered l i) (sym touched)

  -- where it was not buffered, its rest takes one use
  pub reads_it : IsTrue (is_partly lba n i) → ¬ IsTrue (is_buffered (numbers_in held) i) → IsTrue (reads_rest b lba n k)
  reads_it partly missing = both_true (is_partly lba n i) (is_at_hand b (block_with lba) k) partly (λ here. missing (sym hand_is ∙ here))

  pub one_use : IsTrue (is_partly lba n i) → ¬ IsTrue (is_buffered (numbers_in held) i) → uses_of_rest b lba n k ≡ 1
  one_use partly missing = rest_missing (is_partly lba n i) (is_at_hand b (block_with lba) k) partly (λ here. missing (sym hand_is ∙ here))

  module _ (new : M) (rest : List ℕ) (held' : List (ℕ × List ℕ)) where
    pub rest_continues : IsTrue (world old).power → HasRest world reaches old held lba n i home new rest held' → Continues world reaches old new (uses_of_rest b lba n k)
    rest_continues on (inl none) =
        subst (λ (m : M). Continues world reaches old m (uses_of_rest b lba n k)) (sym none.unused)
        (subst (Continues world reaches old old) (sym (rest_whole (is_partly lba n i) (is_at_hand b (block_with lba) k) none.wholly)) (continues_none world block_count reaches laws old on))
    rest_continues on (inr got) = elim got.fetched.came [
      | inl from ↦
          subst (λ (m : M). Continues world reaches old m (uses_of_rest b lba n k)) (sym from.unused)
          (subst (Continues world reaches old old) (sym (rest_at_hand (is_partly lba n i) (is_at_hand b (block_with lba) k) (hand_is ∙ bytes_at_some i held rest from.was_there))) (continues_none world block_count reaches laws old on))
      | inr from_home ↦ subst (Continues world reaches old new) (sym (one_use got.partly from_home.not_buffered)) from_home.continues
    ]

    -- no cell changed
    pub rest_cells : HasRest world reaches old held lba n i home new rest held' → (world new).cells ≡ (world old).cells
    rest_cells (inl none) = ap (λ (m : M). (world m).cells) none.unused
    rest_cells (inr got) = elim got.fetched.came [ inl from ↦ ap (λ (m : M). (world m).cells) from.unused | inr from_home ↦ from_home.same_cells ]

    -- the buffered blocks, where the block is written then
    pub rest_put : HasRest world reaches old held lba n i home new rest held' → touched_one (numbers_in held') i ≡ touched_one (numbers_in held) i
    rest_put (inl none) = ap (λ (l : List (ℕ × List ℕ)). touched_one (numbers_in l) i) none.same_buffer
    rest_put (inr got) =
        ap (λ (l : List (ℕ × List ℕ)). touched_one (numbers_in l) i) got.fetched.buffer_is
        ∙ ap (λ (l : List ℕ). touched_one l i) (numbers_in-with_newest i rest held) ∙ touched_twice (numbers_in held) i

    -- and where it is refused
    pub rest_refused : HasRest world reaches old held lba n i home new rest held' → numbers_in held' ≡ touched_refused b lba n k
    rest_refused (inl none) =
        ap numbers_in none.same_buffer ∙ touched
        ∙ sym (cond-false (is_partly lba n i) (touched_from b (block_with lba) (suc k)) (touched_from b (block_with lba) k) (false_of (is_partly lba n i) none.wholly))
    rest_refused (inr got) =
        ap numbers_in got.fetched.buffer_is ∙ numbers_in-with_newest i rest held ∙ ap (λ (l : List ℕ). touched_one l i) touched
        ∙ sym (cond-true (is_partly lba n i) (touched_from b (block_with lba) (suc k)) (touched_from b (block_with lba) k) got.partly)

    -- What was fetched is the block of the disc that fits.
    module _ (disc : List ℕ) (known : (world old).known ≡ true) (fits : FitsUnder shape (world old).cells lists disc) (holds : HoldsBlocksOf disc held) (within : i < logical_count shape lists) where
      fetched_is : IsFetched world reaches old new held i home rest held' → rest ≡ block_of disc i
      fetched_is fetched = elim fetched.came [
        | inl from ↦ holds_found disc i held rest holds from.was_there
        | inr from_home ↦
            let here : cell_at (world old).cells home ≡ Good rest = ap (λ (l : List Cell). cell_at l home) (sym from_home.same_cells) ∙ where_known (world old).known (cell_at (world new).cells home ≡ Good rest) known from_home.gives in
            subst (λ (c : Cell). Agrees c (block_of disc i)) here (fits.agrees i within)
      ]

      pub rest_holds : HasRest world reaches old held lba n i home new rest held' → HoldsBlocksOf disc held'
      rest_holds (inl none) = subst (HoldsBlocksOf disc) (sym none.same_buffer) holds
      rest_holds (inr got) = subst (HoldsBlocksOf disc) (sym got.fetched.buffer_is) (holds_newest disc i rest held (fetched_is got.fetched) holds)

      -- so the part is merged into that block, or is all of it
      pub merged_is : HasRest world reaches old held lba n i home new rest held' → (bytes : List ℕ) → length bytes ≡ 2048 * n → length rest ≡ 32768
          → merged_in lba n bytes i rest ≡ merged_in lba n bytes i (block_of disc i)
      merged_is (inl none) bytes whole full =
          merged_whole lba n bytes i rest (block_of disc i) none.wholly whole full (length_block disc (logical_count shape lists) i within fits.as_long)
      merged_is (inr got) bytes whole full = ap (merged_in lba n bytes i) (fetched_is got.fetched)

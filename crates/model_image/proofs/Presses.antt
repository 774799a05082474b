-- What the three steps of a press make of an image, each of which may fail half way.
use Rattle.std.specs.Prelude.{◌≡◌, ℕ, ◌+◌, ◌-◌, ◌≤◌, List, [], ◌++◌, length, take, drop, replicate, slice_index, Option, Some, None, MatchOption}
use Rattle.std.specs.Option.{option_map}
use Rattle.std.proofs.Common.{arith, sym, ap, ◌∙◌, inl, inr, subst, length-take}
use Rattle.std.proofs.lemmas.Bool.{cases_lt}
use Rattle.std.proofs.lemmas.List.{nil_from_length, length-replicate, get_or-replicate, get_or_past, take_at, drop-replicate}
use Rattle.std.proofs.lemmas.List.FromFn.{fill_by_all}
use Rattle.model_bytes.specs.Bytes.{put_at, resized, PartlyPut}
use Rattle.model_bytes.specs.Known.{WhereKnown}
use Rattle.model_geometry.specs.Geometry.{Shape, IsLawful, total}
use Rattle.model_medium.specs.Cells.{Blank, Dead}
use Rattle.model_image.specs.Cells.{state_offset, image_len, cell_of, data_in, cell_in, cells_of}
use Rattle.model_image.specs.Image.{header_of, IsImageOf, pressed_image, PressesImage, blank_cells, IsBlankIfDisc, IsStoppedPress}
use Rattle.model_image.proofs.Changes.{SameBut}
use Rattle.model_image.proofs.Writes.{SameBut-put_at, SameBut-PartlyPut}

-- a list made anew: shortened to nothing, and grown with zeros
pub resized-none : (held : List ℕ) → resized 0 held ≡ []
resized-none held = ap (λ n. replicate n 0) (none (length held))
  where
    none : (n : ℕ) → 0 - n ≡ 0
    none n = omega arith

pub resized-anew : (n : ℕ) (held : List ℕ) → resized n (resized 0 held) ≡ replicate n 0
resized-anew n held = ap (resized n) (resized-none held) ∙ ap (λ l. l ++ replicate (n - 0) 0) (nil_from_length (take n []) (length-take n [] ∙ omega arith)) ∙ ap (λ m. replicate m 0) (omega arith)

-- each byte behind the header is zero
abbrev pub IsZeroBehindHeader : List ℕ → Type 0
IsZeroBehindHeader bytes = (k : ℕ) → 16 ≤ k → slice_index bytes k ≡ 0

zeros_at : (n k : ℕ) → slice_index (replicate n 0) k ≡ 0
zeros_at n k = elim (cases_lt k n) [ inl h ↦ get_or-replicate n k 0 0 h | inr h ↦ get_or_past (replicate n 0) k 0 (omega (arith, length-replicate {A = ℕ} n 0)) ]

-- then all cells are blank
pub cells_of-zeros : (n : ℕ) (bytes : List ℕ) → IsZeroBehindHeader bytes → cells_of n bytes ≡ replicate n Blank
cells_of-zeros n bytes zero = sym (fill_by_all (cell_in n bytes) (replicate n Blank) n Dead (length-replicate n Blank) (λ k h.
    get_or-replicate n k Blank Dead h ∙ sym (ap (λ s. cell_of s (data_in n bytes k)) (zero (state_offset k) (omega arith)))))

pub blank_if_disc : (bytes : List ℕ) → IsZeroBehindHeader bytes → IsBlankIfDisc bytes
blank_if_disc bytes zero shape disc = cells_of-zeros (total shape) bytes zero

module _ (shape : Shape) (header_long : length (header_of shape) ≡ 16) where
  abbrev new_len : ℕ
  new_len = image_len (total shape)

  abbrev zeros : List ℕ
  zeros = replicate new_len 0

  behind : (after : List ℕ) → SameBut 0 (length (header_of shape)) zeros after → IsZeroBehindHeader after
  behind after change k h = change.same k (inr (omega (arith, header_long))) ∙ zeros_at new_len k

  -- the bytes of a press: the header, and zeros behind it
  zeros_behind : (n m : ℕ) (header : List ℕ) → length header ≡ m → put_at 0 header (replicate n 0) ≡ header ++ replicate (n - m) 0
  zeros_behind n m header long = ap (λ l. header ++ l) (drop-replicate (0 + length header) n 0 ∙ ap (λ k. replicate (n - k) 0) (omega (arith, long)))

  pub pressed_bytes : put_at 0 (header_of shape) zeros ≡ pressed_image shape
  pressed_bytes = zeros_behind new_len 16 (header_of shape) header_long

  pub pressed : IsLawful shape → IsImageOf shape (blank_cells shape) (put_at 0 (header_of shape) zeros)
  pressed lawful = record {
    disc = record {
      has_header = record { lawful = lawful; header = take_at (header_of shape) (drop (0 + length (header_of shape)) zeros) 16 header_long };
      as_long = change.as_long ∙ length-replicate new_len 0;
    };
    cells_are = cells_of-zeros (total shape) (put_at 0 (header_of shape) zeros) (behind (put_at 0 (header_of shape) zeros) change);
  }
    where
      change : SameBut 0 (length (header_of shape)) zeros (put_at 0 (header_of shape) zeros)
      change = SameBut-put_at 0 (header_of shape) zeros (omega (arith, header_long, length-replicate {A = ℕ} new_len 0))

  -- what a failed last step leaves
  pub stopped_header : (after : List ℕ) → PartlyPut 0 (header_of shape) zeros after → IsBlankIfDisc after
  stopped_header after put = blank_if_disc after (behind after (SameBut-PartlyPut 0 (header_of shape) zeros after put))

-- The same where the bytes of the image may not be known.
module _ (shape : Shape) (header_long : length (header_of shape) ≡ 16) (before : Option (List ℕ)) where
  pub known-pressed : IsLawful shape → (b1 b2 after : Option (List ℕ)) → b1 ≡ option_map (resized 0) before → b2 ≡ option_map (resized (image_len (total shape))) b1 → after ≡ option_map (put_at 0 (header_of shape)) b2
      → WhereKnown before after (PressesImage shape)
  known-pressed lawful b1 b2 after e1 e2 e3 =
      subst (λ o. WhereKnown before o (PressesImage shape)) (sym (e3 ∙ ap (option_map (put_at 0 (header_of shape))) (e2 ∙ ap (option_map (resized (image_len (total shape)))) e1))) (cases before)
    where
      cases : (o : Option (List ℕ)) → WhereKnown o (option_map (put_at 0 (header_of shape)) (option_map (resized (image_len (total shape))) (option_map (resized 0) o))) (PressesImage shape)
      cases None = tt
      cases (Some held) = subst (λ l. PressesImage shape held (put_at 0 (header_of shape) l)) (sym (resized-anew (image_len (total shape)) held)) (record { bytes = pressed_bytes shape header_long; image = pressed shape header_long lawful })

-- what a failed last step leaves, as the image's rule says it
module _ (shape : Shape) (header_long : length (header_of shape) ≡ 16) (before : Option (List ℕ)) where
  abbrev StoppedHeader : Option (List ℕ) → Option (List ℕ) → Type 0
  StoppedHeader o p = MatchOption o (p ≡ o) (λ held. MatchOption p ⊥ (λ held'. PartlyPut 0 (header_of shape) held held'))

  pub known-stopped_header : (b1 b2 after : Option (List ℕ)) → b1 ≡ option_map (resized 0) before → b2 ≡ option_map (resized (image_len (total shape))) b1
      → StoppedHeader b2 after → WhereKnown before after IsStoppedPress
  known-stopped_header b1 b2 after e1 e2 stopped =
      cases before after (subst (λ o. StoppedHeader o after) (e2 ∙ ap (option_map (resized (image_len (total shape)))) e1) stopped)
    where
      cases : (o p : Option (List ℕ)) → StoppedHeader (option_map (resized (image_len (total shape))) (option_map (resized 0) o)) p → WhereKnown o p IsStoppedPress
      cases None None s = tt
      cases None (Some held') s = absurd (cc)
      cases (Some held) None s = absurd s
      cases (Some held) (Some held') s = inr (stopped_header shape header_long held' (subst (λ l. PartlyPut 0 (header_of shape) l held') (resized-anew (image_len (total shape)) held) s))

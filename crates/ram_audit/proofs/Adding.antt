-- Lines of copies and of lost blocks, one part after another.
use Rattle.std.specs.Prelude.{◌≡◌, Result, Ok, Err, MatchResult, ℕ, suc, ◌+◌, ◌*◌, ◌≤◌, ◌⊎◌, Bool, true, false, if◌then◌else◌, Option, Some, None, IfSome, List, [], ◌∷◌, ◌++◌}
use Rattle.std.specs.List.{flat_map, range_with_len}
use Rattle.std.proofs.Common.{refl, sym, ap, ap₂, ◌∙◌, inl, inr, subst, arith}
use Rattle.std.proofs.lemmas.List.{append_assoc, append-nil}
use Rattle.std.proofs.lemmas.Grind.{flat_map-append}
use Rattle.model_geometry.specs.Geometry.{Shape, total, dds_block, sdl_block, sdl_second_block}
use Rattle.model_geometry.proofs.Ranges.{range_with_len-append}
use Rattle.model_lists.specs.declared.versions.Version.{Version}
use Rattle.model_lists.specs.declared.versions.Version.TheVariants as versions
use Rattle.model_lists.proofs.DdsTexts as dds_texts
use Rattle.model_lists.proofs.SdlTexts as sdl_texts
use Rattle.model_medium.specs.Cells.{Cell, Blank, Good, Torn, Dead, IsGood, cell_at}
use Rattle.model_image.specs.Cells.{cells_of}
use Rattle.model_places.specs.Places.{Lists, home_of}
use Rattle.model_audit.specs.declared.lines.CopyState.{CopyState}
use Rattle.model_audit.specs.declared.lines.CopyState.TheVariants as states
use Rattle.model_audit.specs.declared.lines.CertificateLine.{CertificateLine}
use Rattle.model_audit.specs.declared.lines.CertificateLine.TheVariants as lines
use Rattle.model_audit.specs.Certificate.{ListPart, Structure, First, Second, IsPartOf, HoldsPart, CellSays, AreCopyLines, area_cells, list_cells, is_whole, lost_home_line}
use Rattle.ram_outside.specs.declared.image.Image.{Ghosts}
use Rattle.ram_image.specs.declared.medium.ImageMedium.{ImageMedium}
use Rattle.ram_image.specs.Medium.{bytes_in}
use Rattle.ram_audit.specs.declared.lines.Lines.{Lines}
use Rattle.ram_audit.specs.Leaving.{IsLeft, LooksOn, FailsLooking}
use Rattle.ram_audit.proofs.Leaving.{looks_then, fails_then}
use Rattle.ram_audit.specs.Telling.{Adds, AreLines, cells_in_image, StateSays, AddsCopy, AddsCopies, AddsHome, AddsLost}
use Rattle.ram_audit.proofs.CellsUpTo.{cells_upto}

-- ---- what is added

adds_then : (a b c : Lines) (one two : List CertificateLine) → Adds a b one → Adds b c two → Adds a c (one ++ two)
adds_then a b c one two first second told are = subst (AreLines c) (append_assoc told one two) (second (told ++ one) (first told are))

adds_none : (a : Lines) → Adds a a []
adds_none a told are = subst (AreLines a) (sym (append-nil told)) are

-- what holds of known bytes
pub if_some : {P Q : List ℕ → Type 0} (bytes : Option (List ℕ)) → ((held : List ℕ) → P held → Q held) → IfSome bytes P → IfSome bytes Q
if_some None f h = tt
if_some (Some held) f h = f held h

pub both_some : {P Q R : List ℕ → Type 0} (bytes : Option (List ℕ)) → ((held : List ℕ) → P held → Q held → R held) → IfSome bytes P → IfSome bytes Q → IfSome bytes R
both_some None f h k = tt
both_some (Some held) f h k = f held h k

pub three_some : {P Q R S : List ℕ → Type 0} (bytes : Option (List ℕ)) → ((held : List ℕ) → P held → Q held → R held → S held) → IfSome bytes P → IfSome bytes Q → IfSome bytes R → IfSome bytes S
three_some None f h k l = tt
three_some (Some held) f h k l = f held h k l

if_all : {P : List ℕ → Type 0} (bytes : Option (List ℕ)) → ((held : List ℕ) → P held) → IfSome bytes P
if_all None f = tt
if_all (Some held) f = f held

-- ---- one cell of a copy

-- a part of a list has one text
one_part : (lists : Lists) (part : ListPart) (x y : List ℕ) → IsPartOf lists part x → IsPartOf lists part y → x ≡ y
one_part lists Structure x y p q = dds_texts.one_text lists.dds x y p q
one_part lists First x y p q = sdl_texts.one_text lists.sdl x y p q
one_part lists Second x y p q = sdl_texts.one_second lists.sdl x y p q

holds_it : (lists : Lists) (part : ListPart) (text : List ℕ) (cell : Cell) → IsPartOf lists part text → HoldsPart lists part cell → cell ≡ Good text
holds_it lists part text Blank is h = absurd h
holds_it lists part text (Good bytes) is h = ap Good (one_part lists part bytes text h is)
holds_it lists part text Torn is h = absurd h
holds_it lists part text Dead is h = absurd h

cell_says : (lists : Lists) (part : ListPart) (text : List ℕ) (cell : Cell) (state : CopyState) → IsPartOf lists part text → StateSays cell text state → CellSays lists part cell state
cell_says lists part text cell states.Exact is says = subst (HoldsPart lists part) (sym says) is
cell_says lists part text cell states.Other is says = (says.0, λ holds. says.1 (holds_it lists part text cell is holds))
cell_says lists part text cell states.Unread is says = says
cell_says lists part text cell states.Dead is says = says

pub copy_told : (a b : Lines) (its shape : Shape) (bytes : Option (List ℕ)) (lists : Lists) (block : ℕ) (part : ListPart) (text : List ℕ) → total its ≡ total shape → IsPartOf lists part text
    → AddsCopy a b its bytes block text → AddsCopies a b shape bytes lists ((block, part) ∷ [])
copy_told a b its shape bytes lists block part text size is added = record {
  copies = lines.Copy block added.state ∷ [];
  adds = added.adds;
  are = if_some bytes (λ held says. (added.state, [], refl, cell_says lists part text (cell_at (cells_in_image shape held) block) added.state is (subst (λ (n : ℕ). StateSays (cell_at (cells_of n held) block) text added.state) size says), refl)) added.says;
}

-- ---- copies one after another

module _ (cells : List Cell) (lists : Lists) where
  copies_then : (xs ys : List (ℕ × ListPart)) (one two : List CertificateLine) → AreCopyLines cells lists xs one → AreCopyLines cells lists ys two → AreCopyLines cells lists (xs ++ ys) (one ++ two)
  copies_then [] ys one two first second = subst (λ (told : List CertificateLine). AreCopyLines cells lists ys (told ++ two)) (sym first) second
  copies_then (x ∷ xs) ys one two (state, others, is, says, rest) second =
      (state, others ++ two, ap (λ (told : List CertificateLine). told ++ two) is, says, copies_then xs ys others two rest second)

module _ (shape : Shape) (bytes : Option (List ℕ)) (lists : Lists) where
  pub copies_none : (a : Lines) → AddsCopies a a shape bytes lists []
  copies_none a = record { copies = []; adds = adds_none a; are = if_all bytes (λ held. refl) }

  pub copies_after : (a b c : Lines) (xs ys : List (ℕ × ListPart)) → AddsCopies a b shape bytes lists xs → AddsCopies b c shape bytes lists ys → AddsCopies a c shape bytes lists (xs ++ ys)
  copies_after a b c xs ys one two = record {
    copies = one.copies ++ two.copies;
    adds = adds_then a b c one.copies two.copies one.adds two.adds;
    are = both_some bytes (λ held first second. copies_then (cells_in_image shape held) lists xs ys one.copies two.copies first second) one.are two.are;
  }

pub one_area : (shape : Shape) (version : Version) (k : ℕ) → cells_upto shape version k ++ area_cells shape version (k + 1) ≡ cells_upto shape version (k + 1)
one_area shape version k = let e : k + 1 ≡ suc k = omega arith in rw (e) refl

pub all_areas : (shape : Shape) (version : Version) → cells_upto shape version 4 ≡ list_cells shape version
unfolding list_cells
all_areas shape version =
    append_assoc (area_cells shape version 1 ++ area_cells shape version 2) (area_cells shape version 3) (area_cells shape version 4)
    ∙ append_assoc (area_cells shape version 1) (area_cells shape version 2) (area_cells shape version 3 ++ area_cells shape version 4)

-- ---- over a medium that is left as it is

-- an answer by cases, where each case follows
pub by_cases : {T E : Type 0} {P Q : T → Type 0} {R S : E → Type 0} (result : Result T E) → ((x : T) → P x → Q x) → ((e : E) → R e → S e) → MatchResult result P R → MatchResult result Q S
by_cases (Ok x) f g h = f x h
by_cases (Err e) f g h = g e h

module _ {I : Type 0} {d : Ghosts I} (shape : Shape) (lists : Lists) where
  pub copies_later : (a b c : Lines) (m n : ImageMedium I d) (xs ys : List (ℕ × ListPart)) → IsLeft m n → AddsCopies a b shape (bytes_in m) lists xs → AddsCopies b c shape (bytes_in n) lists ys → AddsCopies a c shape (bytes_in m) lists (xs ++ ys)
  copies_later a b c m n xs ys left one two = copies_after shape (bytes_in m) lists a b c xs ys one (subst (λ (o : Option (List ℕ)). AddsCopies b c shape o lists ys) left.same_bytes two)

  -- the copy of one area, of a list of one part, and of two
  pub area_of_one : (area : ℕ) (a b c : Lines) (m n o : ImageMedium I d) (version : Version) → version ≡ versions.One → LooksOn m n × AddsCopies a b shape (bytes_in m) lists ((dds_block shape area, Structure) ∷ [])
      → LooksOn n o × AddsCopies b c shape (bytes_in n) lists ((sdl_block shape area, First) ∷ []) → LooksOn m o × AddsCopies a c shape (bytes_in m) lists (area_cells shape version area)
  area_of_one area a b c m n o version is one two = (
    looks_then m n o one.0 two.0,
    subst (λ (v : Version). AddsCopies a c shape (bytes_in m) lists (area_cells shape v area)) (sym is) (copies_later a b c m n ((dds_block shape area, Structure) ∷ []) ((sdl_block shape area, First) ∷ []) one.0.left one.1 two.1),
  )

  pub area_of_two : (area : ℕ) (a b c e : Lines) (m n o p : ImageMedium I d) (version : Version) → version ≡ versions.Two → LooksOn m n × AddsCopies a b shape (bytes_in m) lists ((dds_block shape area, Structure) ∷ [])
      → LooksOn n o × AddsCopies b c shape (bytes_in n) lists ((sdl_block shape area, First) ∷ []) → LooksOn o p × AddsCopies c e shape (bytes_in o) lists ((sdl_second_block shape area, Second) ∷ [])
      → LooksOn m p × AddsCopies a e shape (bytes_in m) lists (area_cells shape version area)
  area_of_two area a b c e m n o p version is one two three =
      let later = looks_then n o p two.0 three.0 in (
        looks_then m n p one.0 later,
        subst (λ (v : Version). AddsCopies a e shape (bytes_in m) lists (area_cells shape v area)) (sym is)
            (copies_later a b e m n ((dds_block shape area, Structure) ∷ []) ((sdl_block shape area, First) ∷ ((sdl_second_block shape area, Second) ∷ [])) one.0.left one.1
            (copies_later b c e n o ((sdl_block shape area, First) ∷ []) ((sdl_second_block shape area, Second) ∷ []) two.0.left two.1 three.1)),
      )

-- ---- homes one after another

-- a range with one number more
one_number : (i : ℕ) → range_with_len 0 (i + 1) ≡ range_with_len 0 i ++ i ∷ []
one_number i = range_with_len-append 0 i 1 ∙ ap (λ (n : ℕ). range_with_len 0 i ++ n ∷ []) (omega arith)

-- the line of a block that is lost
pub home_lost : (shape : Shape) (bytes : Option (List ℕ)) (home i : ℕ) → IfSome bytes (λ held. is_whole (cell_at (cells_in_image shape held) home) ≡ false)
    → IfSome bytes (λ held. lines.Lost (16 * i) ∷ [] ≡ (if is_whole (cell_at (cells_in_image shape held) home) then [] else (lines.Lost (16 * i) ∷ [])))
home_lost shape bytes home i lost = if_some bytes (λ held none. sym (ap (λ (b : Bool). if b then [] else (lines.Lost (16 * i) ∷ [])) none)) lost

module _ (shape : Shape) (bytes : Option (List ℕ)) (lists : Lists) where
  pub lost_none : (a : Lines) → AddsLost a a shape bytes lists 0
  lost_none a = record { lost = []; adds = adds_none a; are = if_all bytes (λ held. refl) }

  one_more : (cells : List Cell) (i home : ℕ) (one two : List CertificateLine) → home ≡ home_of shape lists i → one ≡ flat_map (lost_home_line shape cells lists) (range_with_len 0 i)
      → two ≡ (if is_whole (cell_at cells home) then [] else (lines.Lost (16 * i) ∷ [])) → one ++ two ≡ flat_map (lost_home_line shape cells lists) (range_with_len 0 (i + 1))
  one_more cells i home one two home_is first second =
      ap₂ (λ (x y : List CertificateLine). x ++ y) first
      (second ∙ ap (λ (h : ℕ). if is_whole (cell_at cells h) then [] else (lines.Lost (16 * i) ∷ [])) home_is ∙ sym (append-nil (lost_home_line shape cells lists i)))
      ∙ sym (flat_map-append (lost_home_line shape cells lists) (range_with_len 0 i) (i ∷ []))
      ∙ ap (flat_map (lost_home_line shape cells lists)) (sym (one_number i))

  pub lost_after : (a b c : Lines) (its : Shape) (i home : ℕ) → total its ≡ total shape → home ≡ home_of shape lists i → AddsLost a b shape bytes lists i → AddsHome b c its bytes home i → AddsLost a c shape bytes lists (i + 1)
  lost_after a b c its i home size home_is one two = record {
    lost = one.lost ++ two.lost;
    adds = adds_then a b c one.lost two.lost one.adds two.adds;
    are = both_some bytes (λ held first second. one_more (cells_in_image shape held) i home one.lost two.lost home_is first
        (subst (λ (n : ℕ). two.lost ≡ (if is_whole (cell_at (cells_of n held) home) then [] else (lines.Lost (16 * i) ∷ []))) size second)) one.are two.are;
  }

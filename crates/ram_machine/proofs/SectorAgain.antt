-- The register of a sector when an image that a run handed back was opened again.
use Rattle.std.specs.Prelude.{◌≡◌, ℕ, ◌*◌, ◌<◌, Option, None, Some, List, [], ◌∷◌, length, map}
use Rattle.std.specs.List.{All, Contains}
use Rattle.std.proofs.Common.{arith, refl, sym, ap, ◌∙◌, inl, inr, subst}
use Rattle.std.proofs.lemmas.List.Elements.{All-head, All-tail}
use Rattle.model_geometry.specs.Geometry.{Shape, total}
use Rattle.model_medium.specs.Cells.{Cell, Blank, Good, Torn, Dead, cell_at, AreWhole}
use Rattle.model_image.specs.Cells.{cells_of}
use Rattle.model_image.specs.Image.{IsDiscImage}
use Rattle.model_image.proofs.Headers.{one_header}
use Rattle.model_image.proofs.WholeCells.{cells_of-whole}
use Rattle.model_sectors.specs.Discs.{Agrees, block_of, sectors_of}
use Rattle.model_sectors.specs.Requests.{block_with}
use Rattle.model_places.specs.Places.{Lists, logical_count, home_of}
use Rattle.model_volume.specs.Given.{IsGiven}
use Rattle.model_volume.specs.Covers.{FitsUnder, SomeFit}
use Rattle.model_volume.specs.Starts.{Found, IsFound}
use Rattle.model_volume.proofs.GivenFacts.{settled_alone}
use Rattle.model_drive.specs.Shown.{StandsBy, cells_in}
use Rattle.model_cache.specs.Values.{Values, Contents, Has, MayHave, HasBlock, IsTaken, AreTaken}
use Rattle.model_cache.specs.Shown.{CacheShown, CacheStandsFor}
use Rattle.model_cache.proofs.Members.{Contains-none, Contains-first, Contains-later, Contains-cases}
use Rattle.model_cache.proofs.Falls.{only}
use Rattle.ram_machine.specs.States.{State, Served, Unopened, Disc, kind_of, IsLeft, IsFirst}
use Rattle.ram_machine.specs.Runs.{Run}
use Rattle.ram_machine.specs.Answered.{AnsweredStep}
use Rattle.ram_machine.specs.SectorBytes.{bytes_of_sector}
use Rattle.ram_machine.proofs.Images.{image_left, kind_again}
use Rattle.ram_machine.proofs.WrittenDiscs.{SoInBlock, SoInValues, SoInContents, block_sector}
use Rattle.ram_machine.specs.Register.{Lost, Register, reopened, IsRegisterAgain}
use Rattle.ram_machine.proofs.SectorValues.{bytes_under, falls_under}
use Rattle.ram_machine.proofs.SectorFilled.{filled, filled_under, filled_long}
use Rattle.ram_machine.proofs.SectorBoth.{Held}
use Rattle.ram_machine.proofs.SectorMatching.{so_weaker}
use Rattle.ram_machine.proofs.SectorRuns.{MatchesState, run_turns}
use Rattle.ram_machine.proofs.SectorOpened.{value_in, filled_sector, held_opened, opens}

module _ (at : ℕ) (S : List ℕ → Type 0) (shape : Shape) (cells : List Cell) where
  abbrev i : ℕ
  i = block_with at

  -- a disc that fits under these lists, and of whose sector it is so
  record Fits (lists : Lists) : Type 0 where
    disc : List ℕ
    fits : FitsUnder shape cells lists disc
    so : HasBlock disc i → S (sectors_of disc at 1)

  -- a disc that is taken from values
  taken_so : (v : Values) (disc : List ℕ) → IsTaken v disc → SoInValues S at v → HasBlock disc i → S (sectors_of disc at 1)
  taken_so v disc taken so has = let long = taken.as_long in subst S (block_sector disc at) (so (omega (arith, long, has)) (block_of disc i) (taken.each i))

  pick : (lists : Lists) (all : List Values) (discs : List (List ℕ)) → AreTaken all discs → All (SoInValues S at) all → SomeFit shape cells lists discs → Fits lists
  pick lists [] [] taken so fit = absurd fit
  pick lists [] (disc ∷ discs) taken so fit = absurd (let w = taken in cc)
  pick lists (v ∷ all) [] taken so fit = absurd fit
  pick lists (v ∷ all) (disc ∷ discs) taken so (inl fits) = record { disc = disc; fits = fits; so = taken_so v disc taken.0 (All-head (SoInValues S at) v all so) }
  pick lists (v ∷ all) (disc ∷ discs) taken so (inr later) = pick lists all discs taken.1 (All-tail (SoInValues S at) v all so) later

  by_lists : (in_use : Option Lists) (buffer : List (ℕ × List ℕ)) (v : Values) (disc : List ℕ) (lists : Lists) → StandsBy shape cells in_use buffer disc → IsTaken v disc → SoInValues S at v → IsGiven shape cells lists → Fits lists
  by_lists None buffer v disc lists stands taken so given = absurd (stands.2 lists given)
  by_lists (Some used) buffer v disc lists stands taken so given = record {
    disc = disc;
    fits = subst (λ (l : Lists). FitsUnder shape cells l disc) (sym (settled_alone shape cells used lists stands.settled stands.valid.together.same_version given)) stands.fits;
    so = taken_so v disc taken so;
  }

  -- the home that lists give a block has of its sector what such a disc has, if it can be read
  by_cell : (fill : ℕ) (cell : Cell) (block : List ℕ) → S (filled fill 2048) → Agrees cell block → S (bytes_of_sector (16 * i) block at) → S (bytes_under (filled fill 2048) (value_in at cell))
  by_cell fill Blank block nought agrees so = nought
  by_cell fill (Good held) block nought agrees so = subst (λ (b : List ℕ). S (bytes_of_sector (16 * i) b at)) (sym agrees) so
  by_cell fill Torn block nought agrees so = nought
  by_cell fill Dead block nought agrees so = nought

  shown_so : (fill : ℕ) (whole : AreWhole cells) (found : Found) → S (filled fill 2048) → Fits found.lists → HasBlock (filled_under fill shape cells whole found) i → S (sectors_of (filled_under fill shape cells whole found) at 1)
  shown_so fill whole found nought fit has =
      let long = filled_long fill shape cells whole found in
      let inside : i < logical_count shape found.lists = omega (arith, has, long) in
      let other : length fit.disc ≡ 32768 * logical_count shape found.lists = fit.fits.as_long in
      let so : S (bytes_of_sector (16 * i) (block_of fit.disc i) at) = subst S (sym (block_sector fit.disc at)) (fit.so (omega (arith, inside, other))) in
      subst S (sym (filled_sector at fill shape cells whole found has)) (by_cell fill (cell_at cells (home_of shape found.lists i)) (block_of fit.disc i) nought (fit.fits.agrees i inside) so)

  -- all of them
  all_shown : (fill : ℕ) (whole : AreWhole cells) (nought : S (filled fill 2048)) (fit : (lists : Lists) → IsGiven shape cells lists → Fits lists) (all : List Found) → ((found : Found) → Contains all found → IsFound shape cells found)
      → (disc : List ℕ) → Contains (map (filled_under fill shape cells whole) all) disc → HasBlock disc i → S (sectors_of disc at 1)
  all_shown fill whole nought fit [] each disc has block = absurd (Contains-none disc has)
  all_shown fill whole nought fit (found ∷ all) each disc has block = elim (Contains-cases (filled_under fill shape cells whole found) (map (filled_under fill shape cells whole) all) disc has) [
    | inl is ↦
        let f = each found (Contains-first found all) in
        let given : IsGiven shape cells found.lists = record {
          dds_area = found.dds_area;
          dds_copy = f.dds_copy;
          first_area = found.first_area;
          second_area = found.second_area;
          sdl_parts = f.sdl_parts;
          valid = f.valid;
          some_whole = f.some_whole;
        } in
        subst (λ (d : List ℕ). HasBlock d i → S (sectors_of d at 1)) is (shown_so fill whole found nought (fit found.lists given)) block
    | inr more ↦ all_shown fill whole nought fit all (λ f there. each f (Contains-later found all f there)) disc more block
  ]

-- what a drive stands for fits under each of the lists that its cells give
fits_now : (at : ℕ) (S : List ℕ → Type 0) (shown : CacheShown) (c : Contents) → CacheStandsFor shown c → SoInContents S at c → (lists : Lists) → IsGiven shown.drive.shape (cells_in shown.drive) lists
    → Fits at S shown.drive.shape (cells_in shown.drive) lists
fits_now at S shown (Has v) stood so lists given =
    by_lists at S shown.drive.shape (cells_in shown.drive) shown.drive.lists shown.drive.buffer v stood.0 lists stood.1.2 stood.2.taken (only (SoInBlock S at) (block_with at) v so) given
fits_now at S shown (MayHave all) stood so lists given =
    pick at S shown.drive.shape (cells_in shown.drive) lists all stood.0 stood.2 so (stood.1.2 lists given)

-- the register then, where a lost sector has such bytes
held_again : (fill at : ℕ) (s t : Served) (left : List ℕ) (r : Register) → Held (filled fill 2048) at s.disc.shown r → left ≡ s.bytes → (first : IsFirst left (Disc t)) → kind_of (Disc t) ≡ kind_of (Disc s) → Held (filled fill 2048) at t.disc.shown (reopened r)
held_again fill at s t left r was is first kind =
    let image = image_left s left is in
    let shape : Shape = first.0 in
    let same : shape ≡ s.disc.shown.drive.shape = one_header shape s.disc.shown.drive.shape left (kind_again shape (cells_of (total shape) left) left s t first.2 kind) first.1.has_header image.disc.has_header in
    let cells : List Cell = cells_of (total shape) left in
    let same_cells : cells ≡ cells_in s.disc.shown.drive = ap (λ (z : Shape). cells_of (total z) left) same ∙ image.cells_are in
    let whole = cells_of-whole (total shape) left first.1.as_long in
    let opened = first.2.opened in
    let lost : List ℕ = filled fill 2048 in
    let S : List ℕ → Type 0 = Contains (falls_under lost (Lost ∷ r.falls)) in
    let so : SoInContents S at was.contents = so_weaker (Contains (falls_under lost r.falls)) S at (λ found has. Contains-later lost (falls_under lost r.falls) found has) was.contents was.matches.falls in
    held_opened fill at shape cells whole t.disc opened (reopened r) (ap (λ (x : CacheShown). cells_in x.drive) opened.shown_is) (ap (λ (x : CacheShown). x.drive.shape) opened.shown_is) refl refl
    (all_shown at S shape cells fill whole (Contains-first lost (falls_under lost r.falls))
    (λ lists. subst (λ (z : Shape). IsGiven z cells lists → Fits at S z cells lists) (sym same)
    (subst (λ (c : List Cell). IsGiven s.disc.shown.drive.shape c lists → Fits at S s.disc.shown.drive.shape c lists) (sym same_cells)
    (fits_now at S s.disc.shown was.contents was.stands so lists)))
    opened.all opened.starts.each)

pub again : (at : ℕ) (s t : State) (left : List ℕ) (r : Register) → MatchesState at s r → IsLeft s left → IsFirst left t → kind_of t ≡ kind_of s → MatchesState at t (reopened r)
again at (Unopened held) (Unopened bare) left r was is first kind = λ shape same. subst (λ (b : List ℕ). ¬ IsDiscImage shape b) (sym first.0) (first.1 shape same)
again at (Unopened held) (Disc t) left r was is first kind =
    absurd (was first.0 (sym (ap (λ (x : CacheShown). x.drive.shape.layout) first.2.opened.shown_is) ∙ kind) (subst (IsDiscImage first.0) is first.1))
again at (Disc s) (Unopened bare) left r was is first kind = absurd (first.1 s.disc.shown.drive.shape (sym kind) (image_left s left is).disc)
again at (Disc s) (Disc t) left r was is first kind = record { one = held_again 0 at s t left r was.one is first kind; other = held_again 1 at s t left r was.other is first kind }

-- two runs, one after another
pub registers_again : (image left : List ℕ) (s t u v : State) (events later : List AnsweredStep) (at : ℕ) → IsFirst image s → Run s events t → IsLeft t left → IsFirst left u → kind_of u ≡ kind_of t → Run u later v
    → IsRegisterAgain image events later at
registers_again image left s t u v events later at first run is then_first kind then_run =
    let opened = opens image at s first in
    let turned = run_turns at s t events opened.register opened.matches run in
    let then_turned = run_turns at u v later (reopened turned.after) (again at t u left turned.after turned.matches is then_first kind) then_run in
    record { first = opened.register; middle = turned.after; last = then_turned.after; opened = opened.opened; turns = turned.rule; then_turns = then_turned.rule }

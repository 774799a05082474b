-- The machine that a medium over an image shows, of its parts.
use Rattle.std.specs.Prelude.{◌≡◌, ℕ, ◌<◌, not, if◌then◌else◌, Bool, true, false, MatchBool, Option, Some, None, is_some, IfSome, List}
use Rattle.std.specs.Bool.{OnTrue}
use Rattle.std.specs.Option.{ForSome}
use Rattle.std.proofs.Common.{refl, sym, ap, ◌∙◌, subst, arith}
use Rattle.model_bytes.specs.Known.{WhereKnown}
use Rattle.model_geometry.specs.Geometry.{Shape, total}
use Rattle.model_medium.specs.Cells.{Cell, Dead, IsGood, cell_at}
use Rattle.model_medium.specs.Machine.{Machine}
use Rattle.model_medium.specs.declared.WornBlock.{WornBlock}
use Rattle.model_medium.specs.declared.ArmedCut.{ArmedCut}
use Rattle.model_image.specs.Cells.{cell_in, cells_known, SetsCell}
use Rattle.model_image.specs.Image.{IsDiscImage}
use Rattle.model_image.proofs.Writes.{cell_at-cells_of}
use Rattle.ram_image.specs.CellCalls.{HaveGoodStates}
use Rattle.ram_image.proofs.TellsCells.{known_cell}

abbrev pub machine_by : List ℕ → ℕ → Option (List ℕ) → Bool → ℕ → ℕ → ℕ → List WornBlock → Option ArmedCut → Machine
machine_by label total bytes power uses cuts faults arms cut = record {
  world = record { label = label; known = is_some bytes; cells = cells_known total bytes; power = power; uses = uses; cuts = cuts; faults = faults };
  arms = arms;
  cut = cut;
}

-- the image has the bytes that it had
pub exactly_same : (label : List ℕ) (total : ℕ) (before after : Option (List ℕ)) (power : Bool) (uses cuts f f' : ℕ) (arms : List WornBlock) (cut : Option ArmedCut) → after ≡ before → f' ≡ f
    → machine_by label total after power uses cuts f' arms cut ≡ machine_by label total before power uses cuts f arms cut
exactly_same label total before after power uses cuts f f' arms cut e count = ap (λ o. machine_by label total o power uses cuts f' arms cut) e ∙ ap (λ n. machine_by label total before power uses cuts n arms cut) count

-- a cell that was found, where the image has the bytes that it had
pub cell_found : (total block : ℕ) (P : Cell → Type 0) → block < total → (before after : Option (List ℕ)) → after ≡ before → IfSome before (λ held. P (cell_in total held block))
    → OnTrue (is_some before) (P (cell_at (cells_known total after) block))
cell_found total block P inside before after e found = subst (λ o. OnTrue (is_some before) (P (cell_at (cells_known total o) block))) (sym e) (known_cell total block P inside before found)

-- a cell that was found not to be good
pub not_good_found : (total block : ℕ) → block < total → (before after : Option (List ℕ)) → after ≡ before → IfSome before (λ held. ¬ IsGood (cell_in total held block))
    → ¬ IsGood (cell_at (cells_known total after) block)
not_good_found total block inside before after e found = subst (λ o. ¬ IsGood (cell_at (cells_known total o) block)) (sym e) (cases before found)
  where
    cases : (o : Option (List ℕ)) → IfSome o (λ held. ¬ IsGood (cell_in total held block)) → ¬ IsGood (cell_at (cells_known total o) block)
    cases None h = λ good. good
    cases (Some held) h = λ good. h (subst IsGood (cell_at-cells_of total held block inside) good)

-- a cell that was found to be dead
pub dead_found : (total block : ℕ) → block < total → (before after : Option (List ℕ)) → after ≡ before → IfSome before (λ held. cell_in total held block ≡ Dead)
    → cell_at (cells_known total after) block ≡ Dead
dead_found total block inside before after e found = subst (λ o. cell_at (cells_known total o) block ≡ Dead) (sym e) (cases before found)
  where
    cases : (o : Option (List ℕ)) → IfSome o (λ held. cell_in total held block ≡ Dead) → cell_at (cells_known total o) block ≡ Dead
    cases None h = refl
    cases (Some held) h = cell_at-cells_of total held block inside ∙ h

-- where no block of a row is good, the first is not
pub none_good : (total block count : ℕ) → count ≡ 0 → (o : Option (List ℕ)) → IfSome o (λ held. count ≡ 0 → ¬ IsGood (cell_in total held block)) → IfSome o (λ held. ¬ IsGood (cell_in total held block))
none_good total block count none None h = tt
none_good total block count none (Some held) h = h none

-- a disc image stays one
pub disc_sets : (shape : Shape) (block : ℕ) (cell : Cell) (held held' : List ℕ) → IsDiscImage shape held → SetsCell (total shape) block cell held held' → IsDiscImage shape held'
disc_sets shape block cell held held' disc sets = record {
  has_header = record { lawful = disc.has_header.lawful; header = sets.header ∙ disc.has_header.header };
  as_long = sets.as_long ∙ disc.as_long;
}

pub disc_after_kill : (shape : Shape) (block : ℕ) (dies : Bool) (before after : Option (List ℕ)) → ForSome before (IsDiscImage shape)
    → MatchBool dies (WhereKnown before after (SetsCell (total shape) block Dead)) (after ≡ before) → ForSome after (IsDiscImage shape)
disc_after_kill shape block false before after disc e = subst (λ o. ForSome o (IsDiscImage shape)) (sym e) disc
disc_after_kill shape block true before after disc known = cases before after disc known
  where
    cases : (o p : Option (List ℕ)) → ForSome o (IsDiscImage shape) → WhereKnown o p (SetsCell (total shape) block Dead) → ForSome p (IsDiscImage shape)
    cases None None d t = d
    cases None (Some held') d t = absurd t
    cases (Some held) None d t = absurd t
    cases (Some held) (Some held') d t = λ x e. subst (IsDiscImage shape) (let both : Some held' ≡ Some x = e in cc) (disc_sets shape block Dead held held' (d held refl) t)

-- the row of blocks that are known to be good, behind an arm that may kill a block: it is empty where one does
pub good_after_kill : (total block from to : ℕ) (dies : Bool) (before after : Option (List ℕ)) → ForSome before (λ held. HaveGoodStates held from to)
    → MatchBool dies (WhereKnown before after (SetsCell total block Dead)) (after ≡ before) → ForSome after (λ held. HaveGoodStates held from (if not dies then to else 0))
good_after_kill total block from to false before after good e = subst (λ o. ForSome o (λ held. HaveGoodStates held from to)) (sym e) good
good_after_kill total block from to true before after good known = λ held is k low high. absurd (omega (arith, high))

-- No such step gives other lists.
use Rattle.std.specs.Prelude.{◌≡◌, ◌≢◌, ℕ, suc, ◌+◌, ◌<◌, Option, List}
use Rattle.std.proofs.lemmas.List.Elements.{All-contains}
use Rattle.model_geometry.proofs.DataBlocks.{data_blocks_bounds}
use Rattle.std.proofs.Common.{arith, sym, ap, ◌∙◌, inl, inr, subst}
use Rattle.std.proofs.lemmas.Bool.{cases_eq}
use Rattle.std.specs.List.{Contains}
use Rattle.model_geometry.specs.Geometry.{Shape, total, lead_out, data_blocks, dds_block, sdl_block, sdl_second_block}
use Rattle.model_geometry.proofs.ListBlocks.{no_data_block_dds, no_data_block_sdl}
use Rattle.model_medium.specs.Cells.{Cell, Dead, IsSameOrDead, cell_at}
use Rattle.model_medium.specs.World.{World, Span, ReadRule, WriteRule}
use Rattle.model_medium.specs.Machine.{Machine}
use Rattle.model_medium.specs.Exact.{Event}
use Rattle.model_medium.specs.declared.ReadEnd.{ReadEnd}
use Rattle.model_medium.specs.declared.ReadEnd.TheVariants as reads
use Rattle.model_medium.specs.declared.WriteEnd.{WriteEnd}
use Rattle.model_medium.specs.declared.WriteEnd.TheVariants as writes
use Rattle.model_medium.specs.declared.WornBlock.{WornBlock}
use Rattle.model_medium.specs.declared.ArmedCut.{ArmedCut}
use Rattle.model_medium.proofs.CellFacts.{cell_at-set_other, cell_at-set_dead}
use Rattle.model_places.specs.Places.{Lists}
use Rattle.model_volume.specs.Given.{IsGiven}
use Rattle.model_volume.proofs.GivenFacts.{given_before, chosen_given, given_seen}
use Rattle.model_volume.proofs.ListCells.{no_data_block_second}
use Rattle.ram_medium.specs.Laws.{machine_shown}
use Rattle.ram_medium.specs.Control.{FailRule, WearRule}
use Rattle.ram_medium.specs.declared.control.FailEnd.{FailEnd}
use Rattle.ram_medium.specs.declared.control.FailEnd.TheVariants as fails
use Rattle.ram_medium.specs.declared.control.Arm.{Arm}
use Rattle.ram_medium.specs.declared.control.Arm.TheVariants as arming
use Rattle.ram_lists.specs.Mounts.{MountRule}
use Rattle.ram_lists.specs.declared.mounting.Mounted.{Mounted}
use Rattle.ram_lists.specs.declared.mounting.Mounted.TheVariants as mounts
use Rattle.ram_quiet.specs.declared.steps.Quiet.{Quiet}
use Rattle.ram_quiet.specs.declared.steps.Quiet.TheVariants as steps
use Rattle.ram_quiet.specs.Steps.{IsLawfulStep, GivesAlone, TellsAlone, MountsAgain, StepRule, Follows, step_at}

-- a data block is on the medium
pub data_inside : (shape : Shape) (block : ℕ) → Contains (data_blocks shape) block → block < total shape
data_inside shape block is =
    let bounds = All-contains (λ b. (7 < b) × (b < lead_out shape)) (data_blocks shape) block (data_blocks_bounds shape) is in
    let least = bounds.1 in
    omega (arith, least)

-- lists that the cells give now they gave before
abbrev pub GivesNoMore : Shape → List Cell → List Cell → Type 0
GivesNoMore shape old new = (other : Lists) → IsGiven shape new other → IsGiven shape old other

pub alone_on : (shape : Shape) (old new : List Cell) (lists : Lists) → GivesNoMore shape old new → GivesAlone shape old lists → GivesAlone shape new lists
alone_on shape old new lists no_more alone other given = alone other (no_more other given)

module _ (shape : Shape) where
  dies_gives : (old new : List Cell) → ((block : ℕ) → IsSameOrDead (cell_at old block) (cell_at new block)) → GivesNoMore shape old new
  dies_gives old new dies other = given_before shape old new other (λ area is. dies (dds_block shape area)) (λ area is. dies (sdl_block shape area)) (λ area is. dies (sdl_second_block shape area))

  same_gives : (old new : List Cell) → new ≡ old → GivesNoMore shape old new
  same_gives old new is other given = subst (λ (cells : List Cell). IsGiven shape cells other) is given

  one_dies : (old new : List Cell) (at : ℕ) → ((other : ℕ) → other ≢ at → cell_at new other ≡ cell_at old other) → IsSameOrDead (cell_at old at) (cell_at new at) → (block : ℕ) → IsSameOrDead (cell_at old block) (cell_at new block)
  one_dies old new at others left block = elim (cases_eq block at) [
    | inl here ↦ subst (λ (b : ℕ). IsSameOrDead (cell_at old b) (cell_at new b)) (sym here) left
    | inr other ↦ inl (others block other)
  ]

  -- a data block is none of the lists'
  data_gives : (old new : List Cell) (at : ℕ) → Contains (data_blocks shape) at → ((other : ℕ) → other ≢ at → cell_at new other ≡ cell_at old other) → GivesNoMore shape old new
  data_gives old new at is_data others other = given_before shape old new other
      (λ area is. inl (others (dds_block shape area) (λ same. no_data_block_dds shape area (subst (Contains (data_blocks shape)) (sym same) is_data))))
      (λ area is. inl (others (sdl_block shape area) (λ same. no_data_block_sdl shape area (subst (Contains (data_blocks shape)) (sym same) is_data))))
      (λ area is. inl (others (sdl_second_block shape area) (λ same. no_data_block_second shape area (subst (Contains (data_blocks shape)) (sym same) is_data))))

  read_gives : (old new : World) (block : ℕ) (room room' : List ℕ) (end : ReadEnd) → ReadRule old new block room room' end → GivesNoMore shape old.cells new.cells
  read_gives old new block room room' reads.Done rule = same_gives old.cells new.cells rule.same
  read_gives old new block room room' reads.Unreadable rule = dies_gives old.cells new.cells (one_dies old.cells new.cells block rule.one.others rule.left)
  read_gives old new block room room' reads.Cut rule = dies_gives old.cells new.cells (one_dies old.cells new.cells block rule.one.others rule.left)
  read_gives old new block room room' reads.Off rule = same_gives old.cells new.cells (ap (λ (w : World). w.cells) rule.0.nothing)
  read_gives old new block room room' reads.Failed rule = dies_gives old.cells new.cells (one_dies old.cells new.cells block rule.one.others rule.left)

  write_gives : (old new : World) (block : ℕ) (room : List ℕ) (end : WriteEnd) → Contains (data_blocks shape) block → WriteRule old new block room end → GivesNoMore shape old.cells new.cells
  write_gives old new block room writes.Done is_data rule = data_gives old.cells new.cells block is_data rule.one.others
  write_gives old new block room writes.Cut is_data rule = data_gives old.cells new.cells block is_data rule.one.others
  write_gives old new block room writes.Off is_data rule = same_gives old.cells new.cells (ap (λ (w : World). w.cells) rule.nothing)
  write_gives old new block room writes.Failed is_data rule = data_gives old.cells new.cells block is_data rule.one.others

  fail_gives : (old new : Machine) (block : ℕ) (end : FailEnd) → FailRule (total shape) old new block end → GivesNoMore shape old.world.cells new.world.cells
  fail_gives old new block fails.Done rule =
      let is = ap (λ (m : Machine). m.world.cells) rule.1 in
      dies_gives old.world.cells new.world.cells (one_dies old.world.cells new.world.cells block
      (λ other ne. ap (λ (l : List Cell). cell_at l other) is ∙ cell_at-set_other old.world.cells block other Dead ne)
      (inr (ap (λ (l : List Cell). cell_at l block) is ∙ cell_at-set_dead old.world.cells block)))
  fail_gives old new block (fails.NoBlock blocks) rule = same_gives old.world.cells new.world.cells (ap (λ (m : Machine). m.world.cells) rule.2)
  fail_gives old new block fails.Failed rule = dies_gives old.world.cells new.world.cells (one_dies old.world.cells new.world.cells block rule.1.others rule.1.left)

  wear_gives : (old new : Machine) (worn : WornBlock) (end : Arm) → WearRule (total shape) old new worn end → GivesNoMore shape old.world.cells new.world.cells
  wear_gives old new worn arming.Set rule = same_gives old.world.cells new.world.cells (ap (λ (m : Machine). m.world.cells) rule.2)
  wear_gives old new worn (arming.NoBlock blocks) rule = same_gives old.world.cells new.world.cells (ap (λ (m : Machine). m.world.cells) rule.2)
  wear_gives old new worn arming.Full rule = same_gives old.world.cells new.world.cells (ap (λ (m : Machine). m.world.cells) rule.2)

module _ {M : Type 0} (world : M → World) (reaches : M → M → Span → Type 0) (takes : M → M → Event → Type 0) (shape : Shape) where
  mounted_gives : (on new : M) (found : Lists) (end : Mounted) → MountRule world reaches shape on new found end → GivesNoMore shape (world on).cells (world new).cells
  mounted_gives on new found mounts.Lists rule = rule.ended.keeps.given
  mounted_gives on new found (mounts.Bare mark) rule = rule.ended.keeps.given
  mounted_gives on new found mounts.Cut rule = rule.keeps.given
  mounted_gives on new found mounts.Off rule = same_gives shape (world on).cells (world new).cells (ap (λ (w : World). w.cells) rule.nothing)
  mounted_gives on new found mounts.Fault rule = rule.keeps.given

  -- turning the power off and on changes no cell
  same_cells : (old new : M) (found : Lists) (end : Mounted) (m : MountsAgain world reaches takes shape old new found end) → (world m.on).cells ≡ (world old).cells
  same_cells old new found end m = ap (λ (w : World). w.cells) m.turns_on ∙ ap (λ (w : World). w.cells) m.turns_off

  pub mount_gives : (old new : M) (found : Lists) (end : Mounted) → MountsAgain world reaches takes shape old new found end → GivesNoMore shape (world old).cells (world new).cells
  mount_gives old new found end m other given = subst (λ (cells : List Cell). IsGiven shape cells other) (same_cells old new found end m) (mounted_gives m.on new found end m.rule other given)

  -- and a mount that found lists found those that were given
  found_alone : (on new : M) (lists found : Lists) (end : Mounted) → GivesAlone shape (world on).cells lists → MountRule world reaches shape on new found end → TellsAlone (world new) lists found end
  found_alone on new lists found mounts.Lists alone rule = λ known.
      alone found (given_seen shape (world on).cells rule.finds.seen (world new).cells found rule.finds.are_seen
      (chosen_given shape rule.finds.seen found (rule.finds.chosen (sym rule.ended.keeps.as_known ∙ known))))
  found_alone on new lists found (mounts.Bare mark) alone rule = tt
  found_alone on new lists found mounts.Cut alone rule = tt
  found_alone on new lists found mounts.Off alone rule = tt
  found_alone on new lists found mounts.Fault alone rule = tt

  pub tells_alone : (old new : M) (lists found : Lists) (end : Mounted) → GivesAlone shape (world old).cells lists → MountsAgain world reaches takes shape old new found end → TellsAlone (world new) lists found end
  tells_alone old new lists found end alone m = found_alone m.on new lists found end (subst (λ (cells : List Cell). GivesAlone shape cells lists) (sym (same_cells old new found end m)) alone) m.rule

  module _ (arms : M → List WornBlock) (armed_cut : M → Option ArmedCut) where
    pub step_gives : (old new : M) (room room' : List ℕ) (step : Quiet) → IsLawfulStep shape step → StepRule world reaches takes arms armed_cut shape old room step new room' → GivesNoMore shape (world old).cells (world new).cells
    step_gives old new room room' (steps.Read block) lawful p = read_gives shape (world old) (world new) block room room' p.end p.rule
    step_gives old new room room' (steps.Write block) lawful p = write_gives shape (world old) (world new) block room p.0.end lawful p.0.rule
    step_gives old new room room' steps.Mount lawful p = mount_gives old new p.0.0 p.0.1 p.0.2
    step_gives old new room room' (steps.Fail block) lawful p = fail_gives shape (machine_shown world arms armed_cut old) (machine_shown world arms armed_cut new) block p.0.0 p.0.1
    step_gives old new room room' (steps.Wear block n) lawful p = wear_gives shape (machine_shown world arms armed_cut old) (machine_shown world arms armed_cut new) (record { block = block; left = n }) p.0.0 p.0.1
    step_gives old new room room' (steps.Cut n fate) lawful p = same_gives shape (world old).cells (world new).cells (ap (λ (m : Machine). m.world.cells) p.0)

    -- one more step
    pub one_more : (all : List Quiet) (k : ℕ) (start : M) (room : List ℕ) (before : M) (room_before : List ℕ) (now : M) (room' : List ℕ) → Follows world reaches takes arms armed_cut shape all k start room before room_before
        → StepRule world reaches takes arms armed_cut shape before room_before (step_at all k) now room' → Follows world reaches takes arms armed_cut shape all (k + 1) start room now room'
    one_more all k start room before room_before now room' leads step =
        subst (λ (n : ℕ). Follows world reaches takes arms armed_cut shape all n start room now room') (let same : suc k ≡ k + 1 = omega arith in same) (before, room_before, leads, step)

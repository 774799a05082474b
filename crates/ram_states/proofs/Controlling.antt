-- What a drive stands for, and what its state keeps, while blocks of its medium are made to fail or are armed.
use Rattle.std.proofs.Common.{◌≡◌, ℕ, List, inl, inr, sym, ap, ◌∙◌, subst, refl, arith}
use Rattle.model_geometry.specs.Geometry.{Shape, total, dds_block, sdl_block}
use Rattle.model_lists.specs.Texts.{IsDdsText}
use Rattle.model_medium.specs.Cells.{Cell, Dead, IsSameOrDead, cell_at}
use Rattle.model_medium.specs.World.{World}
use Rattle.model_medium.specs.Machine.{Machine}
use Rattle.model_medium.specs.declared.WornBlock.{WornBlock}
use Rattle.model_medium.proofs.CellFacts.{cell_at-set_other, cell_at-set_dead}
use Rattle.model_sectors.specs.Discs.{Standing, On, Off, candidates}
use Rattle.model_copies.specs.Parts.{Names, AreMarkedWithin}
use Rattle.model_copies.proofs.CopyFacts.{copy_before}
use Rattle.model_volume.specs.Given.{GivesNone}
use Rattle.model_drive.specs.Shown.{Shown, IsOn, cells_in, StandsFor}
use Rattle.model_drive.specs.Parts.{KeepsLists, AreSameOrDead}
use Rattle.model_drive.proofs.Dying.{one_dies, given_dies, same_on, same_off, same_candidates}
use Rattle.ram_medium.specs.Control.{FailRule, WearRule, FailsInSync, SyncOnMedium}
use Rattle.ram_medium.specs.declared.control.FailEnd.{FailEnd}
use Rattle.ram_medium.specs.declared.control.FailEnd.TheVariants as fails
use Rattle.ram_medium.specs.declared.control.SyncEnd.{SyncEnd}
use Rattle.ram_medium.specs.declared.control.SyncEnd.TheVariants as syncs
use Rattle.ram_medium.specs.declared.control.Arm.{Arm}
use Rattle.ram_medium.specs.declared.control.Arm.TheVariants as arming
use Rattle.ram_transfer.specs.Shown.{shown_without}
use Rattle.ram_states.specs.Control.{KeepsMemory, LosesMemory, FailStands, SyncOnDrive, SyncStands}

-- ---- cells that die

-- by the failure of a block no cell changes but that one, which dies
pub cells_die : (shape : Shape) (total : ℕ) (old new : Machine) (block : ℕ) (end : FailEnd) → FailRule total old new block end → AreSameOrDead old.world.cells new.world.cells
cells_die shape total old new block fails.Done rule =
    let is = ap (λ (m : Machine). m.world.cells) rule.1 in
    one_dies (shown_without shape old) (shown_without shape new) block (record {
      others = λ other ne. ap (λ (l : List Cell). cell_at l other) is ∙ cell_at-set_other old.world.cells block other Dead ne;
      left = inr (ap (λ (l : List Cell). cell_at l block) is ∙ cell_at-set_dead old.world.cells block);
    })
cells_die shape total old new block (fails.NoBlock blocks) rule = λ other. inl (ap (λ (m : Machine). cell_at m.world.cells other) rule.2)
cells_die shape total old new block fails.Failed rule =
    one_dies (shown_without shape old) (shown_without shape new) block (record { others = rule.1.others; left = rule.1.left })

named_before : (old new : Cell) (counter : ℕ) → IsSameOrDead old new → Names new counter → Names old counter
named_before old new counter (inl same) names = subst (λ (c : Cell). Names c counter) same names
named_before old new counter (inr dead) names = absurd (subst (λ (c : Cell). Names c counter) dead names)

-- a mark of the disc stays one
pub marked_dies : (shape : Shape) (old new : List Cell) (mark : ℕ) → AreSameOrDead old new → AreMarkedWithin shape old mark → AreMarkedWithin shape new mark
marked_dies shape old new mark dies marked = record {
  dds = λ v area copy. marked.dds v area (copy_before IsDdsText (dds_block shape) old new v area (dies (dds_block shape area)) copy);
  sdl = λ counter area is names. marked.sdl counter area is (named_before (cell_at old (sdl_block shape area)) (cell_at new (sdl_block shape area)) counter (dies (sdl_block shape area)) names);
}

pub bare_dies : (shape : Shape) (old new : List Cell) → AreSameOrDead old new → GivesNone shape old → GivesNone shape new
bare_dies shape old new dies none = λ lists given. none lists (given_dies shape old new dies lists given)

-- ---- arms

-- the arming of a block changes nothing but the arms
pub worn_world : (total : ℕ) (old new : Machine) (worn : WornBlock) (end : Arm) → WearRule total old new worn end → new.world ≡ old.world
worn_world total old new worn arming.Set rule = ap (λ (m : Machine). m.world) rule.2
worn_world total old new worn (arming.NoBlock blocks) rule = ap (λ (m : Machine). m.world) rule.2
worn_world total old new worn arming.Full rule = ap (λ (m : Machine). m.world) rule.2

-- ---- all is to last

-- no cell of a medium that did not change has
pub cells_stay : (old new : Machine) → new ≡ old → AreSameOrDead old.world.cells new.world.cells
cells_stay old new same = λ other. inl (ap (λ (m : Machine). cell_at m.world.cells other) same)

-- a failure in it is one that a block's failure may end with
fails_alike : (old new : Machine) → FailsInSync old new → FailRule 1 old new 0 fails.Failed
fails_alike old new failed = (
  omega arith,
  record {
    turns_off = failed.turns_off;
    fault = failed.fault;
    same_label = failed.same_label;
    as_known = failed.as_known;
    uses_same = failed.uses_same;
    cuts_same = failed.cuts_same;
    others = λ other ne. ap (λ (l : List Cell). cell_at l other) failed.same_cells;
    left = inl (ap (λ (l : List Cell). cell_at l 0) failed.same_cells);
    arms_same = failed.arms_same;
    cut_same = failed.cut_same;
  },
)

-- what a drive shows whose power is off
pub off_synced : (shape : Shape) (old new : Machine) (end : SyncEnd) → SyncOnMedium old new end → SyncOnDrive (shown_without shape old) (shown_without shape new) end
off_synced shape old new syncs.Done same = ap (λ (m : Machine). shown_without shape m) same
off_synced shape old new syncs.Failed failed = (failed, record { same_shape = refl; no_lists = refl; no_mark = refl; no_buffer = refl })

-- ---- what the drive stands for

module _ (old new : Shown) where
  keeps_lists : KeepsMemory old new → KeepsLists old new
  keeps_lists keeps = record { same_lists = keeps.same_lists; same_mark = keeps.same_mark }

  still : KeepsMemory old new → new.medium.world.known ≡ old.medium.world.known → new.medium.world.power ≡ old.medium.world.power → AreSameOrDead (cells_in old) (cells_in new)
      → (s : Standing) → StandsFor old s → StandsFor new s
  still keeps known power dies (On disc) stood =
      same_on old new keeps.same_shape known (keeps_lists keeps) keeps.same_buffer (power ∙ stood.1) dies disc stood
  still keeps known power dies (Off discs) stood =
      same_candidates old new keeps.same_shape known (λ on. stood.1 (sym power ∙ on)) dies discs stood

  gone : new.shape ≡ old.shape → new.medium.world.known ≡ old.medium.world.known → ¬ IsOn new → AreSameOrDead (cells_in old) (cells_in new)
      → (s : Standing) → StandsFor old s → StandsFor new (Off (candidates s))
  gone shape known off dies (On disc) stood = same_off old new shape known off dies disc stood
  gone shape known off dies (Off discs) stood = same_candidates old new shape known off dies discs stood

  -- nothing changed but arms
  pub stands_armed : KeepsMemory old new → new.medium.world ≡ old.medium.world → (s : Standing) → StandsFor old s → StandsFor new s
  stands_armed keeps same = still keeps (ap (λ (w : World). w.known) same) (ap (λ (w : World). w.power) same) (λ block. inl (ap (λ (w : World). cell_at w.cells block) same))

  -- the block is dead
  pub stands_done : (total block : ℕ) → KeepsMemory old new → FailRule total old.medium new.medium block fails.Done → (s : Standing) → StandsFor old s → FailStands new s fails.Done
  stands_done total block keeps rule =
      still keeps (ap (λ (m : Machine). m.world.known) rule.1) (ap (λ (m : Machine). m.world.power) rule.1) (cells_die old.shape total old.medium new.medium block fails.Done rule)

  -- what the medium lies on failed
  pub stands_failed : (total block : ℕ) → LosesMemory old new → FailRule total old.medium new.medium block fails.Failed → (s : Standing) → StandsFor old s → FailStands new s fails.Failed
  stands_failed total block loses rule =
      gone loses.same_shape rule.1.as_known rule.1.turns_off (cells_die old.shape total old.medium new.medium block fails.Failed rule)

  -- whatever came of it, where nothing is kept in memory in any case
  pub stands_off : (total block : ℕ) (end : FailEnd) → KeepsMemory old new → LosesMemory old new → FailRule total old.medium new.medium block end → (s : Standing) → StandsFor old s → FailStands new s end
  stands_off total block fails.Done keeps loses rule = stands_done total block keeps rule
  stands_off total block (fails.NoBlock blocks) keeps loses rule = stands_armed keeps (ap (λ (m : Machine). m.world) rule.2)
  stands_off total block fails.Failed keeps loses rule = stands_failed total block loses rule

  -- all was to last
  pub stands_synced : (end : SyncEnd) → SyncOnDrive old new end → (s : Standing) → StandsFor old s → SyncStands new s end
  stands_synced syncs.Done same s stood = subst (λ (shown : Shown). StandsFor shown s) (sym same) stood
  stands_synced syncs.Failed rule s stood = stands_failed 1 0 rule.1 (fails_alike old.medium new.medium rule.0) s stood

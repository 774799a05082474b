-- That a stopped call loses one copy of a list at most.
use Rattle.std.specs.Prelude.{◌≡◌, ℕ, ◌+◌, Bool, List}
use Rattle.std.proofs.Common.{sym, ap, inl, inr, subst}
use Rattle.std.proofs.lemmas.Bool.{cases_eq}
use Rattle.model_geometry.specs.Geometry.{Shape, dds_block, sdl_block, sdl_second_block}
use Rattle.model_lists.specs.declared.versions.Version.{Version}
use Rattle.model_lists.specs.declared.versions.Version.TheVariants.{Two}
use Rattle.model_lists.specs.Values.{Dds}
use Rattle.model_lists.specs.Texts.{IsDdsText}
use Rattle.model_medium.specs.Cells.{Cell, IsSameOrDead, cell_at}
use Rattle.model_stops.specs.declared.Stop.{Stop}
use Rattle.model_copies.specs.Copies.{IsArea, Holds, HoldsOrDead, HasDdsCopy, Settled}
use Rattle.model_places.specs.Places.{Lists}
use Rattle.model_volume.specs.Expansions.{lists_expanded}
use Rattle.model_volume.proofs.Updates.{dds_no_sdl, dds_no_second}
use Rattle.model_survival.specs.Findable.{DdsLives, SdlLives}
use Rattle.model_survival.specs.Losing.{LosesOneDds, LosesOneSdl, LosesOneAtMost, HaveOneVersion}
use Rattle.model_survival.proofs.Finding.{alive_holds, lives_has}
use Rattle.model_survival.proofs.Losing.{dds_lost, sdl_lost, sdl_died, settled_lost, died_lost, mount_lost}
use Rattle.model_formats.specs.Fresh.{formatting_dds, formatted_dds, fresh_sdl}
use Rattle.model_formats.specs.Leaving.{FormatsLast, FormatsInPart}
use Rattle.model_drive.specs.Shown.{Shown, IsKnown, cells_in, home}
use Rattle.model_sectors.specs.Requests.{block_with}
use Rattle.model_drive.specs.Power.{StopsInMount}
use Rattle.model_drive.specs.Reads.{StopsInRead}
use Rattle.model_drive.specs.Course.{MovesInPart, LeavesPlacing}
use Rattle.model_drive.specs.Writes.{StopsInWrite, next_block}
use Rattle.model_drive.specs.Expands.{ssa_for, StopsInExpansion}
use Rattle.model_drive.specs.Rewriting.{StopsInRewrite}
use Rattle.model_drive.specs.FullFormats.{StopsInFormat}

-- a structure that is settled has a copy in each area whose cell is not dead
dds_there : (shape : Shape) (cells : List Cell) (dds : Dds) → Settled IsDdsText (dds_block shape) cells dds → (area : ℕ) → IsArea area → DdsLives shape cells area → HasDdsCopy shape cells dds area
dds_there shape cells dds settled area is lives = record { is_area = is; holds = alive_holds IsDdsText (cell_at cells (dds_block shape area)) dds (settled area is) lives }

module _ (shape : Shape) (old new : List Cell) where
  dds_settled_lost : (dds : Dds) → Settled IsDdsText (dds_block shape) new dds → LosesOneDds shape old new
  dds_settled_lost dds settled = record { at = 0; others = λ v area copy other lives. (dds, dds_there shape new dds settled area copy.is_area lives) }

  -- ---- a write

  module _ (reached : Lists) (i : ℕ) where
    moves_lost : MovesInPart shape new reached i → LosesOneAtMost shape old new reached.sdl.version
    moves_lost part = record {
      dds = dds_settled_lost reached.dds (λ area is. subst (λ (c : Cell). HoldsOrDead IsDdsText c reached.dds) (sym (part.same_dds area is)) (part.settled.dds area is));
      sdl = record {
        at = lost.at;
        others = λ v area same copy other lives. lost.others reached.sdl area (sym version) (lives_has shape part.before reached.sdl area part.settled.sdl copy.is_area (lived area copy.is_area lives)) other
            (subst (λ (e : Version). SdlLives shape new e area) (sym version) lives);
      };
    }
      where
        lost : LosesOneSdl shape part.before new part.moved.sdl.version
        lost = sdl_lost shape part.before new part.moved.sdl part.left

        version : part.moved.sdl.version ≡ reached.sdl.version
        version = ap (λ (l : Lists). l.sdl.version) part.is_moved.lists_are

        lived : (area : ℕ) → IsArea area → SdlLives shape new reached.sdl.version area → SdlLives shape part.before reached.sdl.version area
        lived area is lives = record {
          first = λ dead. lives.first (part.left.stays_dead.firsts area is dead);
          second = λ two dead. lives.second two (part.left.stays_dead.seconds area is dead);
        }

    placing_lost : LeavesPlacing shape new reached i → LosesOneAtMost shape old new reached.sdl.version
    placing_lost (inl settled) = settled_lost shape old new reached settled
    placing_lost (inr part) = moves_lost part

  -- ---- a full format

  module _ (mark : ℕ) where
    last_dds : FormatsLast shape old new mark → LosesOneDds shape old new
    last_dds part =
        let lost = dds_lost shape part.before new (formatted_dds shape mark part.entries) part.dds in record {
          at = lost.at;
          others = λ v area copy other lives. lost.others (formatting_dds shape mark) area
              (dds_there shape part.before (formatting_dds shape mark) part.formatting area copy.is_area (λ dead. lives (part.dds.stays_dead area copy.is_area dead))) other lives;
        }

    format_lost : FormatsInPart shape old new mark → LosesOneAtMost shape old new Two
    format_lost (inl first) = record { dds = dds_lost shape old new (formatting_dds shape mark) first.dds; sdl = sdl_died shape old new Two first.sdl }
    format_lost (inr (inl part)) = record { dds = dds_settled_lost (formatting_dds shape mark) part.dds; sdl = sdl_lost shape old new (fresh_sdl mark) part.sdl }
    format_lost (inr (inr last)) = record {
      dds = last_dds last;
      sdl = record { at = 0; others = λ v area same copy other lives. (fresh_sdl mark, lives_has shape new (fresh_sdl mark) area (λ _. last.sdl) copy.is_area lives) };
    }

module _ (old new : Shown) where
  pub mount_one : (stop : Stop) (version : Version) → IsKnown old → HaveOneVersion old.shape (cells_in old) version → StopsInMount old new stop → LosesOneAtMost old.shape (cells_in old) (cells_in new) version
  mount_one stop version known one stops = mount_lost old.shape (cells_in old) (cells_in new) version one (stops.left known)

  pub read_one : (lba n most : ℕ) (stop : Stop) (version : Version) → StopsInRead old new lba n most stop → LosesOneAtMost old.shape (cells_in old) (cells_in new) version
  read_one lba n most stop version stops = died_lost old.shape (cells_in old) (cells_in new) version (record {
    dds = λ area is. dies (dds_block old.shape area);
    sdl = record { firsts = λ area is. dies (sdl_block old.shape area); seconds = λ area is. dies (sdl_second_block old.shape area) };
  })
    where
      dies : (block : ℕ) → IsSameOrDead (cell_at (cells_in old) block) (cell_at (cells_in new) block)
      dies block = elim (cases_eq block (home old (block_with lba + stops.before))) [
        | inl here ↦ subst (λ (b : ℕ). IsSameOrDead (cell_at (cells_in old) b) (cell_at (cells_in new) b)) (sym here) stops.dies.left
        | inr other ↦ inl (stops.dies.others block other)
      ]

  pub write_one : (lba n : ℕ) (stop : Stop) → IsKnown old → (stops : StopsInWrite old new lba n stop) → LosesOneAtMost old.shape (cells_in old) (cells_in new) stops.reached.sdl.version
  write_one lba n stop known stops = placing_lost old.shape (cells_in old) (cells_in new) stops.reached (next_block lba stops.course) (stops.left known)

  pub expand_one : (sectors : ℕ) (stop : Stop) → IsKnown old → (stops : StopsInExpansion old new sectors stop) → LosesOneAtMost old.shape (cells_in old) (cells_in new) stops.lists.sdl.version
  expand_one sectors stop known stops = record {
    dds = record {
      at = 0;
      others = λ v area copy other lives. (v, record { is_area = copy.is_area; holds = subst (λ (c : Cell). Holds IsDdsText c v) (sym (same area)) copy.holds });
    };
    sdl = sdl_lost old.shape (cells_in old) (cells_in new) (lists_expanded old.shape stops.lists (ssa_for old.shape sectors)).sdl (stops.left known);
  }
    where
      same : (area : ℕ) → cell_at (cells_in new) (dds_block old.shape area) ≡ cell_at (cells_in old) (dds_block old.shape area)
      same area = stops.any.only (dds_block old.shape area) (λ at is clash. dds_no_sdl old.shape area at clash) (λ at is clash. dds_no_second old.shape area at clash)

  pub rewrite_one : (lists : Lists) (stop : Stop) → IsKnown old → StopsInRewrite old new lists stop → LosesOneAtMost old.shape (cells_in old) (cells_in new) lists.sdl.version
  rewrite_one lists stop known stops =
      let left = stops.left known in
      record { dds = dds_lost old.shape (cells_in old) (cells_in new) lists.dds left.dds.left; sdl = sdl_lost old.shape (cells_in old) (cells_in new) lists.sdl left.sdl.left }

  pub format_one : (drop_sdl : Bool) (stop : Stop) → IsKnown old → StopsInFormat old new drop_sdl stop → LosesOneAtMost old.shape (cells_in old) (cells_in new) Two
  format_one drop_sdl stop known stops = format_lost old.shape (cells_in old) (cells_in new) old.mark (stops.left known)

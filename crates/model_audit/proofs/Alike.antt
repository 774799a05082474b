-- Cells that are alike choose the same lists; and what a call saw is alike where no cell turned dead.
use Rattle.std.proofs.Common.{◌≡◌, ℕ, List, sym, ◌∙◌, inl, inr, subst}
use Rattle.model_geometry.specs.Geometry.{Shape, dds_block, sdl_block, sdl_second_block}
use Rattle.model_medium.specs.Cells.{Cell, cell_at}
use Rattle.model_lists.specs.Values.{Dds, Sdl}
use Rattle.model_lists.specs.Texts.{IsDdsText, IsSdlText, IsSdlSecond}
use Rattle.model_copies.specs.Copies.{Holds, HasDdsCopy}
use Rattle.model_copies.specs.Parts.{HasSdlCopy}
use Rattle.model_places.specs.Places.{Lists}
use Rattle.model_volume.specs.Given.{AreChosen, AreSeen}
use Rattle.model_audit.specs.Reading.{NoneDies}

abbrev pub AreAlike : List Cell → List Cell → Type 0
AreAlike a b = (block : ℕ) → cell_at a block ≡ cell_at b block

module _ (shape : Shape) (a b : List Cell) (alike : AreAlike a b) where
  dds_moves : (v : Dds) (area : ℕ) → HasDdsCopy shape a v area → HasDdsCopy shape b v area
  dds_moves v area copy = record {
    is_area = copy.is_area;
    holds = subst (λ (c : Cell). Holds IsDdsText c v) (alike (dds_block shape area)) copy.holds;
  }

  sdl_moves : (v : Sdl) (area : ℕ) → HasSdlCopy shape a v area → HasSdlCopy shape b v area
  sdl_moves v area copy = record {
    is_area = copy.is_area;
    is_area' = copy.is_area';
    holds = subst (λ (c : Cell). Holds IsSdlText c v) (alike (sdl_block shape area)) copy.holds;
    holds' = λ two. subst (λ (c : Cell). Holds IsSdlSecond c v) (alike (sdl_second_block shape area)) (copy.holds' two);
  }

  dds_back : (v : Dds) (area : ℕ) → HasDdsCopy shape b v area → HasDdsCopy shape a v area
  dds_back v area copy = record {
    is_area = copy.is_area;
    holds = subst (λ (c : Cell). Holds IsDdsText c v) (sym (alike (dds_block shape area))) copy.holds;
  }

  sdl_back : (v : Sdl) (area : ℕ) → HasSdlCopy shape b v area → HasSdlCopy shape a v area
  sdl_back v area copy = record {
    is_area = copy.is_area;
    is_area' = copy.is_area';
    holds = subst (λ (c : Cell). Holds IsSdlText c v) (sym (alike (sdl_block shape area))) copy.holds;
    holds' = λ two. subst (λ (c : Cell). Holds IsSdlSecond c v) (sym (alike (sdl_second_block shape area))) (copy.holds' two);
  }

  pub chosen_moves : (lists : Lists) → AreChosen shape a lists → AreChosen shape b lists
  chosen_moves lists chosen = record {
    dds_area = chosen.dds_area;
    dds_chosen = record {
      copy = dds_moves lists.dds chosen.dds_area chosen.dds_chosen.copy;
      fits = chosen.dds_chosen.fits;
      no_better = λ other at copy fits. chosen.dds_chosen.no_better other at (dds_back other at copy) fits;
    };
    sdl_area = chosen.sdl_area;
    sdl_chosen = record {
      copy = sdl_moves lists.sdl chosen.sdl_area chosen.sdl_chosen.copy;
      fits = chosen.sdl_chosen.fits;
      no_better = λ other at copy fits. chosen.sdl_chosen.no_better other at (sdl_back other at copy) fits;
    };
    formatted = chosen.formatted;
  }

pub seen_alike : (shape : Shape) (old seen new : List Cell) → AreSeen shape old seen new → NoneDies old new → AreAlike seen old
seen_alike shape old seen new sees none block = elim (sees block) [
  | inl same ↦ same
  | inr dead ↦ dead.0 ∙ sym (none block dead.1)
]

pub alike_back : (a b : List Cell) → AreAlike a b → AreAlike b a
alike_back a b alike block = sym (alike block)

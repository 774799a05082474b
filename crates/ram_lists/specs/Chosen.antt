-- What the choice of both lists does, which a mount begins with: for `choose_lists`, and by what it finds for `find_lists`. (This
-- project's own, as all here.)
use Rattle.std.specs.Prelude.{◌≡◌, ℕ, ◌≤◌, ◌⊎◌, true, Option, Some, None, List}
use Rattle.model_geometry.specs.Geometry.{Shape}
use Rattle.model_lists.specs.Values.{Dds, IsLawfulDds, IsLawfulSdl}
use Rattle.model_medium.specs.Cells.{Cell}
use Rattle.model_medium.specs.World.{World, Span}
use Rattle.model_copies.specs.Parts.{Mark}
use Rattle.model_places.specs.Places as places
use Rattle.model_places.specs.Valid.{AreValid}
use Rattle.model_volume.specs.Given.{AreChosen, ChoosesNone}
use Rattle.ram_lists.specs.declared.choosing.FoundLists.{FoundLists}
use Rattle.ram_lists.specs.declared.choosing.FoundLists.TheVariants as founds
use Rattle.ram_zones.specs.declared.list_kind.ListKind.TheVariants as kinds
use Rattle.ram_copies.specs.Values.{ListValue, DdsValue, SdlValue}
use Rattle.ram_copies.specs.Choices.{best_in}
use Rattle.ram_copies.specs.Chooses.{HasChosen}
use Rattle.ram_lists.specs.Lists.{AcceptsDds, AcceptsSdl, AcceptsNothing}

-- which secondary lists are accepted: those that belong to the structure that was chosen, if one was
abbrev pub AcceptsBelow : Shape → Dds → Option ℕ → ListValue → Type 0
AcceptsBelow shape dds None = AcceptsNothing
AcceptsBelow shape dds (Some area) = AcceptsSdl shape dds

-- First the structure was chosen, if one is accepted; then the secondary list under it. The mark is the greater one of both
-- choices'.
pub record ChoosesBoth {M : Type 0} (world : M → World) (reaches : M → M → Span → Type 0) (shape : Shape) (old new : M)
    (lists : places.Lists) (dds_area sdl_area : Option ℕ) (mark : ℕ) : Type 0 where
  pub mid : M
  pub dds_mark : ℕ
  pub dds : HasChosen world reaches kinds.Dds shape old mid (AcceptsDds shape) (best_in dds_area (DdsValue lists.dds)) dds_mark
  pub sdl_mark : ℕ
  pub sdl : HasChosen world reaches kinds.Sdl shape mid new (AcceptsBelow shape lists.dds dds_area)
      (best_in sdl_area (SdlValue lists.sdl)) sdl_mark
  pub no_less : dds_mark ≤ mark
  pub no_less' : sdl_mark ≤ mark
  pub one_of_both : (mark ≡ dds_mark) ⊎ (mark ≡ sdl_mark)

-- These lists are chosen, in these areas.
pub record AreChosenIn (shape : Shape) (cells : List Cell) (lists : places.Lists) (dds_area sdl_area : ℕ) : Type 0 where
  pub chosen : AreChosen shape cells lists
  pub dds_there : chosen.dds_area ≡ dds_area
  pub sdl_there : chosen.sdl_area ≡ sdl_area

-- The lists are valid and of their grammar, and are those that are chosen among the copies, where these are known.
pub record FindsBoth (shape : Shape) (now : World) (lists : places.Lists) (dds_area sdl_area : ℕ) : Type 0 where
  pub valid : AreValid shape lists
  pub lawful_dds : IsLawfulDds lists.dds
  pub lawful_sdl : IsLawfulSdl lists.sdl
  pub chosen : now.known ≡ true → AreChosenIn shape now.cells lists dds_area sdl_area

-- No lists are chosen among the copies, where these are known, and this is their mark.
pub record FindsNeither (shape : Shape) (now : World) (mark : ℕ) : Type 0 where
  pub none : now.known ≡ true → ChoosesNone shape now.cells
  pub mark_is : now.known ≡ true → Mark shape now.cells mark

-- What was found, with the lists in the room.
abbrev pub FoundRule : Shape → World → places.Lists → FoundLists → Type 0
FoundRule shape now lists (founds.Lists dds_area sdl_area) = FindsBoth shape now lists dds_area sdl_area
FoundRule shape now lists (founds.Bare mark) = FindsNeither shape now mark

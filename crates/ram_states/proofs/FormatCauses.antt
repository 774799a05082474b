-- From the rule of a full format to the cause of its answer, one lemma for each.
use Rattle.std.proofs.Common.{◌≡◌, ℕ, ◌+◌, ◌-◌, ◌*◌, ◌⊎◌, inl, inr, Bool, Option, Some, None, List, [], length, refl, ap, subst}
use Rattle.std.specs.List.{Contains}
use Rattle.model_geometry.specs.Geometry.{Shape, data_blocks}
use Rattle.model_lists.specs.declared.dds.PdlEntry.{PdlEntry}
use Rattle.model_lists.specs.declared.dds.PdlKind.{PdlKind}
use Rattle.model_medium.specs.World.{World, Span}
use Rattle.model_medium.specs.Machine.{Machine}
use Rattle.model_medium.specs.Exact.{Event}
use Rattle.model_medium.specs.Reach.{Reach}
use Rattle.model_medium.specs.declared.WornBlock.{WornBlock}
use Rattle.model_medium.specs.declared.ArmedCut.{ArmedCut}
use Rattle.model_stops.specs.declared.Stop.{Stop}
use Rattle.model_places.specs.Places.{Lists}
use Rattle.model_formats.specs.Defects.{IsKept, kind_found}
use Rattle.model_drive.specs.declared.FormatOut.TheVariants as outs
use Rattle.model_drive.specs.Shown.{Shown, WhenKnown}
use Rattle.model_drive.specs.FullFormats.{uses_to_certify, uses_to_sdl, uses_of_format, FormatsAny, HasFoundDefective, AreFewDefective, StopsInFormat, FullCause}
use Rattle.ram_medium.specs.Laws.{ControlLaws, machine_shown}
use Rattle.ram_format.specs.Keeping.{AreAllKept}
use Rattle.ram_format.specs.Full.{uses_of_two, uses_of_three, uses_of_all, FormatGoes, AreDefects, AreFewDefects, MakesLists, MeetsTooMany, LosesFirst, LosesSecond, LosesThird, FormatStopped}
use Rattle.ram_transfer.specs.Shown.{shown_without, shown_unformatted, shown_under}
use Rattle.ram_transfer.proofs.Machines.{machine_stops}
use Rattle.ram_states.proofs.SameKept.{same_certified, same_changes, same_defective, still_few}

module _ {M : Type 0} (world : M → World) (reaches : M → M → Span → Type 0) (takes : M → M → Event → Type 0) (arms : M → List WornBlock) (armed_cut : M → Option ArmedCut)
    (laws : ControlLaws world reaches takes arms armed_cut) (shape : Shape) (lists : Option Lists) (mark : ℕ) (buffer : List (ℕ × List ℕ)) (drop_sdl : Bool)
    (kept : List PdlEntry) (all : AreAllKept lists drop_sdl kept) (old new : M) where
  abbrev machine : M → Machine
  machine m = machine_shown world arms armed_cut m

  abbrev kind : PdlKind
  kind = kind_found lists

  abbrev pub before : Shown
  before = record { shape = shape; medium = machine old; lists = lists; mark = mark; buffer = buffer }

  abbrev after : Option Lists → ℕ → Shown
  after made left = record { shape = shape; medium = machine new; lists = made; mark = left; buffer = [] }

  -- the uses, by how many entries are kept
  two_are : uses_of_two world reaches shape kept kind mark old new ≡ uses_to_certify before drop_sdl
  two_are = ap (λ (n : ℕ). 8 + 2 * (length (data_blocks shape) - n)) all.count_is

  three_are : uses_of_three world reaches shape kept kind mark old new ≡ uses_to_sdl before drop_sdl
  three_are = ap (λ (n : ℕ). n + 16) two_are

  all_are : uses_of_all world reaches shape kept kind mark old new ≡ uses_of_format before drop_sdl
  all_are = ap (λ (n : ℕ). n + 8) three_are

  any : (uses uses' : ℕ) → uses ≡ uses' → (made : Option Lists) (left : ℕ) → FormatGoes world reaches shape kept kind mark old new uses → FormatsAny before (after made left) drop_sdl uses'
  any uses uses' same made left goes = record {
    was_on = goes.was_on;
    room = goes.room;
    ends = record { reach = subst (Reach (machine old) (machine new)) same (laws.reach old new uses goes.continues.reach); is_on = goes.continues.is_on };
    only = same_changes shape (Contains kept) (IsKept lists drop_sdl) all.each all.all (world old).cells (world new).cells goes.only;
    unbuffered = refl;
  }

  found : (made : Option Lists) (left : ℕ) (entries : List PdlEntry) → AreDefects world reaches shape kept kind mark old new entries → HasFoundDefective before (after made left) drop_sdl entries
  found made left entries are = record {
    defective = λ known. same_defective shape (Contains kept) (IsKept lists drop_sdl) all.each all.all kind (world new).cells entries (are.defective known);
    zeroed = λ known. same_certified shape (Contains kept) (IsKept lists drop_sdl) all.each all.all (world new).cells (are.certified known);
  }

  few : (made : Option Lists) (left : ℕ) → AreFewDefects world reaches shape kept kind mark old new → WhenKnown before (AreFewDefective before (after made left) drop_sdl)
  few made left are known others too =
      let defective = same_defective shape (Contains kept) (IsKept lists drop_sdl) all.each all.all kind (world new).cells are.entries (are.defects.defective known) in
      still_few shape (IsKept lists drop_sdl) kind (world new).cells are.entries others defective too are.few

  -- the disc is formatted
  pub good_cause : (made : Lists) → MakesLists world reaches shape kept kind mark old new made → FullCause before (shown_under shape (machine new) made []) drop_sdl outs.Good
  good_cause made makes = record {
    any = any _ _ all_are (Some made) made.dds.counter makes.goes;
    entries = makes.entries;
    lists_are = ap Some makes.lists_are;
    mark_is = ap (λ (l : Lists). l.dds.counter) makes.lists_are;
    few = makes.few;
    certified = found (Some made) made.dds.counter makes.entries makes.defects;
    has_dds = makes.has_dds;
    has_sdl = makes.has_sdl;
  }

  -- more blocks are defective than may be slipped
  pub many_cause : (count left : ℕ) → MeetsTooMany world reaches shape kept kind mark old new count left → FullCause before (shown_unformatted shape (machine new) left) drop_sdl (outs.TooMany count)
  many_cause count left meets = record {
    any = any _ _ two_are None left meets.goes;
    no_lists = refl;
    mark_is = meets.left_is;
    entries = meets.entries;
    many = meets.many;
    found_is = meets.found_is;
    certified = found None left meets.entries meets.defects;
    formatting = λ known. meets.formatting;
  }

  -- a list has no copy left
  pub lost_cause : (counter left : ℕ)
      → LosesFirst world reaches shape kept kind mark old new counter left ⊎ LosesSecond world reaches shape kept kind mark old new counter left ⊎ LosesThird world reaches shape kept kind mark old new counter left
      → FullCause before (shown_unformatted shape (machine new) left) drop_sdl (outs.NoUpdate counter)
  lost_cause counter left (inl first) = inr (inl (record { any = any _ _ refl None left first.goes; no_lists = refl; lost = first.lost; counter_is = first.counter_is; mark_is = first.left_is }))
  lost_cause counter left (inr (inl second)) =
      inr (inr (inl (record { any = any _ _ three_are None left second.goes; no_lists = refl; lost = record { few = few None left second.few; formatting = λ known. second.formatting; lost = second.lost }; counter_is = second.counter_is; mark_is = second.left_is })))
  lost_cause counter left (inr (inr third)) =
      inr (inr (inr (record { any = any _ _ all_are None left third.goes; no_lists = refl; lost = record { few = few None left third.few; lost = third.lost }; counter_is = third.counter_is; mark_is = third.left_is })))

  -- it was stopped
  pub stop_cause : (stop : Stop) → FormatStopped world reaches shape kept kind mark old new stop → StopsInFormat before (shown_without shape (machine new)) drop_sdl stop
  stop_cause stop was = record {
    was_on = was.was_on;
    room = was.room;
    only = same_changes shape (Contains kept) (IsKept lists drop_sdl) all.each all.all (world old).cells (world new).cells was.only;
    given = λ known made is. elim (was.given known made is) [
      | inl before ↦ inl before
      | inr fresh ↦ inr (record {
        entries = fresh.entries;
        found = same_defective shape (Contains kept) (IsKept lists drop_sdl) all.each all.all kind (world new).cells fresh.entries fresh.defective;
        lists_are = fresh.lists_are;
      })
    ];
    covers = was.covers;
    left = λ known. was.left;
    stopped = record {
      stops = machine_stops world reaches takes arms armed_cut laws old new _ _ all_are stop was.stops;
      no_lists = refl;
      no_mark = refl;
      no_buffer = refl;
    };
  }

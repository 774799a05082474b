-- Where all copies are told as exact, a mount writes nothing.
use Rattle.std.proofs.Common.{◌≡◌, ℕ, zero, suc, ◌+◌, ◌*◌, ◌≤◌, inl, inr, Some, List, refl, sym, ◌∙◌, subst, arith}
use Rattle.std.specs.List.{Contains}
use Rattle.model_geometry.specs.Geometry.{Shape, dds_block, sdl_block, sdl_second_block}
use Rattle.model_medium.specs.Cells.{Cell, Blank, Good, Torn, Dead, cell_at}
use Rattle.model_sectors.specs.declared.PowerOut.TheVariants as powers
use Rattle.model_lists.specs.declared.versions.Version.{Version}
use Rattle.model_lists.specs.Values.{parts_by}
use Rattle.model_lists.specs.Texts.{IsDdsText, IsTwo, IsSdlText, IsSdlSecond}
use Rattle.model_lists.proofs.SdlTexts.{version_cases, one_no_two}
use Rattle.model_copies.specs.Copies.{IsArea, Holds, HoldsOrDead, WasExact, Rewrites}
use Rattle.model_copies.specs.Parts.{SdlIsLost, SdlIsExact}
use Rattle.model_places.specs.Places.{Lists}
use Rattle.model_volume.specs.Given.{AreSettled}
use Rattle.model_drive.specs.Shown.{Shown, IsKnown, cells_in}
use Rattle.model_drive.specs.Sound.{IsSound}
use Rattle.model_drive.specs.Parts.{EndsBy}
use Rattle.model_drive.specs.Power.{turned_on, PowerCause}
use Rattle.model_drive.specs.Repairs.{choice_uses}
use Rattle.model_audit.specs.declared.lines.CopyState.{CopyState}
use Rattle.model_audit.specs.declared.lines.CopyState.TheVariants.{Exact, Other, Unread}
use Rattle.model_audit.specs.declared.lines.CopyState.TheVariants as states
use Rattle.model_audit.specs.declared.lines.CertificateLine.{CertificateLine}
use Rattle.model_audit.specs.declared.lines.CertificateLine.TheVariants as lines
use Rattle.model_audit.specs.Certificate.{ListPart, Structure, First, Second, HoldsPart, CellSays, list_cells, TellsLists, IsCertificate}
use Rattle.model_audit.specs.Reading.{lists_in, NoneDies, IsUndisturbed, AreAllExact, MountsByReading}
use Rattle.model_audit.proofs.Copying.{cell_told}
use Rattle.model_audit.proofs.ReadBack.{Tells, told_here, read_from}
use Rattle.model_audit.proofs.Settling.{structure_listed, first_listed, second_listed, copy_among}
use Rattle.model_audit.proofs.Mounting.{found_same}

-- nothing is written again where each cell was exact and is
rewrites_none : (exact : Cell → Type 0) (place : ℕ → ℕ) (old new : List Cell) (k count : ℕ) → ((area : ℕ) → 1 ≤ area → area ≤ k → WasExact exact place old new area)
    → Rewrites exact place old new k count → count ≡ 0
rewrites_none exact place old new zero count all is = is
rewrites_none exact place old new (suc k) count all (inl exact_here) = rewrites_none exact place old new k count (λ area low high. all area low (omega (arith, high))) exact_here.1
rewrites_none exact place old new (suc k) count all (inr not_here) = absurd (not_here.0 (all (suc k) (omega arith) (omega arith)))

structure_held : (lists : Lists) (cell : Cell) → HoldsPart lists Structure cell → Holds IsDdsText cell lists.dds
structure_held lists (Good bytes) h = h
structure_held lists Blank h = h
structure_held lists Torn h = h
structure_held lists Dead h = h

first_held : (lists : Lists) (cell : Cell) → HoldsPart lists First cell → Holds IsSdlText cell lists.sdl
first_held lists (Good bytes) h = h
first_held lists Blank h = h
first_held lists Torn h = h
first_held lists Dead h = h

second_held : (lists : Lists) (cell : Cell) → HoldsPart lists Second cell → Holds IsSdlSecond cell lists.sdl
second_held lists (Good bytes) h = h
second_held lists Blank h = h
second_held lists Torn h = h
second_held lists Dead h = h

-- a cell that is exact or dead now, and was exact, is exact, where none turned dead
module _ {V : Type 0} (text : V → List ℕ → Type 0) (value : V) where
  no_dead : (cell : Cell) → Holds text cell value → cell ≡ Dead → ⊥
  no_dead cell h dead = subst (λ (c : Cell). Holds text c value) dead h

  still_held : (old new : Cell) → (new ≡ Dead → old ≡ Dead) → Holds text old value → HoldsOrDead text new value → Holds text new value
  still_held old (Good bytes) stays was now = now
  still_held old Blank stays was now = now
  still_held old Torn stays was now = now
  still_held old Dead stays was now = absurd (no_dead old was (stays refl))

module _ (shape : Shape) (cells : List Cell) (told : List CertificateLine) (one : TellsLists shape cells told) (all : AreAllExact told) where
  held_at : (block : ℕ) (part : ListPart) → Contains (list_cells shape one.lists.sdl.version) (block, part) → HoldsPart one.lists part (cell_at cells block)
  held_at block part listed =
      let found = cell_told cells one.lists (list_cells shape one.lists.sdl.version) one.copies one.copies_are block part listed in
      cases found.0 found.1 found.2
    where
      cases : (state : CopyState) → Contains one.copies (lines.Copy block state) → CellSays one.lists part (cell_at cells block) state → HoldsPart one.lists part (cell_at cells block)
      cases Exact has says = says
      cases Other has says = absurd (all.but_dead.none_other block (copy_among shape cells told one (lines.Copy block Other) has))
      cases Unread has says = absurd (all.but_dead.none_unread block (copy_among shape cells told one (lines.Copy block Unread) has))
      cases states.Dead has says = absurd (all.none_dead block (copy_among shape cells told one (lines.Copy block states.Dead) has))

  structures : (area : ℕ) → IsArea area → Holds IsDdsText (cell_at cells (dds_block shape area)) one.lists.dds
  structures area is = structure_held one.lists _ (held_at (dds_block shape area) Structure (structure_listed shape one.lists.sdl.version area is))

  firsts : (area : ℕ) → IsArea area → Holds IsSdlText (cell_at cells (sdl_block shape area)) one.lists.sdl
  firsts area is = first_held one.lists _ (held_at (sdl_block shape area) First (first_listed shape one.lists.sdl.version area is))

  seconds : IsTwo one.lists.sdl → (area : ℕ) → IsArea area → Holds IsSdlSecond (cell_at cells (sdl_second_block shape area)) one.lists.sdl
  seconds two area is = second_held one.lists _ (held_at (sdl_second_block shape area) Second
      (subst (λ (v : Version). Contains (list_cells shape v) (sdl_second_block shape area, Second)) (sym two) (second_listed shape area is)))

-- what all cells of both lists hold
record AllHold (shape : Shape) (cells : List Cell) (lists : Lists) : Type 0 where
  pub structures_hold : (area : ℕ) → IsArea area → Holds IsDdsText (cell_at cells (dds_block shape area)) lists.dds
  pub firsts_hold : (area : ℕ) → IsArea area → Holds IsSdlText (cell_at cells (sdl_block shape area)) lists.sdl
  pub seconds_hold : IsTwo lists.sdl → (area : ℕ) → IsArea area → Holds IsSdlSecond (cell_at cells (sdl_second_block shape area)) lists.sdl

all_hold : (shape : Shape) (cells : List Cell) (told : List CertificateLine) (lists : Lists) → Tells shape cells told lists → AreAllExact told → AllHold shape cells lists
all_hold shape cells told lists one all =
    subst (AllHold shape cells) one.1 (record {
      structures_hold = structures shape cells told one.0 all;
      firsts_hold = firsts shape cells told one.0 all;
      seconds_hold = seconds shape cells told one.0 all;
    })

-- they still do, where the lists are settled and none turned dead
still_hold : (shape : Shape) (old new : List Cell) (lists : Lists) → NoneDies old new → AllHold shape old lists → AreSettled shape new lists → AllHold shape new lists
still_hold shape old new lists none was settled = record {
  structures_hold = λ area is. still_held IsDdsText lists.dds _ _ (none (dds_block shape area)) (was.structures_hold area is) (settled.dds area is);
  firsts_hold = λ area is. still_held IsSdlText lists.sdl _ _ (none (sdl_block shape area)) (was.firsts_hold area is) (exact.firsts area is);
  seconds_hold = λ two area is. still_held IsSdlSecond lists.sdl _ _ (none (sdl_second_block shape area)) (was.seconds_hold two area is) (exact.seconds two area is);
}
  where
    not_lost : SdlIsLost shape new lists.sdl → ⊥
    not_lost lost = elim (lost 1 (omega arith, omega arith)) [
      | inl first ↦ no_dead IsSdlText lists.sdl _ (was.firsts_hold 1 (omega arith, omega arith)) (none (sdl_block shape 1) first)
      | inr second ↦ no_dead IsSdlSecond lists.sdl _ (was.seconds_hold second.0 1 (omega arith, omega arith)) (none (sdl_second_block shape 1) second.1)
    ]

    exact : SdlIsExact shape new lists.sdl
    exact = settled.sdl (λ both. not_lost both.0)

pub mounts_by_reading : (old new : Shown) (told : List CertificateLine) (lists : Lists) (count : ℕ) → IsKnown old → new.shape ≡ old.shape → IsSound new
    → IsCertificate old.shape (cells_in old) told → lists_in told ≡ Some lists → lists.dds.layout ≡ old.shape.layout → AreAllExact told → PowerCause old new (powers.Ready count) → IsUndisturbed old new → MountsByReading old new lists.sdl
mounts_by_reading old new told lists count known shape sound is says kind all cause still =
    subst (λ (l : Lists). MountsByReading old new l.sdl) same
    (record {
      mores = cause.mores;
      few = cause.few;
      ends = subst (λ (uses : ℕ). EndsBy (turned_on old) new (choice_uses cause.mores + uses)) uses_are cause.ends;
    })
  where
    tells : Tells old.shape (cells_in old) told lists
    tells = told_here old.shape (cells_in old) told lists is says kind

    same : cause.lists ≡ lists
    same = found_same old new lists known (read_from old.shape (cells_in old) told lists tells).0 still.none_dies count cause

    new_known : IsKnown new
    new_known = cause.ends.reach.lasts.as_known ∙ known

    was : AllHold old.shape (cells_in old) cause.lists
    was = subst (AllHold old.shape (cells_in old)) (sym same) (all_hold old.shape (cells_in old) told lists tells all)

    settled : AreSettled old.shape (cells_in new) cause.lists
    settled = subst (λ (s : Shape). AreSettled s (cells_in new) cause.lists) shape ((sound.in_use cause.lists cause.in_use).settled new_known)

    now : AllHold old.shape (cells_in new) cause.lists
    now = still_hold old.shape (cells_in old) (cells_in new) cause.lists still.none_dies was settled

    dds_none : cause.dds.rewritten ≡ 0
    dds_none = rewrites_none (λ cell. Holds IsDdsText cell cause.lists.dds) (dds_block old.shape) (cells_in old) (cells_in new) 4 cause.dds.rewritten
        (λ area low high. (was.structures_hold area (low, high), now.structures_hold area (low, high))) (cause.dds.rewrites known)

    firsts_none : cause.sdl.firsts ≡ 0
    firsts_none = rewrites_none (λ cell. Holds IsSdlText cell cause.lists.sdl) (sdl_block old.shape) (cells_in old) (cells_in new) 4 cause.sdl.firsts
        (λ area low high. (was.firsts_hold area (low, high), now.firsts_hold area (low, high))) (cause.sdl.of_firsts known)

    seconds_none : cause.sdl.seconds ≡ 0
    seconds_none = elim (version_cases cause.lists.sdl.version) [
      | inl one ↦ cause.sdl.none (λ two. one_no_two cause.lists.sdl.version one two)
      | inr two ↦ rewrites_none (λ cell. Holds IsSdlSecond cell cause.lists.sdl) (sdl_second_block old.shape) (cells_in old) (cells_in new) 4 cause.sdl.seconds
          (λ area low high. (was.seconds_hold two area (low, high), now.seconds_hold two area (low, high))) (cause.sdl.of_seconds two known)
    ]

    uses_are : cause.dds_uses + cause.sdl_uses ≡ 4 + 4 * parts_by cause.lists.sdl.version
    uses_are =
        let d = cause.dds.uses_are in
        let s = cause.sdl.uses_are in
        let a = dds_none in
        let b = firsts_none in
        let c = seconds_none in
        omega (arith, d, s, a, b, c)

-- What a drive stands for while cells of the record of the lead change: the disc and its lists stay.
use Rattle.std.proofs.Common.{◌≡◌, ◌≢◌, ℕ, ◌<◌, inl, inr, Option, Some, None, List, [], ◌∷◌, sym, ◌∙◌, subst}
use Rattle.std.specs.List.{Contains}
use Rattle.model_geometry.specs.Geometry.{Shape, data_blocks, dds_block, sdl_block, sdl_second_block, record_block}
use Rattle.model_geometry.proofs.ListBlocks.{record_no_dds, record_no_sdl, record_no_second, no_data_block_record}
use Rattle.model_lists.specs.Texts.{IsDdsText}
use Rattle.model_lists.specs.Records.{LeadRecord}
use Rattle.model_medium.specs.Cells.{Cell, cell_at}
use Rattle.model_sectors.specs.Discs.{Standing, On, Off, Agrees, block_of}
use Rattle.model_stops.specs.declared.Stop.{Stop}
use Rattle.model_stops.specs.declared.Stop.TheVariants as stops
use Rattle.model_copies.specs.Copies.{IsArea, HoldsOrDead}
use Rattle.model_copies.specs.Parts.{AreMarkedWithin, Names}
use Rattle.model_copies.proofs.CopyFacts.{copy_before}
use Rattle.model_copies.proofs.SdlParts.{settled_dies as sdl_dies}
use Rattle.model_places.specs.Places.{Lists, home_of}
use Rattle.model_places.specs.Valid.{AreValid}
use Rattle.model_volume.specs.Given.{IsGiven, GivesNone, AreSettled}
use Rattle.model_volume.specs.Covers.{FitsUnder, SomeFit, Cover}
use Rattle.model_volume.proofs.GivenFacts.{given_before}
use Rattle.model_volume.proofs.Moved.{home_is_data_block}
use Rattle.model_drive.specs.declared.RecordOut.{RecordOut}
use Rattle.model_drive.specs.declared.RecordOut.TheVariants as outs
use Rattle.model_drive.specs.Shown.{Shown, cells_in, StandsFor, StandsBy}
use Rattle.model_drive.specs.Parts.{IsStopped}
use Rattle.model_drive.specs.Records.{OnlyRecord, KeepsDisc, LeadFromCause, GenerationCause, RecordStep}
use Rattle.model_drive.proofs.Dying.{stands_covers}
use Rattle.model_drive.proofs.Ends.{stop_known, stop_off}

module _ (shape : Shape) (old new : List Cell) (only : (block : ℕ) → ((area : ℕ) → IsArea area → block ≢ record_block shape area) → cell_at new block ≡ cell_at old block) where
  dds_same : (area : ℕ) → cell_at new (dds_block shape area) ≡ cell_at old (dds_block shape area)
  dds_same area = only (dds_block shape area) (λ at is same. record_no_dds shape at area (sym same))

  sdl_same : (area : ℕ) → cell_at new (sdl_block shape area) ≡ cell_at old (sdl_block shape area)
  sdl_same area = only (sdl_block shape area) (λ at is same. record_no_sdl shape at area (sym same))

  second_same : (area : ℕ) → cell_at new (sdl_second_block shape area) ≡ cell_at old (sdl_second_block shape area)
  second_same area = only (sdl_second_block shape area) (λ at is same. record_no_second shape at area (sym same))

  data_same : (block : ℕ) → Contains (data_blocks shape) block → cell_at new block ≡ cell_at old block
  data_same block has = only block (λ at is same. no_data_block_record shape at (subst (Contains (data_blocks shape)) same has))

  -- the same lists are given, settled and within a mark
  given_still : (lists : Lists) → IsGiven shape new lists → IsGiven shape old lists
  given_still lists given = given_before shape old new lists (λ area is. inl (dds_same area)) (λ area is. inl (sdl_same area)) (λ area is. inl (second_same area)) given

  pub bare_kept : GivesNone shape old → GivesNone shape new
  bare_kept none lists given = none lists (given_still lists given)

  pub settled_kept : (lists : Lists) → AreSettled shape old lists → AreSettled shape new lists
  settled_kept lists settled = record {
    dds = λ area is. subst (λ (c : Cell). HoldsOrDead IsDdsText c lists.dds) (sym (dds_same area)) (settled.dds area is);
    sdl = sdl_dies shape old new lists.sdl (λ area is. inl (sdl_same area)) (λ area is. inl (second_same area)) settled.sdl;
  }

  pub marked_kept : (mark : ℕ) → AreMarkedWithin shape old mark → AreMarkedWithin shape new mark
  marked_kept mark marked = record {
    dds = λ v area copy. marked.dds v area (copy_before IsDdsText (dds_block shape) old new v area (inl (dds_same area)) copy);
    sdl = λ counter area is names. marked.sdl counter area is (subst (λ (c : Cell). Names c counter) (sdl_same area) names);
  }

  -- the same discs fit
  fits_kept : (lists : Lists) (disc : List ℕ) → AreValid shape lists → FitsUnder shape old lists disc → FitsUnder shape new lists disc
  fits_kept lists disc valid fits = record {
    as_long = fits.as_long;
    agrees = λ i h. subst (λ (c : Cell). Agrees c (block_of disc i)) (sym (data_same (home_of shape lists i) (home_is_data_block shape lists valid i h))) (fits.agrees i h);
  }

  some_kept : (lists : Lists) (discs : List (List ℕ)) → AreValid shape lists → SomeFit shape old lists discs → SomeFit shape new lists discs
  some_kept lists [] valid none = none
  some_kept lists (disc ∷ discs) valid (inl fits) = inl (fits_kept lists disc valid fits)
  some_kept lists (disc ∷ discs) valid (inr later) = inr (some_kept lists discs valid later)

  cover_kept : (discs : List (List ℕ)) → Cover shape old discs → Cover shape new discs
  cover_kept discs cover lists given = some_kept lists discs given.valid (cover lists (given_still lists given))

  stands_kept : (lists : Option Lists) (buffer : List (ℕ × List ℕ)) (disc : List ℕ) → StandsBy shape old lists buffer disc → StandsBy shape new lists buffer disc
  stands_kept None buffer disc stands = (stands.0, stands.1, bare_kept stands.2)
  stands_kept (Some lists) buffer disc stands =
      record { valid = stands.valid; settled = settled_kept lists stands.settled; fits = fits_kept lists disc stands.valid stands.fits; holds = stands.holds }

module _ (old new : Shown) (same_shape : new.shape ≡ old.shape) where
  -- a call that went to its end
  still_on : (uses : ℕ) → KeepsDisc old new uses → (disc : List ℕ) → StandsFor old (On disc) → StandsFor new (On disc)
  still_on uses keeps disc stood = (
    keeps.ends.reach.lasts.as_known ∙ stood.0,
    keeps.ends.is_on,
    subst (λ (s : Shape). StandsBy s (cells_in new) new.lists new.buffer disc) (sym same_shape)
        (subst (λ (o : Option Lists). StandsBy old.shape (cells_in new) o new.buffer disc) (sym keeps.keeps.same_lists)
        (subst (λ (b : List (ℕ × List ℕ)). StandsBy old.shape (cells_in new) old.lists b disc) (sym keeps.same_buffer)
        (stands_kept old.shape (cells_in old) (cells_in new) keeps.only old.lists old.buffer disc stood.2))),
  )

  -- one that was stopped
  now_off : (most : ℕ) (stop : Stop) → IsStopped old new most stop → OnlyRecord old new → (disc : List ℕ) → StandsFor old (On disc) → StandsFor new (Off (disc ∷ []))
  now_off most stop stopped only disc stood = (
    stop_known old.medium new.medium most stop stopped.stops ∙ stood.0,
    stop_off old.medium new.medium most stop stopped.stops,
    subst (λ (s : Shape). Cover s (cells_in new) (disc ∷ [])) (sym same_shape) (cover_kept old.shape (cells_in old) (cells_in new) only (disc ∷ []) (stands_covers old disc stood)),
  )

  module _ (value : LeadRecord) where
    pub lead_step : (s : Standing) (out : RecordOut) → LeadFromCause old new value out → StandsFor old s → RecordStep (StandsFor new) s out
    lead_step (On disc) outs.Good cause stood = still_on _ cause.keeps disc stood
    lead_step (On disc) outs.Lost cause stood = still_on _ cause.keeps disc stood
    lead_step (On disc) outs.Cut cause stood = now_off _ stops.Cut cause.stopped cause.only disc stood
    lead_step (On disc) outs.Off cause stood = cause.off stood.1
    lead_step (On disc) outs.Fault cause stood = now_off _ stops.Fault cause.stopped cause.only disc stood
    lead_step (Off discs) outs.Good cause stood = stood.1 cause.keeps.was_on
    lead_step (Off discs) outs.Lost cause stood = stood.1 cause.keeps.was_on
    lead_step (Off discs) outs.Cut cause stood = stood.1 cause.was_on
    lead_step (Off discs) outs.Off cause stood = subst (λ (x : Shown). StandsFor x (Off discs)) (sym cause.nothing) stood
    lead_step (Off discs) outs.Fault cause stood = stood.1 cause.was_on

    pub generation_step : (s : Standing) (out : RecordOut) → GenerationCause old new value out → StandsFor old s → RecordStep (StandsFor new) s out
    generation_step (On disc) outs.Good cause stood = still_on _ cause.mends.keeps disc stood
    generation_step (On disc) outs.Lost cause stood = still_on _ cause.mends.keeps disc stood
    generation_step (On disc) outs.Cut cause stood = now_off _ stops.Cut cause.stopped cause.only disc stood
    generation_step (On disc) outs.Off cause stood = cause.off stood.1
    generation_step (On disc) outs.Fault cause stood = now_off _ stops.Fault cause.stopped cause.only disc stood
    generation_step (Off discs) outs.Good cause stood = stood.1 cause.mends.keeps.was_on
    generation_step (Off discs) outs.Lost cause stood = stood.1 cause.mends.keeps.was_on
    generation_step (Off discs) outs.Cut cause stood = stood.1 cause.was_on
    generation_step (Off discs) outs.Off cause stood = subst (λ (x : Shown). StandsFor x (Off discs)) (sym cause.nothing) stood
    generation_step (Off discs) outs.Fault cause stood = stood.1 cause.was_on

-- What opening an image makes of a side.
use Rattle.std.specs.Prelude.{◌≡◌, ℕ, false, List}
use Rattle.std.proofs.Common.{refl, sym, ap, ◌∙◌, subst}
use Rattle.std.proofs.lemmas.List.FromFn.{length-map-range_with_len}
use Rattle.model_geometry.specs.declared.kinds.LayoutKind.{LayoutKind}
use Rattle.model_geometry.specs.Geometry.{Shape, total}
use Rattle.model_medium.specs.Cells.{Cell}
use Rattle.model_image.specs.Cells.{cell_in, cells_of}
use Rattle.model_image.proofs.WholeCells.{cells_of-whole}
use Rattle.model_drive.specs.Shown.{Shown, StandsFor}
use Rattle.model_drive.specs.Runs.{Loaded, opened_drive, IsOpenedOn}
use Rattle.model_drive.proofs.Opening.{opened_disc}
use Rattle.model_cache.specs.Values.{Contents}
use Rattle.model_cache.specs.Shown.{CacheShown}
use Rattle.model_cache.specs.Plain.{uncached}
use Rattle.ram_outside.specs.declared.image.Image.{Ghosts as Images}
use Rattle.ram_transfer.specs.Shown.{shown_without}
use Rattle.ram_image.specs.Medium.{machine_in, bytes_in}
use Rattle.ram_image.specs.Opening.{IsOpened}
use Rattle.ram_image.specs.declared.medium.ImageMedium.{ImageMedium}
use Rattle.ram_machine.specs.Drive.{IsOpenedBy}
use Rattle.ram_machine.proofs.Opens.{opens}
use Rattle.ram_side.specs.Side.{IsOpenedSide, OpensSide}

-- what a drive without a cache was opened as, it is as a side too
module _ (kind : LayoutKind) (bytes : List ℕ) (shown : Shown) (stands : Contents → Type 0) (by : IsOpenedBy kind bytes (uncached shown) stands) where
  abbrev disc_cells : List Cell
  disc_cells = cells_of (total by.shape) bytes

  drive_is : shown ≡ opened_drive by.shape disc_cells by.opened.faults
  drive_is = ap (λ (x : CacheShown). x.drive) (by.shown_is ∙ by.opened.shown_is)

  loaded : (s : Loaded) × IsOpenedOn by.shape disc_cells s × (s.shown ≡ opened_drive by.shape disc_cells by.opened.faults)
  loaded = opened_disc by.shape disc_cells by.opened.faults (length-map-range_with_len (cell_in (total by.shape) bytes) 0 (total by.shape)) (cells_of-whole (total by.shape) bytes by.image.as_long)

  opened_side : IsOpenedSide by.shape bytes shown (StandsFor shown)
  opened_side =
      let is : shown ≡ loaded.0.shown = drive_is ∙ sym loaded.2 in
      record {
        image = by.image;
        disc = loaded.0;
        opened = loaded.1;
        shown_is = is;
        standing_is = subst (λ (x : Shown). StandsFor x loaded.0.standing) (sym is) loaded.0.stands;
      }

module _ {I : Type 0} {d : Images I} (image : I) (medium : ImageMedium I d) (kind : LayoutKind) (geometry : Shape) (opened : IsOpened image medium kind geometry) (shown : Shown) (made : shown ≡ shown_without geometry (machine_in medium)) where
  -- nothing failed, and the side lies in the same bytes
  pub opens_side : (kept : ImageMedium I d) → kept ≡ medium → OpensSide kind (d.bytes image) (d.faults image) geometry shown (StandsFor shown) (bytes_in kept) false
  opens_side kept same =
      let drive = opens image medium kind geometry opened shown made (uncached shown) refl kept same in
      let shape_is : shown.shape ≡ geometry = ap (λ (x : Shown). x.shape) made in
      record {
        kind_is = opened.kind_is;
        shape_is = shape_is;
        opened = λ bytes known.
            let by = drive.opened bytes known in
            let one : by.shape ≡ geometry = sym (ap (λ (x : Shown). x.shape) (drive_is kind bytes shown _ by)) ∙ shape_is in
            subst (λ (z : Shape). IsOpenedSide z bytes shown (StandsFor shown)) one (opened_side kind bytes shown _ by);
        same_bytes = drive.same_bytes;
        count_is = drive.count;
        none_failed = refl;
      }

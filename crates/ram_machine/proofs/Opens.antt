-- What opening and pressing an image make of it.
use Rattle.std.specs.Prelude.{◌≡◌, ◌≢◌, ℕ, ◌<◌, ◌≤◌, ◌⊎◌, Bool, false, true, Option, Some, None, is_some, IfSome, Err, List, [], length}
use Rattle.std.proofs.Common.{arith, refl, sym, ap, ◌∙◌, inl, inr, subst}
use Rattle.std.proofs.lemmas.List.FromFn.{length-map-range_with_len}
use Rattle.model_bytes.specs.Known.{WhereKnown}
use Rattle.model_geometry.specs.declared.kinds.LayoutKind.{LayoutKind}
use Rattle.model_geometry.specs.Geometry.{Shape, IsLawful, label_of, total}
use Rattle.model_medium.specs.Cells.{Cell}
use Rattle.model_medium.specs.Machine.{Machine}
use Rattle.model_medium.specs.declared.WornBlock.{WornBlock}
use Rattle.model_medium.specs.declared.ArmedCut.{ArmedCut}
use Rattle.model_image.specs.Cells.{image_len, cell_in, cells_of, cells_known}
use Rattle.model_image.specs.Image.{HasHeader, IsDiscImage, IsImageOf, IsStoppedPress, PressesImage, blank_cells, pressed_image}
use Rattle.model_image.proofs.Headers.{one_header, total_by_header}
use Rattle.model_image.proofs.WholeCells.{cells_of-whole}
use Rattle.model_drive.specs.Shown.{Shown, StandsFor, cells_in}
use Rattle.model_drive.specs.Runs.{Loaded, opened_drive, IsOpenedOn}
use Rattle.model_cache.specs.Values.{plain}
use Rattle.model_cache.specs.Shown.{CacheShown, CacheStandsFor, IsCacheSound}
use Rattle.model_cache.specs.Plain.{uncached}
use Rattle.model_cache.specs.Runs.{CacheLoaded, IsCacheOpenedOn}
use Rattle.model_cache.proofs.SameBlocks.{stands_plainly}
use Rattle.model_cache.proofs.Members.{Contains-none}
use Rattle.model_drive.proofs.Opening.{opened_disc}
use Rattle.model_scrub.specs.Scrubs.{fresh}
use Rattle.model_target.specs.Host.{powered_on}
use Rattle.ram_outside.specs.declared.image.Image.{Ghosts as Images}
use Rattle.ram_image.specs.Medium.{machine_in, bytes_in}
use Rattle.ram_image.specs.Opening.{IsOpened, IsRefused}
use Rattle.ram_image.specs.declared.medium.ImageMedium.{ImageMedium}
use Rattle.ram_image.specs.declared.opening.OpenFault.{OpenFault}
use Rattle.ram_image.specs.declared.opening.OpenFault.TheVariants as faulty
use Rattle.ram_mmc.specs.declared.target.Target.{Target}
use Rattle.ram_sectors.specs.declared.caching.Caching.{Ghosts as Drives}
use Rattle.ram_report.specs.declared.printing.Event.TheVariants as events
use Rattle.ram_scrub.specs.Scrub.{scrubber_of}
use Rattle.ram_scrub.specs.declared.scrub.Scrub.{Scrub}
use Rattle.ram_transfer.specs.Shown.{shown_without}
use Rattle.ram_machine.specs.declared.inserted.Inserted.TheVariants as inserts
use Rattle.ram_machine.specs.declared.rooms.TargetRooms.{TargetRooms}
use Rattle.ram_machine.specs.declared.stopped.Stopped.TheVariants as whys
use Rattle.ram_machine.specs.Drive.{IsOpenedBy, OpensDrive}
use Rattle.ram_machine.specs.Replies.{event, stopped_by}
use Rattle.ram_machine.specs.States.{State, Served, Unopened, Disc, kind_of, IsIn, IsInserted, IsLabelled}
use Rattle.ram_machine.specs.Inserted.{Stands, LeavesImage, IsPressAnswered}
use Rattle.ram_machine.specs.Starts.{StandsFirst}

-- a machine is told by its parts
abbrev machine_by : List ℕ → Bool → List Cell → Bool → ℕ → ℕ → ℕ → List WornBlock → Option ArmedCut → Machine
machine_by label known cells power uses cuts faults arms cut = record {
  world = record { label = label; known = known; cells = cells; power = power; uses = uses; cuts = cuts; faults = faults };
  arms = arms;
  cut = cut;
}

same_machine : (label label' : List ℕ) (known known' : Bool) (cells cells' : List Cell) (power power' : Bool) (uses uses' cuts cuts' faults faults' : ℕ) (arms arms' : List WornBlock) (cut cut' : Option ArmedCut)
    → label ≡ label' → known ≡ known' → cells ≡ cells' → power ≡ power' → uses ≡ uses' → cuts ≡ cuts' → faults ≡ faults' → arms ≡ arms' → cut ≡ cut'
    → machine_by label known cells power uses cuts faults arms cut ≡ machine_by label' known' cells' power' uses' cuts' faults' arms' cut'
same_machine label label' known known' cells cells' power power' uses uses' cuts cuts' faults faults' arms arms' cut cut' a b c d e f g h i = cc

-- a drive whose cache is off and empty is sound, and stands for what its disc does
none_sound : (drive : Shown) → IsCacheSound (uncached drive)
none_sound drive = record { few = search arith; apart = tt; whole = λ i bytes has. absurd (Contains-none (i, bytes) has) }

of_drive : Loaded → CacheLoaded
of_drive s = record {
  shown = uncached s.shown;
  contents = plain s.standing;
  sound = s.sound;
  cache_sound = none_sound s.shown;
  stands = stands_plainly (StandsFor s.shown) s.standing s.stands;
}

module _ {I : Type 0} {d : Images I} (image : I) (medium : ImageMedium I d) (kind : LayoutKind) (geometry : Shape) (opened : IsOpened image medium kind geometry) (shown : Shown) (made : shown ≡ shown_without geometry (machine_in medium)) where
  module _ (bytes : List ℕ) (known : d.bytes image ≡ Some bytes) where
    disc_there : IsDiscImage geometry bytes
    disc_there = subst (λ o. IfSome o (IsDiscImage geometry)) known opened.disc

    abbrev disc_cells : List Cell
    disc_cells = cells_of (total geometry) bytes

    -- the medium is that of a disc that was just opened
    machine_is : machine_in medium ≡ (opened_drive geometry disc_cells (d.faults image)).medium
    machine_is =
        let m = machine_in medium in
        same_machine m.world.label (label_of geometry) m.world.known true m.world.cells disc_cells m.world.power false m.world.uses 0 m.world.cuts 0 m.world.faults (d.faults image) m.arms [] m.cut None
        opened.label_is (opened.as_known ∙ ap is_some known) (opened.cells_are ∙ ap (cells_known (total geometry)) known) opened.off opened.no_uses opened.no_cuts opened.count opened.no_arms opened.no_cut

    loaded : (s : Loaded) × IsOpenedOn geometry disc_cells s × (s.shown ≡ opened_drive geometry disc_cells (d.faults image))
    loaded = opened_disc geometry disc_cells (d.faults image) (length-map-range_with_len (cell_in (total geometry) bytes) 0 (total geometry)) (cells_of-whole (total geometry) bytes disc_there.as_long)

    drive_is : shown ≡ loaded.0.shown
    drive_is = made ∙ ap (shown_without geometry) machine_is ∙ sym loaded.2

    -- an image whose bytes are known was opened, and nothing is pending
    opened_by : (cached : CacheShown) → cached ≡ uncached shown → IsOpenedBy kind bytes cached (CacheStandsFor cached)
    unfolding of_drive
    opened_by cached is = record {
      shape = geometry;
      kind_is = opened.kind_is;
      image = disc_there;
      disc = of_drive loaded.0;
      opened = record { faults = loaded.1.faults; shown_is = ap uncached loaded.1.shown_is; all = loaded.1.all; standing = loaded.0.standing; starts = loaded.1.starts; contents_is = refl };
      shown_is = is ∙ ap uncached drive_is;
      contents_is = subst (λ (x : CacheShown). CacheStandsFor x (plain loaded.0.standing)) (sym (is ∙ ap uncached drive_is)) (of_drive loaded.0).stands;
    }

  -- the same, nothing failed, and the drive lies in the same bytes
  pub opens : (cached : CacheShown) → cached ≡ uncached shown → (kept : ImageMedium I d) → kept ≡ medium → OpensDrive kind (d.bytes image) (d.faults image) cached (CacheStandsFor cached) (bytes_in kept)
  opens cached is kept same = record {
    opened = λ bytes known. opened_by bytes known cached is;
    same_bytes = ap (λ (m : ImageMedium I d). bytes_in m) same ∙ opened.same_image;
    count = ap (λ (x : CacheShown). x.drive.medium.world.faults) is ∙ ap (λ (x : Shown). x.medium.world.faults) made ∙ opened.count;
  }

-- a disc that was just opened has the label of its geometry
opened_labelled : (shape : Shape) (cells : List Cell) (s : CacheLoaded) → IsCacheOpenedOn shape cells s → IsLabelled s.shown.drive
opened_labelled shape cells s opened = ap (λ (x : CacheShown). x.drive.medium.world.label) opened.shown_is ∙ ap label_of (sym (ap (λ (x : CacheShown). x.drive.shape) opened.shown_is))

-- the image that was opened has its cells
opened_image : (shape : Shape) (bytes : List ℕ) (s : CacheLoaded) → IsDiscImage shape bytes → IsCacheOpenedOn shape (cells_of (total shape) bytes) s → IsImageOf s.shown.drive.shape (cells_in s.shown.drive) bytes
opened_image shape bytes s disc opened = subst (λ (x : CacheShown). IsImageOf x.drive.shape (cells_in x.drive) bytes) (sym opened.shown_is) (record { disc = disc; cells_are = refl })

-- a target over a disc that was just opened
module _ {D I : Type 0} (drives : Drives D) (lies_in : D → Option (List ℕ)) (images : Images I) (kind : LayoutKind) (bytes : List ℕ) (target : Target D) (by : IsOpenedBy kind bytes (drives.shows target.disc) (drives.stands target.disc)) (host_is : target.host ≡ powered_on) (lies : lies_in target.disc ≡ Some bytes) where
  abbrev served : Served
  served = record {
    disc = by.disc;
    host = powered_on;
    scrub = fresh;
    labelled = opened_labelled by.shape (cells_of (total by.shape) bytes) by.disc by.opened;
    bytes = bytes;
    image = opened_image by.shape bytes by.disc by.image by.opened;
  }

  is_in : IsIn (drives.shows target.disc) (drives.stands target.disc) target.host (lies_in target.disc) served
  is_in = record { shown_is = by.shown_is; contents_is = by.contents_is; host_is = host_is; bytes_are = lies }

  its_kind : kind ≡ kind_of (Disc served)
  its_kind = sym (ap (λ (x : CacheShown). x.drive.shape.layout) by.opened.shown_is ∙ by.kind_is)

  inserted : IsInserted by.shape (cells_of (total by.shape) bytes) bytes served
  inserted = record { opened = by.opened; host_is = refl; scrub_is = refl; bytes_are = refl }

-- an image that was left and then pressed tells the bytes of a new disc
record IsPressed (shape : Shape) (after : Option (List ℕ)) : Type 0 where
  bytes : List ℕ
  known : after ≡ Some bytes
  bytes_are : bytes ≡ pressed_image shape
  image_is : IsImageOf shape (blank_cells shape) bytes

pressed_bytes : (s : State) (shape : Shape) (before after : Option (List ℕ)) → LeavesImage s before → WhereKnown before after (PressesImage shape) → IsPressed shape after
pressed_bytes s shape None after left pressed = absurd left
pressed_bytes s shape (Some before) None left pressed = absurd pressed
pressed_bytes s shape (Some before) (Some after) left pressed = record { bytes = after; known = refl; bytes_are = pressed.bytes; image_is = pressed.image }

module _ {D I : Type 0} (drives : Drives D) (lies_in : D → Option (List ℕ)) (images : Images I) (s : State) (kind : LayoutKind) (shape : Shape) (kind_is : shape.layout ≡ kind) (its : kind ≡ kind_of s) (lawful : IsLawful shape) where
  -- the image stopped a press
  pub press_stopped : (before : Option (List ℕ)) (image : I) (rooms : TargetRooms) → rooms.drive.kind ≡ kind → LeavesImage s before → WhereKnown before (images.bytes image) IsStoppedPress → IsPressAnswered s shape (Stands drives lies_in images (inserts.Image image rooms)) (Err whys.ImageFault)
  press_stopped before image rooms same left stopped = by_bytes before (images.bytes image) left stopped refl
    where
      by_bytes : (b a : Option (List ℕ)) → LeavesImage s b → WhereKnown b a IsStoppedPress → images.bytes image ≡ a → IsPressAnswered s shape (Stands drives lies_in images (inserts.Image image rooms)) (Err whys.ImageFault)
      by_bytes None a l w e = absurd l
      by_bytes (Some held) None l w e = absurd w
      by_bytes (Some held) (Some now) l w e = record { state = Unopened (record { kind = kind; bytes = now }); step = (lawful, inl (held, l, w, its)); stands = (e, same) }

  module _ (before : Option (List ℕ)) (image : I) (left : LeavesImage s before) (pressed : WhereKnown before (images.bytes image) (PressesImage shape)) where
    found : IsPressed shape (images.bytes image)
    found = pressed_bytes s shape before (images.bytes image) left pressed

    -- a disc was pressed and opened
    pub press_opened : (target : Target D) → target.host ≡ powered_on → ((bytes : List ℕ) → images.bytes image ≡ Some bytes → IsOpenedBy kind bytes (drives.shows target.disc) (drives.stands target.disc))
        → lies_in target.disc ≡ images.bytes image → (scrub : Scrub) → scrubber_of scrub ≡ fresh
        → IsPressAnswered s shape (Stands drives lies_in images (inserts.Disc target kind scrub)) (event events.Pressed)
    press_opened target host_is opening same scrub new =
        let by = opening found.bytes found.known in
        let one : by.shape ≡ shape = one_header by.shape shape found.bytes (by.kind_is ∙ sym kind_is) by.image.has_header found.image_is.disc.has_header in
        let lies : lies_in target.disc ≡ Some found.bytes = same ∙ found.known in
        let disc = served drives lies_in images kind found.bytes target by host_is lies in
        record {
          state = Disc disc;
          step = (
            lawful,
            subst (λ bytes. IsInserted shape (blank_cells shape) bytes disc) found.bytes_are
                (subst (λ cells. IsInserted shape cells found.bytes disc) found.image_is.cells_are
                (subst (λ (z : Shape). IsInserted z (cells_of (total z) found.bytes) found.bytes disc) one (inserted drives lies_in images kind found.bytes target by host_is lies))),
          );
          stands = (is_in drives lies_in images kind found.bytes target by host_is lies, its_kind drives lies_in images kind found.bytes target by host_is lies, new);
        }

    -- a pressed image is refused only where it failed
    pub press_refused : (image' : I) (rooms : TargetRooms) → rooms.drive.kind ≡ kind → (faults faults' : ℕ) (fault : OpenFault) → IsRefused kind (images.bytes image) (images.bytes image') faults faults' fault → IsPressAnswered s shape (Stands drives lies_in images (inserts.Image image' rooms)) (Err (stopped_by fault))
    press_refused image' rooms same faults faults' faulty.Header refused = absurd (bad.1 shape kind_is found.image_is.disc.has_header)
      where
        bad : (16 ≤ length found.bytes) × ((z : Shape) → z.layout ≡ kind → ¬ HasHeader z found.bytes)
        bad = subst (λ o. IfSome o (λ held. (16 ≤ length held) × ((z : Shape) → z.layout ≡ kind → ¬ HasHeader z held))) found.known refused.1
    press_refused image' rooms same faults faults' (faulty.Length len) refused = absurd (cases bad.1)
      where
        bad : (len ≡ length found.bytes) × ((len < 16) ⊎ ((z : Shape) × HasHeader z found.bytes × (len ≢ image_len (total z))))
        bad = subst (λ o. IfSome o (λ held. (len ≡ length held) × ((len < 16) ⊎ ((z : Shape) × HasHeader z held × (len ≢ image_len (total z)))))) found.known refused.1

        long : length found.bytes ≡ image_len (total shape)
        long = found.image_is.disc.as_long

        cases : (len < 16) ⊎ ((z : Shape) × HasHeader z found.bytes × (len ≢ image_len (total z))) → ⊥
        cases (inl short) = omega (arith, bad.0, long)
        cases (inr other) = other.2 (bad.0 ∙ long ∙ ap image_len (total_by_header shape other.0 found.bytes found.image_is.disc.has_header other.1))
    press_refused image' rooms same faults faults' faulty.Fault refused = record { state = Unopened (record { kind = kind; bytes = found.bytes }); step = (lawful, inr (found.image_is, sym kind_is)); stands = (refused.same ∙ found.known, same) }

module _ {D I : Type 0} (drives : Drives D) (lies_in : D → Option (List ℕ)) (images : Images I) (kind : LayoutKind) (image : I) where
  -- a disc was opened
  pub first_opened : (target : Target D) → target.host ≡ powered_on → ((bytes : List ℕ) → images.bytes image ≡ Some bytes → IsOpenedBy kind bytes (drives.shows target.disc) (drives.stands target.disc))
      → lies_in target.disc ≡ images.bytes image → (scrub : Scrub) → scrubber_of scrub ≡ fresh
      → (bytes : List ℕ) → images.bytes image ≡ Some bytes → StandsFirst kind bytes (Stands drives lies_in images (inserts.Disc target kind scrub))
  first_opened target host_is opening same scrub new bytes known =
      let by = opening bytes known in
      let lies : lies_in target.disc ≡ Some bytes = same ∙ known in
      record {
        state = Disc (served drives lies_in images kind bytes target by host_is lies);
        kind_is = sym (its_kind drives lies_in images kind bytes target by host_is lies);
        first = (by.shape, by.image, inserted drives lies_in images kind bytes target by host_is lies);
        stands_first = (is_in drives lies_in images kind bytes target by host_is lies, its_kind drives lies_in images kind bytes target by host_is lies, new);
      }

  -- an image that holds no disc is left as it is
  pub first_unopened : (image' : I) (rooms : TargetRooms) → rooms.drive.kind ≡ kind → (faults faults' : ℕ) (fault : OpenFault) → IsRefused kind (images.bytes image) (images.bytes image') faults faults' fault → (fault ≡ faulty.Header) ⊎ ((len : ℕ) × (fault ≡ faulty.Length len))
      → ((bytes : List ℕ) → images.bytes image ≡ Some bytes → StandsFirst kind bytes (Stands drives lies_in images (inserts.Image image' rooms))) × (faults' ≡ faults)
  first_unopened image' rooms same faults faults' why refused (inl e) = (λ bytes known. without_header bytes known (subst (IsRefused kind (images.bytes image) (images.bytes image') faults faults') e refused), (subst (IsRefused kind (images.bytes image) (images.bytes image') faults faults') e refused).0.count)
    where
      without_header : (bytes : List ℕ) → images.bytes image ≡ Some bytes → IsRefused kind (images.bytes image) (images.bytes image') faults faults' faulty.Header → StandsFirst kind bytes (Stands drives lies_in images (inserts.Image image' rooms))
      without_header bytes known r =
          let bad : (16 ≤ length bytes) × ((z : Shape) → z.layout ≡ kind → ¬ HasHeader z bytes) = subst (λ o. IfSome o (λ held. (16 ≤ length held) × ((z : Shape) → z.layout ≡ kind → ¬ HasHeader z held))) known r.1 in
          record { state = Unopened (record { kind = kind; bytes = bytes }); kind_is = refl; first = (refl, λ shape its there. bad.1 shape its there.has_header); stands_first = (r.0.same ∙ known, same) }
  first_unopened image' rooms same faults faults' why refused (inr other) = (λ bytes known. of_other_length bytes known (subst (IsRefused kind (images.bytes image) (images.bytes image') faults faults') other.1 refused), (subst (IsRefused kind (images.bytes image) (images.bytes image') faults faults') other.1 refused).0.count)
    where
      clash : (bytes : List ℕ) (shape : Shape) → other.0 ≡ length bytes → IsDiscImage shape bytes → (other.0 < 16) ⊎ ((z : Shape) × HasHeader z bytes × (other.0 ≢ image_len (total z))) → ⊥
      clash bytes shape long there (inl short) = let whole = there.as_long in omega (arith, long, whole)
      clash bytes shape long there (inr z) = z.2 (long ∙ there.as_long ∙ ap image_len (total_by_header shape z.0 bytes there.has_header z.1))

      of_other_length : (bytes : List ℕ) → images.bytes image ≡ Some bytes → IsRefused kind (images.bytes image) (images.bytes image') faults faults' (faulty.Length other.0) → StandsFirst kind bytes (Stands drives lies_in images (inserts.Image image' rooms))
      of_other_length bytes known r =
          let bad : (other.0 ≡ length bytes) × ((other.0 < 16) ⊎ ((z : Shape) × HasHeader z bytes × (other.0 ≢ image_len (total z)))) = subst (λ o. IfSome o (λ held. (other.0 ≡ length held) × ((other.0 < 16) ⊎ ((z : Shape) × HasHeader z held × (other.0 ≢ image_len (total z)))))) known r.1 in
          record { state = Unopened (record { kind = kind; bytes = bytes }); kind_is = refl; first = (refl, λ shape its there. clash bytes shape bad.0 there bad.1); stands_first = (r.0.same ∙ known, same) }

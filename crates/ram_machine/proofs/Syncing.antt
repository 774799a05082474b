-- The inserted disc, as all was to last.
use Rattle.std.specs.Prelude.{◌≡◌, ℕ, Option, Some, List}
use Rattle.std.proofs.Common.{refl, sym, ap, ◌∙◌, subst}
use Rattle.model_geometry.specs.declared.kinds.LayoutKind.{LayoutKind}
use Rattle.model_geometry.specs.Geometry.{Shape, IsLawful, label_of}
use Rattle.model_cache.specs.Values.{Contents}
use Rattle.model_cache.specs.Shown.{CacheShown}
use Rattle.ram_outside.specs.declared.image.Image.{Ghosts as Images}
use Rattle.ram_medium.specs.declared.control.SyncEnd.{SyncEnd}
use Rattle.ram_medium.specs.declared.control.SyncEnd.TheVariants as syncs
use Rattle.ram_sectors.specs.Laws.{CachingLaws}
use Rattle.ram_sectors.specs.declared.caching.Caching.{Ghosts as Drives}
use Rattle.ram_mmc.specs.declared.target.Target.{Target}
use Rattle.ram_scrub.specs.Scrub.{scrubber_of}
use Rattle.ram_scrub.specs.declared.scrub.Scrub.{Scrub}
use Rattle.ram_machine.specs.declared.inserted.Inserted.TheVariants as inserts
use Rattle.ram_machine.specs.Control.{SyncOnCached, contents_after_sync, IsSynced, FailsToLast}
use Rattle.ram_machine.specs.Drive.{DriveLaws}
use Rattle.ram_machine.specs.Inserted.{Stands}
use Rattle.ram_machine.specs.States.{State, Served, Unopened, Disc, IsIn, IsLabelled}
use Rattle.ram_machine.proofs.Images.{lies_there}
use Rattle.ram_machine.proofs.SoundChains.{contents_known}

module _ {D I : Type 0} (drives : Drives D) (lies_in : D → Option (List ℕ)) (images : Images I) (laws : CachingLaws drives.shows drives.stands)
    (lying : DriveLaws drives.shows drives.underwent lies_in) (old new : Target D) (scrub : Scrub) (same_host : new.host ≡ old.host)
    (bytes : lies_in new.disc ≡ lies_in old.disc) where
  -- the disc is as before
  same_disc : (s : Served) → drives.shows new.disc ≡ drives.shows old.disc → ((x : Contents) → drives.stands old.disc x → drives.stands new.disc x)
      → IsIn (drives.shows old.disc) (drives.stands old.disc) old.host (lies_in old.disc) s → IsIn (drives.shows new.disc) (drives.stands new.disc) new.host (lies_in new.disc) s
  same_disc s shown stands is = record {
    shown_is = shown ∙ is.shown_is;
    contents_is = stands s.disc.contents is.contents_is;
    host_is = same_host ∙ is.host_is;
    bytes_are = bytes ∙ is.bytes_are;
  }

  -- the image failed
  failed_disc : (s : Served) → SyncOnCached (drives.shows old.disc) (drives.shows new.disc) syncs.Failed
      → ((x : Contents) → drives.stands old.disc x → drives.stands new.disc (contents_after_sync x syncs.Failed))
      → IsIn (drives.shows old.disc) (drives.stands old.disc) old.host (lies_in old.disc) s → scrubber_of scrub ≡ s.scrub
      → (t : Served) × FailsToLast s t × IsIn (drives.shows new.disc) (drives.stands new.disc) new.host (lies_in new.disc) t × (scrubber_of scrub ≡ t.scrub)
      × (t.disc.shown.drive.shape ≡ s.disc.shown.drive.shape)
  failed_disc s rule stands is scrub_is =
      let held = stands s.disc.contents is.contents_is in
      let stood = (laws.as_shown new.disc (contents_after_sync s.disc.contents syncs.Failed)).0 held in
      let shape : (drives.shows new.disc).drive.shape ≡ s.disc.shown.drive.shape = rule.0.1.same_shape ∙ ap (λ (shown : CacheShown). shown.drive.shape) is.shown_is in
      let labelled : IsLabelled (drives.shows new.disc).drive =
      rule.0.0.same_label ∙ ap (λ (shown : CacheShown). shown.drive.medium.world.label) is.shown_is ∙ s.labelled ∙ sym (ap label_of shape) in
      let lawful = subst IsLawful (sym shape) s.image.disc.has_header.lawful in
      let there = lies_there (drives.shows new.disc).drive (lies_in new.disc) (contents_known (drives.shows new.disc) (contents_after_sync s.disc.contents syncs.Failed) stood) labelled lawful (lying.has_cells new.disc) in
      let t : Served = record {
        disc = record {
          shown = drives.shows new.disc;
          contents = contents_after_sync s.disc.contents syncs.Failed;
          sound = laws.drive_sound new.disc;
          cache_sound = laws.sound new.disc;
          stands = stood;
        };
        host = new.host;
        scrub = s.scrub;
        labelled = labelled;
        bytes = there.bytes;
        image = there.image_is;
      } in (
        t,
        record {
          drive = subst (λ (shown : CacheShown). SyncOnCached shown (drives.shows new.disc) syncs.Failed) is.shown_is rule;
          contents_are = refl;
          same_host = same_host ∙ is.host_is;
          same_scrub = refl;
          same_bytes = one_some there.bytes s.bytes (sym there.known ∙ bytes ∙ is.bytes_are);
        },
        record { shown_is = refl; contents_is = held; host_is = refl; bytes_are = there.known },
        scrub_is,
        shape,
      )
    where
      one_some : (xs ys : List ℕ) → Some xs ≡ Some ys → xs ≡ ys
      one_some xs ys same = cc

  -- the same of the inserted disc
  pub inserted_synced : (s : State) (kind : LayoutKind) (end : SyncEnd) → SyncOnCached (drives.shows old.disc) (drives.shows new.disc) end
      → ((x : Contents) → drives.stands old.disc x → drives.stands new.disc (contents_after_sync x end))
      → Stands drives lies_in images (inserts.Disc old kind scrub) s → IsSynced s (Stands drives lies_in images (inserts.Disc new kind scrub)) end
  inserted_synced (Unopened bare) kind end rule stands stood = absurd stood
  inserted_synced (Disc s) kind syncs.Done rule stands stood =
      record { state = Disc s; step = refl; stands = (same_disc s rule stands stood.0, stood.1, stood.2) }
  inserted_synced (Disc s) kind syncs.Failed rule stands stood =
      let left = failed_disc s rule stands stood.0 stood.2 in
      record { state = Disc left.0; step = left.1; stands = (left.2, stood.1 ∙ sym (ap (λ (z : Shape). z.layout) left.4), left.3) }

-- What becomes of one block of a resynchronisation, and how far one came. (This project's own.)
use Rattle.std.specs.Prelude.{◌≡◌, ℕ, MatchBool}
use Rattle.model_sectors.specs.declared.ReadOut.{ReadOut}
use Rattle.model_sectors.specs.declared.ReadOut.TheVariants as reads
use Rattle.model_mirror.specs.Shown.{MirrorShown}
use Rattle.model_drive.specs.Shown.{block_count}
use Rattle.model_drive.specs.Tells.{HasDisc}
use Rattle.model_mirror.specs.Table.{is_apart}
use Rattle.model_mirror.specs.Whole.{MendsBlock, ResyncsBlocks, ResyncStopped}
use Rattle.ram_mirror.specs.Sides.{CopiesOrStops}

-- One block was copied if it is apart, and else mended, or could not be; or the lead was stopped. It was passed over where the other
-- side is down.
abbrev pub PassesBlock : MirrorShown → MirrorShown → ℕ → ReadOut → Type 0
PassesBlock old new i out = MatchBool old.up
    (MatchBool (is_apart old.table i) (CopiesOrStops old new i out) (MendsBlock old new i out))
    ((new ≡ old) × (out ≡ reads.Good))

-- all blocks were gone through, and the lead has its disc still
pub record HasGoneThrough (old new : MirrorShown) : Type 0 where
  pub disc : HasDisc new.lead
  pub through : ResyncsBlocks old new (block_count old.lead)

-- all blocks were gone through, or the lead was stopped at one
abbrev pub ThroughAll : MirrorShown → MirrorShown → ReadOut → Type 0
ThroughAll old new reads.Good = HasGoneThrough old new
ThroughAll old new reads.Cut = ResyncStopped old new reads.Cut
ThroughAll old new reads.Fault = ResyncStopped old new reads.Fault
ThroughAll old new _ = ⊥

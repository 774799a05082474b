-- Why each answer of a format and of a resynchronisation of a mirror comes. (This project's own, as all here.)
use Rattle.std.specs.Prelude.{◌≡◌, ℕ, zero, suc, ◌*◌, ◌<◌, ◌==◌, ◌⊎◌, MatchBool, if◌then◌else◌, Bool, true, false, List, replicate}
use Rattle.model_sectors.specs.declared.ReadOut.{ReadOut}
use Rattle.model_sectors.specs.declared.ReadOut.TheVariants as reads
use Rattle.model_drive.specs.declared.WriteOut.{WriteOut}
use Rattle.model_drive.specs.declared.WriteOut.TheVariants as writes
use Rattle.model_drive.specs.declared.FormatOut.{FormatOut}
use Rattle.model_drive.specs.declared.FormatOut.TheVariants as formats
use Rattle.model_drive.specs.declared.Kind.TheVariants as kinds
use Rattle.model_drive.specs.Shown.{Shown, IsOn, IsFormatted, block_count}
use Rattle.model_drive.specs.Formats.{FormatCause}
use Rattle.model_mirror.specs.declared.Resync.{Resync}
use Rattle.model_mirror.specs.declared.Resync.TheVariants as resyncs
use Rattle.model_mirror.specs.Table.{AreMarked, is_apart, count_apart, is_block}
use Rattle.model_mirror.specs.Shown.{MirrorShown, mirror_turned_off, led_by}
use Rattle.model_cache.specs.Chains.{ReadsDisc, LeavesSound}
use Rattle.model_mirror.specs.Reads.{LeadReads, up_after_read}
use Rattle.model_mirror.specs.Writes.{WritesSide, after_lone_write}

-- every block of the lead's disc is apart
abbrev pub all_apart : Shown → List Bool
all_apart lead = replicate (block_count lead) true

-- none is
abbrev pub none_apart : Shown → List Bool
none_apart lead = replicate (block_count lead) false

-- a side was formatted anew, and it went so
pub record FormatsSide (old new : Shown) (out : FormatOut) : Type 0 where
  pub formatted : FormatCause old new (kinds.Full true) out
  pub leaves : LeavesSound old new

-- the lead was, and nothing else happened
abbrev pub LeadFormats : MirrorShown → MirrorShown → FormatOut → Type 0
LeadFormats old mid out = FormatsSide old.lead mid.lead out × (mid ≡ led_by old mid.lead)

-- whether the other side is up after a format of both
abbrev pub up_after_format : (lead other : FormatOut) → (here there : ℕ) → Bool
up_after_format formats.Good formats.Good here there = here == there
up_after_format _ _ here there = false

-- After a good format of the lead the other side was formatted. It is up, with no block apart, where that was good with an equal
-- capacity; else it is down.
pub record FormatsBoth (old new : MirrorShown) : Type 0 where
  pub mid : MirrorShown
  pub lead : LeadFormats old mid formats.Good
  pub told : FormatOut
  pub other : FormatsSide mid.other new.other told
  pub new_is : new ≡ record mid {
    other = new.other;
    up = up_after_format formats.Good told (block_count mid.lead) (block_count new.other);
    table = new.table;
  }
  pub table : new.table ≡ none_apart new.lead

-- The format of the lead ended otherwise, and the other side was not touched: it is down where the lead's disc is not formatted
-- now. Where the lead has its disc still, nothing else happened.
pub record FormatsLead (old new : MirrorShown) (out : FormatOut) : Type 0 where
  pub mid : MirrorShown
  pub lead : LeadFormats old mid out
  pub ends : (IsFormatted mid.lead × (new ≡ mid)) ⊎ (¬ IsFormatted mid.lead × (new ≡ record mid { up = false }))

-- The lead was stopped, and the mirror is off.
pub record FormatStopped (old new : MirrorShown) (out : FormatOut) : Type 0 where
  pub mid : MirrorShown
  pub lead : LeadFormats old mid out
  pub new_is : new ≡ mirror_turned_off mid

-- the format of a mirror that is on
abbrev pub FormatsOn : MirrorShown → MirrorShown → FormatOut → Type 0
FormatsOn old new formats.Good = FormatsBoth old new
FormatsOn old new (formats.TooMany found) = FormatsLead old new (formats.TooMany found)
FormatsOn old new (formats.NoUpdate counter) = FormatsLead old new (formats.NoUpdate counter)
FormatsOn old new formats.Cut = FormatStopped old new formats.Cut
FormatsOn old new formats.Off = LeadFormats old new formats.Off
FormatsOn old new formats.Fault = FormatStopped old new formats.Fault

-- The cause of each answer of a format.
abbrev pub MirrorFormatCause : MirrorShown → MirrorShown → FormatOut → Type 0
MirrorFormatCause old new out = MatchBool old.on (FormatsOn old new out) ((out ≡ formats.Off) × (new ≡ old))

-- What the answer of the other side makes of a block that was copied to it.
module _ (mid new : MirrorShown) (i : ℕ) where
  abbrev pub CopyEnds : WriteOut → Type 0
  CopyEnds writes.Good =
      (new ≡ record mid { other = new.other; table = new.table }) × AreMarked (is_block i) false mid.table new.table
  CopyEnds (writes.Unread named block) = new ≡ record mid { other = new.other }
  CopyEnds (writes.NoSpare named) = new ≡ record mid { other = new.other }
  CopyEnds (writes.NoUpdate counter) = new ≡ record mid { other = new.other }
  CopyEnds _ = new ≡ record mid { other = new.other; up = false }

  -- the block was written to the other side
  pub record WritesCopy : Type 0 where
    pub told : WriteOut
    pub wrote : WritesSide mid.other new.other (16 * i) 16 told
    pub ends : CopyEnds told

  -- what comes of a block by the lead's answer: it is copied, or it cannot be read and stays apart
  abbrev pub CopyGoesOn : ReadOut → Type 0
  CopyGoesOn reads.Good = WritesCopy
  CopyGoesOn (reads.Unread named block) = new ≡ mid
  CopyGoesOn _ = ⊥

-- One block was copied from the lead to the other side, or could not be.
pub record CopiesBlock (old new : MirrorShown) (i : ℕ) : Type 0 where
  pub mid : MirrorShown
  pub told : ReadOut
  pub reads : LeadReads old mid (16 * i) 16 told
  pub goes_on : CopyGoesOn mid new i told

-- how a resynchronisation goes on once the lead was written
abbrev pub once_written : WriteOut → ReadOut
once_written writes.Cut = reads.Cut
once_written writes.Fault = reads.Fault
once_written _ = reads.Good

module _ (mid new : MirrorShown) (i : ℕ) where
  -- The block was written to the lead, as the other side has it. The mirror is off where the lead was stopped in that.
  pub record WritesBack (out : ReadOut) : Type 0 where
    pub told : WriteOut
    pub wrote : WritesSide mid.lead new.lead (16 * i) 16 told
    pub new_is : new ≡ after_lone_write told (led_by mid new.lead)
    pub out_is : out ≡ once_written told

  -- by the answer of the other side: where that lacks the block too, nothing is written
  abbrev pub MendEnds : (told out : ReadOut) → Type 0
  MendEnds reads.Good out = WritesBack out
  MendEnds _ out = (new ≡ mid) × (out ≡ reads.Good)

-- The other side was asked for a block that the lead lacks.
pub record MendsLack (mid new : MirrorShown) (i : ℕ) (out : ReadOut) : Type 0 where
  pub late : MirrorShown
  pub told : ReadOut
  pub reads : ReadsDisc mid.other late.other (16 * i) 16 told
  pub late_is : late ≡ record mid { other = late.other; up = up_after_read told }
  pub ends : MendEnds late new i told out

-- what comes of a block that is not apart, by the lead's answer
abbrev pub MendGoesOn : (mid new : MirrorShown) → ℕ → (told out : ReadOut) → Type 0
MendGoesOn mid new i reads.Good out = (new ≡ mid) × (out ≡ reads.Good)
MendGoesOn mid new i (reads.Unread named block) out = MendsLack mid new i out
MendGoesOn mid new i reads.Cut out = (new ≡ mirror_turned_off mid) × (out ≡ reads.Cut)
MendGoesOn mid new i reads.Fault out = (new ≡ mirror_turned_off mid) × (out ≡ reads.Fault)
MendGoesOn mid new i _ out = ⊥

-- One block that is not apart was read from the lead; where that lacks it, it got it from the other side, or could not. Where
-- the lead was stopped in either the mirror is off.
pub record MendsBlock (old new : MirrorShown) (i : ℕ) (out : ReadOut) : Type 0 where
  pub mid : MirrorShown
  pub told : ReadOut
  pub reads : LeadReads old mid (16 * i) 16 told
  pub goes_on : MendGoesOn mid new i told out

-- one block was gone through: it was copied if it is apart, else mended, while the other side is up
abbrev pub ResyncsBlock : MirrorShown → MirrorShown → ℕ → Type 0
ResyncsBlock old new i = MatchBool old.up
    (MatchBool (is_apart old.table i) (CopiesBlock old new i) (MendsBlock old new i reads.Good)) (new ≡ old)

-- the first n blocks were, rising
abbrev pub ResyncsBlocks : MirrorShown → MirrorShown → ℕ → Type 0
ResyncsBlocks old new zero = new ≡ old
ResyncsBlocks old new (suc k) = (mid : MirrorShown) × ResyncsBlocks old mid k × ResyncsBlock mid new k

-- how many blocks are left
abbrev pub left_of : MirrorShown → ℕ
left_of shown = if shown.up then count_apart shown.table else block_count shown.lead

-- all blocks were gone through
pub record ResyncsAll (old new : MirrorShown) (left : ℕ) : Type 0 where
  pub on : IsOn old.lead
  pub formatted : IsFormatted old.lead
  pub through : ResyncsBlocks old new (block_count old.lead)
  pub left_is : left ≡ left_of new

-- the lead was stopped in the read of a block that was to be copied, and the mirror is off
pub record CopyStopped (mid new : MirrorShown) (i : ℕ) (told : ReadOut) : Type 0 where
  pub late : MirrorShown
  pub reads : LeadReads mid late (16 * i) 16 told
  pub new_is : new ≡ mirror_turned_off late

-- The lead was stopped at a block. The mirror is off.
pub record ResyncStopped (old new : MirrorShown) (told : ReadOut) : Type 0 where
  pub before : ℕ
  pub early : before < block_count old.lead
  pub mid : MirrorShown
  pub through : ResyncsBlocks old mid before
  pub up : mid.up ≡ true
  pub stops : MatchBool (is_apart mid.table before) (CopyStopped mid new before told) (MendsBlock mid new before told)

-- the resynchronisation of a mirror that is on
abbrev pub ResyncsOn : MirrorShown → MirrorShown → Resync → Type 0
ResyncsOn old new (resyncs.Done left) = ResyncsAll old new left
ResyncsOn old new resyncs.NotFormatted = IsOn old.lead × ¬ IsFormatted old.lead × (new ≡ old)
ResyncsOn old new resyncs.Cut = ResyncStopped old new reads.Cut
ResyncsOn old new resyncs.Off = ¬ IsOn old.lead × (new ≡ old)
ResyncsOn old new resyncs.Fault = ResyncStopped old new reads.Fault

-- The cause of each answer of a resynchronisation.
abbrev pub ResyncCause : MirrorShown → MirrorShown → Resync → Type 0
ResyncCause old new out = MatchBool old.on (ResyncsOn old new out) ((out ≡ resyncs.Off) × (new ≡ old))

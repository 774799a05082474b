-- Which bytes a use of a medium over an image changes, of what its parts change.
use Rattle.std.specs.Prelude.{◌≡◌, ℕ, Bool, Option, Some, MatchOption, List}
use Rattle.std.proofs.Common.{sym, ap, ◌∙◌, inl, inr, subst}
use Rattle.model_bytes.specs.Known.{WhereKnown}
use Rattle.model_medium.specs.Machine.{Machine}
use Rattle.model_medium.specs.declared.Fate.{Fate}
use Rattle.model_medium.specs.declared.ReadEnd.{ReadEnd}
use Rattle.model_medium.specs.declared.ReadEnd.TheVariants as reads
use Rattle.model_medium.specs.declared.WriteEnd.{WriteEnd}
use Rattle.model_medium.specs.declared.WriteEnd.TheVariants as writes
use Rattle.model_image.specs.Writes.{worn_bytes, bytes_left, StopsInBytes}
use Rattle.model_image.proofs.KnownBytes.{known_then, known_weaker}
use Rattle.ram_image.specs.EventBytes.{WearsBytes, MayWearBytes, LeavesBytes, MayLeaveBytes, ReadBytes, WriteBytes}
use Rattle.ram_outside.specs.Past.{Moment}
use Rattle.ram_image.specs.Moments.{PassesOnly, IsSame}
use Rattle.ram_image.proofs.Moments.{passes_then, passes_as, passes_weaker, passes_since}
use Rattle.ram_image.proofs.CellMoments.{none_stops}
use Rattle.ram_image.specs.Begun.{ReadOnRule, WriteCutRule, WriteCutBytes}

module _ (dies : Bool) (block : ℕ) (before mid after : Option (List ℕ)) (wears : WhereKnown before mid (WearsBytes dies block)) where
  -- then nothing changed
  pub worn_still : after ≡ mid → WhereKnown before after (WearsBytes dies block)
  worn_still e = subst (λ o. WhereKnown before o (WearsBytes dies block)) (sym e) wears

  pub read_bytes : (old new : Machine) (into into' : List ℕ) (how : ReadEnd) → ReadOnRule old new block into into' how → after ≡ mid → ReadBytes dies block before after how
  read_bytes old new into into' reads.Done rule e = worn_still e
  read_bytes old new into into' reads.Unreadable rule e = worn_still e
  read_bytes old new into into' reads.Cut rule e = absurd rule
  read_bytes old new into into' reads.Off rule e = absurd rule
  read_bytes old new into into' reads.Failed rule e = known_weaker (WearsBytes dies block) (MayWearBytes dies block) (λ a b is. inr is) before after (worn_still e)

  module _ (total : ℕ) (from : List ℕ) where
    pub left_then : (fate : Fate) → WhereKnown mid after (λ held held'. held' ≡ bytes_left fate total block from held) → WhereKnown before after (LeavesBytes dies fate total block from)
    left_then fate left =
        known_then (WearsBytes dies block) (λ held held'. held' ≡ bytes_left fate total block from held) (LeavesBytes dies fate total block from)
        (λ a b c e e'. e' ∙ ap (bytes_left fate total block from) e) before mid after wears left

    pub stops_then : WhereKnown mid after (StopsInBytes total block from) → WhereKnown before after (MayLeaveBytes dies total block from)
    stops_then stops =
        known_then (WearsBytes dies block) (StopsInBytes total block from) (MayLeaveBytes dies total block from)
        (λ a b c e s. inr (subst (λ l. StopsInBytes total block from l c) e s)) before mid after wears stops

    pub cut_bytes : (due : Option Fate) (fate : Fate) → due ≡ Some fate → (old new : Machine) (how : WriteEnd) → WriteCutRule old new block from fate how → WriteCutBytes total block from fate mid after how
        → WriteBytes dies due total block from before after how
    cut_bytes due fate is old new writes.Done rule left = absurd rule
    cut_bytes due fate is old new writes.Cut rule left = subst (λ o. MatchOption o ⊥ (λ f. WhereKnown before after (LeavesBytes dies f total block from))) (sym is) (left_then fate left)
    cut_bytes due fate is old new writes.Off rule left = absurd rule
    cut_bytes due fate is old new writes.Failed rule left = stops_then left

-- the image failed while an arm killed the block that was to be written
worn_leaves : (dies : Bool) (block total : ℕ) (from a b : List ℕ) → MayWearBytes dies block a b → MayLeaveBytes dies total block from a b
worn_leaves dies block total from a b (inl same) = inl same
worn_leaves dies block total from a b (inr dead) = inr (none_stops total block from (worn_bytes dies block a) b dead)

pub begun_bytes : (dies : Bool) (block : ℕ) (before after : Option (List ℕ)) → WhereKnown before after (MayWearBytes dies block) → (total : ℕ) (from : List ℕ) → WhereKnown before after (MayLeaveBytes dies total block from)
begun_bytes dies block before after known total from = known_weaker (MayWearBytes dies block) (MayLeaveBytes dies total block from) (worn_leaves dies block total from) before after known

-- what the image is while the use begins
pub begun_past : (dies : Bool) (block : ℕ) (before : Option (List ℕ)) (past past' : Option (List Moment)) → PassesOnly (MayWearBytes dies block) before past past' → (total : ℕ) (from : List ℕ)
    → PassesOnly (MayLeaveBytes dies total block from) before past past'
begun_past dies block before past past' begins total from =
    passes_weaker (MayWearBytes dies block) (MayLeaveBytes dies total block from) (worn_leaves dies block total from) before past past' begins

-- what the image is in the midst of a use, of what it is in its parts
module _ (dies : Bool) (block : ℕ) (before mid : Option (List ℕ)) (wears : WhereKnown before mid (WearsBytes dies block)) (past past1 past2 : Option (List Moment))
    (begins : PassesOnly (MayWearBytes dies block) before past past1) where
  pub read_past : PassesOnly IsSame mid past1 past2 → PassesOnly (MayWearBytes dies block) before past past2
  read_past reads =
      passes_then (MayWearBytes dies block) before past past1 past2 begins
      (passes_since (WearsBytes dies block) IsSame (MayWearBytes dies block) (λ a b c e same. inr (same ∙ e)) before mid wears past1 past2 reads)

  pub write_past : (total : ℕ) (from : List ℕ) → PassesOnly (StopsInBytes total block from) mid past1 past2 → PassesOnly (MayLeaveBytes dies total block from) before past past2
  write_past total from leaves =
      passes_then (MayLeaveBytes dies total block from) before past past1 past2 (begun_past dies block before past past1 begins total from)
      (passes_as (StopsInBytes total block from) (MayLeaveBytes dies total block from) before mid (λ bytes known. stops_then dies block before mid (Some bytes) wears total from known) past1 past2 leaves)

-- What an image is in the midst of a call: one of its own calls, and several.
use Rattle.std.specs.Prelude.{◌≡◌, ℕ, Bool, Option, Some, None, List}
use Rattle.std.proofs.Common.{refl, sym, ap, ◌∙◌, inl, inr, subst}
use Rattle.model_bytes.specs.Known.{WhereKnown}
use Rattle.model_image.proofs.KnownBytes.{known_then, known_weaker, known_same}
use Rattle.ram_outside.specs.Added.{AddsNow, AddsOnly}
use Rattle.ram_outside.specs.Past.{Moment, ImageView, image_view, AddsMoment, AddsFailure, WritePast, ReadPast, failed_with, passed}
use Rattle.ram_outside.specs.declared.image.Moved.{Moved}
use Rattle.ram_outside.specs.declared.image.Moved.TheVariants as moves
use Rattle.ram_outside.proofs.Additions.{added_none_of, added_once, added_then, added_mapped}
use Rattle.ram_image.specs.Moments.{IsMoment, PassesOnly, IsSame}

module _ (R : List ℕ → List ℕ → Type 0) (before : Option (List ℕ)) where
  -- one moment
  moment_added : (moment : List ℕ → Moment) → ((bytes : List ℕ) → (moment bytes).bytes ≡ bytes) → (after : Option (List ℕ)) (past past' : Option (List Moment)) → WhereKnown before after R
      → AddsMoment moment past after past' → PassesOnly R before past past'
  moment_added moment of None past past' known adds = rw adds tt
  moment_added moment of (Some bytes) past past' known adds =
      added_once (IsMoment R before) (moment bytes) past past' adds (subst (λ l. WhereKnown before (Some l) R) (sym (of bytes)) known)

  failure_added : (mid after : Option (List ℕ)) (past past' : Option (List Moment)) → WhereKnown before after R → AddsFailure (image_view mid past) (image_view after past') → PassesOnly R before past past'
  failure_added mid after past past' known (inl adds) = moment_added failed_with (λ bytes. refl) after past past' known adds
  failure_added mid after past past' known (inr same) = added_none_of (IsMoment R before) past past' (ap (λ view. view.past) same)

  -- a call that may change bytes
  pub write_passes : (mid after : Option (List ℕ)) (past past' : Option (List Moment)) (r : Moved) → WhereKnown before after R → WritePast (image_view mid past) (image_view after past') r → PassesOnly R before past past'
  write_passes mid after past past' moves.Done known adds = moment_added passed (λ bytes. refl) after past past' known adds
  write_passes mid after past past' moves.Failed known adds = failure_added mid after past past' known adds

  -- a call that changes none
  pub read_passes : (mid after : Option (List ℕ)) (past past' : Option (List Moment)) (r : Moved) → WhereKnown before after R → ReadPast (image_view mid past) (image_view after past') r → PassesOnly R before past past'
  read_passes mid after past past' moves.Done known adds = added_none_of (IsMoment R before) past past' adds
  read_passes mid after past past' moves.Failed known adds = failure_added mid after past past' known adds

  -- nothing was called
  pub none_passes : (past past' : Option (List Moment)) → past' ≡ past → PassesOnly R before past past'
  none_passes past past' same = added_none_of (IsMoment R before) past past' same

  -- one call after another
  pub passes_then : (past mid past' : Option (List Moment)) → PassesOnly R before past mid → PassesOnly R before mid past' → PassesOnly R before past past'
  passes_then past mid past' first second = added_then (IsMoment R before) past mid past' first second

-- said of the bytes before, and less
pub passes_as : (R S : List ℕ → List ℕ → Type 0) (before mid : Option (List ℕ)) → ((bytes : List ℕ) → WhereKnown mid (Some bytes) R → WhereKnown before (Some bytes) S) → (past past' : Option (List Moment))
    → PassesOnly R mid past past' → PassesOnly S before past past'
passes_as R S before mid so past past' passes = added_mapped (IsMoment R mid) (IsMoment S before) (λ moment known. so moment.bytes known) past past' passes

pub passes_weaker : (R S : List ℕ → List ℕ → Type 0) → ((a b : List ℕ) → R a b → S a b) → (before : Option (List ℕ)) (past past' : Option (List Moment)) → PassesOnly R before past past' → PassesOnly S before past past'
passes_weaker R S so before past past' passes = passes_as R S before before (λ bytes known. known_weaker R S so before (Some bytes) known) past past' passes

-- the bytes before were still those of an earlier time, or came of these by one step
pub passes_since : (R Q S : List ℕ → List ℕ → Type 0) → ((a b c : List ℕ) → R a b → Q b c → S a c) → (before mid : Option (List ℕ)) → WhereKnown before mid R → (past past' : Option (List Moment))
    → PassesOnly Q mid past past' → PassesOnly S before past past'
passes_since R Q S step before mid known past past' passes = passes_as Q S before mid (λ bytes after. known_then R Q S step before mid (Some bytes) known after) past past' passes

pub passes_same : (R : List ℕ → List ℕ → Type 0) (before mid : Option (List ℕ)) → mid ≡ before → (past past' : Option (List Moment)) → PassesOnly R mid past past' → PassesOnly R before past past'
passes_same R before mid same past past' passes = subst (λ o. PassesOnly R o past past') same passes

-- a call that reads
pub reads_pass : (before after : Option (List ℕ)) (past past' : Option (List Moment)) (r : Moved) → after ≡ before → ReadPast (image_view before past) (image_view after past') r → PassesOnly IsSame before past past'
reads_pass before after past past' r same adds = read_passes IsSame before before after past past' r (known_same IsSame (λ held. refl) before after same) adds

-- two calls that read, one after another
pub same_passes : (before mid : Option (List ℕ)) → mid ≡ before → (past past1 past2 : Option (List Moment)) → PassesOnly IsSame before past past1 → PassesOnly IsSame mid past1 past2 → PassesOnly IsSame before past past2
same_passes before mid same past past1 past2 first second = passes_then IsSame before past past1 past2 first (passes_same IsSame before mid same past1 past2 second)

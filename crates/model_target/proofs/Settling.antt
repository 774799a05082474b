-- An ejection, and a list of mode pages that turns the cache off: the disc was synchronised, or nothing was done on it.
use Rattle.std.specs.Prelude.{◌≡◌, ◌⊎◌, ℕ, if◌then◌else◌, Bool, true, false, List, []}
use Rattle.std.specs.Bool.{MatchBool}
use Rattle.std.proofs.Common.{refl, ap, inl, inr}
use Rattle.model_cache.specs.declared.SyncOut.{SyncOut}
use Rattle.model_cache.specs.Values.{Contents}
use Rattle.model_cache.specs.Shown.{CacheShown}
use Rattle.model_cache.specs.Causes.{SyncCause}
use Rattle.model_cache.specs.Steps.{SyncContents}
use Rattle.model_sense.specs.declared.answer.Answer.{Answer}
use Rattle.model_sense.specs.declared.answer.Answer.TheVariants as answers
use Rattle.model_target.specs.Host.{is_good}
use Rattle.model_target.specs.Steps.{settle_answer, IsSettled, TurnsOff, SetsCache, IsAnswered}

module _ (old new : CacheShown) (before after : Contents → Type 0) where
  -- the disc was synchronised, and nothing else was done on it
  pub record Settles (answer : Answer) (data_in : List ℕ) : Type 0 where
    pub mid : CacheShown
    pub out : SyncOut
    pub cause : SyncCause old mid out
    pub step : (s : Contents) → before s → SyncContents mid after s out
    pub same_drive : new.drive ≡ mid.drive
    pub same_pending : new.pending ≡ mid.pending
    pub answer_is : answer ≡ settle_answer out
    pub no_data : data_in ≡ []

  pub settled_by : (answer : Answer) (data_in : List ℕ) → IsSettled old new before after answer data_in → Settles answer data_in
  settled_by answer data_in p = record {
    mid = new;
    out = p.out;
    cause = p.cause;
    step = p.step;
    same_drive = refl;
    same_pending = refl;
    answer_is = p.answer_is;
    no_data = p.no_data;
  }

  drive_by : (good : Bool) (mid : CacheShown) → new ≡ (if good then record mid { caches = false } else mid) → new.drive ≡ mid.drive
  drive_by true mid is = ap (λ (s : CacheShown). s.drive) is
  drive_by false mid is = ap (λ (s : CacheShown). s.drive) is

  pending_by : (good : Bool) (mid : CacheShown) → new ≡ (if good then record mid { caches = false } else mid) → new.pending ≡ mid.pending
  pending_by true mid is = ap (λ (s : CacheShown). s.pending) is
  pending_by false mid is = ap (λ (s : CacheShown). s.pending) is

  pub turned_by : (answer : Answer) (data_in : List ℕ) → TurnsOff old new before after answer data_in → Settles answer data_in
  turned_by answer data_in p = record {
    mid = p.mid;
    out = p.out;
    cause = p.cause;
    step = p.step;
    same_drive = drive_by (is_good answer) p.mid p.new_is;
    same_pending = pending_by (is_good answer) p.mid p.new_is;
    answer_is = p.answer_is;
    no_data = p.no_data;
  }

  pub started : (ejected : Bool) (answer : Answer) (data_in : List ℕ) → MatchBool ejected (IsSettled old new before after answer data_in) (IsAnswered old new before after answer answers.Good data_in [])
      → Settles answer data_in ⊎ IsAnswered old new before after answer answers.Good data_in []
  started true answer data_in p = inl (settled_by answer data_in p)
  started false answer data_in p = inr p

  pub selected : (off : Bool) (payload : List ℕ) (answer : Answer) (data_in : List ℕ) → MatchBool off (TurnsOff old new before after answer data_in) (SetsCache old new before after payload answer data_in)
      → Settles answer data_in ⊎ SetsCache old new before after payload answer data_in
  selected true payload answer data_in p = inl (turned_by answer data_in p)
  selected false payload answer data_in p = inr p

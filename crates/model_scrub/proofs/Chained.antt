-- What holds of each verification, and of one after another, holds of each step of a scrubber, and of each pass.
use Rattle.std.specs.Prelude.{◌≡◌, ℕ, zero, suc, ◌*◌, Bool, true, false}
use Rattle.std.proofs.Common.{sym, subst, refl}
use Rattle.model_sectors.specs.declared.ReadOut.{ReadOut}
use Rattle.model_sectors.specs.declared.ReadOut.TheVariants as reads
use Rattle.model_drive.specs.Shown.{block_count}
use Rattle.model_cache.specs.Values.{Contents, Has, MayHave}
use Rattle.model_cache.specs.Shown.{CacheShown}
use Rattle.model_cache.specs.Causes.{CacheVerifyCause}
use Rattle.model_cache.specs.Steps.{VerifyContents}
use Rattle.model_cache.proofs.Chained.{read_faulted}
use Rattle.model_cache.proofs.Found.{verify_found}
use Rattle.model_scrub.specs.declared.ends.StepEnd.{StepEnd}
use Rattle.model_scrub.specs.declared.ends.StepEnd.TheVariants.{Readable, Unreadable, NotFormatted, Cut, Off, Fault}
use Rattle.model_scrub.specs.declared.ends.PassEnd.{PassEnd}
use Rattle.model_scrub.specs.declared.ends.PassEnd.TheVariants as passes
use Rattle.model_scrub.specs.Scrubs.{Scrubber, begun_on}
use Rattle.model_scrub.specs.Asks.{AsksOn, StepRule, StepContents, StepsThrough, EndsAs, EndsPass, PassRule, PassContents}

-- whether what the medium lies on failed
abbrev pub step_faulted : StepEnd → Bool
step_faulted Fault = true
step_faulted _ = false

abbrev pub pass_faulted : PassEnd → Bool
pass_faulted passes.Fault = true
pass_faulted _ = false

-- It holds of no verification, of one after others of which none failed so, and of each.
pub record HoldsOfVerifications (P : (faulted : Bool) → CacheShown → CacheShown → Type 0) : Type 0 where
  pub none : (s : CacheShown) → P false s s
  pub join : (faulted : Bool) (a b c : CacheShown) → P false a b → P faulted b c → P faulted a c
  pub verify : (a b : CacheShown) (lba n : ℕ) (out : ReadOut) → CacheVerifyCause a b lba n out → P (read_faulted out) a b

module _ (P : (faulted : Bool) → CacheShown → CacheShown → Type 0) (holds : HoldsOfVerifications P) where
  same : (old new : CacheShown) → new ≡ old → P false old new
  same old new is = subst (P false old) (sym is) (holds.none old)

  asked : (old new : CacheShown) (next : ℕ) (end : StepEnd) → AsksOn old new next end → P (step_faulted end) old new
  asked old new next (Readable i) asks = holds.verify old new (16 * i) 16 reads.Good asks
  asked old new next (Unreadable i) asks = holds.verify old new (16 * i) 16 (reads.Unread asks.0 asks.1) asks.2
  asked old new next NotFormatted asks = absurd asks
  asked old new next Cut asks = holds.verify old new (16 * next) 16 reads.Cut asks
  asked old new next Off asks = absurd asks
  asked old new next Fault asks = holds.verify old new (16 * next) 16 reads.Fault asks

  pub of_step : (old new : CacheShown) (s t : Scrubber) (end : StepEnd) → StepRule old new s end t → P (step_faulted end) old new
  of_step old new s t (Readable i) rule = asked old new (begun_on (block_count old.drive) s).next (Readable i) rule.asks
  of_step old new s t (Unreadable i) rule = asked old new (begun_on (block_count old.drive) s).next (Unreadable i) rule.asks
  of_step old new s t NotFormatted rule = same old new rule.2.nothing
  of_step old new s t Cut rule = asked old new (begun_on (block_count old.drive) s).next Cut rule.asks
  of_step old new s t Off rule = same old new rule.1.nothing
  of_step old new s t Fault rule = asked old new (begun_on (block_count old.drive) s).next Fault rule.asks

  -- a step that goes on
  going : (old new : CacheShown) (s t : Scrubber) (k : ℕ) (end : StepEnd) → EndsAs k end → StepRule old new s end t → P false old new
  going old new s t k (Readable i) is rule = of_step old new s t (Readable i) rule
  going old new s t k (Unreadable i) is rule = of_step old new s t (Unreadable i) rule
  going old new s t k NotFormatted is rule = absurd is
  going old new s t k Cut is rule = absurd is
  going old new s t k Off is rule = absurd is
  going old new s t k Fault is rule = absurd is

  through : (old new : CacheShown) (s t : Scrubber) (k : ℕ) → StepsThrough old new s t k → P false old new
  through old new s t zero went = same old new went.0
  through old new s t (suc k) (mid, u, end, before, is, rule) =
      holds.join false old mid new (through old mid s u k before) (going mid new u t k end is rule)

  -- one that ends the pass
  ending : (old new : CacheShown) (s t : Scrubber) (end : StepEnd) (out : PassEnd) → EndsPass end out → StepRule old new s end t → P (pass_faulted out) old new
  ending old new s t (Readable i) out is rule = absurd is
  ending old new s t (Unreadable i) out is rule = absurd is
  ending old new s t NotFormatted out is rule = subst (λ (o : PassEnd). P (pass_faulted o) old new) (sym is) (of_step old new s t NotFormatted rule)
  ending old new s t Cut out is rule = subst (λ (o : PassEnd). P (pass_faulted o) old new) (sym is) (of_step old new s t Cut rule)
  ending old new s t Off out is rule = subst (λ (o : PassEnd). P (pass_faulted o) old new) (sym is) (of_step old new s t Off rule)
  ending old new s t Fault out is rule = subst (λ (o : PassEnd). P (pass_faulted o) old new) (sym is) (of_step old new s t Fault rule)

  stopped : (old new mid : CacheShown) (s u t : Scrubber) (before : ℕ) (end : StepEnd) (out : PassEnd) → StepsThrough old mid s u before → EndsPass end out → StepRule mid new u end t → P (pass_faulted out) old new
  stopped old new mid s u t before end out went is rule =
      holds.join (pass_faulted out) old mid new (through old mid s u before went) (ending mid new u t end out is rule)

  pub of_pass : (old new : CacheShown) (s t : Scrubber) (end : PassEnd) → PassRule old new s end t → P (pass_faulted end) old new
  of_pass old new s t passes.Done rule = through old new s t (block_count old.drive) rule.2
  of_pass old new s t passes.NotFormatted p = stopped old new p.mid s p.u t p.before p.end passes.NotFormatted p.went p.ends_pass p.last
  of_pass old new s t passes.Cut p = stopped old new p.mid s p.u t p.before p.end passes.Cut p.went p.ends_pass p.last
  of_pass old new s t passes.Off p = stopped old new p.mid s p.u t p.before p.end passes.Off p.went p.ends_pass p.last
  of_pass old new s t passes.Fault p = stopped old new p.mid s p.u t p.before p.end passes.Fault p.went p.ends_pass p.last

-- ---- what the drive stands for

module _ (after : Contents → Type 0) where
  -- what a step leaves, found in its clause
  pub step_found : (s : Contents) (end : StepEnd) → StepContents after s end → (t : Contents) × after t × StepContents (λ x. x ≡ t) s end
  step_found s (Readable i) step = verify_found after s reads.Good step
  step_found s (Unreadable i) step = let found = verify_found after s (reads.Unread step.0 step.1) step.2 in (found.0, found.1, (step.0, step.1, found.2))
  step_found s NotFormatted step = (s, step, refl)
  step_found s Cut step = verify_found after s reads.Cut step
  step_found s Off step = (s, step, refl)
  step_found s Fault step = verify_found after s reads.Fault step

  -- and a pass
  pub pass_found : (s : Contents) (end : PassEnd) → PassContents after s end → (t : Contents) × after t × PassContents (λ x. x ≡ t) s end
  pass_found s passes.Done step = (s, step, refl)
  pass_found s passes.NotFormatted step = (s, step, refl)
  pass_found s passes.Cut step = verify_found after s reads.Cut step
  pass_found s passes.Off step = (s, step, refl)
  pass_found s passes.Fault step = verify_found after s reads.Fault step

-- a verification that was not stopped leaves it as it is
pub good_leaves : (s t : Contents) → VerifyContents (λ x. x ≡ t) s reads.Good → s ≡ t
good_leaves (Has v) t step = step
good_leaves (MayHave all) t step = absurd step

pub unread_leaves : (s t : Contents) (named block : ℕ) → VerifyContents (λ x. x ≡ t) s (reads.Unread named block) → s ≡ t
unread_leaves (Has v) t named block step = step
unread_leaves (MayHave all) t named block step = absurd step

-- What a line leaves a drive standing for, found in its clause.
use Rattle.std.specs.Prelude.{◌≡◌, ℕ, true, false, List}
use Rattle.std.proofs.Common.{sym, ap, subst}
use Rattle.model_cache.specs.Values.{Contents}
use Rattle.model_cache.specs.Shown.{CacheShown}
use Rattle.model_cache.specs.Steps.{PowerContents, TickContents}
use Rattle.model_cache.proofs.Found.{power_found, tick_found}
use Rattle.model_scrub.specs.Asks.{StepContents, PassContents}
use Rattle.model_scrub.proofs.Chained.{step_found, pass_found}
use Rattle.model_target.specs.declared.host.Host.{Host}
use Rattle.model_target.proofs.Found.{step_found as command_found}
use Rattle.ram_text.specs.declared.script.Line.{Line}
use Rattle.ram_text.specs.declared.script.Line.TheVariants as lines
use Rattle.ram_machine.specs.Replies.{Outcome}
use Rattle.ram_machine.specs.LineSteps.{KeepsRest, DiscRule}
use Rattle.ram_machine.specs.Control.{contents_after_fail}

module _ (old new : CacheShown) (before after : Contents → Type 0) (host later : Host) (s : Contents) (stood : before s) where
  abbrev Finds : ((Contents → Type 0) → (Contents → Type 0) → Type 0) → Type 0
  Finds Rule = (t : Contents) × after t × Rule (λ x. x ≡ s) (λ x. x ≡ t)

  keeps_found : KeepsRest old new before after host later → Finds (λ was is. KeepsRest old new was is host later)
  keeps_found p = (s, p.stands s stood, record { memory = p.memory; cache = p.cache; stands = λ x e. e; same_host = p.same_host })

  -- what a line leaves
  pub rule_found : (line : Line) (payload : List ℕ) (outcome : Outcome) (data_in : List ℕ) → DiscRule old new before after host later line payload outcome data_in
      → Finds (λ was is. DiscRule old new was is host later line payload outcome data_in)
  rule_found lines.Power payload outcome data_in p =
      let found = power_found after new.drive s p.0.out (p.0.powered.step s stood) in (
        found.0,
        found.1,
        (
          record {
            out = p.0.out;
            powered = record {
              cause = p.0.powered.cause;
              step = λ x e. subst (λ y. PowerContents new.drive (λ z. z ≡ found.0) y p.0.out) (sym e) found.2;
              later_is = p.0.powered.later_is;
            };
            outcome_is = p.0.outcome_is;
          },
          p.1,
        ),
      )
  rule_found (lines.Fail block) payload outcome data_in p = (
    contents_after_fail s p.0.end,
    p.0.stands s stood,
    (record { end = p.0.end; rule = p.0.rule; cache = p.0.cache; stands = λ x e. ap (λ y. contents_after_fail y p.0.end) e; same_host = p.0.same_host; outcome_is = p.0.outcome_is }, p.1),
  )
  rule_found (lines.Wear block n) payload outcome data_in p =
      let found = keeps_found p.0.keeps in
      (found.0, found.1, (record { end = p.0.end; rule = p.0.rule; keeps = found.2; outcome_is = p.0.outcome_is }, p.1))
  rule_found (lines.Cut n fate) payload outcome data_in p =
      let found = keeps_found p.0.keeps in
      (found.0, found.1, (record { armed = p.0.armed; keeps = found.2; outcome_is = p.0.outcome_is }, p.1))
  rule_found lines.Tick payload outcome data_in p =
      let found = tick_found after s p.0.out (p.0.step s stood) in (
        found.0,
        found.1,
        (
          record {
            out = p.0.out;
            cause = p.0.cause;
            step = λ x e. subst (λ y. TickContents (λ z. z ≡ found.0) y p.0.out) (sym e) found.2;
            same_host = p.0.same_host;
            outcome_is = p.0.outcome_is;
          },
          p.1,
        ),
      )
  rule_found (lines.Scrub false) payload outcome data_in p =
      let found = step_found after s p.end (p.step s stood) in (
        found.0,
        found.1,
        record {
          end = p.end;
          from = p.from;
          to = p.to;
          rule = p.rule;
          step = λ x e. subst (λ y. StepContents (λ z. z ≡ found.0) y p.end) (sym e) found.2;
          same_host = p.same_host;
          outcome_is = p.outcome_is;
        },
      )
  rule_found (lines.Scrub true) payload outcome data_in p =
      let found = pass_found after s p.end (p.step s stood) in (
        found.0,
        found.1,
        record {
          end = p.end;
          from = p.from;
          to = p.to;
          rule = p.rule;
          step = λ x e. subst (λ y. PassContents (λ z. z ≡ found.0) y p.end) (sym e) found.2;
          same_host = p.same_host;
          outcome_is = p.outcome_is;
        },
      )
  rule_found (lines.Command cdb) payload outcome data_in p =
      let found = command_found old new before after s stood host later cdb payload p.answer data_in p.step in
      (found.0, found.1, record { answer = p.answer; step = found.2; outcome_is = p.outcome_is })
  rule_found _ payload outcome data_in p = absurd p

use Rattle.std.specs.Prelude.{Bool}
use Rattle.std.proofs.Common.{◌∙◌, subst, rules}
use Rattle.model_commands.specs.Commands.{operation_of}
use Rattle.model_target.specs.Judging.{asked_by, IsJudgedBy}
use Rattle.ram_mmc.proofs.Executed.{is_formatted}
use Rattle.ram_mmc.proofs.target.Target.execute_on.Goals as goal

pub returns-clause-step : goal.returns-clause-step
returns-clause-step g c = record {
  judged = c.judge-judged.result;
  is_judged = subst (λ (f : Bool). IsJudgedBy c.args.self.now.host f c.args.payload.now (asked_by c.args.self.now.host (operation_of c.args.cdb.now) c.args.cdb.now c.args.payload.now) c.judge-judged.result)
      (c.is_some.ensures ∙ is_formatted (g.D.Caching.shows c.args.self.now.disc).drive c.args.formatted c.requires.formatted) (search rules);
  is_answered = search rules;
  later_is = search rules;
}

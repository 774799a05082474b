use Rattle.model_cdb.specs.Decoding.{IsWithinLimits}
use Rattle.ram_mmc.proofs.Judged.{allowed_holds, allowed_can}
use Rattle.ram_mmc.proofs.judging.judge.Goals as goal

pub returns-in-Ok-clause-limits : goal.returns-in-Ok-clause-limits
returns-in-Ok-clause-limits c = allowed_holds c.args.host.now c.args.formatted c.args.payload.now (IsWithinLimits c.args.payload.now) c.in-Ok.command c.allowed.result c.allowed.ensures c.in-Ok.ensures.limits

pub returns-in-Ok-clause-can : goal.returns-in-Ok-clause-can
returns-in-Ok-clause-can c = allowed_can c.args.host.now c.args.payload.now c.args.formatted c.in-Ok.command c.allowed.result c.allowed.ensures

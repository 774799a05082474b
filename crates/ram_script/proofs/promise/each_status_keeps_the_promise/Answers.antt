use Rattle.ram_script.proofs.Promised.{promised}
use Rattle.ram_script.proofs.promise.each_status_keeps_the_promise.Goals as goal

pub returns : goal.returns
returns c = promised

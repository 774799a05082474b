-- What was read is what the line means.
use Rattle.ram_text.proofs.Forms.{parsed}
use Rattle.ram_text.proofs.script.parse_line.Goals as goal

pub returns-clause-read : goal.returns-clause-read
returns-clause-read c =
    parsed c.read_line.result c.args.line.now c.without_return_of.result.now c.read_line.new.payload.items c.ok_or.result _ c.without_return_of.ensures c.read_line.ensures.read c.ok_or.ensures.value

-- What was read is what the line means.
use Rattle.ram_text.proofs.MirrorForms.{mirror_parsed}
use Rattle.ram_text.proofs.mirror.parse_mirror.Goals as goal

pub returns-clause-read : goal.returns-clause-read
returns-clause-read c =
    mirror_parsed c.read_mirror_line.result c.args.line.now c.without_return_of.result.now c.read_mirror_line.new.payload.items c.ok_or.result _ c.without_return_of.ensures c.read_mirror_line.ensures.read c.ok_or.ensures.value

-- What a line for a mirror means is what it is read as.
use Rattle.ram_text.proofs.MirrorForms.{one_mirror_reading}
use Rattle.ram_text.proofs.laws.a_line_for_a_mirror_has_one_reading.Goals as goal

pub returns : goal.returns
returns c = one_mirror_reading

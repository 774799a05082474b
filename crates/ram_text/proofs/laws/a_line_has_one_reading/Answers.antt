-- What a line means is what it is read as.
use Rattle.ram_text.proofs.Forms.{one_reading}
use Rattle.ram_text.proofs.laws.a_line_has_one_reading.Goals as goal

pub returns : goal.returns
returns c = one_reading

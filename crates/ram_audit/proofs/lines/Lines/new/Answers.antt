use Rattle.std.proofs.Common.{◌∙◌, sym, refl}
use Rattle.ram_audit.proofs.Written.{none_text}
use Rattle.ram_audit.proofs.lines.Lines.new.Goals as goal

pub returns-clause-empty : goal.returns-clause-empty
returns-clause-empty c = record { text_is = c.in_ok-room.ensures.room.0 ∙ sym none_text; count_is = refl }

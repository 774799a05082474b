use Rattle.std.proofs.Common.{◌∙◌, sym, refl}
use Rattle.ram_audit.proofs.Written.{none_text}
use Rattle.ram_audit.proofs.lines.Lines.clear.Goals as goal

pub returns : goal.returns
returns c = record { text_is = c.clear.ensures.items ∙ sym none_text; count_is = refl }

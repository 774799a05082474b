use Rattle.std.proofs.Common.{◌∙◌}
use Rattle.ram_audit.proofs.Written.{more_text, more_lines}
use Rattle.ram_audit.proofs.lines.Lines.push.Goals as goal

pub returns-clause-lines : goal.returns-clause-lines
returns-clause-lines c = λ told are. record {
  text_is = c.put_line.ensures.text ∙ more_text told c.args.line c.args.self.now.text.items are.text_is;
  count_is = more_lines told c.args.line c.args.self.now.count are.count_is;
}

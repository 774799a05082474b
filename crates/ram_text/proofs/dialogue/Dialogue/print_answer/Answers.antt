use Rattle.std.proofs.Common.{rules}
use Rattle.ram_text.proofs.dialogue.Dialogue.print_answer.Goals as goal

pub returns : goal.returns
returns g c = record {
  ends = search rules;
  nothing = search rules;
  prints = rw (g.T.Conversation.laws.report_is c.args.self.now.talk.now c.print_answer.new.sink) (rw c.report_mut.ensures.sink at c.print_answer.ensures);
}

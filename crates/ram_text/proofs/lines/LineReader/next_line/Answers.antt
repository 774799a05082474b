use Rattle.std.proofs.Common.{rules, ap, ◌∙◌}
use Rattle.ram_text.proofs.Answers.{answered_at_first, rule_of}
use Rattle.ram_text.proofs.AsksOpen.{asks_open}
use Rattle.ram_text.proofs.lines.LineReader.next_line.Goals as goal

pub returns-in-Some-clause-rule : goal.returns-in-Some-clause-rule
returns-in-Some-clause-rule g c =
    rule_of g.T.Conversation c.args.self.now c.cut.new.self _ _ c.in-Some.answer (answered_at_first _ _ _ _ _ _ _ _ c.loop-answer.invariant.left c.loop-answer.invariant.stood c.loop-answer.invariant.count c.in-Some.answer c.in-Some.ensures.rule)

pub loop-answer-preserved : goal.loop-answer-preserved
loop-answer-preserved g c = record {
  left = search rules;
  stood = search rules;
  count = search rules;
  same = c.in-Got.ensures.same ∙ c.loop-answer.invariant.same;
  asks = asks_open _ _ _ _ c.loop-answer.self.buffered _ _ _ c.loop-answer.invariant.asks c.in_default.ensures.rule.0.clear c.loop-answer.invariant.left (ap g.T.Sink.Sink.written c.loop-answer.invariant.same) c.in-Got.ensures.asks;
  untouched = search rules;
}

pub returns-in-End-clause-asks : goal.returns-in-End-clause-asks
returns-in-End-clause-asks g c =
    asks_open _ _ _ _ c.loop-answer.self.buffered _ _ _ c.loop-answer.invariant.asks c.in_default.ensures.rule.0.clear c.loop-answer.invariant.left (ap g.T.Sink.Sink.written c.loop-answer.invariant.same) c.in-End.ensures.asks

pub returns-in-Failed-clause-asks : goal.returns-in-Failed-clause-asks
returns-in-Failed-clause-asks g c =
    asks_open _ _ _ _ c.loop-answer.self.buffered _ _ _ c.loop-answer.invariant.asks c.in_default.ensures.rule.0.clear c.loop-answer.invariant.left (ap g.T.Sink.Sink.written c.loop-answer.invariant.same) c.in-Failed.ensures.asks

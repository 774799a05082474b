use Rattle.std.proofs.Common.{◌∙◌, arith}
use Rattle.ram_audit.proofs.Comparisons.{goes_on, stays_within, differs_here, to_end}
use Rattle.ram_audit.proofs.comparing.compare.Goals as goal

pub returns-then-same-n-clause-rule : goal.returns-then-same-n-clause-rule
returns-then-same-n-clause-rule g c = (
  differs_here (g.T.Conversation.left c.args.talk.now) (g.T.Conversation.left c.loop-n.talk) (g.T.Conversation.left c.take.new.self) c.args.text.now c.take.new.into c.loop-n.at c.in-Got.n c.matching-same.result c.line_at-then-same-n.result
      c.loop-n.invariant.taken c.in-Got.ensures.rule.next c.loop-n.invariant.within c.in-Got.ensures.rule.within (to_end c.args.text.now c.take.new.into c.loop-n.at c.in-Got.n c.matching-same.result c.matching-same.ensures) c.if-same-n.true c.line_at-then-same-n.ensures,
  c.in-Got.ensures.rule.count ∙ c.loop-n.invariant.counts,
)

pub loop-n-preserved : goal.loop-n-preserved
loop-n-preserved g c = record {
  within = stays_within c.args.text.now c.take.new.into c.loop-n.at c.in-Got.n c.matching-same.result c.loop-n.invariant.within c.in-Got.ensures.rule.within (to_end c.args.text.now c.take.new.into c.loop-n.at c.in-Got.n c.matching-same.result c.matching-same.ensures) c.if-same-n.false;
  some = (let s = c.in-Got.ensures.rule.some in let w = c.in-Got.ensures.rule.within in omega (arith, s, w));
  taken = goes_on (g.T.Conversation.left c.args.talk.now) (g.T.Conversation.left c.loop-n.talk) (g.T.Conversation.left c.take.new.self) c.args.text.now c.take.new.into c.loop-n.at c.in-Got.n c.matching-same.result
      c.loop-n.invariant.taken c.in-Got.ensures.rule.next c.in-Got.ensures.rule.within (to_end c.args.text.now c.take.new.into c.loop-n.at c.in-Got.n c.matching-same.result c.matching-same.ensures) c.if-same-n.false;
  as_known = c.in-Got.ensures.rule.known ∙ c.loop-n.invariant.as_known;
  counts = c.in-Got.ensures.rule.count ∙ c.loop-n.invariant.counts;
  same = c.in-Got.ensures.same ∙ c.loop-n.invariant.same;
}

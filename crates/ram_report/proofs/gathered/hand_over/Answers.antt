use Rattle.std.proofs.Common.{◌-◌, ◌∙◌, ap, length, drop, arith, length-take, length-drop}
use Rattle.model_counts.specs.Counts.{counted}
use Rattle.ram_report.proofs.Puts.{took_more, offered_whole}
use Rattle.ram_report.proofs.gathered.hand_over.Goals as goal

pub loop-sent-preserved : goal.loop-sent-preserved
loop-sent-preserved g c =
    let takes = c.in-Took.ensures in
    record {
      within = omega (arith, takes.within, length-take (length c.args.text.now - c.loop-sent.sent) (drop c.loop-sent.sent c.args.text.now), length-drop c.loop-sent.sent c.args.text.now);
      written = took_more _ _ _ c.args.text.now c.loop-sent.sent c.in-Took.count c.loop-sent.invariant.written takes.written takes.known;
      count = omega (arith, takes.count);
    }

pub returns-in-Failed : goal.returns-in-Failed
returns-in-Failed g c =
    let fails = c.in-Failed.ensures in (
      omega (arith, c.loop-sent-test.true),
      fails.same ∙ c.loop-sent.invariant.written,
      fails.refused ∙ offered_whole _ _ c.args.text.now c.loop-sent.sent c.loop-sent.invariant.within c.loop-sent.invariant.written,
      fails.count ∙ ap (λ n. counted n 1) c.loop-sent.invariant.count,
    )

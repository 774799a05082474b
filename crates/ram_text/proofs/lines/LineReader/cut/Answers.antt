use Rattle.std.proofs.Common.{◌-◌, Some, drop, subst, length-take, length-drop, arith}
use Rattle.ram_text.specs.Lines.{Reading, FeedAt}
use Rattle.ram_text.specs.LineReader.{reading_by}
use Rattle.ram_text.specs.Steps.{CutRule, without_line}
use Rattle.ram_text.proofs.Feeds.{FeedAt-one}
use Rattle.ram_text.proofs.Cuts.{passed_late, passed_whole, took}
use Rattle.ram_text.proofs.lines.LineReader.cut.Goals as goal

pub returns-then-offset-min-clause-rule : goal.returns-then-offset-min-clause-rule
returns-then-offset-min-clause-rule c =
    let before = reading_by c.self.inside in
    subst (λ (r : Reading). CutRule r (without_line before) (Some c.passed_first.result)) c.self.view_is
    (passed_late before c.in-Some.offset c.self.invariant.within (rw c.in-Some.is at c.self.invariant.searched) (omega (arith, c.min.ensures)) _ c.passed_first.ensures)

pub returns-then-offset-min-clause-line : goal.returns-then-offset-min-clause-line
returns-then-offset-min-clause-line c = λ holds.
    let here : FeedAt (reading_by c.self.inside).buffered c.in-Some.offset = rw c.in-Some.is at c.self.invariant.searched in
    let there = rw (← c.self.view_is) at holds.feed in
    let same = FeedAt-one _ _ _ here there in
    let short = holds.short in
    let within = rw (← c.self.view_is) at holds.within in
    absurd (omega (arith, c.min.ensures))

pub returns-then-held-min-clause-rule : goal.returns-then-held-min-clause-rule
returns-then-held-min-clause-rule c =
    let bytes = c.self.inside.bytes in
    let before = reading_by c.self.inside in
    subst (λ (r : Reading). CutRule r (without_line before) (Some c.passed_first-then-held-min.result)) c.self.view_is
    (passed_whole before c.self.invariant.within (rw c.in-None.is at c.self.invariant.searched)
    (omega (arith, c.min-in-None.ensures, length-take (c.self.inside.end - c.self.inside.start) (drop c.self.inside.start bytes.items), length-drop c.self.inside.start bytes.items, bytes.ok.0)) _ c.passed_first-then-held-min.ensures)

pub returns-else-offset-min-clause-rule : goal.returns-else-offset-min-clause-rule
returns-else-offset-min-clause-rule c =
    rw (← c.self.view_is) (took c.self.inside.bytes.items c.self.inside.start c.self.inside.end c.in-Some.offset c.self.inside.taken _ c.self.invariant.within (rw c.in-Some.is at c.self.invariant.searched) (omega (arith, c.min.ensures)))

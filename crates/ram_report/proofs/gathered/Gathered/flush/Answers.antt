use Rattle.std.proofs.Common.{◌+◌, ap, ◌∙◌, List, ℕ, arith, length-drop}
use Rattle.ram_report.specs.Writer.{due}
use Rattle.ram_report.proofs.Puts.{due_kept}
use Rattle.ram_report.proofs.Refused.{refused_due}
use Rattle.ram_report.proofs.gathered.Gathered.flush.Goals as goal

pub returns-in-Err : goal.returns-in-Err
returns-in-Err g c = record {
  rule = (due_kept _ _ c.self.inside.bytes.items c.self.inside.sent c.in-Err.count (rw c.deref.ensures.value at c.in-Err.ensures.1) ∙ ap (λ (xs : List ℕ). due (g.K.Sink.written c.args.sink.now) xs) c.self.view_is, refused_due _ _ c.self.inside.bytes.items _ c.self.inside.sent c.self.view_is (rw c.deref.ensures.value at c.in-Err.ensures.2), c.in-Err.ensures.3);
  few = omega (arith, c.self.invariant.1, length-drop (c.self.inside.sent + c.in-Err.count) c.self.inside.bytes.items);
}

use Rattle.std.proofs.Common.{ℕ, ◌<◌, length, ap, ◌∙◌, arith}
use Rattle.std.proofs.lemmas.List.{length-replicate}
use Rattle.ram_text.proofs.lines.LineReader.new.Goals as goal

pub invariant_of-result : goal.invariant_of-result
invariant_of-result c = record {
  room = c.in_ok-zeros.field-0.ok.0 ∙ ap length c.in_ok-zeros.ensures.zeros ∙ length-replicate {A = ℕ} 135536 0;
  line_ordered = omega arith;
  line_inside = omega arith;
  ordered = omega arith;
  inside = omega arith;
  searched = λ k d below is. (let none : k < 0 = below in omega (arith, none));
  within = omega arith;
}

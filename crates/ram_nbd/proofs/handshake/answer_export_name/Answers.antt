use Rattle.std.proofs.Common.{◌≡◌, ℕ, Bool, length, sym, subst, arith}
use Rattle.std.specs.Prelude.{Option}
use Rattle.model_nbd.specs.Handshake.{OptionAnswer, export_name_answer, Serving}
use Rattle.model_nbd.specs.declared.NextPhase.TheVariants.{Transmission}
use Rattle.ram_nbd.specs.Replies.{export_of}
use Rattle.ram_nbd.proofs.Named.{padded}
use Rattle.ram_nbd.proofs.handshake.answer_export_name.Goals as goal

pub returns-then-zeroes-clause-answer : goal.returns-then-zeroes-clause-answer
returns-then-zeroes-clause-answer c = λ why name as_long.
    let told : OptionAnswer = record { bytes = c.put-then-zeroes.new.reply.items; next = Transmission } in
    let none : length name ≡ 0 = omega (arith, as_long, c.if-name_bytes-ne0.false) in
    subst (λ (o : Option ℕ). told ≡ export_name_answer (export_of o why) c.args.zeroes name) (sym c.in-Some.is)
    (subst (λ (b : Bool). told ≡ export_name_answer (Serving c.in-Some.size) b name) (sym c.if-zeroes.true)
    (padded c.in-Some.size c.args.reply.now.items c.named_head-head.result c.requires.empty c.named_head-head.ensures name
    c.put-then-zeroes.new.reply.items c.put.new.reply.items none c.put.ensures.bytes c.put-then-zeroes.ensures.bytes))

use Rattle.std.specs.Prelude.{◌≡◌, ℕ, List, codes}
use Rattle.std.proofs.Common.{refl, ◌∙◌}
use Rattle.model_audit.specs.Text.{text_of}
use Rattle.ram_audit.specs.Comparing.{FirstDiffer}
use Rattle.ram_audit.specs.Discs.{AreCertificateOf, IsNoDisc}
use Rattle.ram_machine.specs.declared.status.Status.TheVariants as statuses
use Rattle.ram_certificate.specs.Auditing.{CheckAnswers, no_disc_text}
use Rattle.ram_certificate.proofs.Answering.{of_done, of_difference, of_no_disc, answered_tells, known_some}
use Rattle.ram_certificate.proofs.audit.check_here.Goals as goal

pub returns-in-Yes-clause-tells : goal.returns-in-Yes-clause-tells
returns-in-Yes-clause-tells g c held left known is =
    let rule = rw c.in-Yes.is at c.check_disc-image.ensures.rule in
    answered_tells statuses.Done of_done (codes "yes\n") (g.T.Sink.Sink.written (g.T.Conversation.report c.args.talk.now)) (g.T.Sink.Sink.written (g.T.Conversation.report c.answer_in.new.talk)) (g.T.Sink.Sink.faults (g.T.Conversation.report c.args.talk.now)) (g.T.Sink.Sink.faults (g.T.Conversation.report c.answer_in.new.talk)) c.answer_in.result
    (rw c.check_disc-image.ensures.same at c.answer_in.ensures.rule) (CheckAnswers held left)
    ((rule.1.told, known_some (λ (bytes : List ℕ). AreCertificateOf bytes rule.1.told) (g.I.Image.bytes c.args.image) held known rule.1.of, known_some (λ (bytes : List ℕ). bytes ≡ text_of rule.1.told) (g.T.Conversation.left c.args.talk.now) left is rule.1.same), refl)

pub returns-in-No-clause-tells : goal.returns-in-No-clause-tells
returns-in-No-clause-tells g c held left known is =
    let rule = rw c.in-No.is at c.check_disc-image.ensures.rule in
    answered_tells statuses.Differs of_difference c.as_slice.result.now (g.T.Sink.Sink.written (g.T.Conversation.report c.args.talk.now)) (g.T.Sink.Sink.written (g.T.Conversation.report c.answer_in-status.new.talk)) (g.T.Sink.Sink.faults (g.T.Conversation.report c.args.talk.now)) (g.T.Sink.Sink.faults (g.T.Conversation.report c.answer_in-status.new.talk)) c.answer_in-status.result
    (rw c.check_disc-image.ensures.same at c.answer_in-status.ensures.rule) (CheckAnswers held left)
    (c.in-No.line, (rule.1.told, known_some (λ (bytes : List ℕ). AreCertificateOf bytes rule.1.told) (g.I.Image.bytes c.args.image) held known rule.1.of, known_some (λ (bytes : List ℕ). FirstDiffer bytes (text_of rule.1.told) c.in-No.line) (g.T.Conversation.left c.args.talk.now) left is rule.1.differ), c.as_slice.ensures.value ∙ c.put_difference.ensures)

pub returns-in-NotADisc-clause-tells : goal.returns-in-NotADisc-clause-tells
returns-in-NotADisc-clause-tells g c held left known is =
    let rule = rw c.in-NotADisc.is at c.check_disc-image.ensures.rule in
    answered_tells statuses.NotADisc of_no_disc no_disc_text (g.T.Sink.Sink.written (g.T.Conversation.report c.args.talk.now)) (g.T.Sink.Sink.written (g.T.Conversation.report c.answer_in-in-NotADisc.new.talk)) (g.T.Sink.Sink.faults (g.T.Conversation.report c.args.talk.now)) (g.T.Sink.Sink.faults (g.T.Conversation.report c.answer_in-in-NotADisc.new.talk)) c.answer_in-in-NotADisc.result
    (rw c.check_disc-image.ensures.same at c.answer_in-in-NotADisc.ensures.rule) (CheckAnswers held left) (known_some IsNoDisc (g.I.Image.bytes c.args.image) held known rule.1, refl)

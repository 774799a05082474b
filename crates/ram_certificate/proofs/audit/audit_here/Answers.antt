use Rattle.std.specs.Prelude.{ℕ, List}
use Rattle.std.proofs.Common.{refl, ◌∙◌}
use Rattle.ram_audit.specs.Discs.{AreCertificateOf, IsNoDisc}
use Rattle.ram_machine.specs.declared.status.Status.TheVariants as statuses
use Rattle.ram_certificate.specs.Auditing.{AuditAnswers, no_disc_text}
use Rattle.ram_certificate.proofs.Answering.{of_done, of_no_disc, answered_tells, known_some}
use Rattle.ram_certificate.proofs.audit.audit_here.Goals as goal

pub returns-in-Told-clause-tells : goal.returns-in-Told-clause-tells
returns-in-Told-clause-tells g c held known =
    let rule = rw c.in-Told.is at c.audit_disc-image.ensures in
    answered_tells statuses.Done of_done c.text.result.now (g.K.Sink.written c.args.report.now) (g.K.Sink.written c.answer-status.new.report) (g.K.Sink.faults c.args.report.now) (g.K.Sink.faults c.answer-status.new.report) c.answer-status.result
    c.answer-status.ensures (AuditAnswers held) (rule.1.told, known_some (λ (bytes : List ℕ). AreCertificateOf bytes rule.1.told) (g.I.Image.bytes c.args.image) held known rule.1.of, c.text.ensures ∙ rule.1.are.text_is)

pub returns-in-NotADisc-clause-tells : goal.returns-in-NotADisc-clause-tells
returns-in-NotADisc-clause-tells g c held known =
    let rule = rw c.in-NotADisc.is at c.audit_disc-image.ensures in
    answered_tells statuses.NotADisc of_no_disc no_disc_text (g.K.Sink.written c.args.report.now) (g.K.Sink.written c.answer.new.report) (g.K.Sink.faults c.args.report.now) (g.K.Sink.faults c.answer.new.report) c.answer.result
    c.answer.ensures (AuditAnswers held) (known_some IsNoDisc (g.I.Image.bytes c.args.image) held known rule.1, refl)

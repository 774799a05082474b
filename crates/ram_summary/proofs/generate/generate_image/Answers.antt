use Rattle.std.specs.Prelude.{Err}
use Rattle.std.proofs.Common.{sym, ap, ◌∙◌, inl}
use Rattle.ram_machine.specs.declared.status.Status.TheVariants as statuses
use Rattle.ram_script.specs.Around.{WritesText}
use Rattle.ram_script.specs.Endings.{status_of}
use Rattle.ram_script.specs.Opened.{bytes_returned}
use Rattle.ram_summary.specs.Generating.{EndCount, beside}
use Rattle.ram_summary.specs.Summary.{tally_text}
use Rattle.ram_script.proofs.Closes.{handed_back, ends_at_failure}
use Rattle.ram_summary.proofs.Generated.{summed, not_summed, generated_there, image_known, image_rose, stops_with}
use Rattle.ram_summary.proofs.generate.generate_image.Goals as goal

pub returns-in-Ok-clause-generate : goal.returns-in-Ok-clause-generate
returns-in-Ok-clause-generate g c heard first known =
    inl (generated_there c.args.seed first (g.K.Sink.written c.args.report.now) (g.K.Sink.written c.tell_summary.new.report) (g.O.Image.Image.bytes c.answer_script-image.result.0)
    (bytes_returned g.O.Image.Image.bytes (g.O.Opener.returned c.close.new.self)) c.tell_summary.result
    (handed_back g.O.Image.Image.bytes g.O.Opener.returned_known c.answer_script-image.result.0 (g.O.Opener.returned c.close.new.self) known.returned_known_is c.close.ensures.returned)
    (summed c.args.seed first c.answer_script-image.result.1 (g.K.Sink.written c.args.report.now) (g.K.Sink.written c.tell_summary.new.report) (g.O.Image.Image.bytes c.answer_script-image.result.0) c.tell_summary.result
    (rw c.in-Ok.is at (c.answer_script-image.ensures.ends first known.kind_is (known.script_is ∙ sym c.draw_script.ensures.text)
    (image_known g.O.Image.Image.bytes c.args.seed first (beside heard g.K.Sink g.O.Opener c.args.report.now c.args.opener.now) g.O.Opener.returned_known c.in-Image.image known c.in-Image.ensures.next)))
    c.tell_summary.ensures.writes))

pub returns-clause-generate : goal.returns-clause-generate
returns-clause-generate g c heard first known =
    rw c.status_of.ensures.status
    (inl (generated_there c.args.seed first (g.K.Sink.written c.args.report.now) (g.K.Sink.written c.args.report.now) (g.O.Image.Image.bytes c.answer_script-image.result.0)
    (bytes_returned g.O.Image.Image.bytes (g.O.Opener.returned c.close.new.self)) (status_of c.answer_script-image.result.2)
    (handed_back g.O.Image.Image.bytes g.O.Opener.returned_known c.answer_script-image.result.0 (g.O.Opener.returned c.close.new.self) known.returned_known_is c.close.ensures.returned)
    (not_summed c.args.seed first (g.K.Sink.written c.args.report.now) (g.O.Image.Image.bytes c.answer_script-image.result.0) (status_of c.answer_script-image.result.2)
    (rw c.in-Err.is (stops_with first c.answer_script-image.result.1 (g.O.Image.Image.bytes c.answer_script-image.result.0) (g.O.Image.Image.faults c.in-Image.image) (g.O.Image.Image.faults c.answer_script-image.result.0) c.in-Err.field-0
    (rw c.in-Err.is at c.answer_script-image.ensures.count)
    (rw c.in-Err.is at (c.answer_script-image.ensures.ends first known.kind_is (known.script_is ∙ sym c.draw_script.ensures.text)
    (image_known g.O.Image.Image.bytes c.args.seed first (beside heard g.K.Sink g.O.Opener c.args.report.now c.args.opener.now) g.O.Opener.returned_known c.in-Image.image known c.in-Image.ensures.next))))))))

pub returns-in-Ok-clause-fails : goal.returns-in-Ok-clause-fails
returns-in-Ok-clause-fails g c heard known is =
    let none : WritesText (g.K.Sink.written c.args.report.now) (g.K.Sink.written c.tell_summary.new.report) (tally_text c.args.seed c.answer_script-image.result.1) statuses.ImageFault = rw is at c.tell_summary.ensures.writes in
    absurd none

pub returns-clause-fails : goal.returns-clause-fails
returns-clause-fails g c heard known is =
    let count : EndCount (g.O.Image.Image.faults c.in-Image.image) (g.O.Image.Image.faults c.answer_script-image.result.0) (Err c.in-Err.field-0) = rw c.in-Err.is at c.answer_script-image.ensures.count in
    let rose = image_rose (g.O.Image.Image.faults c.in-Image.image) (g.O.Image.Image.faults c.answer_script-image.result.0) c.in-Err.field-0
    (ap status_of (sym c.in-Err.is) ∙ sym c.status_of.ensures.status ∙ is) count in
    inl (ends_at_failure g.O.Image.Image.bytes g.O.Image.Image.faults g.O.Image.Image.past g.O.Image.Image.laws g.O.Opener.returned_known c.answer_script-image.result.0 _ known c.close.ensures.returned
    (rw c.in-Image.ensures.unfailed at rose))

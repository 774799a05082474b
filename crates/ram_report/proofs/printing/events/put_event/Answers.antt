-- One text after another, or a prefix of the first.
use Rattle.std.proofs.lemmas.Result.{err_from_is_err_and}
use Rattle.ram_report.specs.ReportLines.{numbered, event_words, found_text}
use Rattle.ram_report.proofs.Prints.{put_then, cut_first}
use Rattle.ram_report.proofs.printing.events.put_event.Goals as goal

pub returns : goal.returns
returns g c = put_then _ _ _ _ _ _ _ (numbered c.args.number (event_words c.args.event.now)) (found_text c.args.event.now c.args.found.now) c.in_ok-put_event_line.ensures _ c.print_found.ensures

pub returns-in_err-put_event_line : goal.returns-in_err-put_event_line
returns-in_err-put_event_line g c =
    let p = err_from_is_err_and c.from_residual.result c.from_residual.ensures.1 in
    rw p.1 (cut_first _ _ _ _ (numbered c.args.number (event_words c.args.event.now)) (found_text c.args.event.now c.args.found.now) c.in_err-put_event_line.ensures)

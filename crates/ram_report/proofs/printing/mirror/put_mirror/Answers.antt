-- One text after another, or a prefix of the first.
use Rattle.std.proofs.lemmas.Result.{err_from_is_err_and}
use Rattle.ram_report.specs.ReportLines.{numbered}
use Rattle.ram_report.specs.MirrorLines.{mirror_words, shown_text}
use Rattle.ram_report.proofs.Prints.{put_then, cut_first}
use Rattle.ram_report.proofs.printing.mirror.put_mirror.Goals as goal

pub returns : goal.returns
returns g c = put_then _ _ _ _ _ _ _ (numbered c.args.number (mirror_words c.args.event.now)) (shown_text c.args.event.now c.args.shown.now) c.in_ok-put_mirror_line.ensures _ c.print_shown.ensures

pub returns-in_err-put_mirror_line : goal.returns-in_err-put_mirror_line
returns-in_err-put_mirror_line g c =
    let p = err_from_is_err_and c.from_residual.result c.from_residual.ensures.1 in
    rw p.1 (cut_first _ _ _ _ (numbered c.args.number (mirror_words c.args.event.now)) (shown_text c.args.event.now c.args.shown.now) c.in_err-put_mirror_line.ensures)

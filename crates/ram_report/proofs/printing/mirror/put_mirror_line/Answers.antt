-- One text after another, or a prefix of the first.
use Rattle.std.proofs.Common.{decimal, codes, ◌++◌}
use Rattle.std.proofs.lemmas.Result.{err_from_is_err_and}
use Rattle.ram_report.specs.MirrorLines.{mirror_words}
use Rattle.ram_report.proofs.Prints.{put_then, cut_first}
use Rattle.ram_report.proofs.printing.mirror.put_mirror_line.Goals as goal

pub returns : goal.returns
returns g c = put_then _ _ _ _ _ _ _ (decimal c.args.number) (codes " " ++ mirror_words c.args.event.now ++ codes "\n") c.in_ok-put_number.ensures _ c.print_mirror_words.ensures

pub returns-in_err-put_number : goal.returns-in_err-put_number
returns-in_err-put_number g c =
    let p = err_from_is_err_and c.from_residual.result c.from_residual.ensures.1 in
    rw p.1 (cut_first _ _ _ _ (decimal c.args.number) (codes " " ++ mirror_words c.args.event.now ++ codes "\n") c.in_err-put_number.ensures)

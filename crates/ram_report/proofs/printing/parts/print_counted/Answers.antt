-- One text after another, or a prefix of the first.
use Rattle.std.proofs.Common.{decimal, codes, ◌++◌}
use Rattle.std.proofs.lemmas.Result.{err_from_is_err_and}
use Rattle.ram_report.proofs.Prints.{put_then, cut_first}
use Rattle.ram_report.proofs.printing.parts.print_counted.Goals as goal

pub returns : goal.returns
returns g c = put_then _ _ _ _ _ _ _ (c.args.words.now ++ decimal c.args.number) (codes "\n") c.in_ok-print_labelled.ensures _ c.put.ensures

pub returns-in_err-print_labelled : goal.returns-in_err-print_labelled
returns-in_err-print_labelled g c =
    let p = err_from_is_err_and c.from_residual.result c.from_residual.ensures.1 in
    rw p.1 (cut_first _ _ _ _ (c.args.words.now ++ decimal c.args.number) (codes "\n") c.in_err-print_labelled.ensures)

-- One text after another, or a prefix of the first.
use Rattle.std.proofs.Common.{codes, ◌++◌}
use Rattle.std.proofs.lemmas.Result.{err_from_is_err_and}
use Rattle.ram_report.specs.ReportLines.{sense_code, info_words}
use Rattle.ram_report.proofs.Prints.{put_then, cut_first}
use Rattle.ram_report.proofs.printing.commands.print_check.Goals as goal

pub returns : goal.returns
returns g c = put_then _ _ _ _ _ _ _ (codes " check ") (sense_code c.args.sense.now ++ (info_words c.args.sense.now.info ++ codes "\n")) c.in_ok-put.ensures _ c.print_sense.ensures

pub returns-in_err-put : goal.returns-in_err-put
returns-in_err-put g c =
    let p = err_from_is_err_and c.from_residual.result c.from_residual.ensures.1 in
    rw p.1 (cut_first _ _ _ _ (codes " check ") (sense_code c.args.sense.now ++ (info_words c.args.sense.now.info ++ codes "\n")) c.in_err-put.ensures)

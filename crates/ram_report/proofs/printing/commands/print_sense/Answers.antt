-- The code, and then the information.
use Rattle.std.proofs.Common.{codes, ◌++◌}
use Rattle.std.proofs.lemmas.Result.{err_from_is_err_and}
use Rattle.ram_report.specs.ReportLines.{sense_code, info_words}
use Rattle.ram_report.proofs.Prints.{put_then, cut_first}
use Rattle.ram_report.proofs.Turns.{renamed, renamed_cut}
use Rattle.ram_report.proofs.printing.commands.print_sense.Goals as goal

pub returns : goal.returns
returns g c =
    let rest = info_words c.args.sense.now.info ++ codes "\n" in
    renamed _ _ _ _ _ c.digits_of.result (sense_code c.args.sense.now) rest _ c.digits_of.ensures
    (put_then _ _ _ _ _ _ _ c.digits_of.result rest c.in_ok-put.ensures _ c.print_info.ensures)

pub returns-in_err-put : goal.returns-in_err-put
returns-in_err-put g c =
    let rest = info_words c.args.sense.now.info ++ codes "\n" in
    let p = err_from_is_err_and c.from_residual.result c.from_residual.ensures.1 in
    rw p.1
    (renamed_cut _ _ _ _ c.digits_of.result (sense_code c.args.sense.now) rest c.digits_of.ensures (cut_first _ _ _ _ c.digits_of.result rest c.in_err-put.ensures))

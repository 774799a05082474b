-- The digits between a space and the end of the line.
use Rattle.std.proofs.Common.{codes, ◌++◌}
use Rattle.std.proofs.lemmas.Result.{err_from_is_err_and}
use Rattle.hex.specs.Hex.{encode_lower}
use Rattle.ram_report.proofs.Prints.{put_then, put_both, put_cut, cut_first}
use Rattle.ram_report.proofs.printing.data.print_data_digits.Goals as goal

pub returns-in_err-put : goal.returns-in_err-put
returns-in_err-put g c =
    let hex = encode_lower c.args.reply.now in
    let p = err_from_is_err_and c.from_residual.result c.from_residual.ensures.1 in
    rw p.1 (cut_first _ _ _ _ (codes " " ++ hex) (codes "\n") (cut_first _ _ _ _ (codes " ") hex c.in_err-put.ensures))

pub returns : goal.returns
returns g c =
    let hex = encode_lower c.args.reply.now in
    put_then _ _ _ _ _ _ _ (codes " " ++ hex) (codes "\n") (put_both _ _ _ _ _ _ (codes " ") hex c.in_ok-put.ensures c.in_ok-print_digits.ensures) _ c.put-2.ensures

pub returns-in_err-print_digits : goal.returns-in_err-print_digits
returns-in_err-print_digits g c =
    let hex = encode_lower c.args.reply.now in
    let p = err_from_is_err_and c.from_residual-in_err-print_digits.result c.from_residual-in_err-print_digits.ensures.1 in
    rw p.1 (cut_first _ _ _ _ (codes " " ++ hex) (codes "\n") (put_cut _ _ _ _ _ _ (codes " ") hex c.in_ok-put.ensures c.in_err-print_digits.ensures))

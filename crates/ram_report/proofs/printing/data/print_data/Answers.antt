-- The number of the bytes, and then their digits.
use Rattle.std.proofs.Common.{◌≡◌, eqb, false, decimal, codes, length, ◌++◌}
use Rattle.std.proofs.lemmas.Result.{err_from_is_err_and}
use Rattle.hex.specs.Hex.{encode_lower}
use Rattle.ram_report.proofs.Prints.{put_then, cut_first}
use Rattle.ram_report.proofs.printing.data.print_data.Goals as goal

pub returns : goal.returns
returns g c =
    let some : eqb (length c.args.reply.now) 0 ≡ false = cc (c.is_empty.ensures, c.if-is_empty.false) in
    let bytes = c.args.reply.now in
    rw some (put_then _ _ _ _ _ _ _ (codes "data " ++ decimal (length bytes)) (codes " " ++ encode_lower bytes ++ codes "\n") c.in_ok-print_labelled.ensures _ c.print_data_digits.ensures)

pub returns-in_err-print_labelled : goal.returns-in_err-print_labelled
returns-in_err-print_labelled g c =
    let some : eqb (length c.args.reply.now) 0 ≡ false = cc (c.is_empty.ensures, c.if-is_empty.false) in
    let bytes = c.args.reply.now in
    let p = err_from_is_err_and c.from_residual.result c.from_residual.ensures.1 in
    rw p.1 (rw some (cut_first _ _ _ _ (codes "data " ++ decimal (length bytes)) (codes " " ++ encode_lower bytes ++ codes "\n") c.in_err-print_labelled.ensures))

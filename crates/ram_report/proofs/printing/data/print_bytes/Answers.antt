-- A sector's line, part by part.
use Rattle.std.proofs.Common.{decimal, codes, ◌++◌}
use Rattle.std.proofs.lemmas.Result.{err_from_is_err_and}
use Rattle.hex.specs.Hex.{encode_lower}
use Rattle.ram_report.proofs.Prints.{put_four, put_both, put_cut, cut_first}
use Rattle.ram_report.proofs.printing.data.print_bytes.Goals as goal

pub returns-in_err-print_labelled : goal.returns-in_err-print_labelled
returns-in_err-print_labelled g c =
    let head = codes "sector " ++ decimal c.args.lba in
    let hex = encode_lower c.args.bytes.now in
    let p = err_from_is_err_and c.from_residual.result c.from_residual.ensures.1 in
    rw p.1 (cut_first _ _ _ _ (head ++ (codes " hex ") ++ hex) (codes "\n") (cut_first _ _ _ _ (head ++ (codes " hex ")) hex (cut_first _ _ _ _ head (codes " hex ") c.in_err-print_labelled.ensures)))

pub returns-in_err-put : goal.returns-in_err-put
returns-in_err-put g c =
    let head = codes "sector " ++ decimal c.args.lba in
    let hex = encode_lower c.args.bytes.now in
    let p = err_from_is_err_and c.from_residual-in_err-put.result c.from_residual-in_err-put.ensures.1 in
    rw p.1 (cut_first _ _ _ _ (head ++ (codes " hex ") ++ hex) (codes "\n") (cut_first _ _ _ _ (head ++ (codes " hex ")) hex (put_cut _ _ _ _ _ _ head (codes " hex ") c.in_ok-print_labelled.ensures c.in_err-put.ensures)))

pub returns : goal.returns
returns g c =
    let head = codes "sector " ++ decimal c.args.lba in
    let hex = encode_lower c.args.bytes.now in
    put_four _ _ _ _ _ _ _ _ _ _ _ head (codes " hex ") hex (codes "\n") c.in_ok-print_labelled.ensures c.in_ok-put.ensures c.in_ok-put_hex.ensures _ c.put-2.ensures

pub returns-in_err-put_hex : goal.returns-in_err-put_hex
returns-in_err-put_hex g c =
    let head = codes "sector " ++ decimal c.args.lba in
    let hex = encode_lower c.args.bytes.now in
    let p = err_from_is_err_and c.from_residual-in_err-put_hex.result c.from_residual-in_err-put_hex.ensures.1 in
    rw p.1
    (cut_first _ _ _ _ (head ++ (codes " hex ") ++ hex) (codes "\n")
    (put_cut _ _ _ _ _ _ (head ++ (codes " hex ")) hex (put_both _ _ _ _ _ _ head (codes " hex ") c.in_ok-print_labelled.ensures c.in_ok-put.ensures) c.in_err-put_hex.ensures))

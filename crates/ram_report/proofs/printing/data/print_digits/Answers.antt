-- One piece more, or a prefix of it.
use Rattle.std.proofs.Common.{◌*◌, ◌<◌, ◌≤◌, ◌++◌, length, ap, sym, ◌∙◌, arith}
use Rattle.std.proofs.lemmas.Result.{err_from_is_err_and}
use Rattle.hex.specs.Hex.{encode_lower}
use Rattle.ram_report.proofs.Turns.{no_digits_put, piece_put, piece_cut, digits_so_far, digits_more, digits_every, piece_is, digits_all, all_cut}
use Rattle.ram_report.proofs.printing.data.print_digits.Goals as goal

pub loop-k-init : goal.loop-k-init
loop-k-init g c = no_digits_put _ _ c.args.bytes.now

pub loop-k-preserved : goal.loop-k-preserved
loop-k-preserved g c =
    let bytes = c.args.bytes.now in
    let k = c.loop-k.k in
    let inside : 2048 * k < length bytes = omega (arith, c.div_ceil-k-end.ensures, c.loop-k-test.true) in
    piece_put (digits_so_far bytes) _ _ _ _ _ _ k _ c.loop-k.invariant c.in_ok-put_hex.ensures
    (digits_more bytes k ∙ ap (λ x. digits_so_far bytes k ++ encode_lower x) (sym (piece_is bytes k c.min-end.result inside c.min-end.ensures)))

pub returns-in_err-put_hex : goal.returns-in_err-put_hex
returns-in_err-put_hex g c =
    let bytes = c.args.bytes.now in
    let k = c.loop-k.k in
    let n = c.div_ceil-k-end.result in
    let inside : 2048 * k < length bytes = omega (arith, c.div_ceil-k-end.ensures, c.loop-k-test.true) in
    let whole : length bytes ≤ 2048 * n = omega (arith, c.div_ceil-k-end.ensures) in
    let p = err_from_is_err_and c.from_residual.result c.from_residual.ensures.1 in
    rw p.1 (all_cut _ _ _ _ _ _ (digits_all bytes n whole) (piece_cut (digits_so_far bytes) (digits_every bytes) _ _ _ _ _ _ k n _ c.loop-k-test.true c.loop-k.invariant c.in_err-put_hex.ensures
    (digits_more bytes k ∙ ap (λ x. digits_so_far bytes k ++ encode_lower x) (sym (piece_is bytes k c.min-end.result inside c.min-end.ensures)))))

-- One block more, or a prefix of its line.
use Rattle.std.proofs.Common.{length}
use Rattle.std.proofs.lemmas.Result.{err_from_is_err_and}
use Rattle.ram_report.specs.ReportLines.{lost_text}
use Rattle.ram_report.proofs.Turns.{piece_put, piece_cut, lost_text_more, lost_text_every}
use Rattle.ram_report.proofs.printing.events.print_lost.Goals as goal

pub loop-block-preserved : goal.loop-block-preserved
loop-block-preserved g c =
    let found = c.args.found.now in
    let k = c.loop-block.block-index in
    piece_put (lost_text found) _ _ _ _ _ _ k _ c.loop-block.invariant c.in_ok-print_counted.ensures (lost_text_more found k)

pub returns-in_err-print_counted : goal.returns-in_err-print_counted
returns-in_err-print_counted g c =
    let found = c.args.found.now in
    let k = c.loop-block.block-index in
    let p = err_from_is_err_and c.from_residual.result c.from_residual.ensures.1 in
    rw p.1 (piece_cut (lost_text found) (lost_text_every found) _ _ _ _ _ _ k (length found) _ c.loop-block-test.true c.loop-block.invariant c.in_err-print_counted.ensures (lost_text_more found k))

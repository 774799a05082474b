-- One sector more, or a prefix of its line.
use Rattle.std.proofs.Common.{◌+◌, ◌/◌, ◌++◌, length, ap, sym, ◌∙◌}
use Rattle.std.proofs.lemmas.Result.{err_from_is_err_and}
use Rattle.ram_report.specs.ReportLines.{sectors_text, sector_text}
use Rattle.ram_report.proofs.Turns.{nothing_put, piece_put, piece_cut, sectors_text_more, sectors_text_every, sector_is}
use Rattle.ram_report.proofs.printing.data.print_sectors.Goals as goal

pub loop-k-init : goal.loop-k-init
loop-k-init g c = nothing_put _ _

pub loop-k-preserved : goal.loop-k-preserved
loop-k-preserved g c =
    let lba = c.args.lba in
    let bytes = c.args.sectors.now in
    let k = c.loop-k.k in
    piece_put (sectors_text lba bytes) _ _ _ _ _ _ k _ c.loop-k.invariant c.in_ok-print_sector.ensures
    (sectors_text_more lba bytes k ∙ ap (λ x. sectors_text lba bytes k ++ sector_text (lba + k) x) (sym (sector_is bytes k)))

pub returns-in_err-print_sector : goal.returns-in_err-print_sector
returns-in_err-print_sector g c =
    let lba = c.args.lba in
    let bytes = c.args.sectors.now in
    let k = c.loop-k.k in
    let p = err_from_is_err_and c.from_residual.result c.from_residual.ensures.1 in
    rw p.1 (piece_cut (sectors_text lba bytes) (sectors_text_every lba bytes) _ _ _ _ _ _ k (length bytes / 2048) _ c.loop-k-test.true c.loop-k.invariant c.in_err-print_sector.ensures
    (sectors_text_more lba bytes k ∙ ap (λ x. sectors_text lba bytes k ++ sector_text (lba + k) x) (sym (sector_is bytes k))))

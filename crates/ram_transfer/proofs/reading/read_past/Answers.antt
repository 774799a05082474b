use Rattle.std.specs.Prelude.{◌≡◌, ℕ, ◌+◌, ◌*◌, ◌-◌, ◌≤◌, List, length, take}
use Rattle.std.proofs.Common.{ap, ◌∙◌, subst, arith}
use borrow.Rule.Slice.PartMut.{take_put, put_mid, mid_len}
use Rattle.model_sectors.specs.Requests.{start_in}
use Rattle.model_sectors.proofs.Covering.{wholly_start, wholly_end}
use Rattle.ram_requests.proofs.ReadBytes.{filled_whole}
use Rattle.ram_transfer.proofs.Fetches.{read_past_it}
use Rattle.ram_transfer.proofs.ReadAhead.{false_is_not}
use Rattle.ram_transfer.proofs.reading.read_past.Goals as goal

pub returns-clause-rule : goal.returns-clause-rule
returns-clause-rule g c =
    let part = c.args.part in
    let bytes : List ℕ = c.read_whole_into-read.new.into in
    let at : ℕ = c.skipped-at.result in
    let at_is : at ≡ 2048 * (start_in part.request.lba part.block - part.request.lba) = c.skipped-at.ensures ∙ ap (λ (start : ℕ). 2048 * (start - part.request.lba)) part.start_is in
    let start = wholly_start part.request.lba part.request.n part.block (false_is_not c.requires.all) in
    let end = wholly_end part.request.lba part.request.n part.block (false_is_not c.requires.all) in
    let inside : at + 32768 ≤ length c.args.into.now = omega (arith, at_is, c.requires.whole) in
    let long : length bytes ≡ 32768 = c.read_whole_into-read.auto.into ∙ mid_len at (at + 32768) c.args.into.now inside ∙ omega arith in
    read_past_it g.M.Medium.world g.M.Medium.reaches c.args.medium.now c.read_whole_into-read.new.medium part.request.lba part.request.n part.block c.args.home bytes c.args.into.now _
    (subst (λ (m : ℕ). take m (put_mid at (at + 32768 - at) c.args.into.now bytes) ≡ take m c.args.into.now) at_is
    (take_put at (at + 32768 - at) c.args.into.now bytes (omega (arith, inside))))
    (filled_whole part.request.lba part.request.n part.block at bytes c.args.into.now (false_is_not c.requires.all) at_is long)
    c.read_whole_into-read.result c.read_whole_into-read.ensures.rule c.read_whole_into-read.ensures.continues

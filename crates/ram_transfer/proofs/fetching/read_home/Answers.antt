use Rattle.std.proofs.lemmas.Result.{err_from_is_err_and}
use Rattle.ram_transfer.proofs.Fetches.{fetched, unread, halted}
use Rattle.ram_transfer.proofs.fetching.read_home.Goals as goal

pub returns-in_err-read_whole-clause-rule : goal.returns-in_err-read_whole-clause-rule
returns-in_err-read_whole-clause-rule g c =
    let p = err_from_is_err_and c.from_residual.result c.from_residual.ensures.1 in
    rw (p.1, p.2)
    (halted g.M.Medium.world g.M.Medium.reaches c.args.medium.now c.read_whole.new.medium c.args.buffer.now c.args.i c.args.home c.requires.few c.requires.not_buffered
    _ _ c.in_err-read_whole.field-0.0 c.in_err-read_whole.ensures.rule c.in_err-read_whole.ensures.continues)

pub returns-then-not-branch-clause-rule : goal.returns-then-not-branch-clause-rule
returns-then-not-branch-clause-rule g c =
    unread g.M.Medium.world g.M.Medium.reaches c.args.medium.now c.read_whole.new.medium c.args.buffer.now c.args.i c.args.home c.requires.few c.requires.not_buffered
    _ c.read_whole.new.into c.in_ok-read_whole.field-0 c.if-not-branch.true c.in_ok-read_whole.ensures.rule c.in_ok-read_whole.ensures.continues

pub returns-clause-rule : goal.returns-clause-rule
returns-clause-rule g c =
    fetched g.M.Medium.world g.M.Medium.reaches c.args.medium.now c.read_whole.new.medium c.args.buffer.now c.args.i c.args.home c.requires.few c.requires.not_buffered
    _ c.read_whole.new.into c.in_ok-read_whole.field-0 c.if-not-branch.false c.in_ok-read_whole.ensures.rule c.in_ok-read_whole.ensures.continues
    c.put.new.self c.put.ensures c.put.new.block c.lookup.new.into c.lookup.new.self c.lookup.result c.lookup.ensures.found

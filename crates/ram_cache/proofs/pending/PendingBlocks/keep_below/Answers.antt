use Rattle.std.proofs.Common.{◌∙◌, subst, ℕ, ◌<◌, ◌≤◌, length, arith}
use Rattle.ram_cache.specs.Rooms.{pending_of}
use Rattle.ram_cache.proofs.Indices.{below_removed, before_removed, shorter_removed, all_kept}
use Rattle.ram_cache.proofs.pending.PendingBlocks.keep_below.Goals as goal

pub loop-k-smaller : goal.loop-k-smaller
loop-k-smaller c =
    let here : c.loop-k.k < length (pending_of c.loop-k.self) = omega arith in
    let short = shorter_removed (pending_of c.loop-k.self) c.args.blocks c.loop-k.k here (pending_of c.remove.new.self) c.remove.ensures in
    omega arith

pub loop-k-preserved : goal.loop-k-preserved
loop-k-preserved c =
    let here : c.loop-k.k < length (pending_of c.loop-k.self) = omega arith in
    let short = shorter_removed (pending_of c.loop-k.self) c.args.blocks c.loop-k.k here (pending_of c.remove.new.self) c.remove.ensures in
    record {
      within = omega arith;
      same = below_removed (pending_of c.loop-k.self) c.args.blocks c.loop-k.k here (pending_of c.remove.new.self) c.remove.ensures
          (subst (λ (n : ℕ). c.args.blocks ≤ n) c.number.ensures c.if-number-blocks.false) ∙ c.loop-k.invariant.same;
      below = before_removed (pending_of c.loop-k.self) c.args.blocks c.loop-k.k here (pending_of c.remove.new.self) c.remove.ensures c.loop-k.invariant.below;
    }

pub returns : goal.returns
returns c = all_kept (pending_of c.loop-k.self) c.args.blocks (λ j within. c.loop-k.invariant.below j (omega arith)) ∙ c.loop-k.invariant.same

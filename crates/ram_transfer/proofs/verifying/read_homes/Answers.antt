use Rattle.std.specs.Prelude.{◌≡◌, ℕ, ◌+◌, ◌*◌, ◌<◌, ◌≤◌}
use Rattle.std.proofs.Common.{refl, sym, subst, ◌∙◌, arith}
use Rattle.std.proofs.lemmas.Result.{err_from_is_err_and}
use Rattle.model_sectors.specs.Requests.{blocks_covered}
use Rattle.model_sectors.proofs.Covering.{covered_inside}
use Rattle.model_places.specs.Places.{logical_count, home_of}
use Rattle.ram_lists.specs.Lists.{lists_of}
use Rattle.ram_requests.proofs.Moves.{in_block}
use Rattle.ram_transfer.specs.Verifying.{HasVerifiedUpTo}
use Rattle.ram_transfer.proofs.Fetches.{home_below}
use Rattle.ram_transfer.proofs.VerifyTurns.{verified_none, verified_more, verify_meets, verify_stops}
use Rattle.ram_transfer.proofs.verifying.read_homes.Goals as goal

pub loop-k-init : goal.loop-k-init
loop-k-init g c = record {
  so_far = verified_none g.M.Medium.world g.M.Medium.block_count g.M.Medium.reaches g.met.M.Medium.laws c.args.geometry.now (lists_of c.args.lists.now)
      c.args.medium.now c.args.request.lba c.requires.on;
  as_many = refl;
}

pub read_whole-requires : goal.read_whole-requires
read_whole-requires g c =
    let covered : c.loop-k.k < blocks_covered c.args.request.lba c.args.request.n = omega (arith, c.loop-k-test.true, c.blocks-k-end.ensures) in
    let inside : c.args.request.lba + c.args.request.n ≤ 16 * logical_count c.args.geometry.now (lists_of c.args.lists.now) = omega (arith, c.requires.inside) in
    let within = covered_inside c.args.request.lba c.args.request.n c.loop-k.k (logical_count c.args.geometry.now (lists_of c.args.lists.now)) inside covered in
    home_below c.args.geometry.now (lists_of c.args.lists.now) c.part-part.result.block c.home-home.result (g.M.Medium.block_count c.loop-k.medium) c.requires.valid
    (subst (λ (block : ℕ). block < logical_count c.args.geometry.now (lists_of c.args.lists.now)) (sym c.part-part.ensures.block) within)
    c.home-home.ensures (c.loop-k.invariant.as_many ∙ c.requires.size)

pub returns-in_err-read_whole-clause-rule : goal.returns-in_err-read_whole-clause-rule
returns-in_err-read_whole-clause-rule g c =
    let p = err_from_is_err_and c.from_residual.result c.from_residual.ensures.1 in
    let covered : c.loop-k.k < blocks_covered c.args.request.lba c.args.request.n = omega (arith, c.loop-k-test.true, c.blocks-k-end.ensures) in
    let here = in_block (λ lba n block. c.home-home.result ≡ home_of c.args.geometry.now (lists_of c.args.lists.now) block)
    c.part-part.result c.args.request c.loop-k.k c.part-part.ensures.request c.part-part.ensures.block c.home-home.ensures in
    rw (p.1, p.2)
    (verify_stops g.M.Medium.world g.M.Medium.block_count g.M.Medium.reaches g.met.M.Medium.laws c.args.geometry.now (lists_of c.args.lists.now)
    c.args.medium.now c.loop-k.medium c.read_whole.new.medium c.args.request.lba c.args.request.n c.loop-k.k c.loop-k.invariant.so_far covered c.home-home.result here
    _ _ c.in_err-read_whole.field-0.0 c.in_err-read_whole.ensures.rule c.in_err-read_whole.ensures.continues)

pub returns-then-not-branch-clause-rule : goal.returns-then-not-branch-clause-rule
returns-then-not-branch-clause-rule g c =
    let covered : c.loop-k.k < blocks_covered c.args.request.lba c.args.request.n = omega (arith, c.loop-k-test.true, c.blocks-k-end.ensures) in
    let inside : c.args.request.lba + c.args.request.n ≤ 16 * logical_count c.args.geometry.now (lists_of c.args.lists.now) = omega (arith, c.requires.inside) in
    let here = in_block (λ lba n block. c.home-home.result ≡ home_of c.args.geometry.now (lists_of c.args.lists.now) block)
    c.part-part.result c.args.request c.loop-k.k c.part-part.ensures.request c.part-part.ensures.block c.home-home.ensures in
    verify_meets g.M.Medium.world g.M.Medium.block_count g.M.Medium.reaches g.met.M.Medium.laws c.args.geometry.now (lists_of c.args.lists.now)
    c.args.medium.now c.loop-k.medium c.read_whole.new.medium c.args.request.lba c.args.request.n c.loop-k.k c.loop-k.invariant.so_far covered c.home-home.result here
    _ c.read_whole.new.into c.requires.valid inside (rw c.if-not-branch.true at c.in_ok-read_whole.ensures.rule) c.in_ok-read_whole.ensures.continues

pub loop-k-preserved : goal.loop-k-preserved
loop-k-preserved g c =
    let covered : c.loop-k.k < blocks_covered c.args.request.lba c.args.request.n = omega (arith, c.loop-k-test.true, c.blocks-k-end.ensures) in
    let here = in_block (λ lba n block. c.home-home.result ≡ home_of c.args.geometry.now (lists_of c.args.lists.now) block)
    c.part-part.result c.args.request c.loop-k.k c.part-part.ensures.request c.part-part.ensures.block c.home-home.ensures in
    record {
      so_far = verified_more g.M.Medium.world g.M.Medium.block_count g.M.Medium.reaches g.met.M.Medium.laws c.args.geometry.now (lists_of c.args.lists.now)
          c.args.medium.now c.loop-k.medium c.read_whole.new.medium c.args.request.lba c.args.request.n c.loop-k.k c.loop-k.invariant.so_far covered c.home-home.result here
          c.loop-k.block c.read_whole.new.into (rw c.if-not-branch.false at c.in_ok-read_whole.ensures.rule) c.in_ok-read_whole.ensures.continues;
      as_many = c.read_whole.ensures.as_many ∙ c.loop-k.invariant.as_many;
    }

pub returns-clause-rule : goal.returns-clause-rule
returns-clause-rule g c =
    let all : c.loop-k.k ≡ blocks_covered c.args.request.lba c.args.request.n = omega (arith, c.loop-k-test.false, c.loop-k.auto.k-end, c.blocks-k-end.ensures) in
    subst (λ (k : ℕ). HasVerifiedUpTo g.M.Medium.world g.M.Medium.reaches c.args.medium.now c.loop-k.medium c.args.geometry.now (lists_of c.args.lists.now) c.args.request.lba k) all c.loop-k.invariant.so_far

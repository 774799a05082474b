use Rattle.std.specs.Prelude.{◌≡◌, ◌↔◌, ℕ, ◌+◌, ◌*◌, ◌<◌, ◌≤◌, false, IsTrue}
use Rattle.std.proofs.Common.{refl, sym, ◌∙◌, arith, subst}
use Rattle.std.proofs.lemmas.Result.{err_from_is_err_and}
use Rattle.model_sectors.specs.Requests.{block_with, blocks_covered, is_partly}
use Rattle.model_places.specs.Places.{logical_count, home_of}
use Rattle.ram_lists.specs.Lists.{lists_of}
use Rattle.ram_requests.specs.declared.requests.Request.{Request}
use Rattle.ram_requests.proofs.Moves.{in_block}
use Rattle.ram_transfer.specs.Blocks.{FetchStopped}
use Rattle.ram_transfer.specs.Reading.{IsReadPart, IsUnreadPart, MayPass}
use Rattle.ram_transfer.proofs.ReadAhead.{ahead_none, ahead_more, ahead_all, ahead_stops, ahead_meets, ahead_meets_long, ahead_may_pass, TellsPast}
use Rattle.ram_transfer.proofs.reading.read_parts.Goals as goal

pub loop-k-init : goal.loop-k-init
loop-k-init g c = record {
  ahead = ahead_none g.M.Medium.world g.M.Medium.block_count g.M.Medium.reaches g.met.M.Medium.laws c.args.geometry.now (lists_of c.args.lists.now) c.is_long-long.result
      c.args.medium.now c.args.buffer.now c.args.request.lba c.args.request.n c.args.into.now c.is_long-long.ensures.long.0 c.is_long-long.ensures.few c.requires.on c.requires.whole;
  as_many = refl;
}

pub returns-in_err-read_part-clause-rule : goal.returns-in_err-read_part-clause-rule
returns-in_err-read_part-clause-rule g c =
    let p = err_from_is_err_and c.from_residual.result c.from_residual.ensures.1 in
    let covered : c.loop-k.k < blocks_covered c.args.request.lba c.args.request.n = omega (arith, c.loop-k-test.true, c.blocks-blocks.ensures) in
    let did = in_block (λ lba n block. FetchStopped g.M.Medium.world g.M.Medium.reaches c.loop-k.medium c.read_part.new.medium c.loop-k.buffer block
    (home_of c.args.geometry.now (lists_of c.args.lists.now) block) c.in_err-read_part.field-0.0)
    c.part-part.result c.args.request c.loop-k.k c.part-part.ensures.request c.part-part.ensures.block c.in_err-read_part.ensures.rule in
    rw (p.1, p.2)
    (ahead_stops g.M.Medium.world g.M.Medium.block_count g.M.Medium.reaches g.met.M.Medium.laws c.args.geometry.now (lists_of c.args.lists.now)
    c.args.medium.now c.loop-k.medium c.read_part.new.medium c.args.buffer.now c.loop-k.buffer c.args.request.lba c.args.request.n c.loop-k.k c.loop-k.into c.is_long-long.result c.loop-k.invariant.ahead covered
    c.in_err-read_part.field-0.0 did)

pub read_part-requires-clause-past : goal.read_part-requires-clause-past
read_part-requires-clause-past g c = λ goes.
    let covered : c.loop-k.k < blocks_covered c.args.request.lba c.args.request.n = omega (arith, c.loop-k-test.true, c.blocks-blocks.ensures) in
    let tells : TellsPast c.args.request.lba c.args.request.n c.loop-k.k c.is_long-long.result c.goes_past-past.result =
    subst (λ (blocks : ℕ). IsTrue c.goes_past-past.result ↔ (IsTrue c.is_long-long.result × (c.loop-k.k + 8 < blocks) × (is_partly c.args.request.lba c.args.request.n (block_with c.args.request.lba + c.loop-k.k) ≡ false))) c.blocks-blocks.ensures
    (in_block (λ lba n block. IsTrue c.goes_past-past.result ↔ (IsTrue c.is_long-long.result × (c.loop-k.k + 8 < c.blocks-blocks.result) × (is_partly lba n block ≡ false)))
    c.part-part.result c.args.request c.loop-k.k c.part-part.ensures.request c.part-part.ensures.block c.goes_past-past.ensures) in
    let may = ahead_may_pass g.M.Medium.world g.M.Medium.block_count g.M.Medium.reaches g.met.M.Medium.laws c.args.geometry.now (lists_of c.args.lists.now) c.is_long-long.result c.goes_past-past.result
    c.args.medium.now c.loop-k.medium c.args.buffer.now c.loop-k.buffer c.args.request.lba c.args.request.n c.loop-k.k c.loop-k.into c.loop-k.invariant.ahead covered tells goes in
    subst (λ (r : Request). MayPass r.lba r.n c.part-part.result.block c.loop-k.buffer) (sym c.part-part.ensures.request)
    (subst (λ (i : ℕ). MayPass c.args.request.lba c.args.request.n i c.loop-k.buffer) (sym c.part-part.ensures.block) may)

pub returns-then-long-clause-rule : goal.returns-then-long-clause-rule
returns-then-long-clause-rule g c =
    let covered : c.loop-k.k < blocks_covered c.args.request.lba c.args.request.n = omega (arith, c.loop-k-test.true, c.blocks-blocks.ensures) in
    let inside : c.args.request.lba + c.args.request.n ≤ 16 * logical_count c.args.geometry.now (lists_of c.args.lists.now) = omega (arith, c.requires.inside) in
    let did = in_block (λ lba n block. IsUnreadPart g.M.Medium.world g.M.Medium.reaches c.loop-k.medium c.read_part.new.medium c.loop-k.buffer lba n block
    (home_of c.args.geometry.now (lists_of c.args.lists.now) block) c.goes_past-past.result c.read_part.new.buffer c.loop-k.into c.read_part.new.into)
    c.part-part.result c.args.request c.loop-k.k c.part-part.ensures.request c.part-part.ensures.block (rw c.if-not-branch.true at c.in_ok-read_part.ensures.rule) in
    ahead_meets_long g.M.Medium.world g.M.Medium.block_count g.M.Medium.reaches g.met.M.Medium.laws c.args.geometry.now (lists_of c.args.lists.now)
    c.args.medium.now c.loop-k.medium c.read_part.new.medium c.args.buffer.now c.loop-k.buffer c.args.request.lba c.args.request.n c.loop-k.k c.loop-k.into c.requires.valid inside covered c.goes_past-past.result c.read_part.new.buffer c.read_part.new.into did
    (rw c.if-long.true at c.loop-k.invariant.ahead) (c.read_part.auto.into ∙ c.loop-k.invariant.ahead.so_far.long) c.put_before.new.buffer c.put_before.ensures

pub returns-else-long-clause-rule : goal.returns-else-long-clause-rule
returns-else-long-clause-rule g c =
    let covered : c.loop-k.k < blocks_covered c.args.request.lba c.args.request.n = omega (arith, c.loop-k-test.true, c.blocks-blocks.ensures) in
    let inside : c.args.request.lba + c.args.request.n ≤ 16 * logical_count c.args.geometry.now (lists_of c.args.lists.now) = omega (arith, c.requires.inside) in
    let did = in_block (λ lba n block. IsUnreadPart g.M.Medium.world g.M.Medium.reaches c.loop-k.medium c.read_part.new.medium c.loop-k.buffer lba n block
    (home_of c.args.geometry.now (lists_of c.args.lists.now) block) c.goes_past-past.result c.read_part.new.buffer c.loop-k.into c.read_part.new.into)
    c.part-part.result c.args.request c.loop-k.k c.part-part.ensures.request c.part-part.ensures.block (rw c.if-not-branch.true at c.in_ok-read_part.ensures.rule) in
    ahead_meets g.M.Medium.world g.M.Medium.block_count g.M.Medium.reaches g.met.M.Medium.laws c.args.geometry.now (lists_of c.args.lists.now)
    c.args.medium.now c.loop-k.medium c.read_part.new.medium c.args.buffer.now c.loop-k.buffer c.args.request.lba c.args.request.n c.loop-k.k c.loop-k.into c.requires.valid inside covered c.goes_past-past.result c.read_part.new.buffer c.read_part.new.into did
    (rw c.if-long.false at c.loop-k.invariant.ahead)

pub loop-k-preserved : goal.loop-k-preserved
loop-k-preserved g c =
    let covered : c.loop-k.k < blocks_covered c.args.request.lba c.args.request.n = omega (arith, c.loop-k-test.true, c.blocks-blocks.ensures) in
    let inside : c.args.request.lba + c.args.request.n ≤ 16 * logical_count c.args.geometry.now (lists_of c.args.lists.now) = omega (arith, c.requires.inside) in
    let tells : TellsPast c.args.request.lba c.args.request.n c.loop-k.k c.is_long-long.result c.goes_past-past.result =
    subst (λ (blocks : ℕ). IsTrue c.goes_past-past.result ↔ (IsTrue c.is_long-long.result × (c.loop-k.k + 8 < blocks) × (is_partly c.args.request.lba c.args.request.n (block_with c.args.request.lba + c.loop-k.k) ≡ false))) c.blocks-blocks.ensures
    (in_block (λ lba n block. IsTrue c.goes_past-past.result ↔ (IsTrue c.is_long-long.result × (c.loop-k.k + 8 < c.blocks-blocks.result) × (is_partly lba n block ≡ false)))
    c.part-part.result c.args.request c.loop-k.k c.part-part.ensures.request c.part-part.ensures.block c.goes_past-past.ensures) in
    let did = in_block (λ lba n block. IsReadPart g.M.Medium.world g.M.Medium.reaches c.loop-k.medium c.read_part.new.medium c.loop-k.buffer lba n block
    (home_of c.args.geometry.now (lists_of c.args.lists.now) block) c.goes_past-past.result c.read_part.new.buffer c.loop-k.into c.read_part.new.into)
    c.part-part.result c.args.request c.loop-k.k c.part-part.ensures.request c.part-part.ensures.block (rw c.if-not-branch.false at c.in_ok-read_part.ensures.rule) in
    record {
      ahead = ahead_more g.M.Medium.world g.M.Medium.block_count g.M.Medium.reaches g.met.M.Medium.laws c.args.geometry.now (lists_of c.args.lists.now)
          c.args.medium.now c.loop-k.medium c.read_part.new.medium c.args.buffer.now c.loop-k.buffer c.args.request.lba c.args.request.n c.loop-k.k c.loop-k.into c.read_part.new.buffer c.read_part.new.into inside covered (c.read_part.auto.into ∙ c.loop-k.invariant.ahead.so_far.long)
          c.is_long-long.result c.goes_past-past.result c.loop-k.invariant.ahead did tells;
      as_many = c.read_part.ensures.as_many ∙ c.loop-k.invariant.as_many;
    }

pub returns-clause-rule : goal.returns-clause-rule
returns-clause-rule g c =
    let all : c.loop-k.k ≡ blocks_covered c.args.request.lba c.args.request.n = omega (arith, c.loop-k-test.false, c.loop-k.auto.k-end, c.blocks-blocks.ensures) in
    ahead_all g.M.Medium.world g.M.Medium.block_count g.M.Medium.reaches g.met.M.Medium.laws c.args.geometry.now (lists_of c.args.lists.now) c.is_long-long.result
    c.args.medium.now c.loop-k.medium c.args.buffer.now c.loop-k.buffer c.args.request.lba c.args.request.n c.loop-k.k c.loop-k.into c.loop-k.invariant.ahead all

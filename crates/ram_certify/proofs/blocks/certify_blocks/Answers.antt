use Rattle.std.proofs.Common.{arith, ap, ◌≡◌, ◌≤◌, ◌∙◌, sym, length, subst, take, List, Bool, true, false, slice_index}
use Rattle.std.proofs.lemmas.Result.{err_from_is_err_and}
use Rattle.std.proofs.lemmas.List.Elements.{Contains-get_or, All-contains}
use Rattle.std.specs.Prelude.{ℕ, ◌<◌}
use Rattle.std.specs.List.{Contains}
use Rattle.model_geometry.specs.Geometry.{Shape, data_blocks, lead_out, total}
use Rattle.model_geometry.proofs.DataBlocks.{data_blocks_bounds}
use Rattle.std.proofs.lemmas.List.{length-take}
use Rattle.ram_certify.specs.Certifying.{HasCertified}
use Rattle.ram_certify.specs.Blocks.{IsNextKept}
use Rattle.ram_certify.proofs.Going.{kept_is_passed, block_kept, block_found, certifying_stops, certified_all}
use Rattle.ram_certify.proofs.blocks.certify_blocks.Goals as goal
use Rattle.ram_certify.proofs.blocks.certify_blocks.Goals.{then-is_next_kept, else-is_next_kept+in_ok-put_block+then-not-branch, else-is_next_kept+in_ok-put_block+else-not-branch}

data_inside : (shape : Shape) (block : ℕ) → Contains (data_blocks shape) block → block < total shape
data_inside shape block has = let h = All-contains (λ b. (7 < b) × (b < lead_out shape)) (data_blocks shape) block (data_blocks_bounds shape) has in omega (arith, h)

few_taken : (most : ℕ) (xs ys : List ℕ) → ys ≡ take most xs → length ys ≤ most
few_taken most xs ys same = let e = length-take most xs in let f = ap length same in omega (arith, e, f)

not_next : (test : Bool) (P : Type 0) → test ≡ false → (P → test ≡ true) → ¬ P
not_next test P is_false when p = let e : false ≡ true = sym is_false ∙ when p in cc

pub put_block-requires-clause-inside : goal.put_block-requires-clause-inside
put_block-requires-clause-inside g c =
    let n_in : c.loop-n.n < length (data_blocks c.args.geometry.now) = omega (arith, c.loop-n-test.true, c.loop-n.auto.n-end, c.data_blocks-n-end.ensures.count) in
    let h = data_inside c.args.geometry.now c.data_block-block.result (rw c.data_block-block.ensures (Contains-get_or (data_blocks c.args.geometry.now) c.loop-n.n 0 n_in)) in
    omega (arith, h, c.loop-n.invariant.as_many, c.requires.size)

pub returns-in_err-put_block-clause-rule : goal.returns-in_err-put_block-clause-rule
returns-in_err-put_block-clause-rule g c =
    let p = err_from_is_err_and c.from_residual.result c.from_residual.ensures.1 in
    rw (p.1, p.2)
    (certifying_stops g.M.Medium.world g.M.Medium.block_count g.M.Medium.reaches g.met.M.Medium.laws c.args.geometry.now c.args.kept.now c.requires.kept c.args.medium.now c.capacity-most.result c.loop-n.medium c.put_block.new.medium c.loop-n.n c.loop-n.passed c.loop-n.count c.loop-n.found.items
    c.loop-n.invariant.so_far (omega (arith, c.loop-n-test.true, c.loop-n.auto.n-end, c.data_blocks-n-end.ensures.count))
    (not_next c.is_next_kept.result (IsNextKept c.args.kept.now c.loop-n.passed (slice_index (data_blocks c.args.geometry.now) c.loop-n.n)) c.if-is_next_kept.false (rw c.data_block-block.ensures at c.is_next_kept.ensures.1))
    _ c.requires.on (rw (c.data_block-block.ensures, c.bytes.ensures.same ∙ c.requires.zero) at c.in_err-put_block.ensures.rule))

pub overflow_add-count : goal.overflow_add-count
overflow_add-count g c = (let h = c.loop-n.invariant.so_far.few in omega (arith, h, c.loop-n-test.true, c.loop-n.auto.n-end, c.data_blocks-n-end.ensures.most))

pub note-requires-clause-few : goal.note-requires-clause-few
note-requires-clause-few g c = few_taken c.capacity-most.result c.loop-n.invariant.so_far.unreadable c.loop-n.found.items c.loop-n.invariant.so_far.found_are

pub loop-n-preserved : goal.loop-n-preserved
loop-n-preserved g c =
    let n_in : c.loop-n.n < length (data_blocks c.args.geometry.now) = omega (arith, c.loop-n-test.true, c.loop-n.auto.n-end, c.data_blocks-n-end.ensures.count) in
    elim c.if-is_next_kept.branch [
      | then-is_next_kept w ↦ record {
        so_far = rw (w.medium-is, w.found-is, w.passed-is, w.count-is) (kept_is_passed g.M.Medium.world g.M.Medium.block_count g.M.Medium.reaches g.met.M.Medium.laws c.args.geometry.now c.args.kept.now c.requires.kept c.args.medium.now c.capacity-most.result c.loop-n.medium c.loop-n.medium c.loop-n.n c.loop-n.passed c.loop-n.count c.loop-n.found.items
            c.loop-n.invariant.so_far n_in (rw c.data_block-block.ensures at (c.is_next_kept.ensures.0 w.if-is_next_kept.true)));
        room = rw w.found-is c.loop-n.invariant.room;
        as_many = rw w.medium-is c.loop-n.invariant.as_many;
      }
      | else-is_next_kept+in_ok-put_block+then-not-branch w ↦ record {
        so_far = rw (w.medium-is, w.found-is, w.passed-is, w.count-is, w.note.ensures.found, c.data_block-block.ensures) (block_found g.M.Medium.world g.M.Medium.block_count g.M.Medium.reaches g.met.M.Medium.laws c.args.geometry.now c.args.kept.now c.requires.kept c.args.medium.now c.capacity-most.result c.loop-n.medium w.put_block.new.medium c.loop-n.n c.loop-n.passed c.loop-n.count c.loop-n.found.items
            c.loop-n.invariant.so_far n_in
            (not_next c.is_next_kept.result (IsNextKept c.args.kept.now c.loop-n.passed (slice_index (data_blocks c.args.geometry.now) c.loop-n.n)) w.if-is_next_kept.false (rw c.data_block-block.ensures at c.is_next_kept.ensures.1))
            (rw (w.if-not-branch.true, c.data_block-block.ensures, w.bytes.ensures.same ∙ c.requires.zero) at w.in_ok-put_block.ensures.rule));
        room = rw w.found-is w.note.ensures.room;
        as_many = rw w.medium-is (w.in_ok-put_block.ensures.as_many ∙ c.loop-n.invariant.as_many);
      }
      | else-is_next_kept+in_ok-put_block+else-not-branch w ↦ record {
        so_far = rw (w.medium-is, w.found-is, w.passed-is, w.count-is) (block_kept g.M.Medium.world g.M.Medium.block_count g.M.Medium.reaches g.met.M.Medium.laws c.args.geometry.now c.args.kept.now c.requires.kept c.args.medium.now c.capacity-most.result c.loop-n.medium w.put_block.new.medium c.loop-n.n c.loop-n.passed c.loop-n.count c.loop-n.found.items
            c.loop-n.invariant.so_far n_in
            (not_next c.is_next_kept.result (IsNextKept c.args.kept.now c.loop-n.passed (slice_index (data_blocks c.args.geometry.now) c.loop-n.n)) w.if-is_next_kept.false (rw c.data_block-block.ensures at c.is_next_kept.ensures.1))
            (rw (w.if-not-branch.false, c.data_block-block.ensures, w.bytes.ensures.same ∙ c.requires.zero) at w.in_ok-put_block.ensures.rule));
        room = rw w.found-is c.loop-n.invariant.room;
        as_many = rw w.medium-is (w.in_ok-put_block.ensures.as_many ∙ c.loop-n.invariant.as_many);
      }
    ]

pub returns-clause-rule : goal.returns-clause-rule
returns-clause-rule g c =
    let n_is : c.loop-n.n ≡ length (data_blocks c.args.geometry.now) = omega (arith, c.loop-n-test.false, c.loop-n.auto.n-end, c.data_blocks-n-end.ensures.count) in
    subst (λ (most : ℕ). HasCertified g.M.Medium.world g.M.Medium.reaches c.args.geometry.now c.args.kept.now c.args.medium.now c.loop-n.medium most c.loop-n.found.items c.loop-n.count) c.capacity-most.ensures
    (certified_all g.M.Medium.world g.M.Medium.block_count g.M.Medium.reaches g.met.M.Medium.laws c.args.geometry.now c.args.kept.now c.requires.kept c.args.medium.now c.capacity-most.result c.loop-n.medium c.loop-n.passed c.loop-n.count c.loop-n.found.items c.requires.on
    (rw n_is at c.loop-n.invariant.so_far))

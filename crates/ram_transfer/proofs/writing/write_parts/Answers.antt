use Rattle.std.specs.Prelude.{◌≡◌, ◌<◌, ℕ}
use Rattle.std.proofs.Common.{refl, sym, ◌∙◌, subst, arith}
use Rattle.std.proofs.lemmas.Bool.{false≢true}
use Rattle.std.proofs.lemmas.Result.{err_from_is_err_and}
use Rattle.model_sectors.specs.Requests.{blocks_covered}
use Rattle.model_places.specs.Places.{logical_count}
use Rattle.ram_lists.specs.Lists.{lists_of}
use Rattle.ram_requests.proofs.Moves.{in_block}
use Rattle.model_drive.specs.declared.WriteOut.TheVariants as outs
use Rattle.ram_transfer.specs.Writing.{WritesPart, PartStops}
use Rattle.model_medium.proofs.Happening.{happened_none, happened_then}
use Rattle.ram_transfer.proofs.Happening.{wrote_happened, write_stop_happened}
use Rattle.ram_transfer.proofs.WriteTurns.{wrote_none}
use Rattle.ram_transfer.proofs.WriteEnds.{wrote_all, wrote_one_more, part_within, part_stopped, part_refused}
use Rattle.ram_transfer.proofs.writing.write_parts.Goals as goal

pub loop-k-init : goal.loop-k-init
loop-k-init g c = record {
  so_far = wrote_none g.M.Medium.world g.M.Medium.block_count g.M.Medium.reaches g.M.Medium.takes g.M.MediumControl.arms g.M.MediumControl.armed_cut g.met.M.Medium.laws g.met.M.MediumControl.control_laws c.args.geometry.now c.args.medium.now (lists_of c.args.lists.now) c.args.workspace.now.buffer c.args.request.lba c.args.request.n c.args.from.now c.requires.on c.requires.inside c.requires.settled;
  happened = happened_none g.M.Medium.takes c.args.medium.now;
  fit = c.requires.fit;
  same_layout = refl;
}

pub write_part-requires-clause-fit : goal.write_part-requires-clause-fit
write_part-requires-clause-fit g c = c.loop-k.invariant.fit

pub write_part-requires-clause-on : goal.write_part-requires-clause-on
write_part-requires-clause-on g c = c.loop-k.invariant.so_far.blocks.wrote.ends.is_on

pub write_part-requires-clause-settled : goal.write_part-requires-clause-settled
write_part-requires-clause-settled g c = c.loop-k.invariant.so_far.blocks.settled

pub write_part-requires-clause-inside : goal.write_part-requires-clause-inside
write_part-requires-clause-inside g c =
    let covered : c.loop-k.k < blocks_covered c.args.request.lba c.args.request.n = omega (arith, c.loop-k-test.true, c.blocks-k-end.ensures) in
    subst (λ (block : ℕ). block < logical_count c.args.geometry.now (lists_of c.loop-k.lists)) (sym c.part-part.ensures.block)
    (part_within g.M.Medium.world g.M.Medium.block_count g.M.Medium.reaches g.M.Medium.takes g.M.MediumControl.arms g.M.MediumControl.armed_cut g.met.M.Medium.laws g.met.M.MediumControl.control_laws c.args.geometry.now
    c.args.medium.now c.loop-k.medium (lists_of c.args.lists.now) (lists_of c.loop-k.lists) c.args.workspace.now.buffer c.loop-k.workspace.buffer c.args.request.lba c.args.request.n c.args.from.now c.loop-k.k c.loop-k.invariant.so_far
    c.requires.fit.valid c.requires.inside c.requires.whole covered c.loop-k.medium)

pub returns-in_err-out-clause-rule : goal.returns-in_err-out-clause-rule
returns-in_err-out-clause-rule g c =
    let p = err_from_is_err_and c.from_residual.result c.from_residual.ensures.1 in
    let covered : c.loop-k.k < blocks_covered c.args.request.lba c.args.request.n = omega (arith, c.loop-k-test.true, c.blocks-k-end.ensures) in
    let did = in_block (λ lba n block. PartStops g.M.Medium.world g.M.Medium.reaches c.args.geometry.now c.loop-k.medium c.write_part.new.medium (lists_of c.loop-k.lists)
    c.loop-k.workspace.buffer lba n block c.args.from.now c.in_err-out.field-0.0) c.part-part.result c.args.request c.loop-k.k c.part-part.ensures.request c.part-part.ensures.block c.in_err-out.ensures.rule in
    rw (p.1, p.2)
    (part_stopped g.M.Medium.world g.M.Medium.block_count g.M.Medium.reaches g.M.Medium.takes g.M.MediumControl.arms g.M.MediumControl.armed_cut g.met.M.Medium.laws g.met.M.MediumControl.control_laws c.args.geometry.now
    c.args.medium.now c.loop-k.medium (lists_of c.args.lists.now) (lists_of c.loop-k.lists) c.args.workspace.now.buffer c.loop-k.workspace.buffer c.args.request.lba c.args.request.n c.args.from.now c.loop-k.k c.loop-k.invariant.so_far
    c.requires.fit.valid c.requires.inside c.requires.whole covered c.write_part.new.medium c.in_err-out.field-0.0 did)

pub loop-k-preserved : goal.loop-k-preserved
loop-k-preserved g c =
    let covered : c.loop-k.k < blocks_covered c.args.request.lba c.args.request.n = omega (arith, c.loop-k-test.true, c.blocks-k-end.ensures) in
    let did = in_block (λ lba n block. WritesPart g.M.Medium.world g.M.Medium.reaches c.args.geometry.now c.loop-k.medium c.write_part.new.medium (lists_of c.loop-k.lists) (lists_of c.write_part.new.lists)
    c.loop-k.workspace.buffer c.write_part.new.workspace.buffer lba n block c.args.from.now outs.Good) c.part-part.result c.args.request c.loop-k.k c.part-part.ensures.request c.part-part.ensures.block
    (rw (c.is_good.ensures.0 c.if-not-is_good.false) at c.in_ok-out.ensures.rule) in
    record {
      so_far = wrote_one_more g.M.Medium.world g.M.Medium.block_count g.M.Medium.reaches g.M.Medium.takes g.M.MediumControl.arms g.M.MediumControl.armed_cut g.met.M.Medium.laws g.met.M.MediumControl.control_laws c.args.geometry.now
          c.args.medium.now c.loop-k.medium (lists_of c.args.lists.now) (lists_of c.loop-k.lists) c.args.workspace.now.buffer c.loop-k.workspace.buffer c.args.request.lba c.args.request.n c.args.from.now c.loop-k.k c.loop-k.invariant.so_far
          c.requires.fit.valid c.requires.inside c.requires.whole covered c.write_part.new.medium (lists_of c.write_part.new.lists) c.write_part.new.workspace.buffer did;
      happened = happened_then g.M.Medium.takes c.args.medium.now c.loop-k.medium c.write_part.new.medium c.loop-k.invariant.happened
          (wrote_happened g.M.Medium.world g.M.Medium.reaches g.M.Medium.takes g.met.M.Medium.happened c.args.geometry.now c.loop-k.medium c.write_part.new.medium (lists_of c.loop-k.lists) c.loop-k.workspace.buffer c.part-part.result.request.lba c.part-part.result.request.n c.part-part.result.block c.args.from.now
          c.loop-k.invariant.so_far.blocks.wrote.ends.is_on (lists_of c.write_part.new.lists) c.write_part.new.workspace.buffer outs.Good (rw (c.is_good.ensures.0 c.if-not-is_good.false) at c.in_ok-out.ensures.rule));
      fit = c.write_part.ensures.fit;
      same_layout = c.write_part.ensures.same_layout ∙ c.loop-k.invariant.same_layout;
    }

pub returns-clause-rule : goal.returns-clause-rule
returns-clause-rule g c =
    let all : c.loop-k.k ≡ blocks_covered c.args.request.lba c.args.request.n = omega (arith, c.loop-k-test.false, c.loop-k.auto.k-end, c.blocks-k-end.ensures) in
    wrote_all g.M.Medium.world g.M.Medium.block_count g.M.Medium.reaches g.M.Medium.takes g.M.MediumControl.arms g.M.MediumControl.armed_cut g.met.M.Medium.laws g.met.M.MediumControl.control_laws c.args.geometry.now
    c.args.medium.now c.loop-k.medium (lists_of c.args.lists.now) (lists_of c.loop-k.lists) c.args.workspace.now.buffer c.loop-k.workspace.buffer c.args.request.lba c.args.request.n c.args.from.now c.loop-k.k c.loop-k.invariant.so_far c.loop-k.invariant.fit.valid all

pub returns-clause-fit : goal.returns-clause-fit
returns-clause-fit g c = c.loop-k.invariant.fit

pub returns-in_err-out-clause-happened : goal.returns-in_err-out-clause-happened
returns-in_err-out-clause-happened g c =
    happened_then g.M.Medium.takes c.args.medium.now c.loop-k.medium c.write_part.new.medium c.loop-k.invariant.happened
    (write_stop_happened g.M.Medium.world g.M.Medium.reaches g.M.Medium.takes g.met.M.Medium.happened c.args.geometry.now c.loop-k.medium c.write_part.new.medium (lists_of c.loop-k.lists) c.loop-k.workspace.buffer c.part-part.result.request.lba c.part-part.result.request.n c.part-part.result.block c.args.from.now
    c.loop-k.invariant.so_far.blocks.wrote.ends.is_on c.in_err-out.field-0.0 c.in_err-out.ensures.rule)

pub returns-clause-happened : goal.returns-clause-happened
returns-clause-happened g c = c.loop-k.invariant.happened

pub returns-then-not-is_good-clause-rule : goal.returns-then-not-is_good-clause-rule
returns-then-not-is_good-clause-rule g c =
    let covered : c.loop-k.k < blocks_covered c.args.request.lba c.args.request.n = omega (arith, c.loop-k-test.true, c.blocks-k-end.ensures) in
    let did = in_block (λ lba n block. WritesPart g.M.Medium.world g.M.Medium.reaches c.args.geometry.now c.loop-k.medium c.write_part.new.medium (lists_of c.loop-k.lists) (lists_of c.write_part.new.lists)
    c.loop-k.workspace.buffer c.write_part.new.workspace.buffer lba n block c.args.from.now c.in_ok-out.out) c.part-part.result c.args.request c.loop-k.k c.part-part.ensures.request c.part-part.ensures.block c.in_ok-out.ensures.rule in
    part_refused g.M.Medium.world g.M.Medium.block_count g.M.Medium.reaches g.M.Medium.takes g.M.MediumControl.arms g.M.MediumControl.armed_cut g.met.M.Medium.laws g.met.M.MediumControl.control_laws c.args.geometry.now
    c.args.medium.now c.loop-k.medium (lists_of c.args.lists.now) (lists_of c.loop-k.lists) c.args.workspace.now.buffer c.loop-k.workspace.buffer c.args.request.lba c.args.request.n c.args.from.now c.loop-k.k c.loop-k.invariant.so_far
    c.requires.fit.valid c.requires.inside c.requires.whole covered c.write_part.new.medium (lists_of c.write_part.new.lists) c.write_part.new.workspace.buffer c.in_ok-out.out (λ good. false≢true (sym c.if-not-is_good.true ∙ c.is_good.ensures.1 good)) did

pub returns-then-not-is_good-clause-happened : goal.returns-then-not-is_good-clause-happened
returns-then-not-is_good-clause-happened g c =
    happened_then g.M.Medium.takes c.args.medium.now c.loop-k.medium c.write_part.new.medium c.loop-k.invariant.happened
    (wrote_happened g.M.Medium.world g.M.Medium.reaches g.M.Medium.takes g.met.M.Medium.happened c.args.geometry.now c.loop-k.medium c.write_part.new.medium (lists_of c.loop-k.lists) c.loop-k.workspace.buffer c.part-part.result.request.lba c.part-part.result.request.n c.part-part.result.block c.args.from.now
    c.loop-k.invariant.so_far.blocks.wrote.ends.is_on (lists_of c.write_part.new.lists) c.write_part.new.workspace.buffer c.in_ok-out.out c.in_ok-out.ensures.rule)

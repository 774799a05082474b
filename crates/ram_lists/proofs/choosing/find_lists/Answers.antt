use Rattle.std.proofs.Common.{inl, inr}
use Rattle.std.proofs.lemmas.Result.{err_from_is_err_and}
use Rattle.ram_dds.specs.Dds.{dds_of}
use Rattle.ram_sdl.specs.Sdl.{sdl_of}
use Rattle.ram_lists.proofs.MountSteps.{continues_after, nothing_after, neither_after, both_found_after, not_formatted}
use Rattle.ram_lists.proofs.choosing.find_lists.Goals as goal

pub returns-in_default-clause-rule : goal.returns-in_default-clause-rule
returns-in_default-clause-rule g c =
    nothing_after g.M.Medium.world g.M.Medium.block_count g.M.Medium.reaches g.met.M.Medium.laws c.args.geometry.now c.args.medium.now c.choose_lists.new.medium (dds_of c.choose_lists.new.lists.dds) (sdl_of c.choose_lists.new.lists.sdl)
    c.in_ok-dds_area.field-0.dds_area c.in_ok-dds_area.field-0.sdl_area c.in_ok-dds_area.field-0.mark c.in_ok-dds_area.ensures.rule c.in_default.is

pub returns-then-not-is_formatted-clause-rule : goal.returns-then-not-is_formatted-clause-rule
returns-then-not-is_formatted-clause-rule g c =
    neither_after g.M.Medium.world g.M.Medium.block_count g.M.Medium.reaches g.met.M.Medium.laws c.args.geometry.now c.args.medium.now c.choose_lists.new.medium (dds_of c.choose_lists.new.lists.dds) (sdl_of c.choose_lists.new.lists.sdl)
    c.in_ok-dds_area.field-0.dds_area c.in_ok-dds_area.field-0.sdl_area c.in_ok-dds_area.field-0.mark c.in_ok-dds_area.ensures.rule c.in-Some.dds_area c.in-Some.is (inl (not_formatted _ _ c.is_formatted.ensures.1 c.if-not-is_formatted.true))

pub returns-in_default-sdl_area-clause-rule : goal.returns-in_default-sdl_area-clause-rule
returns-in_default-sdl_area-clause-rule g c =
    neither_after g.M.Medium.world g.M.Medium.block_count g.M.Medium.reaches g.met.M.Medium.laws c.args.geometry.now c.args.medium.now c.choose_lists.new.medium (dds_of c.choose_lists.new.lists.dds) (sdl_of c.choose_lists.new.lists.sdl)
    c.in_ok-dds_area.field-0.dds_area c.in_ok-dds_area.field-0.sdl_area c.in_ok-dds_area.field-0.mark c.in_ok-dds_area.ensures.rule c.in-Some.dds_area c.in-Some.is (inr c.in_default-sdl_area.is)

pub returns-clause-rule : goal.returns-clause-rule
returns-clause-rule g c =
    both_found_after g.M.Medium.world g.M.Medium.block_count g.M.Medium.reaches g.met.M.Medium.laws c.args.geometry.now c.args.medium.now c.choose_lists.new.medium (dds_of c.choose_lists.new.lists.dds) (sdl_of c.choose_lists.new.lists.sdl)
    c.in_ok-dds_area.field-0.dds_area c.in_ok-dds_area.field-0.sdl_area c.in_ok-dds_area.field-0.mark c.in_ok-dds_area.ensures.rule c.in-Some.dds_area c.in-Some.is c.in-Some-sdl_area.sdl_area c.in-Some-sdl_area.is (c.is_formatted.ensures.0 c.if-not-is_formatted.false)

pub returns-in_default-clause-counts : goal.returns-in_default-clause-counts
returns-in_default-clause-counts g c =
    continues_after g.M.Medium.world g.M.Medium.block_count g.M.Medium.reaches g.met.M.Medium.laws c.args.geometry.now c.args.medium.now c.choose_lists.new.medium (dds_of c.choose_lists.new.lists.dds) (sdl_of c.choose_lists.new.lists.sdl)
    c.in_ok-dds_area.field-0.dds_area c.in_ok-dds_area.field-0.sdl_area c.in_ok-dds_area.field-0.mark c.in_ok-dds_area.ensures.rule

pub returns-then-not-is_formatted-clause-counts : goal.returns-then-not-is_formatted-clause-counts
returns-then-not-is_formatted-clause-counts g c =
    continues_after g.M.Medium.world g.M.Medium.block_count g.M.Medium.reaches g.met.M.Medium.laws c.args.geometry.now c.args.medium.now c.choose_lists.new.medium (dds_of c.choose_lists.new.lists.dds) (sdl_of c.choose_lists.new.lists.sdl)
    c.in_ok-dds_area.field-0.dds_area c.in_ok-dds_area.field-0.sdl_area c.in_ok-dds_area.field-0.mark c.in_ok-dds_area.ensures.rule

pub returns-in_default-sdl_area-clause-counts : goal.returns-in_default-sdl_area-clause-counts
returns-in_default-sdl_area-clause-counts g c =
    continues_after g.M.Medium.world g.M.Medium.block_count g.M.Medium.reaches g.met.M.Medium.laws c.args.geometry.now c.args.medium.now c.choose_lists.new.medium (dds_of c.choose_lists.new.lists.dds) (sdl_of c.choose_lists.new.lists.sdl)
    c.in_ok-dds_area.field-0.dds_area c.in_ok-dds_area.field-0.sdl_area c.in_ok-dds_area.field-0.mark c.in_ok-dds_area.ensures.rule

pub returns-clause-counts : goal.returns-clause-counts
returns-clause-counts g c =
    continues_after g.M.Medium.world g.M.Medium.block_count g.M.Medium.reaches g.met.M.Medium.laws c.args.geometry.now c.args.medium.now c.choose_lists.new.medium (dds_of c.choose_lists.new.lists.dds) (sdl_of c.choose_lists.new.lists.sdl)
    c.in_ok-dds_area.field-0.dds_area c.in_ok-dds_area.field-0.sdl_area c.in_ok-dds_area.field-0.mark c.in_ok-dds_area.ensures.rule

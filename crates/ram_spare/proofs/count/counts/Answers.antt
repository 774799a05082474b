use Rattle.ram_slip.specs.declared.role.Role.TheVariants as roles
use Rattle.ram_spare.specs.Spares.{both_lists}
use Rattle.ram_spare.proofs.UsedUp.{left_first, left_last, left_more}
use Rattle.ram_spare.proofs.count.counts.Goals as goal
use Rattle.ram_spare.proofs.count.counts.Goals.{in-Primary, in-Supplementary, in-Logical, in-Slipped, in-Outside}

pub loop-entry-init : goal.loop-entry-init
loop-entry-init c = left_first c.args.geometry.now (both_lists c.args.dds.now c.args.sdl.now) c.requires c.primary_left.result c.primary_left.ensures.left

pub overflow_sub-free : goal.overflow_sub-free
overflow_sub-free c =
    (left_more c.args.geometry.now (both_lists c.args.dds.now c.args.sdl.now) c.requires c.loop-entry.entry-index _ _ c.used_by.result _ (rw c.as_slice-entry-items.ensures at c.loop-entry-test.true)
    (rw c.as_slice-entry-items.ensures at c.used_by.ensures) c.loop-entry.invariant roles.Primary c.in-Primary.ensures).0

pub overflow_sub-free-in-Supplementary : goal.overflow_sub-free-in-Supplementary
overflow_sub-free-in-Supplementary c =
    (left_more c.args.geometry.now (both_lists c.args.dds.now c.args.sdl.now) c.requires c.loop-entry.entry-index _ _ c.used_by.result _ (rw c.as_slice-entry-items.ensures at c.loop-entry-test.true)
    (rw c.as_slice-entry-items.ensures at c.used_by.ensures) c.loop-entry.invariant roles.Supplementary c.in-Supplementary.ensures).0

pub loop-entry-preserved : goal.loop-entry-preserved
loop-entry-preserved c =
    let next = left_more c.args.geometry.now (both_lists c.args.dds.now c.args.sdl.now) c.requires c.loop-entry.entry-index _ _ c.used_by.result _ (rw c.as_slice-entry-items.ensures at c.loop-entry-test.true)
    (rw c.as_slice-entry-items.ensures at c.used_by.ensures) c.loop-entry.invariant in
    elim c.match-role_of.branch [
      | in-Primary w ↦ rw w.free-is (next roles.Primary w.in-Primary.ensures).1
      | in-Supplementary w ↦ rw w.free-is (next roles.Supplementary w.in-Supplementary.ensures).1
      | in-Logical w ↦ rw w.free-is (next (roles.Logical w.in-Logical.i) w.in-Logical.ensures)
      | in-Slipped w ↦ rw w.free-is (next roles.Slipped w.in-Slipped.ensures)
      | in-Outside w ↦ rw w.free-is (next roles.Outside w.in-Outside.ensures)
    ]

pub returns-clause-primary : goal.returns-clause-primary
returns-clause-primary c =
    (left_last c.args.geometry.now (both_lists c.args.dds.now c.args.sdl.now) c.requires c.loop-entry.entry-index _ _ (rw c.as_slice-entry-items.ensures at c.loop-entry-test.false) c.loop-entry.invariant).0

pub returns-clause-supplementary : goal.returns-clause-supplementary
returns-clause-supplementary c =
    (left_last c.args.geometry.now (both_lists c.args.dds.now c.args.sdl.now) c.requires c.loop-entry.entry-index _ _ (rw c.as_slice-entry-items.ensures at c.loop-entry-test.false) c.loop-entry.invariant).1

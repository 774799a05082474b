use Rattle.std.proofs.Common.{arith}
use Rattle.ram_slip.proofs.Slips.{stands_by}
use Rattle.ram_slip.proofs.slip.rank_of.Goals as goal

pub overflow_sub-result : goal.overflow_sub-result
overflow_sub-result c =
    (stands_by _ _ c.requires _ _ _ _ _ c.as_slice-entries.ensures c.in-Some.ensures c.count_before-before.ensures c.is_named.ensures.1 c.if-is_named.false).0

pub overflow_cast-result : goal.overflow_cast-result
overflow_cast-result c =
    let stands = stands_by _ _ c.requires _ _ _ _ _ c.as_slice-entries.ensures c.in-Some.ensures c.count_before-before.ensures c.is_named.ensures.1 c.if-is_named.false in
    let low = stands.0 in
    omega (arith, low)

pub returns : goal.returns
returns c =
    (stands_by _ _ c.requires _ _ _ _ _ c.as_slice-entries.ensures c.in-Some.ensures c.count_before-before.ensures c.is_named.ensures.1 c.if-is_named.false).1

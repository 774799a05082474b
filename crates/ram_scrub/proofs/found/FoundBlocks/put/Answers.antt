use Rattle.std.proofs.Common.{◌∙◌, subst, List, ℕ, arith}
use Rattle.ram_sectors.specs.declared.TheConstants.{MOST_BLOCKS}
use Rattle.ram_scrub.specs.Search.{IsFoundAt, IsGapAt}
use Rattle.ram_scrub.proofs.Halving.{there_at_index, put_at_gap}
use Rattle.ram_scrub.proofs.Rooms.{one_more}
use Rattle.ram_scrub.proofs.found.FoundBlocks.put.Goals as goal

pub unreachable-requires : goal.unreachable-requires
unreachable-requires c =
    let found = c.args.self.now.numbers.items in
    let at = subst (λ (xs : List ℕ). IsGapAt xs c.args.block c.in-Err.index) c.deref.ensures.value c.in-Err.ensures in
    let few = one_more found c.args.self.now.rise c.args.block c.in-Err.index MOST_BLOCKS c.args.self.now.low c.requires at in
    let room = c.args.self.now.room in
    let full = c.in-Err-insert.ensures.full in
    omega (arith, few, room, full)

pub returns-in-Ok : goal.returns-in-Ok
returns-in-Ok c =
    there_at_index c.args.self.now.numbers.items c.args.block c.in-Ok.field-0 c.args.self.now.rise
    (subst (λ (xs : List ℕ). IsFoundAt xs c.args.block c.in-Ok.field-0) c.deref.ensures.value c.in-Ok.ensures)

pub returns-in-Ok-insert : goal.returns-in-Ok-insert
returns-in-Ok-insert c =
    c.in-Ok-insert.ensures.items
    ∙ put_at_gap c.args.self.now.numbers.items c.args.block c.in-Err.index c.args.self.now.rise
    (subst (λ (xs : List ℕ). IsGapAt xs c.args.block c.in-Err.index) c.deref.ensures.value c.in-Err.ensures)

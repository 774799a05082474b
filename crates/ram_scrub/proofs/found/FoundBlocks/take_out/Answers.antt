use Rattle.std.proofs.Common.{◌∙◌, subst, List, ℕ}
use Rattle.ram_scrub.specs.Search.{IsFoundAt, IsGapAt}
use Rattle.ram_scrub.proofs.Halving.{out_at_index, out_at_gap}
use Rattle.ram_scrub.proofs.found.FoundBlocks.take_out.Goals as goal

pub returns-in-Ok : goal.returns-in-Ok
returns-in-Ok c =
    c.remove.ensures.items
    ∙ out_at_index c.args.self.now.numbers.items c.args.block c.in-Ok.index c.args.self.now.rise
    (subst (λ (xs : List ℕ). IsFoundAt xs c.args.block c.in-Ok.index) c.deref.ensures.value c.in-Ok.ensures)

pub returns-in-Err : goal.returns-in-Err
returns-in-Err c =
    out_at_gap c.args.self.now.numbers.items c.args.block c.in-Err.field-0 c.args.self.now.rise
    (subst (λ (xs : List ℕ). IsGapAt xs c.args.block c.in-Err.field-0) c.deref.ensures.value c.in-Err.ensures)

use Rattle.std.proofs.Common.{◌∙◌, subst, List, ℕ}
use Rattle.ram_scrub.specs.Search.{IsFoundAt, IsGapAt}
use Rattle.ram_scrub.proofs.Halving.{kept_at_index, kept_at_gap}
use Rattle.ram_scrub.proofs.found.FoundBlocks.drop_from.Goals as goal

pub returns-in-Ok : goal.returns-in-Ok
returns-in-Ok c =
    let found = c.args.self.now.numbers.items in
    let at = subst (λ (xs : List ℕ). IsFoundAt xs c.args.block c.in-Ok.index) c.deref.ensures.value c.in-Ok.ensures in
    c.truncate.ensures.items ∙ kept_at_index found c.args.block c.in-Ok.index c.args.self.now.rise at

pub returns-in-Err : goal.returns-in-Err
returns-in-Err c =
    let found = c.args.self.now.numbers.items in
    let at = subst (λ (xs : List ℕ). IsGapAt xs c.args.block c.in-Err.index) c.deref.ensures.value c.in-Err.ensures in
    c.truncate-in-Err.ensures.items ∙ kept_at_gap found c.args.block c.in-Err.index c.args.self.now.rise at

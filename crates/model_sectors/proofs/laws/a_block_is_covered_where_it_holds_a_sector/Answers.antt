use Rattle.std.specs.Prelude.{ℕ, ◌+◌, ◌-◌, ◌<◌, ◌≡◌}
use Rattle.std.proofs.Common.{arith, subst}
use Rattle.model_sectors.specs.Requests.{block_with, blocks_covered, HoldsSector}
use Rattle.model_sectors.proofs.Covering.{covered_holds}
use Rattle.model_sectors.proofs.laws.a_block_is_covered_where_it_holds_a_sector.Goals as goal

pub returns-clause-covered : goal.returns-clause-covered
returns-clause-covered c = λ lba n block covered.
    let from = covered.0 in
    let to = covered.1 in
    let k : ℕ = block - block_with lba in
    let less : k < blocks_covered lba n = omega arith in
    let there : block_with lba + k ≡ block = omega arith in
    subst (HoldsSector lba n) there (covered_holds lba n k less)

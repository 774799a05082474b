-- The found blocks as a list. (This project's own.)
use Rattle.std.specs.Prelude.{ℕ, List}
use Rattle.ram_scrub.specs.declared.found.FoundBlocks.{FoundBlocks}

-- the blocks that were found, rising
abbrev pub blocks_of : FoundBlocks → List ℕ
blocks_of found = found.numbers.items

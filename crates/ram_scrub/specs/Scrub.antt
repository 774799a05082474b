-- A scrubber as a value: for its contracts. (This project's own.)
use Rattle.model_scrub.specs.Scrubs.{Scrubber}
use Rattle.ram_scrub.specs.Found.{blocks_of}
use Rattle.ram_scrub.specs.declared.scrub.Scrub.{Scrub}

-- the block that the next step takes, and the blocks that were found
abbrev pub scrubber_of : Scrub → Scrubber
scrubber_of scrub = record { next = scrub.next; found = blocks_of scrub.found }

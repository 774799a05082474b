use Rattle.std.specs.Prelude.{◌+◌, ◌-◌}
use Rattle.model_sectors.specs.Requests.{block_with}
use Rattle.ram_transfer.specs.Reading.{PutsFrom}
use Rattle.ram_transfer.proofs.reading.put_before.Given as goal

abbrev pub invariant-loop-j : goal.invariant-loop-j
invariant-loop-j l = PutsFrom l.request.lba l.request.n l.into (block_with l.request.lba + (l.k - 8)) (l.j - (l.k - 8)) l.fn.buffer l.buffer

use Rattle.ram_transmission.proofs.Commands.{as_zeroes}
use Rattle.ram_transmission.proofs.requests.put_zeros.Goals as goal

pub returns-clause-zeros : goal.returns-clause-zeros
returns-clause-zeros c = as_zeroes _ _ c.clear.new.self.items c.resize.new.self.items c.clear.ensures.items c.in-Ok.ensures.items

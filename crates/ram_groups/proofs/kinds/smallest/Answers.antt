use Rattle.ram_groups.proofs.OfKind.{least_fits}
use Rattle.ram_groups.proofs.kinds.smallest.Goals as goal

pub unreachable-requires : goal.unreachable-requires
unreachable-requires c = least_fits c.in_default.field-0 c.in_default.ensures

use Rattle.ram_lists.specs.Lists.{lists_of}
use Rattle.ram_format.proofs.Keeps.{are_apart}
use Rattle.ram_states.proofs.states.Ready.format_fully.Goals as goal

pub keep_entries-requires-clause-apart : goal.keep_entries-requires-clause-apart
keep_entries-requires-clause-apart g c = are_apart c.args.self.geometry (lists_of c.args.self.memory.lists) c.args.self.valid

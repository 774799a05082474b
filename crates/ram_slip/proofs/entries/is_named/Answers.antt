use Rattle.ram_slip.proofs.Named.{named_if_equal, named_if_inside}
use Rattle.ram_slip.proofs.entries.is_named.Goals as goal

pub returns-then-before-entries : goal.returns-then-before-entries
returns-then-before-entries c = named_if_equal _ _ _ _ c.requires.rising c.requires.before c.if-before-entries.true

pub returns-else-before-entries : goal.returns-else-before-entries
returns-else-before-entries c = named_if_inside _ _ _ c.requires.rising c.requires.before c.if-before-entries.false

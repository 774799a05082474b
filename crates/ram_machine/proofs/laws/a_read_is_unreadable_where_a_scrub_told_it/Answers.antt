use Rattle.ram_machine.proofs.ScrubbedLines.{tells_unreadable, meets_what_was_told}
use Rattle.ram_machine.proofs.laws.a_read_is_unreadable_where_a_scrub_told_it.Goals as goal

pub returns-clause-told : goal.returns-clause-told
returns-clause-told c s t scrub count step told = (tells_unreadable s t scrub count step told).are

pub returns-clause-number : goal.returns-clause-number
returns-clause-number c s t scrub count step told = (tells_unreadable s t scrub count step told).number

pub returns-clause-read : goal.returns-clause-read
returns-clause-read c s t u scrub read count lba n named step told none then unread = meets_what_was_told s t u scrub read count lba n named step told none then unread

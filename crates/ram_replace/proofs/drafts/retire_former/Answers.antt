use Rattle.ram_replace.proofs.Moving.{room_for_other}
use Rattle.ram_replace.proofs.drafts.retire_former.Goals as goal

pub retire-requires-clause-room : goal.retire-requires-clause-room
retire-requires-clause-room c = room_for_other c.args.own c.args.home c.args.draft.now.entries c.if-home-own.true c.requires.room

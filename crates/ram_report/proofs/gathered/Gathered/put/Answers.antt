-- The sink failed at the rest of a text that is longer than the room.
use Rattle.std.proofs.Common.{sym}
use Rattle.ram_report.proofs.Refused.{cut_rest}
use Rattle.ram_report.proofs.gathered.Gathered.put.Goals as goal

pub returns-in-Err-clause-rule : goal.returns-in-Err-clause-rule
returns-in-Err-clause-rule g c =
    let sent = c.in_ok-first.ensures.rule in
    let cut = c.in-Err.ensures in
    rw (sym c.if-gather.ensures.rule.0)
    (cut_rest _ _ (g.K.Sink.written c.hand_over_full.new.sink) (g.K.Sink.written c.hand_over.new.sink) c.args.text.now c.hand_over_full.new.self c.gather-2.new.self c.in_ok-first.first c.in-Err.field-0 _ _ _
    sent.0 sent.1 c.if-gather-2.ensures.rule.0 sent.2 cut.0 cut.1 cut.2 cut.3)

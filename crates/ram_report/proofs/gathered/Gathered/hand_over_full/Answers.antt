-- The first bytes of the text are behind what was gathered.
use Rattle.std.proofs.Common.{◌≡◌, rules, sym, length, vec_len, ◌∙◌}
use Rattle.ram_report.proofs.Refused.{cut_full}
use Rattle.ram_report.proofs.gathered.Gathered.hand_over_full.Goals as goal

pub returns-in-Err-hand_over-clause-rule : goal.returns-in-Err-hand_over-clause-rule
returns-in-Err-hand_over-clause-rule g c =
    let held : vec_len c.self.inside.bytes ≡ length c.self.inside.bytes.items = search rules in
    rw (sym c.self.view_is, c.min-self-inside.ensures, c.truncate.ensures.items, c.in-Ok.ensures.items, c.len-held.ensures ∙ held)
    (cut_full (g.K.Sink.written c.args.sink.now) (g.K.Sink.written c.hand_over.new.sink) c.self.inside.bytes.items c.args.text.now c.self.inside.sent c.min-first.result c.in-Err-hand_over.count (search rules)
    (g.K.Sink.refused c.hand_over.new.sink) (g.K.Sink.faults c.args.sink.now) (g.K.Sink.faults c.hand_over.new.sink) (search rules) (search rules)
    (rw (c.deref.ensures.value, c.in-Ok.ensures.items) at c.in-Err-hand_over.ensures.0) (rw (c.deref.ensures.value, c.in-Ok.ensures.items) at c.in-Err-hand_over.ensures.1) (rw (c.deref.ensures.value, c.in-Ok.ensures.items) at c.in-Err-hand_over.ensures.2) c.in-Err-hand_over.ensures.3)

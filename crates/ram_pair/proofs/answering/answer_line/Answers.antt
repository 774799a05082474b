use Rattle.ram_pair.proofs.LineDone.{line_answered, needs_mirror}
use Rattle.ram_pair.proofs.answering.answer_line.Goals as goal

pub returns-in-Mirror-default : goal.returns-in-Mirror-default
returns-in-Mirror-default g c = rw c.in-Mirror-default.is-0 (record {
  step = λ s is. line_answered g.S.Sectors g.S.Side.lies_in g.S.Image.Image c.in-Mirror-default.mirror c.answer_on.new.mirror c.args.line c.args.payload.now c.answer_on.new.shown.items c.answer_on.result
      (needs_mirror c.args.line c.in-Mirror-default.not-Empty-1 c.in-Mirror-default.not-Press-1) c.answer_on.ensures.done
      (g.met.S.Side.side_laws.has_cells c.answer_on.new.mirror.a) (g.met.S.Side.side_laws.has_cells c.answer_on.new.mirror.b) s is;
  count = c.answer_on.ensures.count;
  room = c.answer_on.ensures.room;
})

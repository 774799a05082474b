use Rattle.std.proofs.Common.{refl, sym, ◌∙◌}
use Rattle.ram_pair.proofs.Done.{failed_first, failed_second, none_did}
use Rattle.ram_pair.proofs.calling.answer_on.Goals.{then-failed-via-then-failed, then-failed-via-else-failed+then-failed-2}
use Rattle.ram_pair.proofs.calling.answer_on.Goals as goal

pub returns-then-failed-clause-done : goal.returns-then-failed-clause-done
returns-then-failed-clause-done g c =
    let old = c.args.mirror.now in
    let watched = record old { a = c.watch.new.self; b = c.watch-2.new.self } in
    elim c.then-failed.branch [
      | then-failed-via-then-failed w ↦ failed_first g.S.Sectors g.S.Side.lies_in g.S.Side.has_failed old watched c.call-told.new.mirror
          c.watch.ensures.shows c.watch-2.ensures.shows c.watch.ensures.bytes c.watch-2.ensures.bytes refl refl c.watch.ensures.failed c.watch-2.ensures.failed
          c.args.line c.args.payload.now c.call-told.new.shown.items c.call-told.result c.call-told.ensures.called (sym c.failed.ensures ∙ w.if-failed.true)
      | then-failed-via-else-failed+then-failed-2 w ↦ failed_second g.S.Sectors g.S.Side.lies_in g.S.Side.has_failed old watched c.call-told.new.mirror
          c.watch.ensures.shows c.watch-2.ensures.shows c.watch.ensures.bytes c.watch-2.ensures.bytes refl refl c.watch.ensures.failed c.watch-2.ensures.failed
          c.args.line c.args.payload.now c.call-told.new.shown.items c.call-told.result c.call-told.ensures.called (sym w.failed-else-failed.ensures ∙ w.if-failed-2.true)
    ]

pub returns-clause-done : goal.returns-clause-done
returns-clause-done g c =
    let old = c.args.mirror.now in
    let watched = record old { a = c.watch.new.self; b = c.watch-2.new.self } in
    none_did g.S.Sectors g.S.Side.lies_in g.S.Side.has_failed old watched c.call-told.new.mirror
    c.watch.ensures.shows c.watch-2.ensures.shows c.watch.ensures.bytes c.watch-2.ensures.bytes refl refl c.watch.ensures.failed c.watch-2.ensures.failed
    c.args.line c.args.payload.now c.call-told.new.shown.items c.call-told.result c.call-told.ensures.called
    (sym c.failed.ensures ∙ c.if-failed.false) (sym c.failed-else-failed.ensures ∙ c.if-failed-2.false)

-- The lines are answered from what both images hold, or one failed before the first.
use Rattle.std.proofs.Common.{rules, refl, sym, subst, Option, List}
use Rattle.ram_outside.specs.Conversation.{Asked, AsksOnly}
use Rattle.ram_text.specs.Dialogue.{talk_of}
use Rattle.ram_answers.specs.Telling.{heard_in}
use Rattle.ram_pair.specs.Pairs.{faults_held}
use Rattle.ram_script.specs.RunCounts.{counts_with}
use Rattle.ram_mirrored.specs.MirrorRuns.{IsMirrorToldBy}
use Rattle.ram_mirrored.specs.Running.{IsMirrorBeginning, heard_of}
use Rattle.ram_mirrored.proofs.StatesTold.{ends_told, asks_told, renamed}
use Rattle.ram_mirrored.proofs.running.serve_both.Goals as goal

pub returns-in-Ok-clause-stands : goal.returns-in-Ok-clause-stands
returns-in-Ok-clause-stands g c first is =
    let begun = c.in-Ok.ensures.begins first.images (record { a_is = is.a_is; b_is = is.b_is }) in
    let old = counts_with g.T.Conversation g.T.Sink.Sink c.new-dialogue.result (faults_held g.S.Sectors g.S.Image.Image c.in-Ok.held) in
    let new = counts_with g.T.Conversation g.T.Sink.Sink c.serve_script-status.new.dialogue (faults_held g.S.Sectors g.S.Image.Image c.serve_script-status.new.answers.held) in
    renamed first (heard_in g.T.Conversation g.T.Sink.Sink c.serve_script-status.new.dialogue) _ _ _ old _ new _ c.serve_script-status.result
    (search rules) (search rules) (search rules)
    (ends_told g.S.Side g.S.Sectors g.S.Image.Image _ (λ old new raw outcome is. is) (λ pair number told. refl) (λ told. refl)
    first _ begun.state begun.first begun.stands
    (heard_in g.T.Conversation g.T.Sink.Sink c.new-dialogue.result) (heard_in g.T.Conversation g.T.Sink.Sink c.serve_script-status.new.dialogue)
    (g.S.Image.Image.bytes c.args.a) (g.S.Image.Image.bytes c.args.b) _ _ old new c.serve_script-status.new.answers c.serve_script-status.result
    (subst (λ talk. IsMirrorBeginning first (heard_of g.T.Conversation g.T.Sink.Sink talk) (g.S.Image.Image.bytes c.args.a) (g.S.Image.Image.bytes c.args.b))
    (sym c.new-dialogue.ensures.talk_is) is)
    (λ texts hears. c.serve_script-status.ensures.told texts hears) c.take_images-a.ensures.left)

pub returns-in-Ok-clause-asks : goal.returns-in-Ok-clause-asks
returns-in-Ok-clause-asks g c first is =
    let begun = c.in-Ok.ensures.begins first.images (record { a_is = is.a_is; b_is = is.b_is }) in
    subst (λ (all : Option (List Asked)). AsksOnly (IsMirrorToldBy first) (g.T.Conversation.asked c.args.talk.now) all) (search rules)
    (subst (λ talk. AsksOnly (IsMirrorToldBy first) (g.T.Conversation.asked talk) (g.T.Conversation.asked (talk_of c.serve_script-status.new.dialogue))) c.new-dialogue.ensures.talk_is
    (asks_told g.S.Side g.S.Sectors g.S.Image.Image _ (λ old new raw outcome is. is) (λ pair number told. refl) (λ told. refl)
    first _ begun.state begun.first begun.stands
    (heard_in g.T.Conversation g.T.Sink.Sink c.new-dialogue.result) (g.S.Image.Image.bytes c.args.a) (g.S.Image.Image.bytes c.args.b) _ _
    (subst (λ talk. IsMirrorBeginning first (heard_of g.T.Conversation g.T.Sink.Sink talk) (g.S.Image.Image.bytes c.args.a) (g.S.Image.Image.bytes c.args.b))
    (sym c.new-dialogue.ensures.talk_is) is)
    (λ texts hears. c.serve_script-status.ensures.asks texts hears)))

use Rattle.std.proofs.Common.{rules, inl, refl, subst, Option, List}
use Rattle.ram_outside.specs.Conversation.{Asked, AsksOnly}
use Rattle.ram_outside.proofs.Additions.{added_none}
use Rattle.ram_script.specs.Asking.{IsAnsweredBy}
use Rattle.ram_text.specs.Dialogue.{sink_of, talk_of}
use Rattle.ram_machine.specs.declared.status.Status.TheVariants as statuses
use Rattle.ram_script.specs.Endings.{StatusCounts, aftermath}
use Rattle.ram_script.specs.RunCounts.{counts_of}
use Rattle.ram_script.specs.Around.{around}
use Rattle.ram_script.proofs.Closes.{stands_there, renamed, begins_known, handed_back, ends_at_failure}
use Rattle.ram_run.proofs.run.run_image.Goals as goal

pub returns-clause-run : goal.returns-clause-run
returns-clause-run g c first kind known =
    let left = g.T.Conversation.left (talk_of c.serve-image.new.dialogue) in
    let written = g.T.Sink.Sink.written (sink_of g.T.Conversation c.serve-image.new.dialogue) in
    let refused = g.T.Sink.Sink.refused (sink_of g.T.Conversation c.serve-image.new.dialogue) in
    let image = g.O.Image.Image.bytes c.serve-image.result.0 in
    let begins = begins_known g.O.Image.Image.bytes first (around g.T.Conversation g.T.Sink.Sink g.O.Opener c.args.talk.now c.args.opener.now) g.O.Opener.returned_known c.in-Image.image known c.in-Image.ensures.next in
    let leaves = rw (c.new-dialogue.ensures.talk_is, c.in-Image.ensures.unfailed) at (c.serve-image.ensures.leaves first) in
    inl (renamed first left _ written _ image _ refused _
    (counts_of (g.T.Conversation.faults c.args.talk.now) (g.T.Sink.Sink.faults (g.T.Conversation.report c.args.talk.now)) (g.O.Opener.faults c.args.opener.now)) _
    (counts_of (g.T.Conversation.faults (talk_of c.serve-image.new.dialogue)) (g.T.Sink.Sink.faults (sink_of g.T.Conversation c.serve-image.new.dialogue)) (g.O.Opener.faults c.close.new.self)) _
    c.serve-image.result.1 (search rules) (search rules) (search rules)
    (handed_back g.O.Image.Image.bytes g.O.Opener.returned_known c.serve-image.result.0 (g.O.Opener.returned c.close.new.self) known.returned_known_is c.close.ensures.returned)
    refl (search rules)
    (rw (c.close.ensures.count, c.in-Image.ensures.count)
    (stands_there (g.T.Conversation.faults c.args.talk.now) (g.T.Conversation.faults (talk_of c.serve-image.new.dialogue)) (g.T.Sink.Sink.faults (g.T.Conversation.report c.args.talk.now)) (g.T.Sink.Sink.faults (sink_of g.T.Conversation c.serve-image.new.dialogue))
    (g.O.Opener.faults c.args.opener.now) (g.O.Image.Image.faults c.serve-image.result.0) first (aftermath left written refused image) c.serve-image.result.1 (leaves kind begins))))

pub returns-clause-talks : goal.returns-clause-talks
returns-clause-talks g c first kind known =
    let begins = begins_known g.O.Image.Image.bytes first (around g.T.Conversation g.T.Sink.Sink g.O.Opener c.args.talk.now c.args.opener.now) g.O.Opener.returned_known c.in-Image.image known c.in-Image.ensures.next in
    subst (λ (all : Option (List Asked)). AsksOnly (IsAnsweredBy first) (g.T.Conversation.asked c.args.talk.now) all) (search rules)
    ((rw c.new-dialogue.ensures.talk_is at (c.serve-image.ensures.asks first)) kind begins)

pub returns-in-Failed-clause-talks : goal.returns-in-Failed-clause-talks
returns-in-Failed-clause-talks g c first kind known = added_none (IsAnsweredBy first) (g.T.Conversation.asked c.args.talk.now)

pub returns-clause-fails : goal.returns-clause-fails
returns-clause-fails g c known is =
    let after = around g.T.Conversation g.T.Sink.Sink g.O.Opener (talk_of c.serve-image.new.dialogue) c.close.new.self in
    let counts : StatusCounts _ _ statuses.ImageFault = rw is at c.serve-image.ensures.counts in
    inl (ends_at_failure g.O.Image.Image.bytes g.O.Image.Image.faults g.O.Image.Image.past g.O.Image.Image.laws g.O.Opener.returned_known c.serve-image.result.0 _ known c.close.ensures.returned
    (rw c.in-Image.ensures.unfailed at counts.image))

use Rattle.std.proofs.Common.{refl, sym, ◌∙◌}
use Rattle.ram_outside.specs.Seen.{seen_opener}
use Rattle.ram_script.specs.Around.{around}
use Rattle.ram_client.proofs.Closing.{served_none, served_so}
use Rattle.ram_client.proofs.image.serve_image.Goals as goal

pub returns-in-Failed-clause-keeps : goal.returns-in-Failed-clause-keeps
returns-in-Failed-clause-keeps g c faults read =
    served_none g.O.Image.Image.bytes g.O.Image.Image.past g.O.Opener.returned_known
    (around g.T.Conversation g.T.Sink.Sink g.O.Opener c.args.talk.now c.args.opener.now) (around g.T.Conversation g.T.Sink.Sink g.O.Opener c.args.talk.now c.open.new.self) c.args.name.now faults
    refl refl refl refl refl c.in-Failed.ensures.count c.in-Failed.ensures

pub returns-in-Image-clause-keeps : goal.returns-in-Image-clause-keeps
returns-in-Image-clause-keeps g c faults read =
    served_so g.O.Image.Image.bytes g.O.Image.Image.past g.O.Opener.returned_known
    (around g.T.Conversation g.T.Sink.Sink g.O.Opener c.args.talk.now c.args.opener.now) (around g.T.Conversation g.T.Sink.Sink g.O.Opener c.serve_client-image.new.talk c.close.new.self) c.args.name.now faults
    g.O.Image.Image.faults g.O.Image.Image.laws c.in-Image.image c.serve_client-image.result.0 c.serve_client-image.result.1
    (seen_opener g.O.Opener c.open.new.self) c.in-Image.ensures c.close.ensures
    (λ first is begins. c.serve_client-image.ensures.leaves first faults (is ∙ sym c.requires.ready.kind_is) read begins)
    c.serve_client-image.ensures.counts
    (λ first is begins. c.serve_client-image.ensures.asks first faults (is ∙ sym c.requires.ready.kind_is) read begins)
    refl refl

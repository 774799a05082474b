use Rattle.std.proofs.Common.{inl, ◌∙◌}
use Rattle.ram_script.specs.Around.{around}
use Rattle.ram_script.proofs.Closes.{handed_back}
use Rattle.ram_certificate.proofs.Answering.{held_known}
use Rattle.ram_certificate.proofs.audit.check_image.Goals as goal

pub returns-in-Image-clause-tells : goal.returns-in-Image-clause-tells
returns-in-Image-clause-tells g c held left known is =
    let image_is = held_known g.O.Image.Image.bytes held (around g.T.Conversation g.T.Sink.Sink g.O.Opener c.args.talk.now c.args.opener.now) g.O.Opener.returned_known c.in-Image.image known c.in-Image.ensures.next in
    inl (
      c.check_here-image.ensures.tells held left image_is is,
      handed_back g.O.Image.Image.bytes g.O.Opener.returned_known c.check_here-image.result.0 (g.O.Opener.returned c.close.new.self) known.returned_known_is c.close.ensures.returned ∙ c.check_here-image.ensures.same ∙ image_is,
    )

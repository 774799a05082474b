use Rattle.ram_pair.proofs.OpenedPairs.{begun_mirror, begun_images}
use Rattle.ram_pair.proofs.held.Held.begin.Goals as goal

pub returns-in-Mirror : goal.returns-in-Mirror
returns-in-Mirror g c = begun_mirror g.S.Sectors g.S.Side.lies_in g.S.Image.Image c.args.a c.args.b c.in-Mirror.mirror (c.in-Mirror.ensures.opens c.requires.kind)

pub returns-in-Images : goal.returns-in-Images
returns-in-Images g c = begun_images g.S.Sectors g.S.Side.lies_in g.S.Image.Image c.args.a c.args.b c.in-Images.a c.in-Images.b c.in-Images.rooms (c.in-Images.ensures.opens c.requires.kind)

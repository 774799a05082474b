use Rattle.ram_spare.proofs.Replaced.{home_none, home_kept, home_replaced}
use Rattle.ram_spare.proofs.homes.home.Goals as goal

pub returns-in-Some-replacement : goal.returns-in-Some-replacement
returns-in-Some-replacement g c =
    home_replaced (g.L.Layout.pools c.args.layout.now) c.args.sdl.now.entries c.args.i c.physical-own.result c.physical-own.ensures c.in-Some.entry c.in-Some-replacement.spare c.requires.rise c.in-Some.ensures c.in-Some-replacement.is

pub returns-in-None-replacement : goal.returns-in-None-replacement
returns-in-None-replacement g c =
    home_kept (g.L.Layout.pools c.args.layout.now) c.args.sdl.now.entries c.args.i c.physical-own.result c.physical-own.ensures c.in-Some.entry c.requires.rise c.in-Some.ensures c.in-None-replacement.is

pub returns-in-None : goal.returns-in-None
returns-in-None g c = home_none (g.L.Layout.pools c.args.layout.now) c.args.sdl.now.entries c.args.i c.physical-own.result c.physical-own.ensures c.in-None.ensures

-- By the lemma on the counts of a disc.
use Rattle.std.specs.Prelude.{ℕ, List, take}
use Rattle.std.proofs.Common.{◌∙◌, ap}
use Rattle.ram_mmc.proofs.Asked.{counted_features}
use Rattle.ram_mmc.proofs.telling.tell_configuration.Goals as goal

pub returns-clause-given : goal.returns-clause-given
returns-clause-given g c = c.reply.ensures.given
    ∙ ap (λ (whole : List ℕ). take c.args.allocation whole)
    (counted_features c.args.wanted.kind c.args.wanted.first c.args.out (g.D.Caching.shows c.args.disc.now).drive c.counts-counts.result c.requires.on c.counts-counts.ensures)

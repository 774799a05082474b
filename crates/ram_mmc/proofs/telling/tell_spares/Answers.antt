use Rattle.std.specs.Prelude.{ℕ, List, take}
use Rattle.std.proofs.Common.{◌∙◌, ap}
use Rattle.ram_mmc.proofs.Tellings.{counted_spares}
use Rattle.ram_mmc.proofs.telling.tell_spares.Goals as goal

pub returns-clause-given : goal.returns-clause-given
returns-clause-given g c = c.reply.ensures.given
    ∙ ap (λ (whole : List ℕ). take c.args.allocation whole)
    (c.spares_reply-whole.ensures ∙ counted_spares (g.D.Caching.shows c.args.disc.now).drive c.counts-counts.result c.counts-counts.ensures)

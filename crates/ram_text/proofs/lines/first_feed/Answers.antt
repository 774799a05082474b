use Rattle.ram_text.proofs.Feeds.{feed_missed, feed_found}
use Rattle.ram_text.proofs.lines.first_feed.Goals as goal

pub returns-in-Some : goal.returns-in-Some
returns-in-Some c = feed_found _ _ _ c.requires.inside c.requires.clear c.in-Some.ensures

pub returns-in-None : goal.returns-in-None
returns-in-None c = feed_missed _ _ c.requires.inside c.requires.clear c.in-None.ensures

-- By the lemma on nine pieces.
use Rattle.model_target.specs.Replies.{features}
use Rattle.ram_mmc.proofs.Asked.{asked_told, nine_put}
use Rattle.ram_mmc.proofs.features.Wanted.put_features.Goals as goal

pub returns-clause-given : goal.returns-clause-given
returns-clause-given c =
    rw (asked_told c.args.self.now.kind c.args.self.now.first (features c.args.inside c.args.formatted c.args.capacity))
    rw (c.put-9.ensures.given, c.put-8.ensures.given, c.put-7.ensures.given, c.put-6.ensures.given, c.put-5.ensures.given, c.put-4.ensures.given, c.put-3.ensures.given, c.put-2.ensures.given, c.put.ensures.given)
    rw (c.profiles-profiles.ensures, c.written_sectors-written.ensures, c.is_ready-ready.ensures)
    (nine_put c.args.data_in.now.items _ _ _ _ _ _ _ _ _)

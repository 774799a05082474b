use Rattle.std.proofs.Common.{ℕ, List, subst, sym}
use Rattle.std.specs.List.{Contains}
use Rattle.model_cache.specs.Shown.{AreApart}
use Rattle.ram_cache.proofs.Numbers.{same_front, same_staged}
use Rattle.ram_cache.proofs.pending.PendingBlocks.read_rest.Goals as goal

pub invariant_of-self : goal.invariant_of-self
invariant_of-self g c =
    let front = same_front c.args.self.now.rooms.items c.args.self.now.count c.args.staged (c.index_mut-room.result.now.0, c.read_whole.new.room) in
    record {
      many = c.args.self.now.many;
      few = c.args.self.now.few;
      apart = subst AreApart (sym front) c.args.self.now.apart;
      whole = λ i bytes has. c.args.self.now.whole i bytes (subst (λ (l : List (ℕ × List ℕ)). Contains l (i, bytes)) front has);
    }

pub returns-clause-staged : goal.returns-clause-staged
returns-clause-staged g c = same_staged c.args.self.now.rooms.items c.args.self.now.count c.args.staged (c.index_mut-room.result.now.0, c.read_whole.new.room)

use Rattle.std.proofs.Common.{ℕ, List, subst, sym, arith, length-take}
use Rattle.std.specs.List.{Contains}
use Rattle.std.proofs.lemmas.List.{take-set-le}
use Rattle.model_cache.specs.Shown.{AreApart}
use Rattle.ram_cache.proofs.pending.PendingBlocks.exchange_room.Goals as goal

pub invariant_of-self : goal.invariant_of-self
invariant_of-self g c =
    let few = c.args.self.now.few in
    let many = c.args.self.now.many in
    let room = c.requires in
    let front = take-set-le c.args.self.now.count c.args.self.now.rooms.items 31 (c.index_mut-room.result.now.0, c.exchange_room.new.room) (omega (arith, few, many, room, length-take c.args.self.now.count c.args.self.now.rooms.items)) in
    record {
      many = c.args.self.now.many;
      few = c.args.self.now.few;
      apart = subst AreApart (sym front) c.args.self.now.apart;
      whole = λ i bytes has. c.args.self.now.whole i bytes (subst (λ (l : List (ℕ × List ℕ)). Contains l (i, bytes)) front has);
    }

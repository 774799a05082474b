use Rattle.std.proofs.Common.{ℕ, List, subst, sym}
use Rattle.std.specs.List.{Contains}
use Rattle.model_cache.specs.Shown.{AreApart}
use Rattle.ram_cache.specs.Rooms.{pending_of}
use Rattle.ram_cache.proofs.Indices.{front_turned, apart_behind, was_behind}
use Rattle.ram_cache.proofs.pending.PendingBlocks.put_behind.Goals as goal

pub invariant_of-self : goal.invariant_of-self
invariant_of-self c =
    let p = pending_of c.args.self.now in
    let front = front_turned c.args.self.now.rooms.items c.as_mut_slice.result.now c.to_end_of.new.rooms c.args.k c.args.self.now.count c.requires (sym c.args.self.now.rooms.ok.0) c.args.self.now.many c.args.self.now.few c.as_mut_slice.ensures.value c.to_end_of.ensures in
    record {
      many = c.args.self.now.many;
      few = c.args.self.now.few;
      apart = subst AreApart (sym front) (apart_behind p c.args.k c.args.self.now.apart c.requires);
      whole = λ i bytes has. c.args.self.now.whole i bytes (was_behind p c.args.k c.requires (i, bytes) (subst (λ (l : List (ℕ × List ℕ)). Contains l (i, bytes)) front has));
    }

pub returns : goal.returns
returns c = front_turned c.args.self.now.rooms.items c.as_mut_slice.result.now c.to_end_of.new.rooms c.args.k c.args.self.now.count c.requires (sym c.args.self.now.rooms.ok.0) c.args.self.now.many c.args.self.now.few c.as_mut_slice.ensures.value c.to_end_of.ensures

use Rattle.std.proofs.Common.{ℕ, ◌+◌, ◌<◌, List, [], ◌∷◌, ◌++◌, take, drop, length, subst, sym, ap, ◌∙◌, arith, length-take}
use Rattle.std.specs.List.{Contains}
use Rattle.std.proofs.lemmas.List.{get_or_read}
use Rattle.model_cache.specs.Shown.{AreApart}
use Rattle.model_sectors.specs.Requests.{merged_in}
use Rattle.ram_cache.proofs.Numbers.{same_front, one_staged}
use Rattle.ram_cache.proofs.pending.PendingBlocks.stage.Goals as goal

pub invariant_of-self : goal.invariant_of-self
invariant_of-self c =
    let front = same_front c.args.self.now.rooms.items c.args.self.now.count c.args.staged (c.args.part.block, c.merge.new.block) in
    record {
      many = c.args.self.now.many;
      few = c.args.self.now.few;
      apart = subst AreApart (sym front) c.args.self.now.apart;
      whole = λ i bytes has. c.args.self.now.whole i bytes (subst (λ (l : List (ℕ × List ℕ)). Contains l (i, bytes)) front has);
    }

pub returns-clause-staged : goal.returns-clause-staged
returns-clause-staged c =
    let items = c.args.self.now.rooms.items in
    let at = c.args.self.now.count + c.args.staged in
    let long = c.args.self.now.rooms.ok.0 in
    let many = c.args.self.now.many in
    let few = c.args.self.now.few in
    let room = c.requires.room in
    let within : at < length items = omega (arith, long, many, few, room, length-take c.args.self.now.count items) in
    one_staged items c.args.self.now.count c.args.staged (c.args.part.block, c.merge.new.block) within
    ∙ ap (λ (b : List ℕ). take c.args.staged (drop c.args.self.now.count items) ++ (c.args.part.block, b) ∷ [])
    (c.merge.ensures.merged ∙ ap (λ (x : ℕ × List ℕ). merged_in c.args.part.request.lba c.args.part.request.n c.args.from.now c.args.part.block x.1)
    (get_or_read items at c.index_mut-room.result.now within c.index_mut-room.ensures.value (0, [])))

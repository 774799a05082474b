use Rattle.std.proofs.Common.{ℕ, ◌<◌, List, take, length, set, refl, subst, sym, ap, ◌∙◌}
use Rattle.model_sectors.specs.Requests.{start_in, end_in, merged_in}
use Rattle.ram_cache.proofs.Numbers.{take_set, held_there, apart_set, whole_set, merged_long}
use Rattle.ram_cache.proofs.pending.PendingBlocks.put_over.Goals as goal

pub invariant_of-self : goal.invariant_of-self
invariant_of-self c =
    let items = c.args.self.now.rooms.items in
    let was = c.index_mut-room.result.now in
    let part = c.args.part in
    let some : start_in part.request.lba part.block < end_in part.request.lba part.request.n part.block = subst (λ (e : ℕ). start_in part.request.lba part.block < e) part.end_is
    (subst (λ (s : ℕ). s < part.end) part.start_is part.some) in
    record {
      many = c.args.self.now.many;
      few = c.args.self.now.few;
      apart = apart_set items c.args.self.now.count c.args.k was (was.0, c.merge.new.block) c.requires.there c.index_mut-room.ensures.value refl c.args.self.now.apart;
      whole = whole_set items c.args.self.now.count c.args.k was (was.0, c.merge.new.block) c.requires.there c.index_mut-room.ensures.value refl
          (ap length c.merge.ensures.merged ∙ merged_long part.request.lba part.request.n part.block c.args.from.now was.1 some c.requires.whole c.merge.ensures.len) c.args.self.now.whole;
    }

pub returns-clause-pending : goal.returns-clause-pending
returns-clause-pending c =
    let items = c.args.self.now.rooms.items in
    let was = c.index_mut-room.result.now in
    let part = c.args.part in
    let held = held_there items c.args.self.now.count c.args.k was (was.0, c.merge.new.block) c.requires.there c.index_mut-room.ensures.value refl in
    take_set c.args.self.now.count c.args.k items (was.0, c.merge.new.block)
    ∙ ap (λ (b : List ℕ). set (take c.args.self.now.count items) c.args.k (was.0, b)) c.merge.ensures.merged
    ∙ ap (λ (x : ℕ × List ℕ). set (take c.args.self.now.count items) c.args.k (x.0, merged_in part.request.lba part.request.n c.args.from.now part.block x.1)) (sym held)

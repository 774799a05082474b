use Rattle.std.proofs.Common.{ℕ, List, length, ◌+◌, ◌-◌, ◌≡◌, not, false, ap, subst, ◌∙◌, arith}
use Rattle.std.specs.List.{filter}
use Rattle.std.proofs.lemmas.List.{length-map}
use Rattle.model_drive.specs.declared.WriteOut.TheVariants as writes
use Rattle.model_buffer.specs.Buffer.{numbers_in}
use Rattle.model_sectors.specs.Requests.{block_with, blocks_covered}
use Rattle.model_sectors.proofs.Covering.{length-filter-le}
use Rattle.model_cache.specs.Values.{is_among}
use Rattle.model_cache.specs.Causes.{leave_first}
use Rattle.ram_cache.specs.Caches.{shown_by, stands_by}
use Rattle.ram_cache.specs.Rooms.{pending_of}
use Rattle.ram_cache.specs.Flushes.{DrainsDue}
use Rattle.model_cache.proofs.Standing.{few_pending}
use Rattle.ram_cache.proofs.IntoCache.{has_room, cached_cause, refused_cached, refused_cached_contents}
use Rattle.ram_cache.proofs.cached.Cached.write_into.Goals as goal

pub overflow_add-others : goal.overflow_add-others
overflow_add-others g c =
    let p = pending_of c.args.self.now.pending in
    let few = few_pending c.args.self.now.pending.rooms.items c.args.self.now.pending.count c.args.self.now.pending.few in
    let le = length-filter-le (λ i. not (is_among c.first-first.result c.blocks-blocks.result i)) (numbers_in p) in
    let numbers = length-map p (λ (x : ℕ × List ℕ). x.0) in
    omega (arith, c.count_of-others.ensures, le, numbers, few, c.blocks-blocks.type_inv)

pub take_over-requires-clause-room : goal.take_over-requires-clause-room
take_over-requires-clause-room g c =
    let p = pending_of c.args.self.now.pending in
    let old = shown_by g.D.Sectors c.args.self.now in
    let mid = shown_by g.D.Sectors c.drain.new.self in
    let leave : c.saturating_sub-leave.result ≡ leave_first old c.args.request.lba c.args.request.n =
    c.saturating_sub-leave.ensures
    ∙ ap (λ (m : ℕ). m + c.blocks-blocks.result - 32) c.count_of-others.ensures
    ∙ ap (λ (f : ℕ). length (filter (λ i. not (is_among f c.blocks-blocks.result i)) (numbers_in p)) + c.blocks-blocks.result - 32) c.first-first.ensures
    ∙ ap (λ (m : ℕ). length (filter (λ i. not (is_among (block_with c.args.request.lba) m i)) (numbers_in p)) + m - 32) c.blocks-blocks.ensures in
    let rule : DrainsDue old mid false (block_with c.args.request.lba) (blocks_covered c.args.request.lba c.args.request.n) c.saturating_sub-leave.result writes.Good =
    subst (λ (m : ℕ). DrainsDue old mid false (block_with c.args.request.lba) m c.saturating_sub-leave.result writes.Good) c.blocks-blocks.ensures
    (subst (λ (m : ℕ). DrainsDue old mid false m c.blocks-blocks.result c.saturating_sub-leave.result writes.Good) c.first-first.ensures c.in-Good.ensures.rule) in
    has_room old mid c.args.request.lba c.args.request.n c.saturating_sub-leave.result leave c.drain.new.self.pending.apart (omega (arith, c.requires.few)) rule

pub returns-in-Good-clause-cause : goal.returns-in-Good-clause-cause
returns-in-Good-clause-cause g c =
    let p = pending_of c.args.self.now.pending in
    let old = shown_by g.D.Sectors c.args.self.now in
    let mid = shown_by g.D.Sectors c.drain.new.self in
    let leave : c.saturating_sub-leave.result ≡ leave_first old c.args.request.lba c.args.request.n =
    c.saturating_sub-leave.ensures
    ∙ ap (λ (m : ℕ). m + c.blocks-blocks.result - 32) c.count_of-others.ensures
    ∙ ap (λ (f : ℕ). length (filter (λ i. not (is_among f c.blocks-blocks.result i)) (numbers_in p)) + c.blocks-blocks.result - 32) c.first-first.ensures
    ∙ ap (λ (m : ℕ). length (filter (λ i. not (is_among (block_with c.args.request.lba) m i)) (numbers_in p)) + m - 32) c.blocks-blocks.ensures in
    let rule : DrainsDue old mid false (block_with c.args.request.lba) (blocks_covered c.args.request.lba c.args.request.n) c.saturating_sub-leave.result writes.Good =
    subst (λ (m : ℕ). DrainsDue old mid false (block_with c.args.request.lba) m c.saturating_sub-leave.result writes.Good) c.blocks-blocks.ensures
    (subst (λ (m : ℕ). DrainsDue old mid false m c.blocks-blocks.result c.saturating_sub-leave.result writes.Good) c.first-first.ensures c.in-Good.ensures.rule) in
    cached_cause old mid c.args.request.lba c.args.request.n c.saturating_sub-leave.result leave (shown_by g.D.Sectors c.take_over.new.self) c.args.from.now c.requires.inside rule c.take_over.result c.take_over.ensures.rule

pub returns-in_default : goal.returns-in_default
returns-in_default g c =
    let p = pending_of c.args.self.now.pending in
    let old = shown_by g.D.Sectors c.args.self.now in
    let mid = shown_by g.D.Sectors c.drain.new.self in
    let leave : c.saturating_sub-leave.result ≡ leave_first old c.args.request.lba c.args.request.n =
    c.saturating_sub-leave.ensures
    ∙ ap (λ (m : ℕ). m + c.blocks-blocks.result - 32) c.count_of-others.ensures
    ∙ ap (λ (f : ℕ). length (filter (λ i. not (is_among f c.blocks-blocks.result i)) (numbers_in p)) + c.blocks-blocks.result - 32) c.first-first.ensures
    ∙ ap (λ (m : ℕ). length (filter (λ i. not (is_among (block_with c.args.request.lba) m i)) (numbers_in p)) + m - 32) c.blocks-blocks.ensures in
    let rule : DrainsDue old mid false (block_with c.args.request.lba) (blocks_covered c.args.request.lba c.args.request.n) c.saturating_sub-leave.result c.drain.result =
    subst (λ (m : ℕ). DrainsDue old mid false (block_with c.args.request.lba) m c.saturating_sub-leave.result c.drain.result) c.blocks-blocks.ensures
    (subst (λ (m : ℕ). DrainsDue old mid false m c.blocks-blocks.result c.saturating_sub-leave.result c.drain.result) c.first-first.ensures c.drain.ensures.rule) in
    record {
      cause = refused_cached old mid c.args.request.lba c.args.request.n c.saturating_sub-leave.result leave mid c.args.from.now c.requires.inside c.drain.result rule c.in_default.not-Good;
      step = λ s so. refused_cached_contents (stands_by g.D.Sectors c.drain.new.self) c.args.request.lba c.args.request.n c.args.from.now s c.drain.result c.in_default.not-Good (c.drain.ensures.step s so);
      same_shape = c.drain.ensures.same_shape;
      underwent = c.drain.ensures.underwent;
    }

use Rattle.std.proofs.Common.{ℕ, true, length, ap, subst, ◌∙◌}
use Rattle.model_drive.specs.declared.WriteOut.TheVariants as writes
use Rattle.model_sectors.specs.Requests.{block_with, blocks_covered}
use Rattle.ram_cache.specs.Caches.{shown_by, stands_by}
use Rattle.ram_cache.specs.Rooms.{pending_of, due_in}
use Rattle.ram_cache.specs.Flushes.{DrainsDue}
use Rattle.ram_cache.proofs.Through.{refused_cause, refused_contents, written_cause, written_contents}
use Rattle.ram_cache.proofs.cached.Cached.write_over.Goals as goal

pub returns-in-Good-clause-cause : goal.returns-in-Good-clause-cause
returns-in-Good-clause-cause g c =
    let old = shown_by g.D.Sectors c.args.self.now in
    let mid = shown_by g.D.Sectors c.drain.new.self in
    let new = shown_by g.D.Sectors c.write_below.new.self in
    let p = pending_of c.args.self.now.pending in
    let rule : DrainsDue old mid true (block_with c.args.request.lba) (blocks_covered c.args.request.lba c.args.request.n) c.count_of-covered.result writes.Good =
    subst (λ (m : ℕ). DrainsDue old mid true (block_with c.args.request.lba) m c.count_of-covered.result writes.Good) c.blocks-blocks.ensures
    (subst (λ (m : ℕ). DrainsDue old mid true m c.blocks-blocks.result c.count_of-covered.result writes.Good) c.first-first.ensures c.in-Good.ensures.rule) in
    let covered = c.count_of-covered.ensures ∙ ap (λ (f : ℕ). length (due_in true f c.blocks-blocks.result p)) c.first-first.ensures ∙ ap (λ (m : ℕ). length (due_in true (block_with c.args.request.lba) m p)) c.blocks-blocks.ensures in
    written_cause c.args.request.lba c.args.request.n old mid new c.count_of-covered.result covered c.requires.inside rule
    c.write_below.ensures.same_mode (record { same_shape = c.write_below.ensures.same_shape; sound = g.met.D.Sectors.laws.sound c.write_below.new.self.disc })
    c.write_below.result c.write_below.ensures.cause c.write_below.ensures.left

pub returns-in-Good-clause-step : goal.returns-in-Good-clause-step
returns-in-Good-clause-step g c = λ s so.
    let old = shown_by g.D.Sectors c.args.self.now in
    let mid = shown_by g.D.Sectors c.drain.new.self in
    let new = shown_by g.D.Sectors c.write_below.new.self in
    let p = pending_of c.args.self.now.pending in
    let rule : DrainsDue old mid true (block_with c.args.request.lba) (blocks_covered c.args.request.lba c.args.request.n) c.count_of-covered.result writes.Good =
    subst (λ (m : ℕ). DrainsDue old mid true (block_with c.args.request.lba) m c.count_of-covered.result writes.Good) c.blocks-blocks.ensures
    (subst (λ (m : ℕ). DrainsDue old mid true m c.blocks-blocks.result c.count_of-covered.result writes.Good) c.first-first.ensures c.in-Good.ensures.rule) in
    let covered = c.count_of-covered.ensures ∙ ap (λ (f : ℕ). length (due_in true f c.blocks-blocks.result p)) c.first-first.ensures ∙ ap (λ (m : ℕ). length (due_in true (block_with c.args.request.lba) m p)) c.blocks-blocks.ensures in
    written_contents c.args.request.lba c.args.request.n old mid new c.count_of-covered.result covered c.requires.inside rule
    (g.D.Sectors.stands c.drain.new.self.disc) (g.D.Sectors.stands c.write_below.new.self.disc) (λ t b. (g.met.D.Sectors.laws.as_shown c.drain.new.self.disc t).0 b)
    c.args.from.now c.requires.whole (stands_by g.D.Sectors c.args.self.now) s c.write_below.result c.write_below.ensures.cause c.write_below.ensures.left c.write_below.ensures.step
    (c.in-Good.ensures.step s so)

pub returns-in_default : goal.returns-in_default
returns-in_default g c =
    let old = shown_by g.D.Sectors c.args.self.now in
    let new = shown_by g.D.Sectors c.drain.new.self in
    let p = pending_of c.args.self.now.pending in
    let rule : DrainsDue old new true (block_with c.args.request.lba) (blocks_covered c.args.request.lba c.args.request.n) c.count_of-covered.result c.drain.result =
    subst (λ (m : ℕ). DrainsDue old new true (block_with c.args.request.lba) m c.count_of-covered.result c.drain.result) c.blocks-blocks.ensures
    (subst (λ (m : ℕ). DrainsDue old new true m c.blocks-blocks.result c.count_of-covered.result c.drain.result) c.first-first.ensures c.drain.ensures.rule) in
    let covered = c.count_of-covered.ensures ∙ ap (λ (f : ℕ). length (due_in true f c.blocks-blocks.result p)) c.first-first.ensures ∙ ap (λ (m : ℕ). length (due_in true (block_with c.args.request.lba) m p)) c.blocks-blocks.ensures in
    record {
      cause = refused_cause c.args.request.lba c.args.request.n old new new c.count_of-covered.result covered c.requires.inside c.drain.result rule c.in_default.not-Good;
      step = λ s so. refused_contents c.args.request.lba c.args.request.n old new new c.count_of-covered.result covered c.requires.inside
          (stands_by g.D.Sectors c.drain.new.self) c.args.from.now s c.drain.result rule c.in_default.not-Good (c.drain.ensures.step s so);
      same_shape = c.drain.ensures.same_shape;
      underwent = c.drain.ensures.underwent;
    }

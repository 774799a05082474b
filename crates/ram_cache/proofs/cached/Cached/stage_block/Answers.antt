use Rattle.std.proofs.Common.{ℕ, List, [], ◌∷◌, ◌++◌, refl, sym, ap, ◌∙◌, subst}
use Rattle.model_cache.specs.Values.{StandsCached, Has}
use Rattle.model_sectors.specs.Requests.{merged_in}
use Rattle.ram_cache.specs.Rooms.{pending_of, staged_of, room_of}
use Rattle.ram_cache.proofs.Rests.{right_bytes}
use Rattle.ram_cache.proofs.cached.Cached.stage_block.Goals as goal

pub returns-in-Ok-clause-step : goal.returns-in-Ok-clause-step
returns-in-Ok-clause-step g c = λ v not_pending so.
    let part = c.args.part in
    let gave = c.in-Ok.ensures.step v not_pending so in (
      subst (λ (l : List (ℕ × List ℕ)). StandsCached (g.D.Sectors.stands c.rest_of.new.self.disc) l (Has v)) (sym c.stage.ensures.pending) (gave.0),
      c.stage.ensures.staged
          ∙ ap (λ (l : List (ℕ × List ℕ)). l ++ (part.block, merged_in part.request.lba part.request.n c.args.from.now part.block (room_of c.rest_of.new.self.pending c.args.staged)) ∷ []) (c.in-Ok.ensures.staged refl)
          ∙ ap (λ (b : List ℕ). staged_of c.args.self.now.pending c.args.staged ++ (part.block, b) ∷ [])
          (right_bytes (g.D.Sectors.shows c.args.self.now.disc) (g.D.Sectors.stands c.args.self.now.disc) (pending_of c.args.self.now.pending) (λ t b. (g.met.D.Sectors.laws.as_shown c.args.self.now.disc t).0 b)
          part.request.lba part.request.n part.block c.args.from.now (room_of c.rest_of.new.self.pending c.args.staged) v c.requires.inside c.requires.covered c.requires.whole c.stage.ensures.len so (gave.1)),
    )

use Rattle.std.proofs.Common.{◌*◌, [], ◌∷◌, sym, subst}
use Rattle.model_sectors.specs.Discs.{On, Off}
use Rattle.model_drive.specs.Reads.{VerifyStep}
use Rattle.model_mirror.proofs.Mends.{back_step, one_of_two}
use Rattle.ram_mirror.proofs.mending.write_back.Goals as goal

pub returns-clause-step : goal.returns-clause-step
returns-clause-step g c = λ disc so is.
    subst (VerifyStep (g.L.Sectors.stands c.write_alone-told.new.lead) (On disc)) (sym c.once_written.ensures)
    (back_step (g.L.Sectors.stands c.write_alone-told.new.lead) (g.L.Sectors.shows c.write_alone-told.new.lead) disc (16 * c.args.block) 16 c.args.room.now is
    (λ both. (g.met.L.Sectors.laws.as_shown c.write_alone-told.new.lead (Off (disc ∷ []))).1 (one_of_two (g.L.Sectors.shows c.write_alone-told.new.lead) disc
    ((g.met.L.Sectors.laws.as_shown c.write_alone-told.new.lead (Off (disc ∷ disc ∷ []))).0 both)))
    c.write_alone-told.result (c.write_alone-told.ensures.step (On disc) so))

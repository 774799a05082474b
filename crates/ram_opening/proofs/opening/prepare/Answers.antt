use Rattle.std.proofs.Common.{[], ◌∷◌, refl, replicate}
use Rattle.ram_text.specs.declared.script.Line.TheVariants as lines
use Rattle.ram_machine.specs.Inserted.{Stands}
use Rattle.ram_session.specs.Opening.{cache_on_cdb, cache_on_page}
use Rattle.ram_opening.specs.Opens.{IsServedSo}
use Rattle.ram_opening.proofs.Openings.{command_as, ended_so}
use Rattle.ram_opening.proofs.opening.prepare.Goals as goal

pub returns-in-Err-clause-rule : goal.returns-in-Err-clause-rule
returns-in-Err-clause-rule g c = λ first faults export rest far.
    let more = record { line = lines.Command cache_on_cdb; payload = cache_on_page } ∷ rest in
    ended_so first faults (Stands g.D.Caching g.D.Drive.lies_in g.D.Image.Image c.do_command.new.inserted) (λ (done : Unit {0}). export) (λ (done : Unit {0}). export) more rest c.in-Err.status
    (c.in-Err.ensures.rule first faults export more
    (command_as first faults (IsServedSo export) (Stands g.D.Caching g.D.Drive.lies_in g.D.Image.Image c.args.inserted.now) c.test_unit_ready.result (replicate 6 0) [] [] more
    c.test_unit_ready.ensures refl far))

pub returns-clause-rule : goal.returns-clause-rule
returns-clause-rule g c = λ first faults export rest far.
    let more = record { line = lines.Command cache_on_cdb; payload = cache_on_page } ∷ rest in
    c.do_command-2.ensures.rule first faults export rest
    (command_as first faults (IsServedSo export) (Stands g.D.Caching g.D.Drive.lies_in g.D.Image.Image c.do_command.new.inserted) c.mode_select.result cache_on_cdb c.cache_on_page.result cache_on_page rest
    c.mode_select.ensures c.cache_on_page.ensures
    (c.in-Ok.ensures.rule first faults export more
    (command_as first faults (IsServedSo export) (Stands g.D.Caching g.D.Drive.lies_in g.D.Image.Image c.args.inserted.now) c.test_unit_ready.result (replicate 6 0) [] [] more
    c.test_unit_ready.ensures refl far)))

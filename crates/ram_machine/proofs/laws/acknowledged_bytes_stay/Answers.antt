use Rattle.std.specs.Prelude.{◌≡◌}
use Rattle.ram_machine.proofs.Acknowledged.{step_keeps, run_keeps, as_so, so_acknowledged}
use Rattle.ram_machine.proofs.laws.acknowledged_bytes_stay.Goals as goal

pub returns-clause-step : goal.returns-clause-step
returns-clause-step c = λ s t line payload data_in outcome at bytes step leaves keeps.
    so_acknowledged t at bytes (step_keeps (λ found. found ≡ bytes) at s t line payload data_in outcome step leaves (as_so s at bytes keeps))

pub returns-clause-run : goal.returns-clause-run
returns-clause-run c = λ s t events at bytes run leaves keeps.
    so_acknowledged t at bytes (run_keeps (λ found. found ≡ bytes) at s t events run leaves (as_so s at bytes keeps))

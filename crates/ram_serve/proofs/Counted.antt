-- The counts of a session: around a message that did not come or was not told, and over several calls.
use Rattle.std.specs.Prelude.{◌≡◌, ℕ, Option, Result, Ok, Err, List}
use Rattle.std.proofs.Common.{refl, ◌∙◌, subst}
use Rattle.model_counts.specs.Counts.{Rose}
use Rattle.ram_outside.specs.Sink.{FailsOnce}
use Rattle.ram_machine.specs.declared.status.Status.{Status}
use Rattle.ram_machine.specs.declared.status.Status.TheVariants as statuses
use Rattle.ram_script.specs.RunCounts.{Counts, counts_of, SameCounts}
use Rattle.ram_session.specs.Talk.{Phase}
use Rattle.ram_session.specs.Session.{SessionCounts}
use Rattle.ram_serve.specs.Messages.{ToldRule}
use Rattle.ram_serve.specs.Taking.{NoneCame}
use Rattle.ram_serve.specs.Turns.{TurnCounts}

-- none came
pub untaken_counts : (phase : Phase) (left left' : Option (List ℕ)) (f f' g g' image : ℕ) (status : Status) → g' ≡ g
    → NoneCame left left' f f' phase status → SessionCounts (counts_of f g image) (counts_of f' g' image) status
untaken_counts phase left left' f f' g g' image statuses.Done same rule = record { source = rule.count; sink = same; image = refl }
untaken_counts phase left left' f f' g g' image statuses.Script same rule = record { source = rule.count; sink = same; image = refl }
untaken_counts phase left left' f f' g g' image statuses.SourceFault same rule = record { source = rule.count; sink = same; image = refl }
untaken_counts phase left left' f f' g g' image statuses.SinkFault same rule = absurd rule
untaken_counts phase left left' f f' g g' image statuses.ImageFault same rule = absurd rule
untaken_counts phase left left' f f' g g' image statuses.Differs same rule = absurd rule
untaken_counts phase left left' f f' g g' image statuses.Usage same rule = absurd rule
untaken_counts phase left left' f f' g g' image statuses.NoMemory same rule = absurd rule
untaken_counts phase left left' f f' g g' image statuses.NotADisc same rule = absurd rule

-- the sink failed in it
pub untold_counts : (written written' : Option (List ℕ)) (bytes : List ℕ) (f f' g shown g' image : ℕ) (status : Status) → f' ≡ f → shown ≡ g
    → ToldRule written written' shown g' bytes (Err status) → SessionCounts (counts_of f g image) (counts_of f' g' image) status
untold_counts written written' bytes f f' g shown g' image statuses.SinkFault same same_shown rule = record {
  source = same;
  sink = subst (λ (n : ℕ). FailsOnce n g') same_shown rule.3;
  image = refl;
}
untold_counts written written' bytes f f' g shown g' image statuses.Done same same_shown rule = absurd rule
untold_counts written written' bytes f f' g shown g' image statuses.Script same same_shown rule = absurd rule
untold_counts written written' bytes f f' g shown g' image statuses.SourceFault same same_shown rule = absurd rule
untold_counts written written' bytes f f' g shown g' image statuses.ImageFault same same_shown rule = absurd rule
untold_counts written written' bytes f f' g shown g' image statuses.Differs same same_shown rule = absurd rule
untold_counts written written' bytes f f' g shown g' image statuses.Usage same same_shown rule = absurd rule
untold_counts written written' bytes f f' g shown g' image statuses.NoMemory same same_shown rule = absurd rule
untold_counts written written' bytes f f' g shown g' image statuses.NotADisc same same_shown rule = absurd rule

module _ (a b c : Counts) (one : SameCounts a b) where
  -- nothing failed, and then nothing again
  pub same_then : SameCounts b c → SameCounts a c
  same_then two = record { source = two.source ∙ one.source; sink = two.sink ∙ one.sink; image = two.image ∙ one.image }

  -- nothing failed, and then a call ended so
  pub turn_then : {X : Type 0} (result : Result X Status) → TurnCounts b c result → TurnCounts a c result
  turn_then (Ok x) two = same_then two
  turn_then (Err statuses.ImageFault) two = record {
    source = two.source ∙ one.source;
    sink = two.sink ∙ one.sink;
    image = subst (λ (n : ℕ). Rose n c.image) one.image two.image;
  }
  turn_then (Err statuses.SourceFault) two = record {
    source = subst (λ (n : ℕ). Rose n c.source) one.source two.source;
    sink = two.sink ∙ one.sink;
    image = two.image ∙ one.image;
  }
  turn_then (Err statuses.SinkFault) two = record {
    source = two.source ∙ one.source;
    sink = subst (λ (n : ℕ). FailsOnce n c.sink) one.sink two.sink;
    image = two.image ∙ one.image;
  }
  turn_then (Err statuses.Done) two = same_then two
  turn_then (Err statuses.Script) two = same_then two
  turn_then (Err statuses.Differs) two = absurd two
  turn_then (Err statuses.Usage) two = absurd two
  turn_then (Err statuses.NoMemory) two = absurd two
  turn_then (Err statuses.NotADisc) two = same_then two

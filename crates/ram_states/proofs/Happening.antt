-- Nothing but events happened to the medium of a drive whose power was turned on.
use Rattle.std.specs.Prelude.{ℕ, IsTrue}
use Rattle.model_medium.specs.World.{World, Span}
use Rattle.model_medium.specs.Exact.{Event, PowerOn}
use Rattle.model_medium.specs.Happened.{Happened}
use Rattle.model_medium.proofs.Happening.{happened_one, happened_then}
use Rattle.model_stops.specs.Stops.{Continues, Stops}
use Rattle.model_stops.specs.declared.Stop.{Stop}
use Rattle.ram_medium.proofs.Parts.{part_happened, stop_happened}

module _ {M : Type 0} (world : M → World) (reaches : M → M → Span → Type 0) (takes : M → M → Event → Type 0) (happens : (a b : M) (span : Span) → reaches a b span → Happened takes a b) where
  -- the power went on before
  module _ (off on : M) (turned : takes off on PowerOn) where
    pub turned_part : (new : M) (k : ℕ) → Continues world reaches on new k → Happened takes off new
    turned_part new k part = happened_then takes off on new (happened_one takes off on PowerOn turned) (part_happened world reaches takes happens on new k part)

    pub turned_stop : (new : M) (most : ℕ) (stop : Stop) → IsTrue (world on).power → Stops world reaches on new most stop → Happened takes off new
    turned_stop new most stop is_on stopped = happened_then takes off on new (happened_one takes off on PowerOn turned) (stop_happened world reaches takes happens on new most stop is_on stopped)

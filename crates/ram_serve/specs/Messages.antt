-- What receiving a part of a message, and telling one, may do, by how it ended: what is left to come and what is written, before and
-- after, and the counts. For the calls that take and tell messages. (This project's own, as all here.)
use Rattle.std.specs.Prelude.{◌≡◌, ℕ, ◌<◌, Option, Result, Ok, Err, List, [], length, take}
use Rattle.std.specs.Io.KnownBytes.{IsAtEnd, append_known}
use Rattle.model_counts.specs.Counts.{Rose}
use Rattle.ram_outside.specs.Sink.{FailsOnce}
use Rattle.ram_receive.specs.Receiving.{Went}
use Rattle.ram_machine.specs.declared.status.Status.{Status}
use Rattle.ram_machine.specs.declared.status.Status.TheVariants as statuses

-- Telling: all of it is written; or the sink failed in it, once, and a part of it is.
abbrev pub ToldRule : (written written' : Option (List ℕ)) → (faults faults' : ℕ) → List ℕ → Result (Unit {0}) Status → Type 0
ToldRule written written' faults faults' bytes (Ok done) = (written' ≡ append_known written bytes) × (faults' ≡ faults)
ToldRule written written' faults faults' bytes (Err statuses.SinkFault) =
    (n : ℕ) × (n < length bytes) × (written' ≡ append_known written (take n bytes)) × FailsOnce faults faults'
ToldRule written written' faults faults' bytes (Err status) = ⊥

module _ (left left' : Option (List ℕ)) (faults faults' : ℕ) where
  -- these bytes came, and then no more, as there are none
  pub record EndsAfter (bytes : List ℕ) : Type 0 where
    pub went : Went left left' bytes
    pub ended : IsAtEnd left'
    pub count : faults' ≡ faults

  -- these bytes came, and then the source failed
  pub record FailsAfter (bytes : List ℕ) : Type 0 where
    pub went : Went left left' bytes
    pub count : Rose faults faults'

  -- The first bytes of a message: they came; nothing comes any more; or a part of them came, and then the end or a failure.
  abbrev pub FirstRule : (into : List ℕ) → Result (Unit {0}) Status → Type 0
  FirstRule into (Ok done) = Went left left' into × (faults' ≡ faults)
  FirstRule into (Err statuses.Done) = EndsAfter []
  FirstRule into (Err statuses.Script) = (n : ℕ) × (0 < n) × (n < length into) × EndsAfter (take n into)
  FirstRule into (Err statuses.SourceFault) = (n : ℕ) × (n < length into) × FailsAfter (take n into)
  FirstRule into (Err status) = ⊥

  -- Further bytes of it, of which there are to be `count`: these came; or fewer, and then the end or a failure.
  abbrev pub MoreRule : (count : ℕ) → (bytes : List ℕ) → Result (Unit {0}) Status → Type 0
  MoreRule count bytes (Ok done) = (length bytes ≡ count) × Went left left' bytes × (faults' ≡ faults)
  MoreRule count bytes (Err statuses.Script) = (came : List ℕ) × (length came < count) × EndsAfter came
  MoreRule count bytes (Err statuses.SourceFault) = (came : List ℕ) × (length came < count) × FailsAfter came
  MoreRule count bytes (Err status) = ⊥

  -- The same where they are read over, so that nobody sees which they were.
  abbrev pub OverRule : (count : ℕ) → Result (Unit {0}) Status → Type 0
  OverRule count result = (bytes : List ℕ) × MoreRule count bytes result

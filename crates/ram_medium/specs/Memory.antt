-- What a medium in memory shows, and what it does at each event: it lies on nothing, so only a named use fails.
use Rattle.std.specs.Prelude.{◌≡◌, ◌↔◌, ℕ, true, false, IsTrue, List, [], Contains}
use Rattle.model_counts.specs.Counts.{counted}
use Rattle.model_medium.specs.Machine.{Machine, arms_after, cut_after}
use Rattle.model_medium.specs.World.{World, Span}
use Rattle.model_medium.specs.Exact.{Event, Read, Write, PowerOn, PowerOff, Exactly}
use Rattle.model_medium.specs.declared.ReadEnd.TheVariants as reads
use Rattle.model_medium.specs.declared.WriteEnd.TheVariants as writes
use Rattle.model_medium.specs.Happened.{FollowsByEvents}
use Rattle.ram_medium.specs.Laws.{machine_of}
use Rattle.ram_medium.specs.Countdown.{arms_of, armed_cut_of}
use Rattle.ram_medium.specs.Slots.{slot_cells}
use Rattle.ram_medium.specs.declared.memory.MemMedium.{MemMedium}

-- what a medium in memory shows: it has no label
abbrev pub mem_world : MemMedium → World
mem_world medium = record { label = []; known = true; cells = slot_cells medium.slots.items; power = medium.powered; uses = medium.uses; cuts = medium.cuts; faults = medium.faults }

-- the same with what is armed on it
abbrev pub mem_machine : MemMedium → Machine
mem_machine medium = machine_of (mem_world medium) (arms_of medium.armed) (armed_cut_of medium.armed)

-- the numbers of the uses that fail, from 1 on
abbrev pub failing_of : MemMedium → List ℕ
failing_of medium = medium.failing.items

-- The next use has a number that fails. The number of uses stands still at its type's end. (This project's own.)
abbrev pub IsNamedUse : MemMedium → Type 0
IsNamedUse medium = Contains (failing_of medium) (counted medium.uses 1)

-- The machine after a use of a block that failed: the use and one fault are counted, arms and the armed cut count
-- down, the power is off, and no cell changed. (This project's own.)
abbrev pub after_failed_use : ℕ → Machine → Machine
after_failed_use block machine = record {
  world = record machine.world { power = false; uses = counted machine.world.uses 1; faults = counted machine.world.faults 1 };
  arms = arms_after block machine.arms;
  cut = cut_after machine.cut;
}

-- An event that failed did just that. (This project's own.)
abbrev pub FailsExactly : Machine → Machine → Event → Type 0
FailsExactly old new (Read block into into' reads.Failed) = (new ≡ after_failed_use block old) × (into' ≡ into)
FailsExactly old new (Read block into into' how) = Unit {0}
FailsExactly old new (Write block bytes writes.Failed) = new ≡ after_failed_use block old
FailsExactly old new (Write block bytes how) = Unit {0}
FailsExactly old new PowerOn = Unit {0}
FailsExactly old new PowerOff = Unit {0}

-- A use fails exactly where its number is one that fails. (This project's own.)
abbrev pub FailsAsNamed : MemMedium → Event → Type 0
FailsAsNamed old (Read block into into' how) = (how ≡ reads.Failed) ↔ (IsTrue old.powered × IsNamedUse old)
FailsAsNamed old (Write block bytes how) = (how ≡ writes.Failed) ↔ (IsTrue old.powered × IsNamedUse old)
FailsAsNamed old PowerOn = Unit {0}
FailsAsNamed old PowerOff = Unit {0}

-- What an event does on a medium in memory: exactly what it does on a controllable medium. It fails just where it is
-- to, and then nothing but the failure happens. (This project's own.)
pub record MemTakes (old new : MemMedium) (event : Event) : Type 0 where
  pub exactly : Exactly (mem_machine old) (mem_machine new) event
  pub fails : FailsAsNamed old event
  pub fails_exactly : FailsExactly (mem_machine old) (mem_machine new) event
  pub same_names : failing_of new ≡ failing_of old

-- what can follow on a medium in memory
abbrev pub MemReaches : MemMedium → MemMedium → Span → Type 0
MemReaches old new span = FollowsByEvents mem_machine MemTakes old new span

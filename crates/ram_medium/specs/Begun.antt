-- A new medium in memory, and how one of its uses begins: for the constructor and the private `begin`.
use Rattle.std.specs.Prelude.{◌≡◌, ℕ, false, true, Some, None, List, [], replicate, vec_len}
use Rattle.model_medium.specs.Cells.{Blank}
use Rattle.model_medium.specs.Machine.{fate_due, begun, cut_off}
use Rattle.ram_medium.specs.Memory.{mem_machine, failing_of, IsNamedUse, after_failed_use}
use Rattle.ram_medium.specs.declared.memory.MemMedium.{MemMedium}
use Rattle.ram_medium.specs.declared.memory.Begun.{Begun}
use Rattle.ram_medium.specs.declared.memory.Begun.TheVariants as begins

-- A new medium in memory: blank cells, the power off, nothing counted and nothing armed. (This project's own.)
pub record IsNewInMemory (blocks : ℕ) (failing : List ℕ) (medium : MemMedium) : Type 0 where
  pub as_many : vec_len medium.slots ≡ blocks
  pub names : failing_of medium ≡ failing
  pub machine : mem_machine medium ≡ record {
    world = record { label = []; known = true; cells = replicate blocks Blank; power = false; uses = 0; cuts = 0; faults = 0 };
    arms = [];
    cut = None;
  }

-- How a use of a block begins. (This project's own.)
abbrev pub MemBeginRule : MemMedium → MemMedium → ℕ → Begun → Type 0
MemBeginRule old new block begins.On = (¬ IsNamedUse old) × (fate_due (mem_machine old).cut ≡ None)
    × (mem_machine new ≡ begun block (mem_machine old))
MemBeginRule old new block (begins.Cut fate) = (¬ IsNamedUse old) × (fate_due (mem_machine old).cut ≡ Some fate)
    × (mem_machine new ≡ cut_off (begun block (mem_machine old)))
MemBeginRule old new block begins.Failed = IsNamedUse old × (mem_machine new ≡ after_failed_use block (mem_machine old))

-- A medium with its arms and its armed cut, and how they count down at a use.
use Rattle.std.specs.Prelude.{ℕ, ◌-◌, ◌≤◌, ◌==◌, ◌&&◌, nat_le, Bool, false, if◌then◌else◌, Option, Some, None, List, All, set}
use Rattle.std.specs.Option.{ForSome, option_map_or}
use Rattle.std.specs.List.{filter_map, list_any}
use Rattle.model_counts.specs.Counts.{counted}
use Rattle.model_medium.specs.Cells.{Cell, Dead, cell_at, written, cut_short}
use Rattle.model_medium.specs.World.{World}
use Rattle.model_medium.specs.declared.Fate.{Fate}
use Rattle.model_medium.specs.declared.WornBlock.{WornBlock}
use Rattle.model_medium.specs.declared.ArmedCut.{ArmedCut}

-- A controllable medium: what any medium shows, its arms in order, and the armed cut, if there is one. (This
-- project's own.)
pub record Machine : Type 0 where
  pub world : World
  pub arms : List WornBlock
  pub cut : Option ArmedCut

-- an armed cut falls at a use from the next one on
abbrev pub IsToCome : Option ArmedCut → Type 0
IsToCome cut = ForSome cut (λ armed. 1 ≤ armed.left)

-- each arm falls at a use from the next one on
abbrev pub AreToCome : List WornBlock → Type 0
AreToCome arms = All (λ arm. 1 ≤ arm.left) arms

-- this use of the block is the arm's last: it reaches 0
abbrev pub runs_out : ℕ → WornBlock → Bool
runs_out block arm = (arm.block == block) && nat_le arm.left 1

-- what a use of the block leaves of an arm: one of this block counts down by one, and is dropped where it reaches 0
abbrev pub worn_down : ℕ → WornBlock → Option WornBlock
worn_down block arm =
    if runs_out block arm then None else Some (if arm.block == block then record arm { left = arm.left - 1 } else arm)

-- the arms after a use of the block
abbrev pub arms_after : ℕ → List WornBlock → List WornBlock
arms_after block arms = filter_map (worn_down block) arms

-- whether a use of the block makes it dead, as one of its arms reaches 0
abbrev pub is_killed : ℕ → List WornBlock → Bool
is_killed block arms = list_any (runs_out block) arms

-- the cells after the arms of a used block have counted down
abbrev pub cells_worn : ℕ → List WornBlock → List Cell → List Cell
cells_worn block arms cells = if is_killed block arms then set cells block Dead else cells

-- the fate by which the power is cut in this use, where the armed cut reaches 0
abbrev pub fate_due : Option ArmedCut → Option Fate
fate_due None = None
fate_due (Some armed) = if nat_le armed.left 1 then Some armed.fate else None

-- the armed cut after a use: it counts down by one, and is dropped where it reaches 0
abbrev pub cut_after : Option ArmedCut → Option ArmedCut
cut_after None = None
cut_after (Some armed) = if nat_le armed.left 1 then None else Some (record armed { left = armed.left - 1 })

-- What each use of a block does first: it is counted, the arms of the block count down, and then the armed cut does.
-- (This project's own.)
abbrev pub begun : ℕ → Machine → Machine
begun block machine = record {
  world =
      record machine.world { cells = cells_worn block machine.arms machine.world.cells; uses = counted machine.world.uses 1 };
  arms = arms_after block machine.arms;
  cut = cut_after machine.cut;
}

-- the power goes off by a cut, which is counted
abbrev pub cut_off : Machine → Machine
cut_off machine = record machine { world = record machine.world { power = false; cuts = counted machine.world.cuts 1 } }

-- the cell of a block is changed
abbrev pub with_cell : ℕ → (Cell → Cell) → Machine → Machine
with_cell block change machine =
    record machine { world = record machine.world { cells = set machine.world.cells block (change (cell_at machine.world.cells block)) } }

-- A controllable medium after a read of a block with the power on. (This project's own.)
abbrev pub after_read : ℕ → Machine → Machine
after_read block machine =
    option_map_or (λ fate. cut_off (begun block machine)) (fate_due machine.cut) (begun block machine)

-- A controllable medium after a write of these bytes to a block with the power on: its cell is good with the bytes,
-- or what the fate of the cut leaves of it, and a dead cell stays dead. (This project's own.)
abbrev pub after_write : ℕ → List ℕ → Machine → Machine
after_write block bytes machine =
    option_map_or (λ fate. cut_off (with_cell block (cut_short fate bytes) (begun block machine))) (fate_due machine.cut)
    (with_cell block (written bytes) (begun block machine))

-- Which messages leave a sector as it is. For the law that what was acknowledged stays. (This project's own.)
use Rattle.std.specs.Prelude.{ℕ, ◌+◌, ◌<◌, ◌≤◌, ◌⊎◌, List, [], ◌∷◌}
use Rattle.model_nbd.specs.declared.NbdOperation.{NbdOperation}
use Rattle.model_nbd.specs.declared.NbdOperation.TheVariants as operations
use Rattle.model_nbd.specs.Operations.{request_asks}
use Rattle.ram_session.specs.Talk.{Message, Flags, Wants, Asks, Turned}

-- what is asked writes other sectors, if any
abbrev pub LeavesAsked : (at : ℕ) → NbdOperation → Type 0
LeavesAsked at (operations.Write lba n fua) = (at < lba) ⊎ (lba + n ≤ at)
LeavesAsked at (operations.WriteZeroes lba n fua) = (at < lba) ⊎ (lba + n ≤ at)
LeavesAsked at _ = Unit {0}

-- the same of a message to a disc of this many bytes
abbrev pub LeavesByMessage : (size at : ℕ) → Message → Type 0
LeavesByMessage size at (Flags zeros) = Unit {0}
LeavesByMessage size at (Wants option) = Unit {0}
LeavesByMessage size at (Asks request) = LeavesAsked at (request_asks size request.header)

-- so it is of each of these messages
abbrev pub LeaveByMessages : (size at : ℕ) → List Turned → Type 0
LeaveByMessages size at [] = Unit {0}
LeaveByMessages size at (turned ∷ before) = LeavesByMessage size at turned.message × LeaveByMessages size at before

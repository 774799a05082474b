-- Which commands are done of those that are asked for.
use Rattle.std.specs.Prelude.{ℕ, Bool, true, false, ◌&&◌, not, Option, Some, None, Result, Ok, Err, List, [], ◌∷◌, IfOk}
use Rattle.std.proofs.Common.{◌≡◌, refl, sym, subst}
use Rattle.std.specs.List.{find}
use Rattle.model_sense.specs.Sense.{sense}
use Rattle.model_sense.specs.declared.sense.Sense.{Sense}
use Rattle.model_cdb.specs.declared.commands.Command.{Command}
use Rattle.model_cdb.specs.declared.commands.Command.TheVariants as commands
use Rattle.model_cdb.specs.Decoding.{Refusal, refusal, unless}
use Rattle.model_target.specs.declared.host.Host.{Host}
use Rattle.model_target.specs.Judging.{hindrances, IsAllowed}
use Rattle.ram_mmc.specs.Looks.{CanBeDone}

-- what holds of a command holds of it where it is not refused
unless_holds : (P : Command → Type 0) (reason : Option Refusal) (command : Command) → P command → IfOk (unless reason command) P
unless_holds P (Some refused) command holds = tt
unless_holds P None command holds = holds

module _ (host : Host) (formatted : Bool) (payload : List ℕ) (P : Command → Type 0) where
  by_reasons : (command : Command) (result : Result Command Sense) → result ≡ unless (find (λ r. r.applies) (hindrances host formatted command)) command → P command → IfOk result P
  by_reasons command result is holds =
      subst (λ (r : Result Command Sense). IfOk r P) (sym is)
      (unless_holds P (find (λ r. r.applies) (hindrances host formatted command)) command holds)

  -- what holds of a command that is asked for holds of it where it is allowed
  pub allowed_holds : (command : Command) (result : Result Command Sense) → IsAllowed host formatted payload command result → P command → IfOk result P
  allowed_holds commands.ModeSelect (Ok command) allowed holds = subst P (sym allowed.0) holds
  allowed_holds commands.ModeSelect (Err why) allowed holds = tt
  allowed_holds commands.TestUnitReady result allowed holds = by_reasons commands.TestUnitReady result allowed holds
  allowed_holds (commands.RequestSense alloc) result allowed holds = by_reasons (commands.RequestSense alloc) result allowed holds
  allowed_holds (commands.Format kind) result allowed holds = by_reasons (commands.Format kind) result allowed holds
  allowed_holds (commands.Expand sectors) result allowed holds = by_reasons (commands.Expand sectors) result allowed holds
  allowed_holds (commands.Inquiry vital alloc) result allowed holds = by_reasons (commands.Inquiry vital alloc) result allowed holds
  allowed_holds (commands.StartStop start eject) result allowed holds = by_reasons (commands.StartStop start eject) result allowed holds
  allowed_holds (commands.Prevent on) result allowed holds = by_reasons (commands.Prevent on) result allowed holds
  allowed_holds (commands.FormatCapacities alloc) result allowed holds = by_reasons (commands.FormatCapacities alloc) result allowed holds
  allowed_holds commands.ReadCapacity result allowed holds = by_reasons commands.ReadCapacity result allowed holds
  allowed_holds (commands.Read lba n) result allowed holds = by_reasons (commands.Read lba n) result allowed holds
  allowed_holds (commands.Write lba n fua) result allowed holds = by_reasons (commands.Write lba n fua) result allowed holds
  allowed_holds (commands.Verify lba n) result allowed holds = by_reasons (commands.Verify lba n) result allowed holds
  allowed_holds commands.Synchronize result allowed holds = by_reasons commands.Synchronize result allowed holds
  allowed_holds (commands.Configuration rt start alloc) result allowed holds = by_reasons (commands.Configuration rt start alloc) result allowed holds
  allowed_holds (commands.Events media alloc) result allowed holds = by_reasons (commands.Events media alloc) result allowed holds
  allowed_holds (commands.DiscInformation alloc) result allowed holds = by_reasons (commands.DiscInformation alloc) result allowed holds
  allowed_holds (commands.ModeSense short control page alloc) result allowed holds = by_reasons (commands.ModeSense short control page alloc) result allowed holds
  allowed_holds (commands.Structure format alloc) result allowed holds = by_reasons (commands.Structure format alloc) result allowed holds
  allowed_holds commands.Streaming result allowed holds = by_reasons commands.Streaming result allowed holds

-- without a formatted disc a command that needs one is refused, whatever else is against it
refused_unformatted : (prevented ejected out : Bool) (first second third : Sense) (command : Command) (P : Command → Type 0)
    → IfOk (unless (find (λ r. r.applies) (refusal (prevented && ejected) first ∷ refusal (out && true) second ∷ refusal (true && not false) third ∷ [])) command) P
refused_unformatted true true out first second third command P = tt
refused_unformatted true false true first second third command P = tt
refused_unformatted true false false first second third command P = tt
refused_unformatted false ejected true first second third command P = tt
refused_unformatted false ejected false first second third command P = tt

module _ (host : Host) (payload : List ℕ) where
  structure_formatted : (formatted : Bool) (format alloc : ℕ) (result : Result Command Sense)
      → IsAllowed host formatted payload (commands.Structure format alloc) result → IfOk result (CanBeDone formatted payload)
  structure_formatted true format alloc result allowed =
      allowed_holds host true payload (CanBeDone true payload) (commands.Structure format alloc) result allowed refl
  structure_formatted false format alloc result allowed =
      subst (λ (r : Result Command Sense). IfOk r (CanBeDone false payload)) (sym allowed)
      (refused_unformatted host.prevented false host.out (sense 0x5 0x53 0x02) (sense 0x2 0x3a 0x00) (sense 0x3 0x31 0x00) (commands.Structure format alloc) (CanBeDone false payload))

  -- a command that gives what the disc says of itself is done on a formatted disc alone, and a list of mode pages is taken
  pub allowed_can : (formatted : Bool) (command : Command) (result : Result Command Sense) → IsAllowed host formatted payload command result → IfOk result (CanBeDone formatted payload)
  allowed_can formatted (commands.Structure format alloc) result allowed = structure_formatted formatted format alloc result allowed
  allowed_can formatted commands.ModeSelect (Ok command) allowed = subst (CanBeDone formatted payload) (sym allowed.0) allowed.1
  allowed_can formatted commands.ModeSelect (Err why) allowed = tt
  allowed_can formatted command result allowed = allowed_holds host formatted payload (CanBeDone formatted payload) command result allowed tt

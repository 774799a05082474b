-- What a command is answered can be printed.
use Rattle.std.specs.Prelude.{◌≡◌, ℕ, ◌≤◌, true, Option, None, Some, List, length}
use Rattle.std.proofs.Common.{refl, arith}
use Rattle.std.proofs.lemmas.Bool.{false≢true}
use Rattle.model_commands.specs.Commands.{command, operation_of}
use Rattle.model_commands.specs.declared.Operation.{Operation}
use Rattle.model_commands.specs.declared.Operation.TheVariants as operations
use Rattle.model_cache.specs.Values.{Contents}
use Rattle.model_cache.specs.Shown.{CacheShown}
use Rattle.model_target.specs.declared.host.Host.{Host}
use Rattle.model_target.specs.Steps.{IsStep}
use Rattle.model_target.proofs.Whole.{done_whole}
use Rattle.model_sense.specs.declared.answer.Answer.{Answer}
use Rattle.model_sense.specs.declared.answer.Answer.TheVariants as answers
use Rattle.ram_report.specs.ReportLines.{is_read}
use Rattle.ram_machine.specs.Replies.{PrintsWhere, command_outcome}

-- the command block of a read has an address, where it is as long as the table says
read_long : (operation : Operation) → is_read (Some operation) ≡ true → (n : ℕ) → (command operation).bytes ≤ n → 6 ≤ n
read_long operations.Read10 reads n long = omega (arith, long)
read_long operations.Read12 reads n long = omega (arith, long)
read_long _ reads n long = absurd (false≢true reads)

module _ (old new : CacheShown) (before after : Contents → Type 0) (host later : Host) (cdb payload data_in : List ℕ) where
  addressed : (found : Option Operation) → operation_of cdb ≡ found → IsStep old new before after host later cdb payload answers.Good data_in → is_read found ≡ true → 6 ≤ length cdb
  addressed None is step reads = absurd (false≢true reads)
  addressed (Some operation) is step reads = read_long operation reads (length cdb) (done_whole old new before after host later cdb payload data_in operation is step)

  pub prints : (answer : Answer) → IsStep old new before after host later cdb payload answer data_in → PrintsWhere (command_outcome cdb answer)
  prints answers.Good step = (tt, addressed (operation_of cdb) refl step)
  prints (answers.Check sense) step = (tt, tt)
  prints answers.Cut step = (tt, tt)
  prints answers.Off step = (tt, tt)
  prints answers.Fault step = tt

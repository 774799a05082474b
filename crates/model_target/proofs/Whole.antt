-- A command that is done has as many bytes as the table says at least.
use Rattle.std.specs.Prelude.{◌≡◌, ◌≤◌, ◌||◌, ℕ, Bool, true, false, nat_lt, is_some, Option, Some, Result, Ok, Err, List, ◌∷◌, length, drop}
use Rattle.std.specs.List.{find}
use Rattle.std.proofs.Common.{refl, sym, inl, inr, ap, arith}
use Rattle.model_cache.specs.Values.{Contents}
use Rattle.model_cache.specs.Shown.{CacheShown}
use Rattle.model_commands.specs.declared.Operation.{Operation}
use Rattle.model_commands.specs.Commands.{command, operation_of}
use Rattle.model_sense.specs.Sense.{sense}
use Rattle.model_sense.specs.declared.sense.Sense.{Sense}
use Rattle.model_sense.specs.declared.answer.Answer.TheVariants as answers
use Rattle.model_cdb.specs.declared.commands.Command.{Command}
use Rattle.model_cdb.specs.Decoding.{Refusal, refusal, refusals, unless, meaning, decoded_as, has_refused_field}
use Rattle.model_target.specs.declared.host.Host.{Host}
use Rattle.model_target.specs.Host.{is_told}
use Rattle.model_target.specs.Judging.{asked_in, asked_by, asked, IsJudgedBy, IsJudged}
use Rattle.model_target.specs.Steps.{IsStep, IsAnsweredBy}

-- where a command is not refused, the first reason does not apply, nor does either part of it
first_part : (part other : Bool) (why : Sense) (reasons : List Refusal) (means asked : Command) → unless (find (λ r. r.applies) (refusal (part || other) why ∷ reasons)) means ≡ Ok asked → part ≡ false
first_part true other why reasons means asked is = absurd cc
first_part false other why reasons means asked is = refl

not_below : (m n : ℕ) → nat_lt m n ≡ false → n ≤ m
not_below m n is = search arith

-- a block that was decoded is long enough
long_enough : (operation : Operation) (cdb payload : List ℕ) (asked : Command) → decoded_as operation cdb payload ≡ Ok asked → (command operation).bytes ≤ length cdb
long_enough operation cdb payload asked is =
    not_below (length cdb) (command operation).bytes
    (first_part (nat_lt (length cdb) (command operation).bytes) (has_refused_field operation cdb) (sense 0x5 0x24 0x00) (drop 1 (refusals operation cdb payload)) (meaning operation cdb payload) asked is)

-- what is asked for was decoded
asked_whole : (told : Bool) (operation : Operation) (cdb payload : List ℕ) (asked : Command) → asked_in told operation cdb payload ≡ Ok asked → (command operation).bytes ≤ length cdb
asked_whole true operation cdb payload asked is = absurd cc
asked_whole false operation cdb payload asked is = long_enough operation cdb payload asked is

-- a command that was judged as one to be done was asked for
judged_whole : (host : Host) (formatted : Bool) (payload cdb : List ℕ) (operation : Operation) (wanted : Result Command Sense) (done : Command)
    → wanted ≡ asked_by host (Some operation) cdb payload → IsJudgedBy host formatted payload wanted (Ok done) → (command operation).bytes ≤ length cdb
judged_whole host formatted payload cdb operation (Err why) done wanted_is judged = absurd (let e : Ok done ≡ Err why = judged in cc)
judged_whole host formatted payload cdb operation (Ok asked) done wanted_is judged =
    asked_whole (is_told host operation) operation cdb payload asked (sym wanted_is)

module _ (old new : CacheShown) (before after : Contents → Type 0) (host later : Host) (cdb payload data_in : List ℕ) (operation : Operation) (is : operation_of cdb ≡ Some operation) where
  by_judged : (judged : Result Command Sense) → IsJudged host (is_some old.drive.lists) cdb payload judged → IsAnsweredBy old new before after host payload judged answers.Good data_in → (command operation).bytes ≤ length cdb
  by_judged (Err why) judged p = absurd (let e : answers.Good ≡ answers.Check why = p.answer_is in cc)
  by_judged (Ok done) judged p =
      judged_whole host (is_some old.drive.lists) payload cdb operation (asked host cdb payload) done
      (ap (λ (o : Option Operation). asked_by host o cdb payload) is) judged

  pub done_whole : IsStep old new before after host later cdb payload answers.Good data_in → (command operation).bytes ≤ length cdb
  done_whole (inl off) = absurd (let e : answers.Good ≡ answers.Off = off.1.is_answered.answer_is in cc)
  done_whole (inr on) = by_judged on.1.judged on.1.is_judged on.1.is_answered

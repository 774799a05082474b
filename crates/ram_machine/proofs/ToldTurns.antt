-- A command that was only told that it is not done leaves a register as it was, or without what it had: from the register alone.
use Rattle.std.specs.Prelude.{◌≡◌, ℕ, ◌==◌, ◌&&◌, ◌||◌, not, ◌⊎◌, Bool, true, false, IsTrue, MatchBool, Option, Some, None, Result, Ok, Err, List}
use Rattle.std.proofs.Common.{inl, inr, subst}
use Rattle.std.proofs.lemmas.Bool.{false≢true}
use Rattle.model_drive.specs.declared.Kind.TheVariants as kinds
use Rattle.model_sense.specs.declared.sense.Sense.{Sense}
use Rattle.model_sense.specs.declared.answer.Answer.{Answer}
use Rattle.model_sense.specs.declared.answer.Answer.TheVariants as answers
use Rattle.model_cdb.specs.declared.commands.Command.{Command}
use Rattle.model_cdb.specs.declared.commands.Command.TheVariants as commands
use Rattle.ram_machine.specs.declared.reply.Reply.{Reply}
use Rattle.ram_machine.specs.declared.reply.Reply.TheVariants as replies
use Rattle.ram_machine.specs.SectorBytes.{bytes_of_sector, is_sector_among}
use Rattle.ram_machine.specs.Register.{Value, Bytes, Register, settled, gone, left_by, is_midway, goes_through, AfterWrite, AfterFull, AfterRewrite, AfterOther, AfterCommand}
use Rattle.ram_machine.specs.OnlyTold.{tells_only, WasOnlyTold}

pub told_answer : (cdb : List ℕ) (reply : Reply) (answer : Answer) → reply ≡ replies.Command cdb answer → WasOnlyTold reply → IsTrue (tells_only answer)
told_answer cdb reply answer is told = subst WasOnlyTold is told

module _ (at : ℕ) (r after : Register) where
  abbrev pub IsSameOrGone : Type 0
  IsSameOrGone = (after ≡ r) ⊎ (after ≡ gone r)

  told_left : (answer : Answer) → IsTrue (tells_only answer) → after ≡ left_by answer r → IsSameOrGone
  told_left answers.Good told is = absurd (false≢true told)
  told_left (answers.Check why) told is = inl is
  told_left answers.Cut told is = absurd (false≢true told)
  told_left answers.Off told is = inl is
  told_left answers.Fault told is = absurd (false≢true told)

  either : (b : Bool) → MatchBool b IsSameOrGone (after ≡ r) → IsSameOrGone
  either true p = p
  either false is = inl is

  told_full : (answer : Answer) → IsTrue (tells_only answer) → AfterFull r answer after → IsSameOrGone
  told_full answers.Good told p = absurd (false≢true told)
  told_full (answers.Check why) told p = either (why.asc == 0x31) p
  told_full answers.Cut told p = absurd (false≢true told)
  told_full answers.Off told p = inl p
  told_full answers.Fault told p = absurd (false≢true told)

  told_rewrite : (now : Option Value) (answer : Answer) → IsTrue (tells_only answer) → AfterRewrite now r answer after → IsSameOrGone
  told_rewrite (Some value) answer told p = told_left answer told p
  told_rewrite None answer told (inl p) = told_left answer told p
  told_rewrite None answer told (inr p) = told_full answer told p

  -- a refusal in the midst of a write tells more
  midway : (bytes : List ℕ) (late is : Bool) → IsTrue (not (is || late)) → MatchBool is ((after ≡ r) ⊎ (after ≡ settled r (Bytes bytes))) (after ≡ r) → IsSameOrGone
  midway bytes late true told p = absurd (false≢true told)
  midway bytes late false told p = inl p

  told_write : (through : Bool) (bytes : List ℕ) (answer : Answer) → IsTrue (tells_only answer) → AfterWrite r through bytes answer after → IsSameOrGone
  told_write through bytes answers.Good told p = absurd (false≢true told)
  told_write true bytes (answers.Check why) told p = midway bytes (why.asc == 0x31 && why.ascq == 0x01) (is_midway why) told p
  told_write false bytes (answers.Check why) told p = inl p
  told_write through bytes answers.Cut told p = absurd (false≢true told)
  told_write true bytes answers.Off told p = inl p
  told_write false bytes answers.Off told p = inl p
  told_write through bytes answers.Fault told p = absurd (false≢true told)

  told_among : (among through : Bool) (bytes : List ℕ) (answer : Answer) → IsTrue (tells_only answer) → MatchBool among (AfterWrite r through bytes answer after) (after ≡ left_by answer r) → IsSameOrGone
  told_among true through bytes answer told p = told_write through bytes answer told p
  told_among false through bytes answer told p = told_left answer told p

  told_other : (asked : Command) (payload data_in : List ℕ) (answer : Answer) → IsTrue (tells_only answer) → AfterOther at r asked payload data_in answer after → IsSameOrGone
  told_other asked payload data_in answers.Good told p = absurd (false≢true told)
  told_other asked payload data_in (answers.Check why) told p = inl p
  told_other asked payload data_in answers.Cut told p = absurd (false≢true told)
  told_other asked payload data_in answers.Off told p = inl p
  told_other asked payload data_in answers.Fault told p = absurd (false≢true told)

  pub told_turn : (d : Result Command Sense) (payload data_in : List ℕ) (answer : Answer) → IsTrue (tells_only answer) → AfterCommand at r d payload data_in answer after → IsSameOrGone
  told_turn (Err why) payload data_in answer told p = told_left answer told p.1
  told_turn (Ok (commands.Write lba n fua)) payload data_in answer told p = told_among (is_sector_among lba n at) (goes_through r lba n fua) (bytes_of_sector lba payload at) answer told p
  told_turn (Ok (commands.Format (kinds.Full drop_sdl))) payload data_in answer told p = told_full answer told p
  told_turn (Ok (commands.Format kinds.Rewrite)) payload data_in answer told p = told_rewrite r.now answer told p
  told_turn (Ok asked) payload data_in answer told p = told_other asked payload data_in answer told p

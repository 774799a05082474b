-- What a register has settled it shows, over all lines that do not write the sector: from the register alone.
use Rattle.std.specs.Prelude.{◌≡◌, ℕ, ◌+◌, ◌*◌, ◌<◌, ◌≤◌, ◌⊎◌, Bool, true, false, ◌&&◌, not, nat_lt, if◌then◌else◌, MatchBool, Option, None, Some, Result, Ok, Err, List, [], ◌∷◌, length}
use Rattle.std.specs.List.{Contains}
use Rattle.std.proofs.Common.{refl, sym, ap, ◌∙◌, inl, inr, subst}
use Rattle.std.proofs.lemmas.Bool.{lt-ltb, le-ltb, true≢false}
use Rattle.std.proofs.lemmas.List.Elements.{All-head, All-tail}
use Rattle.model_modes.specs.ParameterLists.{caches_after}
use Rattle.model_cache.proofs.Members.{Contains-none, Contains-cases}
use Rattle.model_sense.specs.declared.sense.Sense.{Sense}
use Rattle.model_sense.specs.declared.answer.Answer.{Answer}
use Rattle.model_sense.specs.declared.answer.Answer.TheVariants as answers
use Rattle.model_cdb.specs.declared.commands.Command.{Command}
use Rattle.model_cdb.specs.declared.commands.Command.TheVariants as commands
use Rattle.model_cdb.specs.Decoding.{decoded}
use Rattle.ram_report.specs.declared.printing.Event.TheVariants as events
use Rattle.ram_text.specs.declared.script.Line.{Line}
use Rattle.ram_text.specs.declared.script.Line.TheVariants as lines
use Rattle.ram_machine.specs.declared.reply.Reply.{Reply}
use Rattle.ram_machine.specs.declared.reply.Reply.TheVariants as replies
use Rattle.ram_machine.specs.Answered.{AnsweredStep}
use Rattle.ram_machine.specs.Acknowledged.{WasDone, LeavesAsDecoded, LeavesSector, LeaveSector}
use Rattle.ram_machine.specs.SectorBytes.{bytes_of_sector, is_sector_among}
use Rattle.ram_machine.specs.OnlyTold.{WasOnlyTold, UnlessTold}
use Rattle.ram_machine.proofs.Registers.{HasAmong, now_them, by_line}
use Rattle.ram_machine.specs.Register.{synchronised_if, Value, Bytes, Register, settled, gone, powered, synchronised, left_by, left_in, goes_through, AfterWrite, AfterGood, AfterOther, AfterCommand, AfterPower, AfterPress, Turn, Turns, HasSettled}

-- What is settled is all that the register has, and all that it may have.
module _ (bytes : List ℕ) where
  abbrev Them : Value → Type 0
  Them value = value ≡ Bytes bytes

  them : (value : Value) → Them value → Them value
  them value is = is

  among : (r : Register) → HasSettled r bytes → HasAmong Them Them r
  among r has = record { shows = has.shows; falls = has.falls }

  settled_so : (r : Register) → HasAmong Them Them r → HasSettled r bytes
  settled_so r has = record { shows = has.shows; falls = has.falls }

module _ (at : ℕ) (bytes : List ℕ) where
  pub stays_settled : (r after : Register) (answered : List AnsweredStep) → Turns at r answered after → LeaveSector at answered → HasSettled r bytes → HasSettled after bytes
  stays_settled r after [] turns leaves has = subst (λ (q : Register). HasSettled q bytes) (sym turns) has
  stays_settled r after (event ∷ answered) turns leaves has =
      settled_so bytes after (by_line at (Them bytes) (Them bytes) (them bytes) (them bytes) turns.0 after event.line event.payload event.reply event.data_in turns.2
      (All-head (UnlessTold (LeavesSector at)) event answered leaves)
      (among bytes turns.0 (stays_settled r turns.0 answered turns.1 (All-tail (UnlessTold (LeavesSector at)) event answered leaves) has)))

-- what a command did that was answered Good
good_turn : (at : ℕ) (r after : Register) (event : AnsweredStep) (asked : Command) → Turn at r event.line event.payload event.reply event.data_in after → WasDone event asked
    → AfterCommand at r (Ok asked) event.payload event.data_in answers.Good after
good_turn at r after event asked turn done =
    let by_line = subst (λ (l : Line). Turn at r l event.payload event.reply event.data_in after) done.line_is turn in
    let same : by_line.0 ≡ answers.Good = one_answer done.cdb by_line.0 event.reply by_line.1 done.reply_is in
    subst (λ (a : Answer). AfterCommand at r (Ok asked) event.payload event.data_in a after) same
    (subst (λ (d : Result Command Sense). AfterCommand at r d event.payload event.data_in by_line.0 after) done.asks by_line.2)
  where
    one_answer : (cdb : List ℕ) (answer : Answer) (reply : Reply) → reply ≡ replies.Command cdb answer → reply ≡ replies.Command cdb answers.Good → answer ≡ answers.Good
    one_answer cdb answer reply is also = let same : replies.Command cdb answer ≡ replies.Command cdb answers.Good = sym is ∙ also in cc

-- a read shows what is settled
pub shows_settled : (at : ℕ) (r after : Register) (event : AnsweredStep) (lba n : ℕ) (bytes : List ℕ) → Turn at r event.line event.payload event.reply event.data_in after → WasDone event (commands.Read lba n)
    → is_sector_among lba n at ≡ true → HasSettled r bytes → bytes_of_sector lba event.data_in at ≡ bytes
shows_settled at r after event lba n bytes turn done among has =
    let good = good_turn at r after event (commands.Read lba n) turn done in
    same_bytes (bytes_of_sector lba event.data_in at) bytes (has.shows (Bytes (bytes_of_sector lba event.data_in at)) (good.0.shown among))
  where
    same_bytes : (a b : List ℕ) → Bytes a ≡ Bytes b → a ≡ b
    same_bytes a b is = cc

-- and gives as many sectors as were asked for
pub read_whole : (at : ℕ) (r after : Register) (event : AnsweredStep) (lba n : ℕ) → Turn at r event.line event.payload event.reply event.data_in after → WasDone event (commands.Read lba n) → length event.data_in ≡ 2048 * n
read_whole at r after event lba n turn done = let good = good_turn at r after event (commands.Read lba n) turn done in good.0.whole

-- a write through the cache settles what it sent
through_case : (r after : Register) (among through : Bool) (bytes : List ℕ) → among ≡ true → through ≡ true → MatchBool among (AfterWrite r through bytes answers.Good after) (after ≡ r) → after ≡ settled r (Bytes bytes)
through_case r after true true bytes is also p = p
through_case r after true false bytes is also p = absurd (true≢false (sym also))
through_case r after false through bytes is also p = absurd (true≢false (sym is))

pub settles : (at : ℕ) (r after : Register) (event : AnsweredStep) (lba n : ℕ) (fua : Bool) → Turn at r event.line event.payload event.reply event.data_in after → WasDone event (commands.Write lba n fua)
    → is_sector_among lba n at ≡ true → goes_through r lba n fua ≡ true → HasSettled after (bytes_of_sector lba event.payload at)
settles at r after event lba n fua turn done among goes =
    let sent : List ℕ = bytes_of_sector lba event.payload at in
    let good = good_turn at r after event (commands.Write lba n fua) turn done in
    subst (λ (q : Register). HasSettled q sent) (sym (through_case r after (is_sector_among lba n at) (goes_through r lba n fua) sent among goes good)) (settled_so sent (settled r (Bytes sent)) (now_them at (Them sent) (Them sent) (them sent) (Bytes sent) r.caches refl))

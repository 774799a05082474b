-- What a register has now, and what it may have after a loss of power, is among some values: over all lines that do not write the sector.
use Rattle.std.specs.Prelude.{◌≡◌, ℕ, ◌+◌, ◌<◌, ◌≤◌, ◌⊎◌, Bool, true, false, ◌&&◌, not, nat_lt, if◌then◌else◌, MatchBool, Option, None, Some, Result, Ok, Err, List, [], ◌∷◌}
use Rattle.std.specs.List.{Contains}
use Rattle.std.proofs.Common.{refl, sym, ap, ◌∙◌, inl, inr, subst}
use Rattle.std.proofs.lemmas.Bool.{lt-ltb, le-ltb, true≢false}
use Rattle.model_modes.specs.ParameterLists.{caches_after}
use Rattle.model_cache.proofs.Members.{Contains-none, Contains-cases}
use Rattle.model_sense.specs.declared.sense.Sense.{Sense}
use Rattle.model_sense.specs.declared.answer.Answer.{Answer}
use Rattle.model_sense.specs.declared.answer.Answer.TheVariants as answers
use Rattle.model_cdb.specs.declared.commands.Command.{Command}
use Rattle.model_cdb.specs.declared.commands.Command.TheVariants as commands
use Rattle.model_cdb.specs.Decoding.{decoded}
use Rattle.ram_report.specs.declared.printing.Event.TheVariants as events
use Rattle.ram_text.specs.declared.script.Line.{Line}
use Rattle.ram_text.specs.declared.script.Line.TheVariants as lines
use Rattle.ram_machine.specs.declared.reply.Reply.{Reply}
use Rattle.ram_machine.specs.declared.reply.Reply.TheVariants as replies
use Rattle.ram_machine.specs.Acknowledged.{LeavesAsDecoded, LeavesSector}
use Rattle.ram_machine.specs.SectorBytes.{bytes_of_sector, is_sector_among}
use Rattle.ram_machine.specs.OnlyTold.{WasOnlyTold}
use Rattle.ram_machine.proofs.ToldTurns.{told_answer, told_turn}
use Rattle.ram_machine.specs.Register.{synchronised_if, Value, Register, gone, powered, synchronised, left_by, left_in, goes_through, AfterWrite, AfterGood, AfterOther, AfterCommand, AfterPower, AfterPress, Turn}

-- what it has now is one of some values, and what it may have one of others
pub record HasAmong (Now Falls : Value → Type 0) (r : Register) : Type 0 where
  pub shows : (found : Value) → r.now ≡ Some found → Now found
  pub falls : (found : Value) → Contains r.falls found → Falls found

module _ (at : ℕ) (Now Falls : Value → Type 0) (settle : (v : Value) → Now v → Falls v) where
  abbrev pub Has : Register → Type 0
  Has r = HasAmong Now Falls r

  is_gone : (r : Register) → Has r → Has (gone r)
  is_gone r has = record { shows = λ found is. absurd (let clash : None ≡ Some found = is in cc); falls = has.falls }

  pub carried : (r after : Register) → after ≡ r → Has r → Has after
  carried r after is has = subst Has (sym is) has

  by_answer : (r : Register) (answer : Answer) → Has r → Has (left_by answer r)
  by_answer r answers.Cut has = is_gone r has
  by_answer r answers.Good has = has
  by_answer r (answers.Check why) has = has
  by_answer r answers.Off has = has
  by_answer r answers.Fault has = has

  by_reply : (r : Register) (reply : Reply) → Has r → Has (left_in reply r)
  by_reply r replies.Nothing has = has
  by_reply r (replies.Command cdb answer) has = has
  by_reply r (replies.Event events.Cut) has = is_gone r has
  by_reply r (replies.Event events.Pressed) has = has
  by_reply r (replies.Event events.NotPressed) has = has
  by_reply r (replies.Event (events.Ready capacity)) has = has
  by_reply r (replies.Event events.NotFormatted) has = has
  by_reply r (replies.Event events.Failed) has = has
  by_reply r (replies.Event events.NoSuchBlock) has = has
  by_reply r (replies.Event events.Armed) has = has
  by_reply r (replies.Event events.Full) has = has
  by_reply r (replies.Event events.Idle) has = has
  by_reply r (replies.Event (events.Written lba)) has = has
  by_reply r (replies.Event (events.NoSpare lba)) has = has
  by_reply r (replies.Event events.NoUpdate) has = has
  by_reply r (replies.Event events.Off) has = has
  by_reply r (replies.Event (events.Readable lba)) has = has
  by_reply r (replies.Event (events.Unreadable lba)) has = has
  by_reply r (replies.Event (events.Found count)) has = has

  only : (one : Value) → Falls one → (found : Value) → Contains (one ∷ []) found → Falls found
  only one is found there = elim (Contains-cases one [] found there) [ inl same ↦ subst Falls same is | inr none ↦ absurd (Contains-none found none) ]

  pub now_them : (now : Value) (caches : Bool) → Now now → Has (record { now = Some now; falls = now ∷ []; caches = caches })
  now_them now caches is = record { shows = λ found some. (let same : now ≡ found = cc in subst Now same is); falls = only now (settle now is) }

  by_sync : (r : Register) (now : Option Value) → r.now ≡ now → Has r → Has (synchronised now r)
  by_sync r None is has = has
  by_sync r (Some now) is has = now_them now r.caches (has.shows now is)

  by_sync_if : (r : Register) (first : Bool) → Has r → Has (synchronised_if first r)
  by_sync_if r true has = by_sync r r.now refl has
  by_sync_if r false has = has

  by_test : (r after : Register) (b : Bool) → after ≡ (if b then r else gone r) → Has r → Has after
  by_test r after true is has = carried r after is has
  by_test r after false is has = carried (gone r) after is (is_gone r has)

  off : (r after : Register) → after ≡ powered r None r.falls → Has r → Has after
  off r after is has = carried (powered r None r.falls) after is (record { shows = λ found some. absurd (let clash : None ≡ Some found = some in cc); falls = has.falls })

  by_power : (return : (v : Value) → Falls v → Now v) (r after : Register) (reply : Reply) → AfterPower at r reply after → Has r → Has after
  by_power return r after (replies.Event (events.Ready capacity)) is has = found (nat_lt at capacity) is
    where
      found : (b : Bool) → MatchBool b ((one : Value) × Contains r.falls one × (after ≡ powered r (Some one) (one ∷ []))) (after ≡ powered r None r.falls) → Has after
      found true (one, there, same) = carried (powered r (Some one) (one ∷ [])) after same (now_them one false (return one (has.falls one there)))
      found false same = off r after same has
  by_power return r after _ is has = off r after is has

  by_press : (r after : Register) (reply : Reply) → AfterPress r reply after → Has r → Has after
  by_press r after (replies.Event events.Pressed) is has =
      carried (powered r None []) after is (record { shows = λ found some. absurd (let clash : None ≡ Some found = some in cc); falls = λ found none. absurd (Contains-none found none) })
  by_press r after _ is has = carried r after is has

  -- a command
  by_good : (r after : Register) (asked : Command) (payload data_in : List ℕ) → AfterGood at r asked payload data_in after → Has r → Has after
  by_good r after (commands.Read lba n) payload data_in is has = carried r after is.1 has
  by_good r after commands.Synchronize payload data_in is has = carried (synchronised r.now r) after is (by_sync r r.now refl has)
  by_good r after (commands.Expand sectors) payload data_in is has = by_test r after (nat_lt at sectors) is has
  by_good r after (commands.StartStop start eject) payload data_in is has = carried (synchronised_if (eject && not start) r) after is (by_sync_if r (eject && not start) has)
  by_good r after commands.ModeSelect payload data_in is has =
      let first = by_sync_if r (r.caches && not (caches_after payload r.caches)) has in
      carried (record (synchronised_if (r.caches && not (caches_after payload r.caches)) r) { caches = caches_after payload r.caches }) after is (record { shows = first.shows; falls = first.falls })
  by_good r after _ payload data_in is has = carried r after is has

  by_other : (r after : Register) (asked : Command) (payload data_in : List ℕ) (answer : Answer) → AfterOther at r asked payload data_in answer after → Has r → Has after
  by_other r after asked payload data_in answers.Good is has = by_good r after asked payload data_in is has
  by_other r after asked payload data_in (answers.Check why) is has = carried r after is has
  by_other r after asked payload data_in answers.Cut is has = carried (gone r) after is (is_gone r has)
  by_other r after asked payload data_in answers.Off is has = carried r after is has
  by_other r after asked payload data_in answers.Fault is has = carried r after is has

  and_false : (b : Bool) → (b && false) ≡ false
  and_false true = refl
  and_false false = refl

  pub apart_false : (lba n : ℕ) → (at < lba) ⊎ (lba + n ≤ at) → is_sector_among lba n at ≡ false
  apart_false lba n (inl before) = ap (λ (b : Bool). not b && nat_lt at (lba + n)) (lt-ltb at lba before)
  apart_false lba n (inr past) = ap (λ (b : Bool). not (nat_lt at lba) && b) (le-ltb at (lba + n) past) ∙ and_false (not (nat_lt at lba))

  by_among : (r after : Register) (answer : Answer) (Written : Type 0) (b : Bool) → b ≡ false → MatchBool b Written (after ≡ left_by answer r) → Has r → Has after
  by_among r after answer Written true is p has = absurd (true≢false is)
  by_among r after answer Written false is p has = carried (left_by answer r) after p (by_answer r answer has)

  pub by_command : (r after : Register) (d : Result Command Sense) (payload data_in : List ℕ) (answer : Answer) → LeavesAsDecoded at d → AfterCommand at r d payload data_in answer after → Has r → Has after
  by_command r after (Err why) payload data_in answer leaves is has = carried (left_by answer r) after is.1 (by_answer r answer has)
  by_command r after (Ok (commands.Write lba n fua)) payload data_in answer leaves is has =
      by_among r after answer (AfterWrite r (goes_through r lba n fua) (bytes_of_sector lba payload at) answer after) (is_sector_among lba n at) (apart_false lba n leaves) is has
  by_command r after (Ok (commands.Format kind)) payload data_in answer leaves is has = absurd leaves
  by_command r after (Ok commands.TestUnitReady) payload data_in answer leaves is has = by_other r after commands.TestUnitReady payload data_in answer is has
  by_command r after (Ok (commands.RequestSense alloc)) payload data_in answer leaves is has = by_other r after (commands.RequestSense alloc) payload data_in answer is has
  by_command r after (Ok (commands.Expand sectors)) payload data_in answer leaves is has = by_other r after (commands.Expand sectors) payload data_in answer is has
  by_command r after (Ok (commands.Inquiry vital alloc)) payload data_in answer leaves is has = by_other r after (commands.Inquiry vital alloc) payload data_in answer is has
  by_command r after (Ok (commands.StartStop start eject)) payload data_in answer leaves is has = by_other r after (commands.StartStop start eject) payload data_in answer is has
  by_command r after (Ok (commands.Prevent on)) payload data_in answer leaves is has = by_other r after (commands.Prevent on) payload data_in answer is has
  by_command r after (Ok (commands.FormatCapacities alloc)) payload data_in answer leaves is has = by_other r after (commands.FormatCapacities alloc) payload data_in answer is has
  by_command r after (Ok commands.ReadCapacity) payload data_in answer leaves is has = by_other r after commands.ReadCapacity payload data_in answer is has
  by_command r after (Ok (commands.Read lba n)) payload data_in answer leaves is has = by_other r after (commands.Read lba n) payload data_in answer is has
  by_command r after (Ok (commands.Verify lba n)) payload data_in answer leaves is has = by_other r after (commands.Verify lba n) payload data_in answer is has
  by_command r after (Ok commands.Synchronize) payload data_in answer leaves is has = by_other r after commands.Synchronize payload data_in answer is has
  by_command r after (Ok (commands.Configuration rt start alloc)) payload data_in answer leaves is has = by_other r after (commands.Configuration rt start alloc) payload data_in answer is has
  by_command r after (Ok (commands.Events media alloc)) payload data_in answer leaves is has = by_other r after (commands.Events media alloc) payload data_in answer is has
  by_command r after (Ok (commands.DiscInformation alloc)) payload data_in answer leaves is has = by_other r after (commands.DiscInformation alloc) payload data_in answer is has
  by_command r after (Ok commands.ModeSelect) payload data_in answer leaves is has = by_other r after commands.ModeSelect payload data_in answer is has
  by_command r after (Ok (commands.ModeSense short control page alloc)) payload data_in answer leaves is has = by_other r after (commands.ModeSense short control page alloc) payload data_in answer is has
  by_command r after (Ok (commands.Structure format alloc)) payload data_in answer leaves is has = by_other r after (commands.Structure format alloc) payload data_in answer is has
  by_command r after (Ok commands.Streaming) payload data_in answer leaves is has = by_other r after commands.Streaming payload data_in answer is has

  -- a line
  pub by_line : ((v : Value) → Falls v → Now v) → (r after : Register) (line : Line) (payload : List ℕ) (reply : Reply) (data_in : List ℕ) → Turn at r line payload reply data_in after → WasOnlyTold reply ⊎ LeavesSector at line payload → Has r → Has after
  by_line return r after lines.Empty payload reply data_in turn leaves has = carried (left_in reply r) after turn.1 (by_reply r reply has)
  by_line return r after (lines.Press zones scale psa) payload reply data_in turn leaves has = by_press r after reply turn.1 has
  by_line return r after lines.Power payload reply data_in turn leaves has = by_power return r after reply turn.1 has
  by_line return r after (lines.Fail block) payload reply data_in turn leaves has = carried (left_in reply r) after turn.1 (by_reply r reply has)
  by_line return r after (lines.Wear block n) payload reply data_in turn leaves has = carried (left_in reply r) after turn.1 (by_reply r reply has)
  by_line return r after (lines.Cut n fate) payload reply data_in turn leaves has = carried (left_in reply r) after turn.1 (by_reply r reply has)
  by_line return r after lines.Tick payload reply data_in turn leaves has = carried (left_in reply r) after turn.1 (by_reply r reply has)
  by_line return r after (lines.Scrub all) payload reply data_in turn leaves has = carried (left_in reply r) after turn (by_reply r reply has)
  by_line return r after (lines.Command cdb) payload reply data_in turn (inl told) has = elim (told_turn at r after (decoded cdb payload) payload data_in turn.0 (told_answer cdb reply turn.0 turn.1 told) turn.2) [
    | inl is ↦ carried r after is has
    | inr is ↦ carried (gone r) after is (is_gone r has)
  ]
  by_line return r after (lines.Command cdb) payload reply data_in turn (inr leaves) has = by_command r after (decoded cdb payload) payload data_in turn.0 leaves turn.2 has

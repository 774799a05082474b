-- What a register may show over lines: what it had at first, zeros, and what writes of the sector sent: from the register alone.
use Rattle.std.specs.Prelude.{◌&&◌, not, ◌≡◌, ℕ, ◌==◌, ◌⊎◌, Bool, true, false, IsTrue, nat_lt, if◌then◌else◌, MatchBool, Option, None, Some, Result, Ok, Err, List, [], ◌∷◌}
use Rattle.std.specs.List.{Contains}
use Rattle.std.proofs.Common.{refl, sym, ◌∙◌, inl, inr, subst}
use Rattle.model_modes.specs.ParameterLists.{caches_after}
use Rattle.model_cache.proofs.Members.{Contains-none, Contains-first, Contains-later, Contains-cases}
use Rattle.model_sense.specs.declared.sense.Sense.{Sense}
use Rattle.model_sense.specs.declared.answer.Answer.{Answer}
use Rattle.model_sense.specs.declared.answer.Answer.TheVariants as answers
use Rattle.model_cdb.specs.declared.commands.Command.{Command}
use Rattle.model_cdb.specs.declared.commands.Command.TheVariants as commands
use Rattle.model_cdb.specs.Decoding.{decoded}
use Rattle.ram_report.specs.declared.printing.Event.TheVariants as events
use Rattle.ram_text.specs.declared.script.Line.{Line}
use Rattle.ram_text.specs.declared.script.Line.TheVariants as lines
use Rattle.ram_machine.specs.declared.reply.Reply.{Reply}
use Rattle.ram_machine.specs.declared.reply.Reply.TheVariants as replies
use Rattle.ram_machine.specs.Answered.{AnsweredStep}
use Rattle.ram_machine.specs.Acknowledged.{choices_asked, choices_with, choices_after}
use Rattle.ram_machine.specs.SectorBytes.{bytes_of_sector, is_sector_among}
use Rattle.ram_machine.specs.OnlyTold.{was_only_told, WasOnlyTold}
use Rattle.ram_machine.proofs.ToldTurns.{told_answer, told_turn}
use Rattle.model_drive.specs.declared.Kind.{Kind}
use Rattle.model_drive.specs.declared.Kind.TheVariants as kinds
use Rattle.model_sectors.specs.Discs.{zeros}
use Rattle.ram_machine.specs.Register.{synchronised_if, or_else, is_midway, AfterFull, AfterRewrite, AfterFormat, Value, Bytes, Lost, bytes_held, Register, settled, gone, powered, synchronised, left_by, left_in, goes_through, AfterWrite, AfterGood, AfterOther, AfterCommand, AfterPower, AfterPress, Turn, Turns}

-- the bytes of a value are among these
abbrev pub IsIn : List (List ℕ) → Value → Type 0
IsIn choices (Bytes bytes) = Contains choices bytes
IsIn choices Lost = Unit {0}

later_in : (bytes : List ℕ) (choices : List (List ℕ)) (value : Value) → IsIn choices value → IsIn (bytes ∷ choices) value
later_in bytes choices (Bytes found) there = Contains-later bytes choices found there
later_in bytes choices Lost there = tt

first_in : (first : Value) (values : List Value) → IsIn (bytes_held (first ∷ values)) first
first_in (Bytes bytes) values = Contains-first bytes (bytes_held values)
first_in Lost values = tt

past_first : (first : Value) (values : List Value) (value : Value) → IsIn (bytes_held values) value → IsIn (bytes_held (first ∷ values)) value
past_first (Bytes bytes) values value there = later_in bytes (bytes_held values) value there
past_first Lost values value there = there

in_bytes : (values : List Value) (value : Value) → Contains values value → IsIn (bytes_held values) value
in_bytes [] value there = absurd (Contains-none value there)
in_bytes (first ∷ values) value there = elim (Contains-cases first values value there) [
  | inl is ↦ subst (IsIn (bytes_held (first ∷ values))) is (first_in first values)
  | inr more ↦ past_first first values value (in_bytes values value more)
]

module _ (at : ℕ) where
  -- what it has now, and what it may have, is one of these
  pub record Among (r : Register) (choices : List (List ℕ)) : Type 0 where
    pub zero : Contains choices (zeros 2048)
    pub shows : (found : Value) → r.now ≡ Some found → IsIn choices found
    pub falls : (found : Value) → Contains r.falls found → IsIn choices found

  carried : (choices : List (List ℕ)) (r after : Register) → after ≡ r → Among r choices → Among after choices
  carried choices r after is has = subst (λ (q : Register). Among q choices) (sym is) has

  more : (choices : List (List ℕ)) (bytes : List ℕ) (r : Register) → Among r choices → Among r (bytes ∷ choices)
  more choices bytes r has = record {
    zero = Contains-later bytes choices (zeros 2048) has.zero;
    shows = λ found is. later_in bytes choices found (has.shows found is);
    falls = λ found there. later_in bytes choices found (has.falls found there);
  }

  none_found : (P : Value → Type 0) (found : Value) → None ≡ Some found → P found
  none_found P found is = absurd (let clash : None ≡ Some found = is in cc)

  in_one : (choices : List (List ℕ)) (one : Value) → IsIn choices one → (found : Value) → Contains (one ∷ []) found → IsIn choices found
  in_one choices one has found there = elim (Contains-cases one [] found there) [ inl same ↦ subst (IsIn choices) same has | inr none ↦ absurd (Contains-none found none) ]

  some_found : (choices : List (List ℕ)) (one : Value) → IsIn choices one → (found : Value) → Some one ≡ Some found → IsIn choices found
  some_found choices one has found is = subst (IsIn choices) (let same : one ≡ found = cc in same) has

  is_gone : (choices : List (List ℕ)) (r : Register) → Among r choices → Among (gone r) choices
  is_gone choices r has = record { zero = has.zero; shows = none_found (IsIn choices); falls = has.falls }

  is_settled : (choices : List (List ℕ)) (r : Register) (value : Value) → IsIn choices value → Among r choices → Among (settled r value) choices
  is_settled choices r value there has = record { zero = has.zero; shows = some_found choices value there; falls = in_one choices value there }

  is_or_else : (choices : List (List ℕ)) (r : Register) (value : Value) → IsIn choices value → Among r choices → Among (or_else r value) choices
  is_or_else choices r value there has = record {
    zero = has.zero;
    shows = has.shows;
    falls = λ found held. elim (Contains-cases value r.falls found held) [ inl same ↦ subst (IsIn choices) same there | inr older ↦ has.falls found older ];
  }

  by_answer : (choices : List (List ℕ)) (r : Register) (answer : Answer) → Among r choices → Among (left_by answer r) choices
  by_answer choices r answers.Cut has = is_gone choices r has
  by_answer choices r answers.Good has = has
  by_answer choices r (answers.Check why) has = has
  by_answer choices r answers.Off has = has
  by_answer choices r answers.Fault has = has

  left : (choices : List (List ℕ)) (r after : Register) (answer : Answer) → after ≡ left_by answer r → Among r choices → Among after choices
  left choices r after answer is has = carried choices (left_by answer r) after is (by_answer choices r answer has)

  by_reply : (choices : List (List ℕ)) (r : Register) (reply : Reply) → Among r choices → Among (left_in reply r) choices
  by_reply choices r replies.Nothing has = has
  by_reply choices r (replies.Command cdb answer) has = has
  by_reply choices r (replies.Event events.Cut) has = is_gone choices r has
  by_reply choices r (replies.Event events.Pressed) has = has
  by_reply choices r (replies.Event events.NotPressed) has = has
  by_reply choices r (replies.Event (events.Ready capacity)) has = has
  by_reply choices r (replies.Event events.NotFormatted) has = has
  by_reply choices r (replies.Event events.Failed) has = has
  by_reply choices r (replies.Event events.NoSuchBlock) has = has
  by_reply choices r (replies.Event events.Armed) has = has
  by_reply choices r (replies.Event events.Full) has = has
  by_reply choices r (replies.Event events.Idle) has = has
  by_reply choices r (replies.Event (events.Written lba)) has = has
  by_reply choices r (replies.Event (events.NoSpare lba)) has = has
  by_reply choices r (replies.Event events.NoUpdate) has = has
  by_reply choices r (replies.Event events.Off) has = has
  by_reply choices r (replies.Event (events.Readable lba)) has = has
  by_reply choices r (replies.Event (events.Unreadable lba)) has = has
  by_reply choices r (replies.Event (events.Found count)) has = has

  off : (choices : List (List ℕ)) (r after : Register) → after ≡ powered r None r.falls → Among r choices → Among after choices
  off choices r after is has = carried choices (powered r None r.falls) after is (record { zero = has.zero; shows = none_found (IsIn choices); falls = has.falls })

  by_power : (choices : List (List ℕ)) (r after : Register) (reply : Reply) → AfterPower at r reply after → Among r choices → Among after choices
  by_power choices r after (replies.Event (events.Ready capacity)) is has = found (nat_lt at capacity) is
    where
      found : (b : Bool) → MatchBool b ((one : Value) × Contains r.falls one × (after ≡ powered r (Some one) (one ∷ []))) (after ≡ powered r None r.falls) → Among after choices
      found true (one, there, same) =
          carried choices (powered r (Some one) (one ∷ [])) after same
          (record { zero = has.zero; shows = some_found choices one (has.falls one there); falls = in_one choices one (has.falls one there) })
      found false same = off choices r after same has
  by_power choices r after _ is has = off choices r after is has

  by_press : (choices : List (List ℕ)) (r after : Register) (reply : Reply) → AfterPress r reply after → Among r choices → Among after choices
  by_press choices r after (replies.Event events.Pressed) is has =
      carried choices (powered r None []) after is (record { zero = has.zero; shows = none_found (IsIn choices); falls = λ found none. absurd (Contains-none found none) })
  by_press choices r after _ is has = carried choices r after is has

  -- a format
  by_check : (choices : List (List ℕ)) (r after : Register) (b : Bool) → MatchBool b ((after ≡ r) ⊎ (after ≡ gone r)) (after ≡ r) → Among r choices → Among after choices
  by_check choices r after true (inl is) has = carried choices r after is has
  by_check choices r after true (inr is) has = carried choices (gone r) after is (is_gone choices r has)
  by_check choices r after false is has = carried choices r after is has

  by_full : (choices : List (List ℕ)) (r after : Register) (answer : Answer) → AfterFull r answer after → Among r choices → Among after choices
  by_full choices r after answers.Good (inl is) has = carried choices (settled r (Bytes (zeros 2048))) after is (is_settled choices r (Bytes (zeros 2048)) has.zero has)
  by_full choices r after answers.Good (inr is) has =
      carried choices (gone (settled r (Bytes (zeros 2048)))) after is (is_gone choices (settled r (Bytes (zeros 2048))) (is_settled choices r (Bytes (zeros 2048)) has.zero has))
  by_full choices r after (answers.Check why) is has = by_check choices r after (why.asc == 0x31) is has
  by_full choices r after answers.Cut is has =
      carried choices (gone (or_else r (Bytes (zeros 2048)))) after is (is_gone choices (or_else r (Bytes (zeros 2048))) (is_or_else choices r (Bytes (zeros 2048)) has.zero has))
  by_full choices r after answers.Off is has = carried choices r after is has
  by_full choices r after answers.Fault is has = carried choices r after is has

  by_rewrite : (choices : List (List ℕ)) (now : Option Value) (r after : Register) (answer : Answer) → AfterRewrite now r answer after → Among r choices → Among after choices
  by_rewrite choices (Some value) r after answer is has = left choices r after answer is has
  by_rewrite choices None r after answer (inl is) has = left choices r after answer is has
  by_rewrite choices None r after answer (inr full) has = by_full choices r after answer full has

  by_format : (choices : List (List ℕ)) (kind : Kind) (r after : Register) (answer : Answer) → AfterFormat r kind answer after → Among r choices → Among after choices
  by_format choices (kinds.Full drop_sdl) r after answer full has = by_full choices r after answer full has
  by_format choices kinds.Rewrite r after answer rewrite has = by_rewrite choices r.now r after answer rewrite has

  -- a write of the sector
  by_midway : (choices : List (List ℕ)) (r after : Register) (bytes : List ℕ) (b : Bool) → MatchBool b ((after ≡ r) ⊎ (after ≡ settled r (Bytes bytes))) (after ≡ r) → Contains choices bytes → Among r choices → Among after choices
  by_midway choices r after bytes true (inl is) there has = carried choices r after is has
  by_midway choices r after bytes true (inr is) there has = carried choices (settled r (Bytes bytes)) after is (is_settled choices r (Bytes bytes) there has)
  by_midway choices r after bytes false is there has = carried choices r after is has

  by_write : (choices : List (List ℕ)) (through : Bool) (r after : Register) (bytes : List ℕ) (answer : Answer) → AfterWrite r through bytes answer after → Contains choices bytes → Among r choices → Among after choices
  by_write choices true r after bytes answers.Good is there has = carried choices (settled r (Bytes bytes)) after is (is_settled choices r (Bytes bytes) there has)
  by_write choices true r after bytes (answers.Check why) is there has = by_midway choices r after bytes (is_midway why) is there has
  by_write choices true r after bytes answers.Cut is there has = carried choices (gone (or_else r (Bytes bytes))) after is (is_gone choices (or_else r (Bytes bytes)) (is_or_else choices r (Bytes bytes) there has))
  by_write choices false r after bytes answers.Good is there has =
      carried choices (or_else (record r { now = Some (Bytes bytes) }) (Bytes bytes)) after is
      (is_or_else choices (record r { now = Some (Bytes bytes) }) (Bytes bytes) there (record { zero = has.zero; shows = some_found choices (Bytes bytes) there; falls = has.falls }))
  by_write choices false r after bytes (answers.Check why) is there has = carried choices r after is has
  by_write choices false r after bytes answers.Cut is there has = carried choices (gone r) after is (is_gone choices r has)
  by_write choices true r after bytes answers.Off is there has = carried choices r after is has
  by_write choices true r after bytes answers.Fault is there has = carried choices r after is has
  by_write choices false r after bytes answers.Off is there has = carried choices r after is has
  by_write choices false r after bytes answers.Fault is there has = carried choices r after is has

  by_among : (choices : List (List ℕ)) (among through : Bool) (r after : Register) (bytes : List ℕ) (answer : Answer) → MatchBool among (AfterWrite r through bytes answer after) (after ≡ left_by answer r) → Among r choices
      → Among after (if among then bytes ∷ choices else choices)
  by_among choices true through r after bytes answer p has = by_write (bytes ∷ choices) through r after bytes answer p (Contains-first bytes choices) (more choices bytes r has)
  by_among choices false through r after bytes answer p has = left choices r after answer p has

  -- other commands
  by_sync : (choices : List (List ℕ)) (now : Option Value) (r : Register) → r.now ≡ now → Among r choices → Among (synchronised now r) choices
  by_sync choices None r is has = has
  by_sync choices (Some value) r is has = is_settled choices r value (has.shows value is) has

  by_sync_if : (choices : List (List ℕ)) (first : Bool) (r : Register) → Among r choices → Among (synchronised_if first r) choices
  by_sync_if choices true r has = by_sync choices r.now r refl has
  by_sync_if choices false r has = has

  by_test : (choices : List (List ℕ)) (r after : Register) (b : Bool) → after ≡ (if b then r else gone r) → Among r choices → Among after choices
  by_test choices r after true is has = carried choices r after is has
  by_test choices r after false is has = carried choices (gone r) after is (is_gone choices r has)

  by_good : (choices : List (List ℕ)) (r after : Register) (asked : Command) (payload data_in : List ℕ) → AfterGood at r asked payload data_in after → Among r choices → Among after choices
  by_good choices r after (commands.Read lba n) payload data_in is has = carried choices r after is.1 has
  by_good choices r after commands.Synchronize payload data_in is has = carried choices (synchronised r.now r) after is (by_sync choices r.now r refl has)
  by_good choices r after (commands.Expand sectors) payload data_in is has = by_test choices r after (nat_lt at sectors) is has
  by_good choices r after (commands.StartStop start eject) payload data_in is has = carried choices (synchronised_if (eject && not start) r) after is (by_sync_if choices (eject && not start) r has)
  by_good choices r after commands.ModeSelect payload data_in is has =
      let first = by_sync_if choices (r.caches && not (caches_after payload r.caches)) r has in
      carried choices (record (synchronised_if (r.caches && not (caches_after payload r.caches)) r) { caches = caches_after payload r.caches }) after is
      (record { zero = first.zero; shows = first.shows; falls = first.falls })
  by_good choices r after _ payload data_in is has = carried choices r after is has

  by_other : (choices : List (List ℕ)) (r after : Register) (asked : Command) (payload data_in : List ℕ) (answer : Answer) → AfterOther at r asked payload data_in answer after → Among r choices → Among after choices
  by_other choices r after asked payload data_in answers.Good is has = by_good choices r after asked payload data_in is has
  by_other choices r after asked payload data_in (answers.Check why) is has = carried choices r after is has
  by_other choices r after asked payload data_in answers.Cut is has = carried choices (gone r) after is (is_gone choices r has)
  by_other choices r after asked payload data_in answers.Off is has = carried choices r after is has
  by_other choices r after asked payload data_in answers.Fault is has = carried choices r after is has

  by_command : (choices : List (List ℕ)) (r after : Register) (d : Result Command Sense) (payload data_in : List ℕ) (answer : Answer) → AfterCommand at r d payload data_in answer after → Among r choices
      → Among after (choices_asked at d payload choices)
  by_command choices r after (Err why) payload data_in answer is has = left choices r after answer is.1 has
  by_command choices r after (Ok (commands.Write lba n fua)) payload data_in answer is has =
      by_among choices (is_sector_among lba n at) (goes_through r lba n fua) r after (bytes_of_sector lba payload at) answer is has
  by_command choices r after (Ok (commands.Format kind)) payload data_in answer is has = by_format choices kind r after answer is has
  by_command choices r after (Ok commands.TestUnitReady) payload data_in answer is has = by_other choices r after commands.TestUnitReady payload data_in answer is has
  by_command choices r after (Ok (commands.RequestSense alloc)) payload data_in answer is has = by_other choices r after (commands.RequestSense alloc) payload data_in answer is has
  by_command choices r after (Ok (commands.Expand sectors)) payload data_in answer is has = by_other choices r after (commands.Expand sectors) payload data_in answer is has
  by_command choices r after (Ok (commands.Inquiry vital alloc)) payload data_in answer is has = by_other choices r after (commands.Inquiry vital alloc) payload data_in answer is has
  by_command choices r after (Ok (commands.StartStop start eject)) payload data_in answer is has = by_other choices r after (commands.StartStop start eject) payload data_in answer is has
  by_command choices r after (Ok (commands.Prevent on)) payload data_in answer is has = by_other choices r after (commands.Prevent on) payload data_in answer is has
  by_command choices r after (Ok (commands.FormatCapacities alloc)) payload data_in answer is has = by_other choices r after (commands.FormatCapacities alloc) payload data_in answer is has
  by_command choices r after (Ok commands.ReadCapacity) payload data_in answer is has = by_other choices r after commands.ReadCapacity payload data_in answer is has
  by_command choices r after (Ok (commands.Read lba n)) payload data_in answer is has = by_other choices r after (commands.Read lba n) payload data_in answer is has
  by_command choices r after (Ok (commands.Verify lba n)) payload data_in answer is has = by_other choices r after (commands.Verify lba n) payload data_in answer is has
  by_command choices r after (Ok commands.Synchronize) payload data_in answer is has = by_other choices r after commands.Synchronize payload data_in answer is has
  by_command choices r after (Ok (commands.Configuration rt start alloc)) payload data_in answer is has = by_other choices r after (commands.Configuration rt start alloc) payload data_in answer is has
  by_command choices r after (Ok (commands.Events media alloc)) payload data_in answer is has = by_other choices r after (commands.Events media alloc) payload data_in answer is has
  by_command choices r after (Ok (commands.DiscInformation alloc)) payload data_in answer is has = by_other choices r after (commands.DiscInformation alloc) payload data_in answer is has
  by_command choices r after (Ok commands.ModeSelect) payload data_in answer is has = by_other choices r after commands.ModeSelect payload data_in answer is has
  by_command choices r after (Ok (commands.ModeSense short control page alloc)) payload data_in answer is has = by_other choices r after (commands.ModeSense short control page alloc) payload data_in answer is has
  by_command choices r after (Ok (commands.Structure format alloc)) payload data_in answer is has = by_other choices r after (commands.Structure format alloc) payload data_in answer is has
  by_command choices r after (Ok commands.Streaming) payload data_in answer is has = by_other choices r after commands.Streaming payload data_in answer is has

  -- a line
  by_line : (choices : List (List ℕ)) (r after : Register) (line : Line) (payload : List ℕ) (reply : Reply) (data_in : List ℕ) → Turn at r line payload reply data_in after → Among r choices
      → Among after (choices_with at line payload choices)
  by_line choices r after lines.Empty payload reply data_in turn has = carried choices (left_in reply r) after turn.1 (by_reply choices r reply has)
  by_line choices r after (lines.Press zones scale psa) payload reply data_in turn has = by_press choices r after reply turn.1 has
  by_line choices r after lines.Power payload reply data_in turn has = by_power choices r after reply turn.1 has
  by_line choices r after (lines.Fail block) payload reply data_in turn has = carried choices (left_in reply r) after turn.1 (by_reply choices r reply has)
  by_line choices r after (lines.Wear block n) payload reply data_in turn has = carried choices (left_in reply r) after turn.1 (by_reply choices r reply has)
  by_line choices r after (lines.Cut n fate) payload reply data_in turn has = carried choices (left_in reply r) after turn.1 (by_reply choices r reply has)
  by_line choices r after lines.Tick payload reply data_in turn has = carried choices (left_in reply r) after turn.1 (by_reply choices r reply has)
  by_line choices r after (lines.Scrub all) payload reply data_in turn has = carried choices (left_in reply r) after turn (by_reply choices r reply has)
  by_line choices r after (lines.Command cdb) payload reply data_in turn has = by_command choices r after (decoded cdb payload) payload data_in turn.0 turn.2 has

  -- one that was only told adds nothing
  by_told : (choices : List (List ℕ)) (r after : Register) (line : Line) (payload : List ℕ) (reply : Reply) (data_in : List ℕ) → Turn at r line payload reply data_in after → WasOnlyTold reply → Among r choices
      → Among after choices
  by_told choices r after (lines.Command cdb) payload reply data_in turn told has = elim (told_turn at r after (decoded cdb payload) payload data_in turn.0 (told_answer cdb reply turn.0 turn.1 told) turn.2) [
    | inl is ↦ carried choices r after is has
    | inr is ↦ carried choices (gone r) after is (is_gone choices r has)
  ]
  by_told choices r after line payload reply data_in turn told has = by_line choices r after line payload reply data_in turn has

  by_event : (choices : List (List ℕ)) (r after : Register) (event : AnsweredStep) (told : Bool) → was_only_told event.reply ≡ told → Turn at r event.line event.payload event.reply event.data_in after → Among r choices
      → Among after (if told then choices else choices_with at event.line event.payload choices)
  by_event choices r after event true is turn has = by_told choices r after event.line event.payload event.reply event.data_in turn (subst IsTrue (sym is) refl) has
  by_event choices r after event false is turn has = by_line choices r after event.line event.payload event.reply event.data_in turn has

  by_lines : (choices : List (List ℕ)) (r after : Register) (answered : List AnsweredStep) → Turns at r answered after → Among r choices → Among after (choices_after at answered choices)
  by_lines choices r after [] turns has = carried choices r after turns has
  by_lines choices r after (event ∷ answered) turns has =
      by_event (choices_after at answered choices) turns.0 after event (was_only_told event.reply) refl turns.2 (by_lines choices r turns.0 answered turns.1 has)

  -- what it has then is zeros, one that it might have at first, or one that was sent
  pub one_of_them : (r after : Register) (answered : List AnsweredStep) (found : List ℕ) → Turns at r answered after → r.now ≡ None → after.now ≡ Some (Bytes found)
      → Contains (choices_after at answered (zeros 2048 ∷ bytes_held r.falls)) found
  one_of_them r after answered found turns none is =
      (by_lines (zeros 2048 ∷ bytes_held r.falls) r after answered turns (record {
        zero = Contains-first (zeros 2048) (bytes_held r.falls);
        shows = λ other some. none_found (IsIn (zeros 2048 ∷ bytes_held r.falls)) other (sym none ∙ some);
        falls = λ other there. later_in (zeros 2048) (bytes_held r.falls) other (in_bytes r.falls other there);
      })).shows (Bytes found) is

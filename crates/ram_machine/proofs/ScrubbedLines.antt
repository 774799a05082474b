-- What a scrub of all blocks told is what cannot be read; and a read meets nothing else.
use Rattle.std.specs.Prelude.{◌≡◌, ◌↔◌, ℕ, ◌⊎◌, ◌&&◌, not, Bool, true, false, Option, Some, None, is_some, Result, Ok, Err, List, [], ◌∷◌, length}
use Rattle.std.specs.List.{Contains, find}
use Rattle.std.proofs.Common.{refl, sym, ap, ◌∙◌, inl, inr, subst, arith}
use Rattle.model_commands.specs.declared.Operation.{Operation}
use Rattle.model_commands.specs.Commands.{operation_of}
use Rattle.model_sectors.specs.Requests.{block_with}
use Rattle.model_sectors.specs.declared.ReadOut.{ReadOut}
use Rattle.model_sectors.specs.declared.ReadOut.TheVariants as reads
use Rattle.model_cache.specs.Values.{Contents}
use Rattle.model_cache.specs.Shown.{CacheShown}
use Rattle.model_cache.specs.Causes.{CacheReadCause}
use Rattle.model_scrub.specs.declared.ends.PassEnd.{PassEnd}
use Rattle.model_scrub.specs.declared.ends.PassEnd.TheVariants as passes
use Rattle.model_scrub.specs.Asks.{PassRule, AreUnreadNow}
use Rattle.model_scrub.proofs.Passes.{pass_finds}
use Rattle.model_scrub.proofs.Meeting.{read_meets, read_unarmed}
use Rattle.model_sense.specs.Sense.{sense, sense_at}
use Rattle.model_sense.specs.declared.sense.Sense.{Sense}
use Rattle.model_sense.specs.declared.answer.Answer.{Answer}
use Rattle.model_sense.specs.declared.answer.Answer.TheVariants as answers
use Rattle.model_cdb.specs.declared.commands.Command.{Command}
use Rattle.model_cdb.specs.declared.commands.Command.TheVariants as commands
use Rattle.model_cdb.specs.Decoding.{refusal, unless, decoded_as, decoded_by, decoded}
use Rattle.model_target.specs.declared.host.Host.{Host}
use Rattle.model_target.specs.Host.{is_told}
use Rattle.model_target.specs.Judging.{asked_in, asked_by, asked, ejects, needs_disc, needs_format, IsJudgedBy, IsJudged}
use Rattle.model_target.specs.Steps.{read_answer, IsDone, IsAnsweredBy, IsStep as ExecutesTo}
use Rattle.ram_report.specs.declared.printing.Event.TheVariants as events
use Rattle.ram_text.specs.declared.script.Line.{Line}
use Rattle.ram_text.specs.declared.script.Line.TheVariants as lines
use Rattle.ram_machine.specs.declared.reply.Reply.{Reply}
use Rattle.ram_machine.specs.declared.reply.Reply.TheVariants as replies
use Rattle.ram_machine.specs.declared.stopped.Stopped.TheVariants as stopped
use Rattle.ram_machine.specs.Replies.{pass_outcome, event}
use Rattle.ram_machine.specs.States.{State, Served, Unopened, Disc}
use Rattle.ram_machine.specs.LineSteps.{DiscStep, OnDisc, Step}
use Rattle.ram_machine.specs.Runs.{IsStep}
use Rattle.ram_machine.specs.Answered.{AnsweredStep}
use Rattle.ram_machine.specs.Scrubs.{ToldFound, WasToldUnreadable, IsUnreadableNow, HasNoArms}
use Rattle.ram_machine.proofs.Decoded.{asks_for, same_asked}
use Rattle.ram_machine.proofs.NoSpares.{checked_outcome}
use Rattle.ram_machine.proofs.SoundChains.{contents_known}

-- ---- what a scrub told

-- a pass that tells a list is done
told_done : (end : PassEnd) (count told : ℕ) → event (events.Found told) ≡ pass_outcome end count → (end ≡ passes.Done) × (told ≡ count)
told_done passes.Done count told is = (refl, let e : events.Found told ≡ events.Found count = cc in cc)
told_done passes.NotFormatted count told is = absurd cc
told_done passes.Cut count told is = absurd cc
told_done passes.Off count told is = absurd cc
told_done passes.Fault count told is = absurd cc

-- these blocks, n, are just those that cannot be read
pub record TellsUnreadable (t : State) (found : List ℕ) (count : ℕ) : Type 0 where
  pub are : (i : ℕ) → Contains found i ↔ IsUnreadableNow t i
  pub number : count ≡ length found

on_disc : (s t : Served) (payload data_in : List ℕ) (count : ℕ) → DiscStep s t (lines.Scrub true) payload (event (events.Found count)) data_in → TellsUnreadable (Disc t) data_in count
on_disc s t payload data_in count step =
    let end = step.scrubber.0 in
    let told = told_done end (length t.scrub.found) count step.scrubber.2 in
    let rule : PassRule s.disc.shown t.disc.shown s.scrub passes.Done t.scrub = subst (λ (e : PassEnd). PassRule s.disc.shown t.disc.shown s.scrub e t.scrub) told.0 step.scrubber.1 in
    let unread : AreUnreadNow t.disc.shown.drive t.scrub.found =
    pass_finds s.disc.shown t.disc.shown s.scrub t.scrub (contents_known s.disc.shown s.disc.contents s.disc.stands) s.disc.sound rule in
    let same : data_in ≡ t.scrub.found = step.scrubber.3 in
    record { are = subst (λ (d : List ℕ). (i : ℕ) → Contains d i ↔ IsUnreadableNow (Disc t) i) (sym same) unread; number = told.1 ∙ ap length (sym same) }

by_step : (s t : State) (payload data_in : List ℕ) (count : ℕ) → Step s (lines.Scrub true) payload (event (events.Found count)) data_in t → TellsUnreadable t data_in count
by_step (Unopened image) t payload data_in count step = absurd (let clash : event (events.Found count) ≡ Err stopped.NotADisc = step.0 in cc)
by_step (Disc s) (Unopened image) payload data_in count step = absurd step
by_step (Disc s) (Disc t) payload data_in count step = on_disc s t payload data_in count step

pub tells_unreadable : (s t : State) (scrub : AnsweredStep) (count : ℕ) → IsStep s scrub t → ToldFound scrub count → TellsUnreadable t scrub.data_in count
tells_unreadable s t scrub count step told =
    by_step s t scrub.payload scrub.data_in count
    (subst (λ (l : Line). Step s l scrub.payload (event (events.Found count)) scrub.data_in t) told.line_is
    (subst (λ (r : Reply). Step s scrub.line scrub.payload (Ok r) scrub.data_in t) told.reply_is step))

-- ---- a read that met a block

-- a command that asks for something is refused without a sector
module _ (host : Host) (formatted : Bool) (payload : List ℕ) (lba n : ℕ) (why : Sense) where
  of_three : (a b c : Bool) → Err why ≡ unless (find (λ r. r.applies) (refusal a (sense 0x5 0x53 0x02) ∷ refusal b (sense 0x2 0x3a 0x00) ∷ refusal c (sense 0x3 0x31 0x00) ∷ [])) (commands.Read lba n)
      → why.info ≡ None
  of_three true b c is = let e : why ≡ sense 0x5 0x53 0x02 = cc in ap (λ (x : Sense). x.info) e
  of_three false true c is = let e : why ≡ sense 0x2 0x3a 0x00 = cc in ap (λ (x : Sense). x.info) e
  of_three false false true is = let e : why ≡ sense 0x3 0x31 0x00 = cc in ap (λ (x : Sense). x.info) e
  of_three false false false is = absurd cc

  judged_unnamed : (wanted : Result Command Sense) → (wanted ≡ Ok (commands.Read lba n)) ⊎ (wanted ≡ Err (sense 0x6 0x29 0x00)) → IsJudgedBy host formatted payload wanted (Err why) → why.info ≡ None
  judged_unnamed wanted (inl asks) judged =
      of_three (host.prevented && ejects (commands.Read lba n)) (host.out && needs_disc (commands.Read lba n)) (needs_format (commands.Read lba n) && not formatted) (subst (λ (w : Result Command Sense). IsJudgedBy host formatted payload w (Err why)) asks judged)
  judged_unnamed wanted (inr tells) judged =
      let is : Err why ≡ Err (sense 0x6 0x29 0x00) = subst (λ (w : Result Command Sense). IsJudgedBy host formatted payload w (Err why)) tells judged in
      let e : why ≡ sense 0x6 0x29 0x00 = cc in ap (λ (x : Sense). x.info) e

  in_told : (told : Bool) (operation : Operation) (cdb : List ℕ) → decoded_as operation cdb payload ≡ Ok (commands.Read lba n)
      → (asked_in told operation cdb payload ≡ Ok (commands.Read lba n)) ⊎ (asked_in told operation cdb payload ≡ Err (sense 0x6 0x29 0x00))
  in_told true operation cdb asks = inr refl
  in_told false operation cdb asks = inl asks

  by_operation : (operation : Option Operation) (cdb : List ℕ) → decoded_by operation cdb payload ≡ Ok (commands.Read lba n)
      → (asked_by host operation cdb payload ≡ Ok (commands.Read lba n)) ⊎ (asked_by host operation cdb payload ≡ Err (sense 0x6 0x29 0x00))
  by_operation None cdb asks = absurd cc
  by_operation (Some operation) cdb asks = in_told (is_told host operation) operation cdb asks

  refused_unnamed : (cdb : List ℕ) → decoded cdb payload ≡ Ok (commands.Read lba n) → IsJudged host formatted cdb payload (Err why) → why.info ≡ None
  refused_unnamed cdb asks judged = judged_unnamed (asked host cdb payload) (by_operation (operation_of cdb) cdb asks) judged

-- the answer names the block that was met
pub record Unread (old new : CacheShown) (lba n named : ℕ) : Type 0 where
  pub block : ℕ
  pub cause : CacheReadCause old new lba n (reads.Unread named block)

unread_answer : (old new : CacheShown) (lba n named : ℕ) (out : ReadOut) → CacheReadCause old new lba n out → answers.Check (sense_at 0x3 0x11 0x00 named) ≡ read_answer out → Unread old new lba n named
unread_answer old new lba n named reads.Good cause is = absurd cc
unread_answer old new lba n named reads.NotFormatted cause is = absurd (let e : sense_at 0x3 0x11 0x00 named ≡ sense 0x3 0x31 0x00 = cc in let code : 0x11 ≡ 0x31 = ap (λ (x : Sense). x.asc) e in omega (arith, code))
unread_answer old new lba n named (reads.Range known) cause is = absurd (let e : sense_at 0x3 0x11 0x00 named ≡ sense 0x5 0x21 0x00 = cc in let code : 0x11 ≡ 0x21 = ap (λ (x : Sense). x.asc) e in omega (arith, code))
unread_answer old new lba n named (reads.Unread met block) cause is =
    let e : sense_at 0x3 0x11 0x00 named ≡ sense_at 0x3 0x11 0x00 met = cc in
    let info : Some named ≡ Some met = ap (λ (x : Sense). x.info) e in
    let same : met ≡ named = cc in
    record { block = block; cause = subst (λ (m : ℕ). CacheReadCause old new lba n (reads.Unread m block)) same cause }
unread_answer old new lba n named reads.Cut cause is = absurd cc
unread_answer old new lba n named reads.Off cause is = absurd cc
unread_answer old new lba n named reads.Fault cause is = absurd cc

module _ (old new : CacheShown) (before after : Contents → Type 0) (host later : Host) (cdb payload data_in : List ℕ) (lba n named : ℕ) (asks : decoded cdb payload ≡ Ok (commands.Read lba n)) where
  by_judged : (formatted : Bool) (judged : Result Command Sense) → IsJudged host formatted cdb payload judged
      → IsAnsweredBy old new before after host payload judged (answers.Check (sense_at 0x3 0x11 0x00 named)) data_in → Unread old new lba n named
  by_judged formatted (Err why) is p =
      absurd (let e : answers.Check (sense_at 0x3 0x11 0x00 named) ≡ answers.Check why = p.answer_is in
      let same : sense_at 0x3 0x11 0x00 named ≡ why = cc in
      let none : why.info ≡ None = refused_unnamed host formatted payload lba n why cdb asks is in
      let clash : Some named ≡ None = ap (λ (x : Sense). x.info) same ∙ none in cc)
  by_judged formatted (Ok command) is p =
      let done = subst (λ (c : Command). IsDone old new before after host payload c (answers.Check (sense_at 0x3 0x11 0x00 named)) data_in)
      (same_asked command (commands.Read lba n) (decoded cdb payload) (asks_for host formatted cdb payload command is) asks) p in
      unread_answer old new lba n named done.out done.cause done.answer_is

  pub executed : ExecutesTo old new before after host later cdb payload (answers.Check (sense_at 0x3 0x11 0x00 named)) data_in → Unread old new lba n named
  executed (inl off) = absurd (let e : answers.Check (sense_at 0x3 0x11 0x00 named) ≡ answers.Off = off.1.is_answered.answer_is in cc)
  executed (inr on) = by_judged (is_some old.drive.lists) on.1.judged on.1.is_judged on.1.is_answered

module _ (found : List ℕ) (cdb payload data_in : List ℕ) (lba n named : ℕ) (asks : decoded cdb payload ≡ Ok (commands.Read lba n)) where
  meets_on : (t u : State) → OnDisc t (lines.Command cdb) payload (Ok (replies.Command cdb (answers.Check (sense_at 0x3 0x11 0x00 named)))) data_in u
      → ((i : ℕ) → Contains found i ↔ IsUnreadableNow t i) → HasNoArms t → Contains found (block_with named)
  meets_on (Unopened image) u step are none = absurd none
  meets_on (Disc t) (Unopened image) step are none = absurd step
  meets_on (Disc t) (Disc u) step are none =
      let answer : step.rule.answer ≡ answers.Check (sense_at 0x3 0x11 0x00 named) = checked_outcome cdb (sense_at 0x3 0x11 0x00 named) step.rule.answer step.rule.outcome_is in
      let unread = executed t.disc.shown u.disc.shown (λ x. x ≡ t.disc.contents) (λ x. x ≡ u.disc.contents) t.host u.host cdb payload data_in lba n named asks
      (subst (λ (a : Answer). ExecutesTo t.disc.shown u.disc.shown (λ x. x ≡ t.disc.contents) (λ x. x ≡ u.disc.contents) t.host u.host cdb payload a data_in) answer step.rule.step) in
      read_meets t.disc.shown u.disc.shown found are (read_unarmed t.disc.shown u.disc.shown lba n named unread.block none unread.cause) lba n named unread.block unread.cause

pub meets_what_was_told : (s t u : State) (scrub read : AnsweredStep) (count lba n named : ℕ) → IsStep s scrub t → ToldFound scrub count → HasNoArms t → IsStep t read u → WasToldUnreadable read lba n named
    → Contains scrub.data_in (block_with named)
meets_what_was_told s t u scrub read count lba n named step told none then unread =
    meets_on scrub.data_in unread.cdb read.payload read.data_in lba n named unread.asks t u
    (subst (λ (l : Line). Step t l read.payload (Ok (replies.Command unread.cdb (answers.Check (sense_at 0x3 0x11 0x00 named)))) read.data_in u) unread.line_is
    (subst (λ (r : Reply). Step t read.line read.payload (Ok r) read.data_in u) unread.reply_is then))
    (tells_unreadable s t scrub count step told).are none

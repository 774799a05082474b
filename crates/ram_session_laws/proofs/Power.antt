-- Where the power was cut, no later command of a client is good: the drive is off until its session ends.
use Rattle.std.specs.Prelude.{◌≡◌, ℕ, Bool, true, false, MatchBool, is_some, Result, Ok, Err, List, [], ◌∷◌, ◌++◌}
use Rattle.std.proofs.Common.{refl, sym, inl, inr, subst}
use Rattle.model_sectors.specs.declared.ReadOut.{ReadOut}
use Rattle.model_sectors.specs.declared.ReadOut.TheVariants as reads
use Rattle.model_drive.specs.declared.WriteOut.{WriteOut}
use Rattle.model_drive.specs.declared.WriteOut.TheVariants as writes
use Rattle.model_cache.specs.declared.SyncOut.{SyncOut}
use Rattle.model_cache.specs.declared.SyncOut.TheVariants as syncs
use Rattle.model_cache.specs.Values.{Values, Contents, Has, MayHave}
use Rattle.model_cache.specs.Shown.{CacheShown, goes_into_cache}
use Rattle.model_cache.specs.Steps.{ReadContents, CachedContents, ThroughContents, SyncContents}
use Rattle.model_sense.specs.declared.sense.Sense.{Sense}
use Rattle.model_sense.specs.declared.answer.Answer.{Answer}
use Rattle.model_sense.specs.declared.answer.Answer.TheVariants as answers
use Rattle.model_cdb.specs.declared.commands.Command.{Command}
use Rattle.model_cdb.specs.declared.commands.Command.TheVariants as commands
use Rattle.model_cdb.specs.Decoding.{decoded}
use Rattle.model_nbd.specs.Commands.{Command as Part}
use Rattle.model_target.specs.declared.host.Host.{Host}
use Rattle.model_target.specs.Judging.{IsJudged}
use Rattle.model_target.specs.Steps.{WrittenContents, IsDone, IsAnsweredBy, IsStep as ExecutesTo, read_answer, write_answer, sync_answer}
use Rattle.ram_text.specs.declared.script.Line.TheVariants as lines
use Rattle.ram_machine.specs.declared.reply.Reply.{Reply}
use Rattle.ram_machine.specs.declared.reply.Reply.TheVariants as replies
use Rattle.ram_machine.specs.declared.stopped.Stopped.TheVariants as stopped
use Rattle.ram_machine.specs.Replies.{command_outcome}
use Rattle.ram_machine.specs.States.{State, Unopened, Disc}
use Rattle.ram_machine.specs.LineSteps.{OnDisc}
use Rattle.ram_machine.proofs.Decoded.{asks_for}
use Rattle.ram_session.specs.Doing.{Did, Doing, commands_in}

-- what a client's requests are done by
abbrev pub IsOfClient : Result Command Sense → Type 0
IsOfClient (Ok (commands.Read lba n)) = Unit {0}
IsOfClient (Ok (commands.Write lba n fua)) = Unit {0}
IsOfClient (Ok commands.Synchronize) = Unit {0}
IsOfClient _ = ⊥

-- the power is off
abbrev OffIn : Contents → Type 0
OffIn (Has v) = ⊥
OffIn (MayHave all) = Unit {0}

-- with the power off nothing is good, and it stays off; and a cut turns it off
record Sticks (s t : Contents) (answer : Answer) : Type 0 where
  not_good : OffIn s → ¬ (answer ≡ answers.Good)
  stays : OffIn s → OffIn t
  cuts : answer ≡ answers.Cut → OffIn t

-- of a disc that is on
on_sticks : (v : Values) (t : Contents) (answer : Answer) → (answer ≡ answers.Cut → OffIn t) → Sticks (Has v) t answer
on_sticks v t answer cuts = record { not_good = λ off. absurd off; stays = λ off. absurd off; cuts = cuts }

good_cut : ¬ (answers.Good ≡ answers.Cut)
good_cut is = cc

check_cut : (why : Sense) → ¬ (answers.Check why ≡ answers.Cut)
check_cut why is = cc

fault_cut : ¬ (answers.Fault ≡ answers.Cut)
fault_cut is = cc

off_cut : ¬ (answers.Off ≡ answers.Cut)
off_cut is = cc

off_good : ¬ (answers.Off ≡ answers.Good)
off_good is = cc

check_good : (why : Sense) → ¬ (answers.Check why ≡ answers.Good)
check_good why is = cc

off_sticks : (all : List Values) (t : Contents) → MayHave all ≡ t → Sticks (MayHave all) t answers.Off
off_sticks all t is = record { not_good = λ off. off_good; stays = λ off. subst OffIn is tt; cuts = λ cut. absurd (off_cut cut) }

now_off : (all : List Values) (t : Contents) → MayHave all ≡ t → OffIn t
now_off all t is = subst OffIn is tt

-- the same contents
same_sticks : (s t : Contents) (answer : Answer) → s ≡ t → ¬ (answer ≡ answers.Good) → ¬ (answer ≡ answers.Cut) → Sticks s t answer
same_sticks s t answer is no_good no_cut = record { not_good = λ off. no_good; stays = λ off. subst OffIn is off; cuts = λ cut. absurd (no_cut cut) }

module _ (t : Contents) where
  read_sticks : (s : Contents) (lba n : ℕ) (into : List ℕ) (out : ReadOut) → ReadContents (λ x. x ≡ t) s lba n into out → Sticks s t (read_answer out)
  read_sticks (Has v) lba n into reads.Good step = on_sticks v t answers.Good (λ is. absurd (good_cut is))
  read_sticks (Has v) lba n into reads.NotFormatted step = on_sticks v t (read_answer reads.NotFormatted) (λ is. absurd cc)
  read_sticks (Has v) lba n into (reads.Range known) step = on_sticks v t (read_answer (reads.Range known)) (λ is. absurd cc)
  read_sticks (Has v) lba n into (reads.Unread named block) step = on_sticks v t (read_answer (reads.Unread named block)) (λ is. absurd cc)
  read_sticks (Has v) lba n into reads.Cut step = on_sticks v t answers.Cut (λ is. subst OffIn step tt)
  read_sticks (Has v) lba n into reads.Off step = absurd step
  read_sticks (Has v) lba n into reads.Fault step = on_sticks v t answers.Fault (λ is. absurd (fault_cut is))
  read_sticks (MayHave all) lba n into reads.Off step = off_sticks all t step
  read_sticks (MayHave all) lba n into _ step = absurd step

  sync_sticks : (new : CacheShown) (s : Contents) (out : SyncOut) → SyncContents new (λ x. x ≡ t) s out → Sticks s t (sync_answer out)
  sync_sticks new (Has v) syncs.Good step = on_sticks v t answers.Good (λ is. absurd (good_cut is))
  sync_sticks new (Has v) syncs.NotFormatted step = on_sticks v t (sync_answer syncs.NotFormatted) (λ is. absurd cc)
  sync_sticks new (Has v) (syncs.NoSpare lba) step = on_sticks v t (sync_answer (syncs.NoSpare lba)) (λ is. absurd cc)
  sync_sticks new (Has v) (syncs.NoUpdate counter) step = on_sticks v t (sync_answer (syncs.NoUpdate counter)) (λ is. absurd cc)
  sync_sticks new (Has v) syncs.Cut step = on_sticks v t answers.Cut (λ is. now_off (v ∷ v ∷ []) t step)
  sync_sticks new (Has v) syncs.Off step = absurd step
  sync_sticks new (Has v) syncs.Fault step = on_sticks v t answers.Fault (λ is. absurd (fault_cut is))
  sync_sticks new (MayHave all) syncs.Off step = off_sticks all t step
  sync_sticks new (MayHave all) _ step = absurd step

  through_sticks : (old new : CacheShown) (s : Contents) (lba n : ℕ) (bytes : List ℕ) (out : WriteOut) → ThroughContents old new (λ x. x ≡ t) s lba n bytes out → Sticks s t (write_answer out)
  through_sticks old new (Has v) lba n bytes writes.Good step = on_sticks v t answers.Good (λ is. absurd (good_cut is))
  through_sticks old new (Has v) lba n bytes writes.NotFormatted step = on_sticks v t (write_answer writes.NotFormatted) (λ is. absurd cc)
  through_sticks old new (Has v) lba n bytes (writes.Range known) step = on_sticks v t (write_answer (writes.Range known)) (λ is. absurd cc)
  through_sticks old new (Has v) lba n bytes (writes.Unread named block) step = on_sticks v t (write_answer (writes.Unread named block)) (λ is. absurd cc)
  through_sticks old new (Has v) lba n bytes (writes.NoSpare named) step = on_sticks v t (write_answer (writes.NoSpare named)) (λ is. absurd cc)
  through_sticks old new (Has v) lba n bytes (writes.NoUpdate counter) step = on_sticks v t (write_answer (writes.NoUpdate counter)) (λ is. absurd cc)
  through_sticks old new (Has v) lba n bytes writes.Cut (inl before) = on_sticks v t answers.Cut (λ is. subst OffIn before.1 tt)
  through_sticks old new (Has v) lba n bytes writes.Cut (inr midway) = on_sticks v t answers.Cut (λ is. subst OffIn midway.either tt)
  through_sticks old new (Has v) lba n bytes writes.Off step = absurd step
  through_sticks old new (Has v) lba n bytes writes.Fault step = on_sticks v t answers.Fault (λ is. absurd (fault_cut is))
  through_sticks old new (MayHave all) lba n bytes writes.Off step = off_sticks all t step
  through_sticks old new (MayHave all) lba n bytes _ step = absurd step

  cached_sticks : (s : Contents) (lba n : ℕ) (bytes : List ℕ) (out : WriteOut) → CachedContents (λ x. x ≡ t) s lba n bytes out → Sticks s t (write_answer out)
  cached_sticks (Has v) lba n bytes writes.Good step = on_sticks v t answers.Good (λ is. absurd (good_cut is))
  cached_sticks (Has v) lba n bytes writes.NotFormatted step = on_sticks v t (write_answer writes.NotFormatted) (λ is. absurd cc)
  cached_sticks (Has v) lba n bytes (writes.Range known) step = on_sticks v t (write_answer (writes.Range known)) (λ is. absurd cc)
  cached_sticks (Has v) lba n bytes (writes.Unread named block) step = on_sticks v t (write_answer (writes.Unread named block)) (λ is. absurd cc)
  cached_sticks (Has v) lba n bytes (writes.NoSpare named) step = on_sticks v t (write_answer (writes.NoSpare named)) (λ is. absurd cc)
  cached_sticks (Has v) lba n bytes (writes.NoUpdate counter) step = on_sticks v t (write_answer (writes.NoUpdate counter)) (λ is. absurd cc)
  cached_sticks (Has v) lba n bytes writes.Cut (inl one) = on_sticks v t answers.Cut (λ is. subst OffIn one tt)
  cached_sticks (Has v) lba n bytes writes.Cut (inr two) = on_sticks v t answers.Cut (λ is. subst OffIn two tt)
  cached_sticks (Has v) lba n bytes writes.Off step = absurd step
  cached_sticks (Has v) lba n bytes writes.Fault step = on_sticks v t answers.Fault (λ is. absurd (fault_cut is))
  cached_sticks (MayHave all) lba n bytes writes.Off step = off_sticks all t step
  cached_sticks (MayHave all) lba n bytes _ step = absurd step

  write_by : (old new : CacheShown) (s : Contents) (lba n : ℕ) (bytes : List ℕ) (into_cache : Bool) (out : WriteOut)
      → MatchBool into_cache (CachedContents (λ x. x ≡ t) s lba n bytes out) (ThroughContents old new (λ x. x ≡ t) s lba n bytes out) → Sticks s t (write_answer out)
  write_by old new s lba n bytes true out step = cached_sticks s lba n bytes out step
  write_by old new s lba n bytes false out step = through_sticks old new s lba n bytes out step

  write_sticks : (old new : CacheShown) (s : Contents) (lba n : ℕ) (bytes : List ℕ) (fua : Bool) (out : WriteOut) → WrittenContents old new lba n bytes (λ x. x ≡ t) s fua out → Sticks s t (write_answer out)
  write_sticks old new s lba n bytes true out step = through_sticks old new s lba n bytes out step
  write_sticks old new s lba n bytes false out step = write_by old new s lba n bytes (goes_into_cache old lba n) out step

by_answer : (s t : Contents) (one other : Answer) → one ≡ other → Sticks s t other → Sticks s t one
by_answer s t one other is sticks = subst (Sticks s t) (sym is) sticks

module _ (old new : CacheShown) (s t : Contents) (host later : Host) (cdb payload : List ℕ) (answer : Answer) (data_in : List ℕ) where
  done_sticks : (asked : Command) → IsOfClient (Ok asked) → IsDone old new (λ x. x ≡ s) (λ x. x ≡ t) host payload asked answer data_in → Sticks s t answer
  done_sticks (commands.Read lba n) client p = by_answer s t answer (read_answer p.out) p.answer_is (read_sticks t s lba n p.bytes p.out (p.step s refl))
  done_sticks (commands.Write lba n fua) client p = by_answer s t answer (write_answer p.out) p.answer_is (write_sticks t old new s lba n payload fua p.out (p.step s refl))
  done_sticks commands.Synchronize client p = by_answer s t answer (sync_answer p.out) p.answer_is (sync_sticks t new s p.out (p.step s refl))
  done_sticks _ client p = absurd client

  judged_sticks : (formatted : Bool) (judged : Result Command Sense) → IsJudged host formatted cdb payload judged → IsAnsweredBy old new (λ x. x ≡ s) (λ x. x ≡ t) host payload judged answer data_in
      → IsOfClient (decoded cdb payload) → Sticks s t answer
  judged_sticks formatted (Err why) is p client =
      by_answer s t answer (answers.Check why) p.answer_is (same_sticks s t (answers.Check why) (p.untouched.stands s refl) (check_good why) (check_cut why))
  judged_sticks formatted (Ok asked) is p client = done_sticks asked (subst IsOfClient (asks_for host formatted cdb payload asked is) client) p

  command_sticks : ExecutesTo old new (λ x. x ≡ s) (λ x. x ≡ t) host later cdb payload answer data_in → IsOfClient (decoded cdb payload) → Sticks s t answer
  command_sticks (inl off) client =
      by_answer s t answer answers.Off off.1.is_answered.answer_is (same_sticks s t answers.Off (off.1.is_answered.untouched.stands s refl) off_good off_cut)
  command_sticks (inr on) client = judged_sticks (is_some old.drive.lists) on.1.judged on.1.is_judged on.1.is_answered client

-- a line with such a command
abbrev pub OffNow : State → Type 0
OffNow (Unopened image) = ⊥
OffNow (Disc s) = OffIn s.disc.contents

record SticksNow (s t : State) (answer : Answer) : Type 0 where
  not_good : OffNow s → ¬ (answer ≡ answers.Good)
  stays : OffNow s → OffNow t
  cuts : answer ≡ answers.Cut → OffNow t

outcome_same : (cdb : List ℕ) (answer a : Answer) → Ok (replies.Command cdb answer) ≡ command_outcome cdb a → a ≡ answer
outcome_same cdb answer answers.Good is = cc
outcome_same cdb answer (answers.Check why) is = cc
outcome_same cdb answer answers.Cut is = cc
outcome_same cdb answer answers.Off is = cc
outcome_same cdb answer answers.Fault is = absurd cc

no_disc : (reply : Reply) → Ok reply ≡ Err stopped.NotADisc → ⊥
no_disc reply is = cc

line_sticks : (s t : State) (did : Did) → OnDisc s (lines.Command did.command.cdb) did.command.payload (Ok (replies.Command did.command.cdb did.answer)) did.data_in t
    → IsOfClient (decoded did.command.cdb did.command.payload) → SticksNow s t did.answer
line_sticks (Unopened image) t did step client = absurd (no_disc (replies.Command did.command.cdb did.answer) step.0)
line_sticks (Disc s) (Unopened image) did step client = absurd step
line_sticks (Disc s) (Disc t) did step client =
    let is = command_sticks s.disc.shown t.disc.shown s.disc.contents t.disc.contents s.host t.host did.command.cdb did.command.payload did.answer did.data_in
    (subst (λ (a : Answer). ExecutesTo s.disc.shown t.disc.shown (λ x. x ≡ s.disc.contents) (λ x. x ≡ t.disc.contents) s.host t.host did.command.cdb did.command.payload a did.data_in)
    (outcome_same did.command.cdb did.answer step.rule.answer step.rule.outcome_is) step.rule.step) client in
    record { not_good = is.not_good; stays = is.stays; cuts = is.cuts }

-- all commands are such
abbrev pub EachOfClient : List Part → Type 0
EachOfClient [] = Unit {0}
EachOfClient (command ∷ rest) = IsOfClient (decoded command.cdb command.payload) × EachOfClient rest

pub each_front : (front rest : List Part) → EachOfClient (front ++ rest) → EachOfClient front
each_front [] rest each = tt
each_front (command ∷ front) rest each = (each.0, each_front front rest each.1)

pub each_last : (front : List Part) (last : Part) → EachOfClient (front ++ last ∷ []) → EachOfClient front × IsOfClient (decoded last.cdb last.payload)
each_last [] last each = (tt, each.0)
each_last (command ∷ front) last each = let rest = each_last front last each.1 in ((each.0, rest.0), rest.1)

-- none was cut
abbrev pub NoneCut : List Did → Type 0
NoneCut [] = Unit {0}
NoneCut (did ∷ before) = ¬ (did.answer ≡ answers.Cut) × NoneCut before

-- where the power is on afterwards, it was on before, and none was cut
pub stayed_on : (s t : State) (dids : List Did) → Doing s dids t → EachOfClient (commands_in dids) → ¬ OffNow t → NoneCut dids × ¬ OffNow s
stayed_on s t [] does each on = (tt, subst (λ (x : State). ¬ OffNow x) does on)
stayed_on s t (did ∷ before) does each on =
    let both = each_last (commands_in before) did.command each in
    let sticks = line_sticks does.0 t did does.2 both.1 in
    let rest = stayed_on s does.0 before does.1 both.0 (λ off. on (sticks.stays off)) in
    ((λ is. on (sticks.cuts is), rest.0), rest.1)

-- where the one command was good, the power was on
pub good_on : (s t : State) (did : Did) → Doing s (did ∷ []) t → IsOfClient (decoded did.command.cdb did.command.payload) → did.answer ≡ answers.Good → ¬ OffNow s
good_on s t did does client good off =
    (line_sticks does.0 t did does.2 client).not_good (subst OffNow (sym does.1) off) good

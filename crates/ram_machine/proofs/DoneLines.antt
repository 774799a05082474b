-- What a line that was answered Good did, and what it gives.
use Rattle.std.specs.Prelude.{◌≡◌, ℕ, ◌+◌, ◌-◌, ◌*◌, ◌/◌, ◌<◌, ◌≤◌, ◌⊎◌, Bool, true, false, MatchBool, is_some, Result, Ok, Err, List, [], ◌∷◌, length, take, drop}
use Rattle.std.specs.List.{Contains}
use Rattle.std.proofs.Common.{arith, refl, sym, ap, ◌∙◌, inl, inr, subst}
use Rattle.std.proofs.lemmas.Bool.{false≢true}
use Rattle.std.proofs.lemmas.List.Elements.{All-weaker}
use Rattle.model_sectors.specs.Discs.{sectors_of, replaced}
use Rattle.model_sectors.specs.Requests.{block_with, blocks_covered}
use Rattle.model_sectors.specs.declared.ReadOut.{ReadOut}
use Rattle.model_sectors.specs.declared.ReadOut.TheVariants as reads
use Rattle.model_sectors.proofs.Covering.{covers_some, covered_all}
use Rattle.model_sectors.proofs.Pieces.{piece_of_piece, length_replaced, sectors_replaced}
use Rattle.model_drive.specs.declared.WriteOut.{WriteOut}
use Rattle.model_drive.specs.declared.WriteOut.TheVariants as writes
use Rattle.model_drive.specs.Parts.{IsInRange}
use Rattle.model_cache.specs.Values.{Values, Contents, Has, MayHave, candidates_of}
use Rattle.model_cache.specs.Shown.{CacheShown, CacheStandsFor, dropped, goes_into_cache}
use Rattle.model_cache.specs.Causes.{CacheReadBy, CacheReadCause, CachedCause, ThroughCause}
use Rattle.model_cache.specs.Steps.{ReadContents, CachedContents, ThroughContents}
use Rattle.model_cache.specs.Falling.{value_written}
use Rattle.model_cache.proofs.Among.{AreAmong}
use Rattle.model_cache.proofs.Members.{Contains-none, Contains-cases}
use Rattle.model_cache.proofs.Falls.{only, through_settles}
use Rattle.model_sense.specs.declared.sense.Sense.{Sense}
use Rattle.model_sense.specs.declared.answer.Answer.{Answer}
use Rattle.model_sense.specs.declared.answer.Answer.TheVariants as answers
use Rattle.model_cdb.specs.declared.commands.Command.{Command}
use Rattle.model_cdb.specs.declared.commands.Command.TheVariants as commands
use Rattle.model_cdb.specs.Decoding.{decoded}
use Rattle.ram_text.specs.declared.script.Line.{Line}
use Rattle.model_target.specs.declared.host.Host.{Host}
use Rattle.model_target.specs.Judging.{IsJudged}
use Rattle.model_target.specs.Steps.{WrittenCause, WrittenContents, IsRead, IsWritten, IsDone, IsAnsweredBy, IsStep as ExecutesTo, read_answer, write_answer, data_read}
use Rattle.ram_text.specs.declared.script.Line.TheVariants as lines
use Rattle.ram_machine.specs.declared.reply.Reply.{Reply}
use Rattle.ram_machine.specs.declared.reply.Reply.TheVariants as replies
use Rattle.ram_machine.specs.declared.stopped.Stopped.TheVariants as stopped
use Rattle.ram_machine.specs.Replies.{command_outcome}
use Rattle.ram_machine.specs.States.{State, Served, Unopened, Disc}
use Rattle.ram_machine.specs.LineSteps.{OnDisc, Step}
use Rattle.ram_machine.specs.Runs.{IsStep, Run}
use Rattle.ram_machine.specs.Answered.{AnsweredStep}
use Rattle.ram_machine.specs.Acknowledged.{HasSector, Acknowledged, StandsWithSector, HasNow, GoesThrough, WasDone, IsAmong, LeaveSector}
use Rattle.ram_machine.specs.SectorBytes.{bytes_of_sector}
use Rattle.ram_machine.proofs.Decoded.{asks_for, same_asked, its_data}
use Rattle.ram_machine.proofs.Acknowledged.{run_keeps, as_so, so_acknowledged}
use Rattle.ram_machine.proofs.WrittenDiscs.{Lies, lies, block_sector, SoInBlock, SoInValues, SoInContents, so_shown}

-- the answers that tell Good
good_outcome : (cdb : List ℕ) (answer : Answer) → Ok (replies.Command cdb answers.Good) ≡ command_outcome cdb answer → answer ≡ answers.Good
good_outcome cdb answers.Good is = refl
good_outcome cdb (answers.Check why) is = absurd cc
good_outcome cdb answers.Cut is = absurd cc
good_outcome cdb answers.Off is = absurd cc
good_outcome cdb answers.Fault is = absurd cc

pub good_read : (out : ReadOut) → answers.Good ≡ read_answer out → out ≡ reads.Good
good_read reads.Good is = refl
good_read reads.NotFormatted is = absurd cc
good_read (reads.Range known) is = absurd cc
good_read (reads.Unread named block) is = absurd cc
good_read reads.Cut is = absurd cc
good_read reads.Off is = absurd cc
good_read reads.Fault is = absurd cc

pub good_write : (out : WriteOut) → answers.Good ≡ write_answer out → out ≡ writes.Good
good_write writes.Good is = refl
good_write writes.NotFormatted is = absurd cc
good_write (writes.Range known) is = absurd cc
good_write (writes.Unread named block) is = absurd cc
good_write (writes.NoSpare named) is = absurd cc
good_write (writes.NoUpdate counter) is = absurd cc
good_write writes.Cut is = absurd cc
good_write writes.Off is = absurd cc
good_write writes.Fault is = absurd cc

-- a command that asks for this was done between two discs, and answered Good
pub record DoneOn (s t : Served) (asked : Command) (payload data_in : List ℕ) : Type 0 where
  pub cdb : List ℕ
  pub asks : decoded cdb payload ≡ Ok asked
  pub same_shape : t.disc.shown.drive.shape ≡ s.disc.shown.drive.shape
  pub done : IsDone s.disc.shown t.disc.shown (λ x. x ≡ s.disc.contents) (λ x. x ≡ t.disc.contents) s.host payload asked answers.Good data_in

abbrev pub Done : State → State → Command → (payload data_in : List ℕ) → Type 0
Done (Unopened image) t asked payload data_in = ⊥
Done (Disc s) (Unopened image) asked payload data_in = ⊥
Done (Disc s) (Disc t) asked payload data_in = DoneOn s t asked payload data_in

module _ (old new : CacheShown) (before after : Contents → Type 0) (host later : Host) (cdb payload data_in : List ℕ) (asked : Command) (asks : decoded cdb payload ≡ Ok asked) where
  by_judged : (formatted : Bool) (judged : Result Command Sense) → IsJudged host formatted cdb payload judged → IsAnsweredBy old new before after host payload judged answers.Good data_in
      → IsDone old new before after host payload asked answers.Good data_in
  by_judged formatted (Err why) is p = absurd (let e : answers.Good ≡ answers.Check why = p.answer_is in cc)
  by_judged formatted (Ok other) is p =
      subst (λ (c : Command). IsDone old new before after host payload c answers.Good data_in) (same_asked other asked (decoded cdb payload) (asks_for host formatted cdb payload other is) asks) p

  executed : ExecutesTo old new before after host later cdb payload answers.Good data_in → IsDone old new before after host payload asked answers.Good data_in
  executed (inl off) = absurd (let e : answers.Good ≡ answers.Off = off.1.is_answered.answer_is in cc)
  executed (inr on) = by_judged (is_some old.drive.lists) on.1.judged on.1.is_judged on.1.is_answered

no_disc : (reply : Reply) → Ok reply ≡ Err stopped.NotADisc → ⊥
no_disc reply is = cc

by_line : (s t : State) (cdb payload data_in : List ℕ) (asked : Command) → decoded cdb payload ≡ Ok asked → OnDisc s (lines.Command cdb) payload (Ok (replies.Command cdb answers.Good)) data_in t → Done s t asked payload data_in
by_line (Unopened image) t cdb payload data_in asked asks step = absurd (no_disc (replies.Command cdb answers.Good) step.0)
by_line (Disc s) (Unopened image) cdb payload data_in asked asks step = absurd step
by_line (Disc s) (Disc t) cdb payload data_in asked asks step = record {
  cdb = cdb;
  asks = asks;
  same_shape = step.same_shape;
  done = executed s.disc.shown t.disc.shown (λ x. x ≡ s.disc.contents) (λ x. x ≡ t.disc.contents) s.host t.host cdb payload data_in asked asks
      (subst (λ (a : Answer). ExecutesTo s.disc.shown t.disc.shown (λ x. x ≡ s.disc.contents) (λ x. x ≡ t.disc.contents) s.host t.host cdb payload a data_in)
      (good_outcome cdb step.rule.answer step.rule.outcome_is) step.rule.step);
}

-- a line that was done, between two states
pub line_done : (s t : State) (event : AnsweredStep) (asked : Command) → IsStep s event t → WasDone event asked → Done s t asked event.payload event.data_in
line_done s t event asked step done =
    by_line s t done.cdb event.payload event.data_in asked done.asks
    (subst (λ (l : Line). Step s l event.payload (Ok (replies.Command done.cdb answers.Good)) event.data_in t) done.line_is
    (subst (λ (r : Reply). Step s event.line event.payload (Ok r) event.data_in t) done.reply_is step))

-- what a read that was answered Good did
pub record GoodRead (old new : CacheShown) (s t : Contents) (lba n : ℕ) (data_in : List ℕ) : Type 0 where
  pub cause : CacheReadCause old new lba n reads.Good
  pub step : ReadContents (λ x. x ≡ t) s lba n data_in reads.Good

pub read_good : (old new : CacheShown) (s t : Contents) (lba n : ℕ) (data_in : List ℕ) → IsRead old new (λ x. x ≡ s) (λ x. x ≡ t) lba n answers.Good data_in → GoodRead old new s t lba n data_in
read_good old new s t lba n data_in p =
    let good : p.out ≡ reads.Good = good_read p.out p.answer_is in
    let same : data_in ≡ p.bytes = subst (λ (o : ReadOut). data_in ≡ data_read o p.bytes) good p.data_is in
    record {
      cause = subst (λ (o : ReadOut). CacheReadCause old new lba n o) good p.cause;
      step = subst (λ (b : List ℕ). ReadContents (λ x. x ≡ t) s lba n b reads.Good) (sym same) (subst (λ (o : ReadOut). ReadContents (λ x. x ≡ t) s lba n p.bytes o) good (p.step s refl));
    }

-- it was in range
inside_by : (pending : List (ℕ × List ℕ)) (old new : CacheShown) (lba n : ℕ) → CacheReadBy pending old new lba n reads.Good → IsInRange old.drive lba n
inside_by [] old new lba n p = p.0.cause.inside
inside_by (held ∷ pending) old new lba n p = p.0

read_inside : (old new : CacheShown) (lba n : ℕ) → CacheReadCause old new lba n reads.Good → IsInRange old.drive lba n
read_inside old new lba n p = inside_by (dropped old).pending (dropped old) new lba n p

-- what a write that was answered Good did
pub record GoodWrite (old new : CacheShown) (s t : Contents) (lba n : ℕ) (fua : Bool) (payload : List ℕ) : Type 0 where
  pub cause : WrittenCause old new lba n payload fua writes.Good
  pub step : WrittenContents old new lba n payload (λ x. x ≡ t) s fua writes.Good

pub write_good : (old new : CacheShown) (s t : Contents) (lba n : ℕ) (fua : Bool) (payload data_in : List ℕ) → IsWritten old new (λ x. x ≡ s) (λ x. x ≡ t) lba n fua payload answers.Good data_in → GoodWrite old new s t lba n fua payload
write_good old new s t lba n fua payload data_in p =
    let good : p.out ≡ writes.Good = good_write p.out p.answer_is in
    record {
      cause = subst (λ (o : WriteOut). WrittenCause old new lba n payload fua o) good p.cause;
      step = subst (λ (o : WriteOut). WrittenContents old new lba n payload (λ x. x ≡ t) s fua o) good (p.step s refl);
    }

write_inside_by : (into_cache : Bool) (old new : CacheShown) (lba n : ℕ) (payload : List ℕ) → MatchBool into_cache (CachedCause old new lba n payload writes.Good) (ThroughCause old new lba n writes.Good) → IsInRange old.drive lba n
write_inside_by true old new lba n payload p = p.inside
write_inside_by false old new lba n payload p = p.0

write_inside : (fua : Bool) (old new : CacheShown) (lba n : ℕ) (payload : List ℕ) → WrittenCause old new lba n payload fua writes.Good → IsInRange old.drive lba n
write_inside true old new lba n payload p = p.0
write_inside false old new lba n payload p = write_inside_by (goes_into_cache old lba n) old new lba n payload p

-- a write that goes through the cache
pub through_by : (fua into_cache : Bool) (through cached : Type 0) → (fua ≡ true) ⊎ (into_cache ≡ false) → MatchBool fua through (MatchBool into_cache cached through) → through
through_by true into_cache through cached goes p = p
through_by false true through cached (inl is) p = absurd (false≢true is)
through_by false true through cached (inr is) p = absurd (false≢true (sym is))
through_by false false through cached goes p = p

-- a sector of a request is the disc's
pub sector_inside : (lba n at blocks long : ℕ) → lba + n ≤ 16 * blocks → long ≡ 32768 * blocks → at < lba + n → 2048 * (at + 1) ≤ long
sector_inside lba n at blocks long inside is within = omega (arith, inside, is, within)

-- the bytes of a sector among those of several
sector_among : (disc : List ℕ) (lba n at : ℕ) → IsAmong lba n at → bytes_of_sector lba (sectors_of disc lba n) at ≡ sectors_of disc at 1
unfolding sectors_of
sector_among disc lba n at among =
    let from : lba ≤ at = among.0 in
    let to : at < lba + n = among.1 in
    let there : 2048 * lba + 2048 * (at - lba) ≡ 2048 * at = omega (arith, from) in
    piece_of_piece (2048 * lba) (2048 * n) (2048 * (at - lba)) 2048 disc (omega (arith, from, to))
    ∙ ap (λ (m : ℕ). take 2048 (drop m disc)) there

-- which of the covered blocks a sector of a request lies in
pub record InCovered (lba n at : ℕ) : Type 0 where
  pub k : ℕ
  pub covered : k < blocks_covered lba n
  pub there : block_with lba + k ≡ block_with at
  pub last : ℕ
  pub last_is : blocks_covered lba n ≡ last + 1

pub in_covered : (lba n at : ℕ) → IsAmong lba n at → InCovered lba n at
in_covered lba n at among =
    let from : lba ≤ at = among.0 in
    let to : at < lba + n = among.1 in
    let count : blocks_covered lba n ≡ (lba + n - 1) / 16 + 1 - lba / 16 = covers_some lba n (omega (arith, from, to)) in
    record {
      k = at / 16 - lba / 16;
      covered = omega (arith, from, to, count);
      there = omega (arith, from, to);
      last = (lba + n - 1) / 16 - lba / 16;
      last_is = omega (arith, from, to, count);
    }

-- the block of a sector is the disc's
block_inside : (lba n at blocks long : ℕ) → lba + n ≤ 16 * blocks → long ≡ 32768 * blocks → at < lba + n → 32768 * (block_with at + 1) ≤ long
block_inside lba n at blocks long inside is within = omega (arith, inside, is, within)

-- the power is on, and the disc has these bytes in the sector, if it has the sector
abbrev pub ShowsSector : (at : ℕ) → List ℕ → Contents → Type 0
ShowsSector at bytes (Has v) = 2048 * (at + 1) ≤ length v.disc → sectors_of v.disc at 1 ≡ bytes
ShowsSector at bytes (MayHave all) = ⊥

abbrev pub ShowsNow : (at : ℕ) → List ℕ → State → Type 0
ShowsNow at bytes (Unopened image) = ⊥
ShowsNow at bytes (Disc s) = ShowsSector at bytes s.disc.contents

module _ (old new : CacheShown) (t : Contents) (lba n at : ℕ) (among : IsAmong lba n at) where
  -- a read gives what was acknowledged
  read_shown : (s : Contents) (data_in bytes : List ℕ) → CacheStandsFor old s → GoodRead old new s t lba n data_in → SoInContents (λ found. found ≡ bytes) at s → bytes_of_sector lba data_in at ≡ bytes
  read_shown (Has v) data_in bytes stood good so =
      let r = lies old v lba n stood (read_inside old new lba n good.cause) in
      ap (λ (d : List ℕ). bytes_of_sector lba d at) good.step.0
      ∙ sector_among v.disc lba n at among
      ∙ so_shown (λ found. found ≡ bytes) at v (block_inside lba n at r.blocks (length v.disc) r.inside r.long among.1) (only (SoInBlock (λ found. found ≡ bytes) at) (block_with at) v so)
  read_shown (MayHave all) data_in bytes stood good so = absurd good.step

  -- and what the disc has
  read_gives : (s : Contents) (data_in bytes : List ℕ) → CacheStandsFor old s → GoodRead old new s t lba n data_in → ShowsSector at bytes s → bytes_of_sector lba data_in at ≡ bytes
  read_gives (Has v) data_in bytes stood good shows =
      let r = lies old v lba n stood (read_inside old new lba n good.cause) in
      ap (λ (d : List ℕ). bytes_of_sector lba d at) good.step.0 ∙ sector_among v.disc lba n at among ∙ shows (sector_inside lba n at r.blocks (length v.disc) r.inside r.long among.1)
  read_gives (MayHave all) data_in bytes stood good shows = absurd shows

  -- and the disc has it
  read_has : (s : Contents) (data_in : List ℕ) → CacheStandsFor old s → GoodRead old new s t lba n data_in → StandsWithSector t at (bytes_of_sector lba data_in at)
  read_has (Has v) data_in stood good =
      let r = lies old v lba n stood (read_inside old new lba n good.cause) in
      subst (λ (x : Contents). StandsWithSector x at (bytes_of_sector lba data_in at)) good.step.1 (record {
        inside = sector_inside lba n at r.blocks (length v.disc) r.inside r.long among.1;
        bytes_are = sym (ap (λ (d : List ℕ). bytes_of_sector lba d at) good.step.0 ∙ sector_among v.disc lba n at among);
      })
  read_has (MayHave all) data_in stood good = absurd good.step

  -- after a write the disc has what was sent
  module _ (v : Values) (payload : List ℕ) (whole : length payload ≡ 2048 * n) (r : Lies v.disc lba n) where
    all_replaced : HasSector (replaced v.disc lba payload (block_with lba + blocks_covered lba n)) at (bytes_of_sector lba payload at)
    all_replaced =
        let block : ℕ = block_with lba + blocks_covered lba n in
        let from : lba ≤ at = among.0 in
        let to : at < lba + n = among.1 in
        let past : lba + n ≤ 16 * block = covered_all lba n (omega (arith, from, to)) in
        let same : length (replaced v.disc lba payload block) ≡ length v.disc = length_replaced v.disc r.blocks lba n payload block whole r.inside r.long in
        record {
          inside = sector_inside lba n at r.blocks (length (replaced v.disc lba payload block)) r.inside (same ∙ r.long) to;
          bytes_are = sectors_replaced v.disc r.blocks lba n payload block at 1 whole r.inside r.long from (omega (arith, to, past)) (omega (arith, to));
        }

    cached_has : (into_cache : Bool) → MatchBool into_cache (CachedContents (λ x. x ≡ t) (Has v) lba n payload writes.Good) (ThroughContents old new (λ x. x ≡ t) (Has v) lba n payload writes.Good)
        → StandsWithSector t at (bytes_of_sector lba payload at)
    cached_has true step = subst (λ (x : Contents). StandsWithSector x at (bytes_of_sector lba payload at)) step all_replaced
    cached_has false step = subst (λ (x : Contents). StandsWithSector x at (bytes_of_sector lba payload at)) step all_replaced

    written_has : (fua : Bool) → WrittenContents old new lba n payload (λ x. x ≡ t) (Has v) fua writes.Good → StandsWithSector t at (bytes_of_sector lba payload at)
    written_has true step = subst (λ (x : Contents). StandsWithSector x at (bytes_of_sector lba payload at)) step all_replaced
    written_has false step = cached_has (goes_into_cache old lba n) step

    -- the one value of the sector's block has it
    one_value : (held : List ℕ) → Contains (value_written v lba payload (block_with at) ∷ []) held → bytes_of_sector (16 * block_with at) held at ≡ bytes_of_sector lba payload at
    one_value held has =
        let i : ℕ = block_with at in
        let from : lba ≤ at = among.0 in
        let to : at < lba + n = among.1 in
        let is : held ≡ value_written v lba payload i = elim (Contains-cases (value_written v lba payload i) [] held has) [ inl same ↦ sym same | inr none ↦ absurd (Contains-none held none) ] in
        ap (λ (b : List ℕ). bytes_of_sector (16 * block_with at) b at) is
        ∙ block_sector (replaced v.disc lba payload (i + 1)) at
        ∙ sectors_replaced v.disc r.blocks lba n payload (i + 1) at 1 whole r.inside r.long from (omega arith) (omega (arith, to))

    -- through the cache nothing older is left
    through_acknowledged : ThroughContents old new (λ x. x ≡ t) (Has v) lba n payload writes.Good → SoInContents (λ found. found ≡ bytes_of_sector lba payload at) at t
    through_acknowledged step =
        let c = in_covered lba n at among in
        let covered : c.k < blocks_covered lba n = c.covered in
        let there : block_with lba + c.k ≡ block_with at = c.there in
        let falls = through_settles (block_with at) v t lba n payload old new step (record { blocks = r.blocks; as_long = r.long; inside = r.inside; whole = whole })
        (omega (arith, there), omega (arith, there, covered)) in
        All-weaker (AreAmong (value_written v lba payload (block_with at) ∷ []) (block_with at)) (SoInValues (λ found. found ≡ bytes_of_sector lba payload at) at)
        (λ w within has held value. one_value held (within has held value)) (candidates_of t) falls

  write_has : (s : Contents) (fua : Bool) (payload : List ℕ) → CacheStandsFor old s → length payload ≡ 2048 * n → GoodWrite old new s t lba n fua payload → StandsWithSector t at (bytes_of_sector lba payload at)
  write_has (Has v) fua payload stood whole good = written_has v payload whole (lies old v lba n stood (write_inside fua old new lba n payload good.cause)) fua good.step
  write_has (MayHave all) fua payload stood whole good = absurd (off_by fua (goes_into_cache old lba n) good.step)
    where
      off_by : (fua into_cache : Bool) → MatchBool fua ⊥ (MatchBool into_cache ⊥ ⊥) → ⊥
      off_by true into_cache p = p
      off_by false true p = p
      off_by false false p = p

  write_acknowledged : (s : Contents) (fua : Bool) (payload : List ℕ) → CacheStandsFor old s → length payload ≡ 2048 * n → (fua ≡ true) ⊎ (goes_into_cache old lba n ≡ false) → GoodWrite old new s t lba n fua payload
      → SoInContents (λ found. found ≡ bytes_of_sector lba payload at) at t
  write_acknowledged (Has v) fua payload stood whole goes good =
      through_acknowledged v payload whole (lies old v lba n stood (write_inside fua old new lba n payload good.cause))
      (through_by fua (goes_into_cache old lba n) (ThroughContents old new (λ x. x ≡ t) (Has v) lba n payload writes.Good) (CachedContents (λ x. x ≡ t) (Has v) lba n payload writes.Good) goes good.step)
  write_acknowledged (MayHave all) fua payload stood whole goes good =
      absurd (through_by fua (goes_into_cache old lba n) ⊥ ⊥ goes good.step)

-- the same between states
module _ (event : AnsweredStep) (lba n at : ℕ) (among : IsAmong lba n at) where
  shows_between : (s t : State) (bytes : List ℕ) → Done s t (commands.Read lba n) event.payload event.data_in → Acknowledged s at bytes → bytes_of_sector lba event.data_in at ≡ bytes
  shows_between (Unopened image) t bytes is keeps = absurd is
  shows_between (Disc s) (Unopened image) bytes is keeps = absurd is
  shows_between (Disc s) (Disc t) bytes is keeps =
      read_shown s.disc.shown t.disc.shown t.disc.contents lba n at among s.disc.contents event.data_in bytes s.disc.stands (read_good s.disc.shown t.disc.shown s.disc.contents t.disc.contents lba n event.data_in is.done) keeps

  gives_between : (s t : State) (bytes : List ℕ) → Done s t (commands.Read lba n) event.payload event.data_in → ShowsNow at bytes s → bytes_of_sector lba event.data_in at ≡ bytes
  gives_between (Unopened image) t bytes is has = absurd is
  gives_between (Disc s) (Unopened image) bytes is has = absurd is
  gives_between (Disc s) (Disc t) bytes is has =
      read_gives s.disc.shown t.disc.shown t.disc.contents lba n at among s.disc.contents event.data_in bytes s.disc.stands (read_good s.disc.shown t.disc.shown s.disc.contents t.disc.contents lba n event.data_in is.done) has

  read_between : (s t : State) → Done s t (commands.Read lba n) event.payload event.data_in → HasNow t at (bytes_of_sector lba event.data_in at)
  read_between (Unopened image) t is = absurd is
  read_between (Disc s) (Unopened image) is = absurd is
  read_between (Disc s) (Disc t) is =
      read_has s.disc.shown t.disc.shown t.disc.contents lba n at among s.disc.contents event.data_in s.disc.stands (read_good s.disc.shown t.disc.shown s.disc.contents t.disc.contents lba n event.data_in is.done)

  written_between : (s t : State) (fua : Bool) → Done s t (commands.Write lba n fua) event.payload event.data_in → HasNow t at (bytes_of_sector lba event.payload at)
  written_between (Unopened image) t fua is = absurd is
  written_between (Disc s) (Unopened image) fua is = absurd is
  written_between (Disc s) (Disc t) fua is =
      write_has s.disc.shown t.disc.shown t.disc.contents lba n at among s.disc.contents fua event.payload s.disc.stands (its_data is.cdb event.payload (commands.Write lba n fua) is.asks)
      (write_good s.disc.shown t.disc.shown s.disc.contents t.disc.contents lba n fua event.payload event.data_in is.done)

  through_between : (s t : State) (fua : Bool) → Done s t (commands.Write lba n fua) event.payload event.data_in → GoesThrough s lba n fua → Acknowledged t at (bytes_of_sector lba event.payload at)
  through_between (Unopened image) t fua is goes = absurd is
  through_between (Disc s) (Unopened image) fua is goes = absurd is
  through_between (Disc s) (Disc t) fua is goes =
      write_acknowledged s.disc.shown t.disc.shown t.disc.contents lba n at among s.disc.contents fua event.payload s.disc.stands (its_data is.cdb event.payload (commands.Write lba n fua) is.asks) goes
      (write_good s.disc.shown t.disc.shown s.disc.contents t.disc.contents lba n fua event.payload event.data_in is.done)

pub line_shows : (s t : State) (event : AnsweredStep) (lba n at : ℕ) (bytes : List ℕ) → IsStep s event t → WasDone event (commands.Read lba n) → IsAmong lba n at → Acknowledged s at bytes
    → bytes_of_sector lba event.data_in at ≡ bytes
line_shows s t event lba n at bytes step done among keeps = shows_between event lba n at among s t bytes (line_done s t event (commands.Read lba n) step done) keeps

pub line_gives : (s t : State) (event : AnsweredStep) (lba n at : ℕ) (bytes : List ℕ) → IsStep s event t → WasDone event (commands.Read lba n) → IsAmong lba n at → ShowsNow at bytes s
    → bytes_of_sector lba event.data_in at ≡ bytes
line_gives s t event lba n at bytes step done among has = gives_between event lba n at among s t bytes (line_done s t event (commands.Read lba n) step done) has

pub line_read : (s t : State) (event : AnsweredStep) (lba n at : ℕ) → IsStep s event t → WasDone event (commands.Read lba n) → IsAmong lba n at → HasNow t at (bytes_of_sector lba event.data_in at)
line_read s t event lba n at step done among = read_between event lba n at among s t (line_done s t event (commands.Read lba n) step done)

pub line_written : (s t : State) (event : AnsweredStep) (lba n at : ℕ) (fua : Bool) → IsStep s event t → WasDone event (commands.Write lba n fua) → IsAmong lba n at → HasNow t at (bytes_of_sector lba event.payload at)
line_written s t event lba n at fua step done among = written_between event lba n at among s t fua (line_done s t event (commands.Write lba n fua) step done)

pub line_through : (s t : State) (event : AnsweredStep) (lba n at : ℕ) (fua : Bool) → IsStep s event t → WasDone event (commands.Write lba n fua) → IsAmong lba n at → GoesThrough s lba n fua
    → Acknowledged t at (bytes_of_sector lba event.payload at)
line_through s t event lba n at fua step done among goes = through_between event lba n at among s t fua (line_done s t event (commands.Write lba n fua) step done) goes

-- after lines that leave the sector, a read gives what was acknowledged
pub read_after : (t u v : State) (read : AnsweredStep) (between : List AnsweredStep) (first count at : ℕ) (bytes : List ℕ) → Acknowledged t at bytes → Run t between u → LeaveSector at between
    → IsStep u read v → WasDone read (commands.Read first count) → IsAmong first count at → bytes_of_sector first read.data_in at ≡ bytes
read_after t u v read between first count at bytes keeps run leaves step done among =
    line_shows u v read first count at bytes step done among
    (so_acknowledged u at bytes (run_keeps (λ found. found ≡ bytes) at t u between run leaves (as_so t at bytes keeps)))

-- A command, and the register of a sector.
use Rattle.std.specs.Prelude.{◌≡◌, ℕ, ◌+◌, ◌-◌, ◌*◌, ◌<◌, ◌≤◌, ◌==◌, ◌⊎◌, Bool, true, false, ◌&&◌, not, nat_lt, if◌then◌else◌, is_some, MatchBool, Option, None, Some, Result, Ok, Err, List, [], ◌∷◌, length, take, drop}
use Rattle.std.specs.List.{Contains}
use Rattle.std.proofs.Common.{arith, refl, sym, ap, ◌∙◌, inl, inr, subst}
use Rattle.std.proofs.lemmas.Bool.{cases_lt, lt-ltb, le-ltb, true≢false}
use Rattle.model_sectors.specs.Discs.{sectors_of, replaced}
use Rattle.model_sectors.specs.Requests.{block_with, blocks_covered}
use Rattle.model_sectors.specs.declared.ReadOut.{ReadOut}
use Rattle.model_sectors.specs.declared.ReadOut.TheVariants as reads
use Rattle.model_sectors.proofs.Pieces.{piece_of_piece, length_replaced, length_sectors}
use Rattle.model_drive.specs.declared.WriteOut.{WriteOut}
use Rattle.model_drive.specs.declared.WriteOut.TheVariants as writes
use Rattle.model_drive.specs.Parts.{IsInRange}
use Rattle.model_modes.specs.ParameterLists.{caches_after}
use Rattle.model_cache.specs.declared.SyncOut.{SyncOut}
use Rattle.model_cache.specs.declared.SyncOut.TheVariants as syncs
use Rattle.model_places.specs.Places.{Lists}
use Rattle.model_cache.specs.Values.{Values, Contents, Has, MayHave, settled_values, no_values}
use Rattle.model_cache.specs.Shown.{CacheShown, CacheStandsFor, dropped, goes_into_cache}
use Rattle.model_cache.specs.Causes.{CacheReadBy, CacheReadCause, CachedCause, ThroughCause}
use Rattle.model_cache.specs.Steps.{ReadContents, SyncContents, CachedContents, ThroughContents}
use Rattle.model_cache.proofs.Members.{Contains-first}
use Rattle.model_cache.proofs.Falls.{one, read_falls, verify_falls, sync_falls, expand_falls, settled_within}
use Rattle.model_sense.specs.declared.sense.Sense.{Sense}
use Rattle.model_sense.specs.declared.answer.Answer.{Answer}
use Rattle.model_sense.specs.declared.answer.Answer.TheVariants as answers
use Rattle.model_cdb.specs.declared.commands.Command.{Command}
use Rattle.model_cdb.specs.declared.commands.Command.TheVariants as commands
use Rattle.model_cdb.specs.Decoding.{decoded}
use Rattle.model_drive.specs.declared.Kind.{Kind}
use Rattle.model_drive.specs.declared.Kind.TheVariants as kinds
use Rattle.model_target.specs.declared.host.Host.{Host}
use Rattle.model_target.specs.Host.{is_good}
use Rattle.model_target.specs.Judging.{IsJudged}
use Rattle.model_target.specs.Steps.{WrittenCause, WrittenContents, Untouched, IsAnswered, IsRead, IsWritten, IsSettled, TurnsOff, SetsCache, IsSynchronised, IsExpanded, IsVerified, TellsStructure, TellsSpares, IsDone, IsAnsweredBy, IsStep as ExecutesTo, read_answer, write_answer, expand_answer, sync_answer, settle_answer, data_read}
use Rattle.ram_report.specs.ReportLines.{IsPrinted}
use Rattle.ram_machine.specs.Acknowledged.{IsAmong}
use Rattle.ram_machine.specs.SectorBytes.{bytes_of_sector, is_sector_among}
use Rattle.ram_machine.proofs.Acknowledged.{sector_left, write_keeps}
use Rattle.ram_machine.proofs.Decoded.{HasItsData, asks_for, its_data}
use Rattle.ram_machine.proofs.WrittenDiscs.{lies, SoInBlock, SoInContents, so_of_block}
use Rattle.ram_machine.specs.Register.{Value, Bytes, Register, settled, gone, synchronised, synchronised_if, left_by, goes_through, is_midway, AfterWrite, AfterGood, AfterOther, AfterCommand}
use Rattle.ram_machine.proofs.SectorValues.{bytes_under, now_under, falls_under}
use Rattle.ram_machine.proofs.SectorNow.{now_of, now_in, now_same, some_inside, Stays, here, read_stays, verify_stays, sync_stays, Expanded, expand_now}
use Rattle.ram_machine.proofs.CacheModes.{SameMode, read_mode, write_mode, sync_mode}
use Rattle.ram_machine.proofs.SectorMatching.{Matches, Turned, by_rule, stays, goes, settles, leaves}
use Rattle.ram_machine.proofs.SectorWritten.{write_turn}
use Rattle.ram_machine.proofs.SectorFormatted.{FullUnder, FormatUnder, format_turn}

-- the bytes of a sector among those of several
sector_among : (disc : List ℕ) (lba n at : ℕ) → IsAmong lba n at → bytes_of_sector lba (sectors_of disc lba n) at ≡ sectors_of disc at 1
unfolding sectors_of
sector_among disc lba n at among =
    let from : lba ≤ at = among.0 in
    let to : at < lba + n = among.1 in
    let there : 2048 * lba + 2048 * (at - lba) ≡ 2048 * at = omega (arith, from) in
    piece_of_piece (2048 * lba) (2048 * n) (2048 * (at - lba)) 2048 disc (omega (arith, from, to))
    ∙ ap (λ (m : ℕ). take 2048 (drop m disc)) there

inside_by : (pending : List (ℕ × List ℕ)) (old new : CacheShown) (lba n : ℕ) → CacheReadBy pending old new lba n reads.Good → IsInRange old.drive lba n
inside_by [] old new lba n p = p.0.cause.inside
inside_by (held ∷ pending) old new lba n p = p.0

-- the test, both ways
before_all : (lba n at : ℕ) → at < lba → is_sector_among lba n at ≡ false
before_all lba n at before = ap (λ (b : Bool). not b && nat_lt at (lba + n)) (lt-ltb at lba before)

behind_first : (lba n at : ℕ) → lba ≤ at → is_sector_among lba n at ≡ nat_lt at (lba + n)
behind_first lba n at from = ap (λ (b : Bool). not b && nat_lt at (lba + n)) (le-ltb at lba from)

is_among : (lba n at : ℕ) → is_sector_among lba n at ≡ true → IsAmong lba n at
is_among lba n at is = elim (cases_lt at lba) [
  | inl before ↦ absurd (true≢false (sym is ∙ before_all lba n at before))
  | inr from ↦ elim (cases_lt at (lba + n)) [
    | inl inside ↦ (from, inside)
    | inr past ↦ absurd (true≢false (sym is ∙ behind_first lba n at from ∙ le-ltb at (lba + n) past))
  ]
]

is_apart : (lba n at : ℕ) → is_sector_among lba n at ≡ false → (at < lba) ⊎ (lba + n ≤ at)
is_apart lba n at is = elim (cases_lt at lba) [
  | inl before ↦ inl before
  | inr from ↦ elim (cases_lt at (lba + n)) [
    | inl inside ↦ absurd (true≢false (sym (behind_first lba n at from ∙ lt-ltb at (lba + n) inside) ∙ is))
    | inr past ↦ inr past
  ]
]

-- what a good read shows of a register, and what a command leaves of it, where a lost sector has these bytes
module _ (lost : List ℕ) (at : ℕ) (lists : Option Lists) (t : Contents) (r : Register) where
  pub record ShowsUnder (lba n : ℕ) (data_in : List ℕ) : Type 0 where
    pub whole : length data_in ≡ 2048 * n
    pub shown : is_sector_among lba n at ≡ true → now_under lost r.now ≡ Some (bytes_of_sector lba data_in at)

  abbrev pub OtherUnder : Command → (payload data_in : List ℕ) → Answer → Register → Type 0
  OtherUnder (commands.Read lba n) payload data_in answers.Good after = ShowsUnder lba n data_in × (after ≡ r)
  OtherUnder asked payload data_in answer after = AfterOther at r asked payload data_in answer after

  abbrev pub CommandUnder : Result Command Sense → (payload data_in : List ℕ) → Answer → Register → Type 0
  CommandUnder (Ok (commands.Format kind)) payload data_in answer after = FormatUnder lists t r kind answer after
  CommandUnder (Ok (commands.Read lba n)) payload data_in answer after = OtherUnder (commands.Read lba n) payload data_in answer after
  CommandUnder asked payload data_in answer after = AfterCommand at r asked payload data_in answer after

-- a synchronisation, and one before an ejection, which is good too on a disc that is not formatted
module _ (lost : List ℕ) (at : ℕ) (old new : CacheShown) (s t : Contents) (r : Register) (was : Matches lost at old s r) (mode : SameMode old new) where
  synced_good : (c : Contents) → c ≡ s → SyncContents new (λ x. x ≡ t) c syncs.Good → Turned lost at new t (λ after. after ≡ synchronised r.now r)
  synced_good (Has v) is step = by_now r.now refl
    where
      by_now : (now : Option Value) → r.now ≡ now → Turned lost at new t (λ after. after ≡ synchronised now r)
      by_now None none =
          stays lost at old new s t r was mode (sym (ap (now_in at) step) ∙ ap (now_in at) is)
          (sync_falls (SoInBlock (Contains (falls_under lost r.falls)) at) (block_with at) new (Has v) t syncs.Good step (subst (SoInContents (Contains (falls_under lost r.falls)) at) (sym is) was.falls))
      by_now (Some value) some =
          let bytes : List ℕ = bytes_under lost value in
          let now : now_of at v.disc ≡ Some bytes = ap (now_in at) is ∙ sym was.now ∙ ap (now_under lost) some in
          settles lost at old new s t r was mode value (sym (ap (now_in at) step) ∙ now)
          (subst (SoInContents (Contains (bytes ∷ [])) at) step
          (one (SoInBlock (Contains (bytes ∷ [])) at) (block_with at) (settled_values v.disc)
          (settled_within (SoInBlock (Contains (bytes ∷ [])) at) (block_with at) v.disc (λ has.
          so_of_block (Contains (bytes ∷ [])) at v.disc _ refl (subst (Contains (bytes ∷ [])) (sym (some_inside at v.disc bytes now).1) (Contains-first bytes []))))))
  synced_good (MayHave all) is step = absurd step

  synced_bare : (c : Contents) → c ≡ s → SyncContents new (λ x. x ≡ t) c syncs.NotFormatted → Turned lost at new t (λ after. after ≡ synchronised r.now r)
  synced_bare (Has v) is step = by_now r.now refl
    where
      by_now : (now : Option Value) → r.now ≡ now → Turned lost at new t (λ after. after ≡ synchronised now r)
      by_now None none =
          stays lost at old new s t r was mode (sym (ap (now_in at) step.1) ∙ ap (now_in at) is)
          (sync_falls (SoInBlock (Contains (falls_under lost r.falls)) at) (block_with at) new (Has v) t syncs.NotFormatted step (subst (SoInContents (Contains (falls_under lost r.falls)) at) (sym is) was.falls))
      by_now (Some value) some =
          let bytes : List ℕ = bytes_under lost value in
          let now : now_of at v.disc ≡ Some bytes = ap (now_in at) is ∙ sym was.now ∙ ap (now_under lost) some in
          let inside : 2048 * (at + 1) ≤ length v.disc = (some_inside at v.disc bytes now).0 in
          let none : length v.disc ≡ 0 = ap length step.0 in
          absurd (omega (arith, inside, none))
  synced_bare (MayHave all) is step = absurd step

  -- what it leaves, by its answer
  abbrev AfterSettling : Answer → Register → Type 0
  AfterSettling answers.Good after = after ≡ synchronised r.now r
  AfterSettling answer after = after ≡ left_by answer r

  left_settling : (answer : Answer) → ¬ (answer ≡ answers.Good) → (after : Register) → after ≡ left_by answer r → AfterSettling answer after
  left_settling answers.Good bad after is = absurd (bad refl)
  left_settling (answers.Check why) bad after is = is
  left_settling answers.Cut bad after is = is
  left_settling answers.Off bad after is = is
  left_settling answers.Fault bad after is = is

  settling_other : (out : SyncOut) → ¬ (sync_answer out ≡ answers.Good) → IsPrinted (sync_answer out) → SyncContents new (λ x. x ≡ t) s out → Turned lost at new t (λ after. AfterSettling (sync_answer out) after)
  settling_other out bad printed step =
      by_rule lost at new t (λ after. after ≡ left_by (sync_answer out) r) (λ after. AfterSettling (sync_answer out) after) (left_settling (sync_answer out) bad)
      (leaves lost at old new s t r was mode (sync_answer out) printed (sync_stays at new s t out step) (sync_falls (SoInBlock (Contains (falls_under lost r.falls)) at) (block_with at) new s t out step was.falls))

  settling : (out : SyncOut) → IsPrinted (settle_answer out) → SyncContents new (λ x. x ≡ t) s out → Turned lost at new t (λ after. AfterSettling (settle_answer out) after)
  settling syncs.Good printed step = synced_good s refl step
  settling syncs.NotFormatted printed step = synced_bare s refl step
  settling (syncs.NoSpare lba) printed step = settling_other (syncs.NoSpare lba) (λ is. cc) printed step
  settling (syncs.NoUpdate counter) printed step = settling_other (syncs.NoUpdate counter) (λ is. cc) printed step
  settling syncs.Cut printed step = settling_other syncs.Cut (λ is. cc) printed step
  settling syncs.Off printed step = settling_other syncs.Off (λ is. cc) printed step
  settling syncs.Fault printed step = absurd printed

module _ (lost : List ℕ) (at : ℕ) (old new : CacheShown) (s t : Contents) (r : Register) (stood : CacheStandsFor old s) (was : Matches lost at old s r) where
  abbrev To : (Register → Type 0) → Type 0
  To Rule = Turned lost at new t Rule

  abbrev After : Result Command Sense → (payload data_in : List ℕ) → Answer → Register → Type 0
  After = CommandUnder lost at old.drive.lists t r

  -- ---- what leaves all as it was
  untouched : (Untouched old new (λ x. x ≡ s) (λ x. x ≡ t)) → To (λ after. after ≡ r)
  untouched p = stays lost at old new s t r was (ap (λ (x : CacheShown). x.caches) p.same) (here at s t (p.stands s refl)) (subst (SoInContents (Contains (falls_under lost r.falls)) at) (p.stands s refl) was.falls)

  -- what is answered Off or with a check, and does nothing, whatever it was
  abbrev IsQuiet : Answer → Type 0
  IsQuiet (answers.Check why) = Unit {0}
  IsQuiet answers.Off = Unit {0}
  IsQuiet _ = ⊥

  quiet_check : (midway : Bool) (Other : Type 0) → MatchBool midway ((r ≡ r) ⊎ Other) (r ≡ r)
  quiet_check true Other = inl refl
  quiet_check false Other = refl

  quiet_write : (among through : Bool) (bytes : List ℕ) (answer : Answer) → IsQuiet answer → MatchBool among (AfterWrite r through bytes answer r) (r ≡ left_by answer r)
  quiet_write true true bytes (answers.Check why) quiet = quiet_check (is_midway why) (r ≡ settled r (Bytes bytes))
  quiet_write true false bytes (answers.Check why) quiet = refl
  quiet_write false through bytes (answers.Check why) quiet = refl
  quiet_write true true bytes answers.Off quiet = refl
  quiet_write true false bytes answers.Off quiet = refl
  quiet_write false through bytes answers.Off quiet = refl
  quiet_write among through bytes answers.Good quiet = absurd quiet
  quiet_write among through bytes answers.Cut quiet = absurd quiet
  quiet_write among through bytes answers.Fault quiet = absurd quiet

  quiet_full : (answer : Answer) → IsQuiet answer → FullUnder t r answer r
  quiet_full (answers.Check why) quiet = quiet_check (why.asc == 0x31) ((r ≡ gone r) × (t ≡ Has no_values))
  quiet_full answers.Off quiet = refl
  quiet_full answers.Good quiet = absurd quiet
  quiet_full answers.Cut quiet = absurd quiet
  quiet_full answers.Fault quiet = absurd quiet

  quiet_left : (answer : Answer) → IsQuiet answer → r ≡ left_by answer r
  quiet_left (answers.Check why) quiet = refl
  quiet_left answers.Off quiet = refl
  quiet_left answers.Good quiet = absurd quiet
  quiet_left answers.Cut quiet = absurd quiet
  quiet_left answers.Fault quiet = absurd quiet

  quiet_format : (lists : Option Lists) (kind : Kind) (answer : Answer) → IsQuiet answer → FormatUnder lists t r kind answer r
  quiet_format lists (kinds.Full drop_sdl) answer quiet = quiet_full answer quiet
  quiet_format None kinds.Rewrite answer quiet = quiet_full answer quiet
  quiet_format (Some lists) kinds.Rewrite answer quiet = quiet_left answer quiet

  quiet_read : (lba n : ℕ) (payload data_in : List ℕ) (answer : Answer) → IsQuiet answer → OtherUnder lost at old.drive.lists t r (commands.Read lba n) payload data_in answer r
  quiet_read lba n payload data_in (answers.Check why) quiet = refl
  quiet_read lba n payload data_in answers.Off quiet = refl
  quiet_read lba n payload data_in answers.Good quiet = absurd quiet
  quiet_read lba n payload data_in answers.Cut quiet = absurd quiet
  quiet_read lba n payload data_in answers.Fault quiet = absurd quiet

  quiet_other : (asked : Command) (payload data_in : List ℕ) (answer : Answer) → IsQuiet answer → AfterOther at r asked payload data_in answer r
  quiet_other asked payload data_in (answers.Check why) quiet = refl
  quiet_other asked payload data_in answers.Off quiet = refl
  quiet_other asked payload data_in answers.Good quiet = absurd quiet
  quiet_other asked payload data_in answers.Cut quiet = absurd quiet
  quiet_other asked payload data_in answers.Fault quiet = absurd quiet

  quiet_command : (d : Result Command Sense) (payload data_in : List ℕ) (answer : Answer) → IsQuiet answer → data_in ≡ [] → After d payload data_in answer r
  quiet_command (Err why) payload data_in answer quiet none = (none, quiet_left answer quiet)
  quiet_command (Ok (commands.Write lba n fua)) payload data_in answer quiet none = quiet_write (is_sector_among lba n at) (goes_through r lba n fua) (bytes_of_sector lba payload at) answer quiet
  quiet_command (Ok (commands.Format kind)) payload data_in answer quiet none = quiet_format old.drive.lists kind answer quiet
  quiet_command (Ok commands.TestUnitReady) payload data_in answer quiet none = quiet_other commands.TestUnitReady payload data_in answer quiet
  quiet_command (Ok (commands.RequestSense alloc)) payload data_in answer quiet none = quiet_other (commands.RequestSense alloc) payload data_in answer quiet
  quiet_command (Ok (commands.Expand sectors)) payload data_in answer quiet none = quiet_other (commands.Expand sectors) payload data_in answer quiet
  quiet_command (Ok (commands.Inquiry vital alloc)) payload data_in answer quiet none = quiet_other (commands.Inquiry vital alloc) payload data_in answer quiet
  quiet_command (Ok (commands.StartStop start eject)) payload data_in answer quiet none = quiet_other (commands.StartStop start eject) payload data_in answer quiet
  quiet_command (Ok (commands.Prevent on)) payload data_in answer quiet none = quiet_other (commands.Prevent on) payload data_in answer quiet
  quiet_command (Ok (commands.FormatCapacities alloc)) payload data_in answer quiet none = quiet_other (commands.FormatCapacities alloc) payload data_in answer quiet
  quiet_command (Ok commands.ReadCapacity) payload data_in answer quiet none = quiet_other commands.ReadCapacity payload data_in answer quiet
  quiet_command (Ok (commands.Read lba n)) payload data_in answer quiet none = quiet_read lba n payload data_in answer quiet
  quiet_command (Ok (commands.Verify lba n)) payload data_in answer quiet none = quiet_other (commands.Verify lba n) payload data_in answer quiet
  quiet_command (Ok commands.Synchronize) payload data_in answer quiet none = quiet_other commands.Synchronize payload data_in answer quiet
  quiet_command (Ok (commands.Configuration rt start alloc)) payload data_in answer quiet none = quiet_other (commands.Configuration rt start alloc) payload data_in answer quiet
  quiet_command (Ok (commands.Events media alloc)) payload data_in answer quiet none = quiet_other (commands.Events media alloc) payload data_in answer quiet
  quiet_command (Ok (commands.DiscInformation alloc)) payload data_in answer quiet none = quiet_other (commands.DiscInformation alloc) payload data_in answer quiet
  quiet_command (Ok commands.ModeSelect) payload data_in answer quiet none = quiet_other commands.ModeSelect payload data_in answer quiet
  quiet_command (Ok (commands.ModeSense short control page alloc)) payload data_in answer quiet none = quiet_other (commands.ModeSense short control page alloc) payload data_in answer quiet
  quiet_command (Ok (commands.Structure format alloc)) payload data_in answer quiet none = quiet_other (commands.Structure format alloc) payload data_in answer quiet
  quiet_command (Ok commands.Streaming) payload data_in answer quiet none = quiet_other commands.Streaming payload data_in answer quiet

  quiet_answered : (d : Result Command Sense) (payload data_in : List ℕ) (answer due : Answer) → IsQuiet due → IsAnswered old new (λ x. x ≡ s) (λ x. x ≡ t) answer due data_in [] → To (λ after. After d payload data_in answer after)
  quiet_answered d payload data_in answer due quiet p =
      by_rule lost at new t (λ after. after ≡ r) (λ after. After d payload data_in answer after)
      (λ after is. subst (λ (x : Register). After d payload data_in answer x) (sym is)
      (subst (λ (a : Answer). After d payload data_in a r) (sym p.answer_is) (quiet_command d payload data_in due quiet p.data_is)))
      (untouched p.untouched)

  -- ---- commands that are done
  -- what is answered Good with no look at the sectors
  told : (asked : Command) (payload data_in reply : List ℕ) (answer : Answer) → AfterGood at r asked payload data_in r → IsAnswered old new (λ x. x ≡ s) (λ x. x ≡ t) answer answers.Good data_in reply
      → To (λ after. AfterOther at r asked payload data_in answer after)
  told asked payload data_in reply answer good p =
      by_rule lost at new t (λ after. after ≡ r) (λ after. AfterOther at r asked payload data_in answer after)
      (λ after is. subst (λ (x : Register). AfterOther at r asked payload data_in answer x) (sym is)
      (subst (λ (a : Answer). AfterOther at r asked payload data_in a r) (sym p.answer_is) good))
      (untouched p.untouched)

  -- what is not answered Good, and leaves the sector
  other_left : (asked : Command) (payload data_in : List ℕ) (answer : Answer) → ¬ (answer ≡ answers.Good) → (after : Register) → after ≡ left_by answer r → AfterOther at r asked payload data_in answer after
  other_left asked payload data_in answers.Good bad after is = absurd (bad refl)
  other_left asked payload data_in (answers.Check why) bad after is = is
  other_left asked payload data_in answers.Cut bad after is = is
  other_left asked payload data_in answers.Off bad after is = is
  other_left asked payload data_in answers.Fault bad after is = is

  -- a read
  shows : (lba n : ℕ) (v : Values) (data_in : List ℕ) → CacheStandsFor old (Has v) → now_under lost r.now ≡ now_of at v.disc → CacheReadCause old new lba n reads.Good → data_in ≡ sectors_of v.disc lba n → ShowsUnder lost at old.drive.lists t r lba n data_in
  shows lba n v data_in stands now cause is =
      let room = lies old v lba n stands (inside_by (dropped old).pending (dropped old) new lba n cause) in
      record {
        whole = ap length is ∙ length_sectors v.disc room.blocks lba n room.inside room.long;
        shown = λ test.
            let among = is_among lba n at test in
            let to : at < lba + n = among.1 in
            let inside : lba + n ≤ 16 * room.blocks = room.inside in
            let long : length v.disc ≡ 32768 * room.blocks = room.long in
            now ∙ there (omega (arith, to, inside, long)) ∙ ap Some (sym (ap (λ (d : List ℕ). bytes_of_sector lba d at) is ∙ sector_among v.disc lba n at among));
      }
    where
      there : 2048 * (at + 1) ≤ length v.disc → now_of at v.disc ≡ Some (sectors_of v.disc at 1)
      there inside = ap (λ (b : Bool). if b then None else Some (sectors_of v.disc at 1)) (le-ltb (length v.disc) (2048 * (at + 1)) inside)

  -- by how it went
  read_out : (c : Contents) (lba n : ℕ) (bytes payload : List ℕ) (out : ReadOut) → CacheStandsFor old c → now_under lost r.now ≡ now_in at c → CacheReadCause old new lba n out → ReadContents (λ x. x ≡ t) c lba n bytes out
      → (after : Register) → after ≡ left_by (read_answer out) r → OtherUnder lost at old.drive.lists t r (commands.Read lba n) payload (data_read out bytes) (read_answer out) after
  read_out (Has v) lba n bytes payload reads.Good stands now cause step after is = (shows lba n v bytes stands now cause step.0, is)
  read_out (MayHave all) lba n bytes payload reads.Good stands now cause step after is = absurd step
  read_out c lba n bytes payload reads.NotFormatted stands now cause step after is = is
  read_out c lba n bytes payload (reads.Range known) stands now cause step after is = is
  read_out c lba n bytes payload (reads.Unread named block) stands now cause step after is = is
  read_out c lba n bytes payload reads.Cut stands now cause step after is = is
  read_out c lba n bytes payload reads.Off stands now cause step after is = is
  read_out c lba n bytes payload reads.Fault stands now cause step after is = is

  read_turn : (lba n : ℕ) (payload data_in : List ℕ) (answer : Answer) → IsPrinted answer → IsRead old new (λ x. x ≡ s) (λ x. x ≡ t) lba n answer data_in → To (λ after. OtherUnder lost at old.drive.lists t r (commands.Read lba n) payload data_in answer after)
  read_turn lba n payload data_in answer printed p =
      subst (λ (a : Answer). To (λ after. OtherUnder lost at old.drive.lists t r (commands.Read lba n) payload data_in a after)) (sym p.answer_is)
      (subst (λ (d : List ℕ). To (λ after. OtherUnder lost at old.drive.lists t r (commands.Read lba n) payload d (read_answer p.out) after)) (sym p.data_is)
      (by_rule lost at new t (λ after. after ≡ left_by (read_answer p.out) r) (λ after. OtherUnder lost at old.drive.lists t r (commands.Read lba n) payload (data_read p.out p.bytes) (read_answer p.out) after)
      (read_out s lba n p.bytes payload p.out stood was.now p.cause (p.step s refl))
      (leaves lost at old new s t r was (read_mode old new lba n p.out p.cause) (read_answer p.out) (subst IsPrinted p.answer_is printed)
      (read_stays at s t lba n p.bytes p.out (p.step s refl)) (read_falls (SoInBlock (Contains (falls_under lost r.falls)) at) (block_with at) s t lba n p.bytes p.out (p.step s refl) was.falls))))

  -- a synchronisation, by how it went
  sync_other : (payload data_in : List ℕ) (out : SyncOut) → ¬ (sync_answer out ≡ answers.Good) → IsPrinted (sync_answer out) → SameMode old new → SyncContents new (λ x. x ≡ t) s out
      → To (λ after. AfterOther at r commands.Synchronize payload data_in (sync_answer out) after)
  sync_other payload data_in out bad printed mode step =
      by_rule lost at new t (λ after. after ≡ left_by (sync_answer out) r) (λ after. AfterOther at r commands.Synchronize payload data_in (sync_answer out) after)
      (other_left commands.Synchronize payload data_in (sync_answer out) bad)
      (leaves lost at old new s t r was mode (sync_answer out) printed (sync_stays at new s t out step) (sync_falls (SoInBlock (Contains (falls_under lost r.falls)) at) (block_with at) new s t out step was.falls))

  sync_out : (payload data_in : List ℕ) (out : SyncOut) → IsPrinted (sync_answer out) → SameMode old new → SyncContents new (λ x. x ≡ t) s out
      → To (λ after. AfterOther at r commands.Synchronize payload data_in (sync_answer out) after)
  sync_out payload data_in syncs.Good printed mode step = synced_good lost at old new s t r was mode s refl step
  sync_out payload data_in syncs.NotFormatted printed mode step = sync_other payload data_in syncs.NotFormatted (λ is. cc) printed mode step
  sync_out payload data_in (syncs.NoSpare lba) printed mode step = sync_other payload data_in (syncs.NoSpare lba) (λ is. cc) printed mode step
  sync_out payload data_in (syncs.NoUpdate counter) printed mode step = sync_other payload data_in (syncs.NoUpdate counter) (λ is. cc) printed mode step
  sync_out payload data_in syncs.Cut printed mode step = sync_other payload data_in syncs.Cut (λ is. cc) printed mode step
  sync_out payload data_in syncs.Off printed mode step = sync_other payload data_in syncs.Off (λ is. cc) printed mode step
  sync_out payload data_in syncs.Fault printed mode step = sync_other payload data_in syncs.Fault (λ is. cc) printed mode step

  sync_turn : (payload data_in : List ℕ) (answer : Answer) → IsPrinted answer → IsSynchronised old new (λ x. x ≡ s) (λ x. x ≡ t) answer data_in → To (λ after. AfterOther at r commands.Synchronize payload data_in answer after)
  sync_turn payload data_in answer printed p =
      subst (λ (a : Answer). To (λ after. AfterOther at r commands.Synchronize payload data_in a after)) (sym p.answer_is)
      (sync_out payload data_in p.out (subst IsPrinted p.answer_is printed) (sync_mode old new p.out p.cause) (p.step s refl))

  -- an expansion
  expand_by : (sectors : ℕ) (payload data_in : List ℕ) (answer : Answer) → IsPrinted answer → SameMode old new → Expanded at sectors answer s t → SoInContents (Contains (falls_under lost r.falls)) at t
      → To (λ after. AfterOther at r (commands.Expand sectors) payload data_in answer after)
  expand_by sectors payload data_in answers.Good printed mode now so = below (nat_lt at sectors) refl
    where
      below : (b : Bool) → nat_lt at sectors ≡ b → To (λ after. after ≡ (if b then r else gone r))
      below true is = stays lost at old new s t r was mode (now ∙ ap (λ (b : Bool). if b then now_in at s else None) is) so
      below false is = goes lost at old new s t r was mode (now ∙ ap (λ (b : Bool). if b then now_in at s else None) is) so
  expand_by sectors payload data_in (answers.Check why) printed mode now so = stays lost at old new s t r was mode now so
  expand_by sectors payload data_in answers.Cut printed mode now so = goes lost at old new s t r was mode now so
  expand_by sectors payload data_in answers.Off printed mode now so = stays lost at old new s t r was mode now so
  expand_by sectors payload data_in answers.Fault printed mode now so = absurd printed

  expand_turn : (sectors : ℕ) (payload data_in : List ℕ) (answer : Answer) → IsPrinted answer → IsExpanded old new (λ x. x ≡ s) (λ x. x ≡ t) sectors answer data_in
      → To (λ after. AfterOther at r (commands.Expand sectors) payload data_in answer after)
  expand_turn sectors payload data_in answer printed p =
      subst (λ (a : Answer). To (λ after. AfterOther at r (commands.Expand sectors) payload data_in a after)) (sym p.answer_is)
      (expand_by sectors payload data_in (expand_answer p.out) (subst IsPrinted p.answer_is printed) p.cause.2 (expand_now at s t sectors p.out (p.step s refl))
      (expand_falls (SoInBlock (Contains (falls_under lost r.falls)) at) (block_with at) s t sectors p.out (p.step s refl) was.falls))

  -- a write of other sectors
  module _ (lba n : ℕ) (payload : List ℕ) (whole : length payload ≡ 2048 * n) (apart : (at < lba) ⊎ (lba + n ≤ at)) where
    other_now : (v : Values) → CacheStandsFor old (Has v) → IsInRange old.drive lba n → (b : ℕ) → now_of at (replaced v.disc lba payload b) ≡ now_of at v.disc
    other_now v stands inside b =
        let room = lies old v lba n stands inside in
        now_same at v.disc (replaced v.disc lba payload b) (length_replaced v.disc room.blocks lba n payload b whole room.inside room.long) (sector_left v lba n at payload whole apart room b)

    through_stays : (c : Contents) (out : WriteOut) → CacheStandsFor old c → ThroughCause old new lba n out → ThroughContents old new (λ x. x ≡ t) c lba n payload out → Stays at (write_answer out) c t
    through_stays (Has v) writes.Good stands cause step = sym (ap (now_in at) step) ∙ other_now v stands cause.0 (block_with lba + blocks_covered lba n)
    through_stays (Has v) writes.NotFormatted stands cause step = here at (Has v) t step.1
    through_stays (Has v) (writes.Range known) stands cause step = here at (Has v) t step
    through_stays (Has v) (writes.Unread named block) stands cause step = sym (ap (now_in at) step) ∙ other_now v stands cause.0 (block_with named)
    through_stays (Has v) (writes.NoSpare named) stands cause (inl step) = here at (Has v) t step.1
    through_stays (Has v) (writes.NoSpare named) stands cause (inr step) = sym (ap (now_in at) step.1) ∙ other_now v stands cause.0 (block_with named)
    through_stays (Has v) (writes.NoUpdate counter) stands cause (inl step) = here at (Has v) t step.1
    through_stays (Has v) (writes.NoUpdate counter) stands cause (inr step) = sym (ap (now_in at) step.1.before) ∙ other_now v stands cause.0 (block_with lba + step.1.block)
    through_stays (Has v) writes.Cut stands cause (inl step) = sym (ap (now_in at) step.1)
    through_stays (Has v) writes.Cut stands cause (inr step) = sym (ap (now_in at) step.either)
    through_stays (Has v) writes.Off stands cause step = absurd step
    through_stays (Has v) writes.Fault stands cause step = tt
    through_stays (MayHave all) writes.Off stands cause step = here at (MayHave all) t step
    through_stays (MayHave all) _ stands cause step = absurd step

    into_stays : (c : Contents) (out : WriteOut) → CacheStandsFor old c → CachedCause old new lba n payload out → CachedContents (λ x. x ≡ t) c lba n payload out → Stays at (write_answer out) c t
    into_stays (Has v) writes.Good stands cause step = sym (ap (now_in at) step) ∙ other_now v stands cause.inside (block_with lba + blocks_covered lba n)
    into_stays (Has v) writes.NotFormatted stands cause step = here at (Has v) t step.1
    into_stays (Has v) (writes.Range known) stands cause step = here at (Has v) t step
    into_stays (Has v) (writes.Unread named block) stands cause step = here at (Has v) t step
    into_stays (Has v) (writes.NoSpare named) stands cause step = here at (Has v) t step
    into_stays (Has v) (writes.NoUpdate counter) stands cause step = here at (Has v) t step
    into_stays (Has v) writes.Cut stands cause (inl step) = sym (ap (now_in at) step)
    into_stays (Has v) writes.Cut stands cause (inr step) = sym (ap (now_in at) step)
    into_stays (Has v) writes.Off stands cause step = absurd step
    into_stays (Has v) writes.Fault stands cause step = tt
    into_stays (MayHave all) writes.Off stands cause step = here at (MayHave all) t step
    into_stays (MayHave all) _ stands cause step = absurd step

    by_stays : (into_cache : Bool) (c : Contents) (out : WriteOut) → CacheStandsFor old c → MatchBool into_cache (CachedCause old new lba n payload out) (ThroughCause old new lba n out)
        → MatchBool into_cache (CachedContents (λ x. x ≡ t) c lba n payload out) (ThroughContents old new (λ x. x ≡ t) c lba n payload out) → Stays at (write_answer out) c t
    by_stays true c out stands cause step = into_stays c out stands cause step
    by_stays false c out stands cause step = through_stays c out stands cause step

    write_stays : (fua : Bool) (c : Contents) (out : WriteOut) → CacheStandsFor old c → WrittenCause old new lba n payload fua out → WrittenContents old new lba n payload (λ x. x ≡ t) c fua out → Stays at (write_answer out) c t
    write_stays true c out stands cause step = through_stays c out stands cause step
    write_stays false c out stands cause step = by_stays (goes_into_cache old lba n) c out stands cause step

  written_turn : (lba n : ℕ) (fua : Bool) (payload data_in : List ℕ) (answer : Answer) → length payload ≡ 2048 * n → IsPrinted answer → IsWritten old new (λ x. x ≡ s) (λ x. x ≡ t) lba n fua payload answer data_in
      → To (λ after. MatchBool (is_sector_among lba n at) (AfterWrite r (goes_through r lba n fua) (bytes_of_sector lba payload at) answer after) (after ≡ left_by answer r))
  written_turn lba n fua payload data_in answer whole printed p =
      subst (λ (a : Answer). To (λ after. MatchBool (is_sector_among lba n at) (AfterWrite r (goes_through r lba n fua) (bytes_of_sector lba payload at) a after) (after ≡ left_by a r))) (sym p.answer_is)
      (by_test (is_sector_among lba n at) refl)
    where
      told_printed : IsPrinted (write_answer p.out)
      told_printed = subst IsPrinted p.answer_is printed

      by_test : (test : Bool) → is_sector_among lba n at ≡ test
          → To (λ after. MatchBool test (AfterWrite r (goes_through r lba n fua) (bytes_of_sector lba payload at) (write_answer p.out) after) (after ≡ left_by (write_answer p.out) r))
      by_test true is = write_turn lost at lba n payload whole (is_among lba n at is) old new t r fua s p.out stood was told_printed p.cause (p.step s refl)
      by_test false is =
          leaves lost at old new s t r was (write_mode fua old new lba n payload p.out p.cause) (write_answer p.out) told_printed
          (write_stays lba n payload whole (is_apart lba n at is) fua s p.out stood p.cause (p.step s refl))
          (write_keeps (Contains (falls_under lost r.falls)) at old new s t lba n fua payload p.out stood whole (is_apart lba n at is) p.cause (p.step s refl) was.falls)

  -- an ejection
  start_turn : (start eject : Bool) (payload data_in : List ℕ) (answer : Answer) → IsPrinted answer → (ejected : Bool) → eject && not start ≡ ejected
      → MatchBool ejected (IsSettled old new (λ x. x ≡ s) (λ x. x ≡ t) answer data_in) (IsAnswered old new (λ x. x ≡ s) (λ x. x ≡ t) answer answers.Good data_in [])
      → To (λ after. AfterOther at r (commands.StartStop start eject) payload data_in answer after)
  start_turn start eject payload data_in answer printed true is p =
      subst (λ (a : Answer). To (λ after. AfterOther at r (commands.StartStop start eject) payload data_in a after)) (sym p.answer_is)
      (by_rule lost at new t (λ after. AfterSettling lost at old new s t r was mode (settle_answer p.out) after) (λ after. AfterOther at r (commands.StartStop start eject) payload data_in (settle_answer p.out) after)
      (ejects (settle_answer p.out))
      (settling lost at old new s t r was mode p.out (subst IsPrinted p.answer_is printed) (p.step s refl)))
    where
      mode : SameMode old new
      mode = sync_mode old new p.out p.cause

      ejects : (a : Answer) (after : Register) → AfterSettling lost at old new s t r was mode a after → AfterOther at r (commands.StartStop start eject) payload data_in a after
      ejects answers.Good after settled = settled ∙ ap (λ (b : Bool). synchronised_if b r) (sym is)
      ejects (answers.Check why) after settled = settled
      ejects answers.Cut after settled = settled
      ejects answers.Off after settled = settled
      ejects answers.Fault after settled = settled
  start_turn start eject payload data_in answer printed false is p =
      told (commands.StartStop start eject) payload data_in _ answer (ap (λ (b : Bool). synchronised_if b r) (sym is)) p

  -- a list of mode pages
  select_turn : (payload data_in : List ℕ) (answer : Answer) → IsPrinted answer → (off : Bool) → old.caches && not (caches_after payload old.caches) ≡ off
      → MatchBool off (TurnsOff old new (λ x. x ≡ s) (λ x. x ≡ t) answer data_in) (SetsCache old new (λ x. x ≡ s) (λ x. x ≡ t) payload answer data_in)
      → To (λ after. AfterOther at r commands.ModeSelect payload data_in answer after)
  select_turn payload data_in answer printed true off p =
      subst (λ (a : Answer). To (λ after. AfterOther at r commands.ModeSelect payload data_in a after)) (sym p.answer_is)
      (turned (settle_answer p.out) (p.new_is ∙ ap (λ (a : Answer). if is_good a then record p.mid { caches = false } else p.mid) p.answer_is)
      (settling lost at old p.mid s t r was mode p.out (subst IsPrinted p.answer_is printed) (p.step s refl)))
    where
      mode : SameMode old p.mid
      mode = sync_mode old p.mid p.out p.cause

      first : r.caches && not (caches_after payload r.caches) ≡ true
      first = ap (λ (b : Bool). b && not (caches_after payload b)) was.caches ∙ off

      turned_off : (a b : Bool) → a && not b ≡ true → b ≡ false
      turned_off true true e = absurd cc
      turned_off true false e = refl
      turned_off false b e = absurd cc

      turned : (a : Answer) → new ≡ (if is_good a then record p.mid { caches = false } else p.mid) → Turned lost at p.mid t (λ after. AfterSettling lost at old p.mid s t r was mode a after)
          → To (λ after. AfterOther at r commands.ModeSelect payload data_in a after)
      turned answers.Good is was_turned = record {
        after = record was_turned.after { caches = caches_after payload r.caches };
        rule = ap (λ (x : Register). record x { caches = caches_after payload r.caches }) (was_turned.rule ∙ ap (λ (b : Bool). synchronised_if b r) (sym first));
        matches = record {
          now = was_turned.matches.now;
          falls = was_turned.matches.falls;
          caches = turned_off r.caches (caches_after payload r.caches) first ∙ sym (ap (λ (x : CacheShown). x.caches) is);
        };
      }
      turned (answers.Check why) is was_turned = subst (λ (x : CacheShown). Turned lost at x t (λ after. after ≡ left_by (answers.Check why) r)) (sym is) was_turned
      turned answers.Cut is was_turned = subst (λ (x : CacheShown). Turned lost at x t (λ after. after ≡ left_by answers.Cut r)) (sym is) was_turned
      turned answers.Off is was_turned = subst (λ (x : CacheShown). Turned lost at x t (λ after. after ≡ left_by answers.Off r)) (sym is) was_turned
      turned answers.Fault is was_turned = subst (λ (x : CacheShown). Turned lost at x t (λ after. after ≡ left_by answers.Fault r)) (sym is) was_turned
  select_turn payload data_in answer printed false off p =
      subst (λ (a : Answer). To (λ after. AfterOther at r commands.ModeSelect payload data_in a after)) (sym p.answer_is) (record {
        after = record (synchronised_if (r.caches && not (caches_after payload r.caches)) r) { caches = caches_after payload r.caches };
        rule = refl;
        matches = subst (λ (b : Bool). Matches lost at new t (record (synchronised_if b r) { caches = caches_after payload r.caches }))
            (sym (ap (λ (b : Bool). b && not (caches_after payload b)) was.caches ∙ off)) (record {
              now = was.now ∙ sym (here at s t (p.stands s refl));
              falls = subst (SoInContents (Contains (falls_under lost r.falls)) at) (p.stands s refl) was.falls;
              caches = ap (caches_after payload) was.caches ∙ sym (ap (λ (x : CacheShown). x.caches) p.mode);
            });
      })

  -- a verification
  verify_turn : (lba n : ℕ) (payload data_in : List ℕ) (answer : Answer) → IsPrinted answer → IsVerified old new (λ x. x ≡ s) (λ x. x ≡ t) lba n answer data_in
      → To (λ after. AfterOther at r (commands.Verify lba n) payload data_in answer after)
  verify_turn lba n payload data_in answer printed p =
      subst (λ (a : Answer). To (λ after. AfterOther at r (commands.Verify lba n) payload data_in a after)) (sym p.answer_is)
      (by_rule lost at new t (λ after. after ≡ left_by (read_answer p.out) r) (λ after. AfterOther at r (commands.Verify lba n) payload data_in (read_answer p.out) after)
      (verified (read_answer p.out))
      (leaves lost at old new s t r was p.cause.2 (read_answer p.out) (subst IsPrinted p.answer_is printed)
      (verify_stays at s t p.out (p.step s refl)) (verify_falls (SoInBlock (Contains (falls_under lost r.falls)) at) (block_with at) s t p.out (p.step s refl) was.falls)))
    where
      verified : (a : Answer) (after : Register) → after ≡ left_by a r → AfterOther at r (commands.Verify lba n) payload data_in a after
      verified answers.Good after is = is
      verified (answers.Check why) after is = is
      verified answers.Cut after is = is
      verified answers.Off after is = is
      verified answers.Fault after is = is

  done_turn : (host : Host) (payload data_in : List ℕ) (command : Command) (answer : Answer) → IsPrinted answer → HasItsData payload command → IsDone old new (λ x. x ≡ s) (λ x. x ≡ t) host payload command answer data_in
      → To (λ after. After (Ok command) payload data_in answer after)
  done_turn host payload data_in commands.TestUnitReady answer printed given p = told commands.TestUnitReady payload data_in _ answer refl p
  done_turn host payload data_in (commands.RequestSense alloc) answer printed given p = told (commands.RequestSense alloc) payload data_in _ answer refl p
  done_turn host payload data_in (commands.Format kind) answer printed given p =
      subst (λ (a : Answer). To (λ after. FormatUnder old.drive.lists t r kind a after)) (sym p.answer_is)
      (format_turn lost at old new t r p.cause.2 s kind p.out stood was (subst IsPrinted p.answer_is printed) (p.step s refl))
  done_turn host payload data_in (commands.Expand sectors) answer printed given p = expand_turn sectors payload data_in answer printed p
  done_turn host payload data_in (commands.Inquiry vital alloc) answer printed given p = told (commands.Inquiry vital alloc) payload data_in _ answer refl p
  done_turn host payload data_in (commands.StartStop start eject) answer printed given p = start_turn start eject payload data_in answer printed (eject && not start) refl p
  done_turn host payload data_in (commands.Prevent on) answer printed given p = told (commands.Prevent on) payload data_in _ answer refl p
  done_turn host payload data_in (commands.FormatCapacities alloc) answer printed given p = told (commands.FormatCapacities alloc) payload data_in _ answer refl p
  done_turn host payload data_in commands.ReadCapacity answer printed given p = told commands.ReadCapacity payload data_in _ answer refl p
  done_turn host payload data_in (commands.Read lba n) answer printed given p = read_turn lba n payload data_in answer printed p
  done_turn host payload data_in (commands.Write lba n fua) answer printed given p = written_turn lba n fua payload data_in answer given printed p
  done_turn host payload data_in (commands.Verify lba n) answer printed given p = verify_turn lba n payload data_in answer printed p
  done_turn host payload data_in commands.Synchronize answer printed given p = sync_turn payload data_in answer printed p
  done_turn host payload data_in (commands.Configuration rt start alloc) answer printed given p = told (commands.Configuration rt start alloc) payload data_in _ answer refl p
  done_turn host payload data_in (commands.Events media alloc) answer printed given p = told (commands.Events media alloc) payload data_in _ answer refl p
  done_turn host payload data_in (commands.DiscInformation alloc) answer printed given p = told (commands.DiscInformation alloc) payload data_in _ answer refl p
  done_turn host payload data_in commands.ModeSelect answer printed given p = select_turn payload data_in answer printed (old.caches && not (caches_after payload old.caches)) refl p
  done_turn host payload data_in (commands.ModeSense short control page alloc) answer printed given p = told (commands.ModeSense short control page alloc) payload data_in _ answer refl p
  done_turn host payload data_in commands.Streaming answer printed given p = told commands.Streaming payload data_in _ answer refl p
  done_turn host payload data_in (commands.Structure format alloc) answer printed given p = structure (format == 0x08) p
    where
      structure : (b : Bool) → MatchBool b (TellsStructure old new (λ x. x ≡ s) (λ x. x ≡ t) alloc answer data_in) (TellsSpares old new (λ x. x ≡ s) (λ x. x ≡ t) alloc answer data_in)
          → To (λ after. AfterOther at r (commands.Structure format alloc) payload data_in answer after)
      structure true q = told (commands.Structure format alloc) payload data_in _ answer refl q.is_answered
      structure false q = told (commands.Structure format alloc) payload data_in _ answer refl q

  judged_turn : (host : Host) (formatted : Bool) (cdb payload data_in : List ℕ) (judged : Result Command Sense) (answer : Answer) → IsPrinted answer → IsJudged host formatted cdb payload judged
      → IsAnsweredBy old new (λ x. x ≡ s) (λ x. x ≡ t) host payload judged answer data_in → To (λ after. After (decoded cdb payload) payload data_in answer after)
  judged_turn host formatted cdb payload data_in (Err why) answer printed is p = quiet_answered (decoded cdb payload) payload data_in answer (answers.Check why) tt p
  judged_turn host formatted cdb payload data_in (Ok command) answer printed is p =
      let asks : decoded cdb payload ≡ Ok command = asks_for host formatted cdb payload command is in
      subst (λ (d : Result Command Sense). To (λ after. After d payload data_in answer after)) (sym asks)
      (done_turn host payload data_in command answer printed (its_data cdb payload command asks) p)

  pub command_turn : (host later : Host) (cdb payload data_in : List ℕ) (answer : Answer) → IsPrinted answer → ExecutesTo old new (λ x. x ≡ s) (λ x. x ≡ t) host later cdb payload answer data_in
      → To (λ after. After (decoded cdb payload) payload data_in answer after)
  command_turn host later cdb payload data_in answer printed (inl off) = quiet_answered (decoded cdb payload) payload data_in answer answers.Off tt off.1.is_answered
  command_turn host later cdb payload data_in answer printed (inr on) =
      judged_turn host (is_some old.drive.lists) cdb payload data_in on.1.judged answer printed on.1.is_judged on.1.is_answered

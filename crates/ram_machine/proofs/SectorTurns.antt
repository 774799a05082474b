-- A line, and a run, and the register of a sector.
use Rattle.std.specs.Prelude.{◌≡◌, ℕ, ◌+◌, ◌*◌, ◌<◌, Bool, true, false, nat_lt, MatchBool, Option, None, Some, Ok, Err, List, [], ◌∷◌, length}
use Rattle.std.specs.List.{Contains}
use Rattle.std.proofs.Common.{arith, refl, sym, ap, ◌∙◌, inl, inr, subst}
use Rattle.std.proofs.lemmas.Bool.{cases_lt, lt-ltb, le-ltb}
use Rattle.model_sectors.specs.Discs.{block_of, sectors_of}
use Rattle.model_sectors.specs.Requests.{block_with}
use Rattle.model_sectors.specs.declared.ReadOut.TheVariants as reads
use Rattle.model_sectors.specs.declared.PowerOut.{PowerOut}
use Rattle.model_sectors.specs.declared.PowerOut.TheVariants as powers
use Rattle.model_places.specs.Places.{Lists}
use Rattle.model_drive.specs.Shown.{block_count}
use Rattle.model_drive.specs.Power.{PowerCause}
use Rattle.model_cache.specs.declared.TickOut.{TickOut}
use Rattle.model_cache.specs.declared.TickOut.TheVariants as ticks
use Rattle.model_cache.specs.Values.{Contents, Has, HasBlock, settled_values}
use Rattle.model_cache.specs.Shown.{CacheShown, CacheStandsFor}
use Rattle.model_cache.specs.Steps.{PowerContents, TickContents}
use Rattle.model_cache.proofs.Members.{Contains-first}
use Rattle.model_cache.proofs.Falls.{HasOneBy, power_finds_one, verify_falls, power_falls, tick_falls, one, settled_within}
use Rattle.model_scrub.proofs.Chained.{of_step, of_pass}
use Rattle.model_sense.specs.declared.answer.Answer.{Answer}
use Rattle.model_sense.specs.declared.answer.Answer.TheVariants as answers
use Rattle.model_cdb.specs.Decoding.{decoded}
use Rattle.model_target.specs.declared.host.Host.{Host}
use Rattle.ram_medium.specs.declared.control.FailEnd.{FailEnd}
use Rattle.ram_medium.specs.declared.control.FailEnd.TheVariants as fails
use Rattle.ram_medium.specs.declared.control.Arm.{Arm}
use Rattle.ram_medium.specs.declared.control.Arm.TheVariants as arming
use Rattle.ram_report.specs.ReportLines.{IsPrinted}
use Rattle.ram_report.specs.declared.printing.Event.TheVariants as events
use Rattle.ram_text.specs.declared.script.Line.{Line}
use Rattle.ram_text.specs.declared.script.Line.TheVariants as lines
use Rattle.ram_machine.specs.declared.reply.Reply.{Reply}
use Rattle.ram_machine.specs.declared.reply.Reply.TheVariants as replies
use Rattle.ram_machine.specs.declared.stopped.Stopped.TheVariants as stopped
use Rattle.ram_machine.specs.Control.{contents_after_fail}
use Rattle.ram_machine.specs.Replies.{Outcome, power_outcome, fail_outcome, wear_outcome, tick_outcome, command_outcome, event}
use Rattle.ram_machine.specs.LineSteps.{DiscRule}
use Rattle.ram_machine.proofs.WrittenDiscs.{SoInBlock, SoInContents, so_of_block, block_sector}
use Rattle.ram_machine.specs.Register.{Value, Register, left_by, left_in, powered, AfterPower, Turn}
use Rattle.ram_machine.proofs.SectorValues.{falls_under, has_bytes}
use Rattle.ram_machine.proofs.SectorNow.{now_in, now_there, now_gone, here, verify_stays, tick_answer, tick_stays}
use Rattle.ram_machine.proofs.CacheModes.{SameMode, tick_mode}
use Rattle.ram_machine.proofs.Scrubbed.{ScrubLeaves, step_leaves, pass_leaves, scrub_mode}
use Rattle.ram_machine.proofs.SectorMatching.{Matches, Turned, by_rule, stays, leaves}
use Rattle.ram_machine.proofs.SectorCommands.{CommandUnder, command_turn}

-- a line that came out with a reply
abbrev pub done : Reply → Outcome
done reply = Ok reply

pub same_reply : (reply x : Reply) → done reply ≡ done x → x ≡ reply
same_reply reply x e = cc

-- a command that has a reply was answered by what is printed
printed_reply : (cdb : List ℕ) (reply : Reply) (answer : Answer) → Ok reply ≡ command_outcome cdb answer → IsPrinted answer × (reply ≡ replies.Command cdb answer)
printed_reply cdb reply answers.Good is = (tt, let same : reply ≡ replies.Command cdb answers.Good = cc in same)
printed_reply cdb reply (answers.Check why) is = (tt, let same : reply ≡ replies.Command cdb (answers.Check why) = cc in same)
printed_reply cdb reply answers.Cut is = (tt, let same : reply ≡ replies.Command cdb answers.Cut = cc in same)
printed_reply cdb reply answers.Off is = (tt, let same : reply ≡ replies.Command cdb answers.Off = cc in same)
printed_reply cdb reply answers.Fault is = absurd cc

-- what a line leaves of a register, where a lost sector has these bytes
abbrev pub TurnUnder : (lost : List ℕ) (at : ℕ) → Option Lists → (t : Contents) → Register → Line → (payload : List ℕ) → Reply → (data_in : List ℕ) → Register → Type 0
TurnUnder lost at lists t r (lines.Command cdb) payload reply data_in after =
    (answer : Answer) × (reply ≡ replies.Command cdb answer) × CommandUnder lost at lists t r (decoded cdb payload) payload data_in answer after
TurnUnder lost at lists t r line payload reply data_in after = Turn at r line payload reply data_in after

module _ (lost : List ℕ) (at : ℕ) (old new : CacheShown) (s t : Contents) (r : Register) (stood : CacheStandsFor old s) (was : Matches lost at old s r) where
  abbrev To : (Register → Type 0) → Type 0
  To Rule = Turned lost at new t Rule

  -- ---- a `power` line
  -- its reply, by how it went
  abbrev IsPowerReply : PowerOut → Reply → Type 0
  IsPowerReply out reply = Ok reply ≡ power_outcome out

  off_now : new.caches ≡ false → now_in at t ≡ None → SoInContents (Contains (falls_under lost r.falls)) at t → To (λ after. after ≡ powered r None r.falls)
  off_now off none so = record { after = powered r None r.falls; rule = refl; matches = record { now = sym none; falls = so; caches = sym off } }

  -- a disc that is ready has one value of each block
  abbrev FindsIn : Bool → Register → Type 0
  FindsIn has after = MatchBool has ((value : Value) × Contains r.falls value × (after ≡ powered r (Some value) (value ∷ []))) (after ≡ powered r None r.falls)

  ready_now : (known : ℕ) → new.caches ≡ false → HasOneBy (SoInBlock (Contains (falls_under lost r.falls)) at) (block_with at) t → known ≡ block_count new.drive * 16
      → ((disc : List ℕ) → t ≡ Has (settled_values disc) → length disc ≡ 32768 * block_count new.drive) → To (λ after. FindsIn (nat_lt at known) after)
  ready_now known off found told whole = elim (cases_lt at known) [
    | inr out ↦
        let long : length found.disc ≡ 32768 * block_count new.drive = whole found.disc found.is in
        let past : length found.disc < 2048 * (at + 1) = omega (arith, out, told, long) in
        subst (λ (b : Bool). To (λ after. FindsIn b after)) (sym (le-ltb at known out)) (record {
          after = powered r None r.falls;
          rule = refl;
          matches = record {
            now = sym (ap (now_in at) found.is ∙ now_gone at found.disc past);
            falls = subst (SoInContents (Contains (falls_under lost r.falls)) at) (sym found.is)
                (one (SoInBlock (Contains (falls_under lost r.falls)) at) (block_with at) (settled_values found.disc) (settled_within (SoInBlock (Contains (falls_under lost r.falls)) at) (block_with at) found.disc found.one));
            caches = sym off;
          };
        })
    | inl inside ↦
        let long : length found.disc ≡ 32768 * block_count new.drive = whole found.disc found.is in
        let has : HasBlock found.disc (block_with at) = omega (arith, inside, told, long) in
        let bytes : List ℕ = sectors_of found.disc at 1 in
        let held = has_bytes lost r.falls bytes (subst (Contains (falls_under lost r.falls)) (block_sector found.disc at) (found.one has)) in
        subst (λ (b : Bool). To (λ after. FindsIn b after)) (sym (lt-ltb at known inside)) (record {
          after = powered r (Some held.value) (held.value ∷ []);
          rule = (held.value, held.among, refl);
          matches = record {
            now = ap Some held.has ∙ sym (ap (now_in at) found.is ∙ now_there at found.disc (omega (arith, has)));
            falls = subst (λ (b : List ℕ). SoInContents (Contains (b ∷ [])) at t) (sym held.has)
                (subst (SoInContents (Contains (bytes ∷ [])) at) (sym found.is)
                (one (SoInBlock (Contains (bytes ∷ [])) at) (block_with at) (settled_values found.disc)
                (settled_within (SoInBlock (Contains (bytes ∷ [])) at) (block_with at) found.disc
                (λ there. so_of_block (Contains (bytes ∷ [])) at found.disc (block_of found.disc (block_with at)) refl (Contains-first bytes [])))));
            caches = sym off;
          };
        })
  ]

  power_turn : (reply : Reply) (out : PowerOut) → Ok reply ≡ power_outcome out → new.caches ≡ false → PowerCause old.drive new.drive out → ((disc : List ℕ) → t ≡ Has (settled_values disc) → length disc ≡ 32768 * block_count new.drive)
      → PowerContents new.drive (λ x. x ≡ t) s out → To (λ after. AfterPower at r reply after)
  power_turn reply (powers.Ready known) is off cause whole step =
      subst (λ (x : Reply). To (λ after. AfterPower at r x after)) (let same : replies.Event (events.Ready known) ≡ reply = cc in same)
      (ready_now known off (power_finds_one (SoInBlock (Contains (falls_under lost r.falls)) at) (block_with at) new.drive s t known step was.falls) cause.known_is whole)
  power_turn reply powers.NotFormatted is off cause whole step =
      subst (λ (x : Reply). To (λ after. AfterPower at r x after)) (let same : replies.Event events.NotFormatted ≡ reply = cc in same)
      (off_now off (sym (ap (now_in at) step) ∙ now_gone at [] (omega arith)) (power_falls (SoInBlock (Contains (falls_under lost r.falls)) at) (block_with at) new.drive s t powers.NotFormatted step was.falls))
  power_turn reply powers.Cut is off cause whole step =
      subst (λ (x : Reply). To (λ after. AfterPower at r x after)) (let same : replies.Event events.Cut ≡ reply = cc in same)
      (off_now off (sym (ap (now_in at) step)) (power_falls (SoInBlock (Contains (falls_under lost r.falls)) at) (block_with at) new.drive s t powers.Cut step was.falls))
  power_turn reply powers.Fault is off cause whole step = absurd cc

  -- ---- lines that leave the sector
  event_stays : (reply : Reply) → SameMode old new → s ≡ t → ¬ (reply ≡ replies.Event events.Cut) → To (λ after. after ≡ left_in reply r)
  event_stays reply mode is uncut = by_reply reply uncut
    where
      kept : To (λ after. after ≡ r)
      kept = stays lost at old new s t r was mode (here at s t is) (subst (SoInContents (Contains (falls_under lost r.falls)) at) is was.falls)

      by_reply : (x : Reply) → ¬ (x ≡ replies.Event events.Cut) → To (λ after. after ≡ left_in x r)
      by_reply replies.Nothing bad = kept
      by_reply (replies.Command cdb answer) bad = kept
      by_reply (replies.Event events.Pressed) bad = kept
      by_reply (replies.Event events.NotPressed) bad = kept
      by_reply (replies.Event (events.Ready capacity)) bad = kept
      by_reply (replies.Event events.NotFormatted) bad = kept
      by_reply (replies.Event events.Cut) bad = absurd (bad refl)
      by_reply (replies.Event events.Failed) bad = kept
      by_reply (replies.Event events.NoSuchBlock) bad = kept
      by_reply (replies.Event events.Armed) bad = kept
      by_reply (replies.Event events.Full) bad = kept
      by_reply (replies.Event events.Idle) bad = kept
      by_reply (replies.Event (events.Written lba)) bad = kept
      by_reply (replies.Event (events.NoSpare lba)) bad = kept
      by_reply (replies.Event events.NoUpdate) bad = kept
      by_reply (replies.Event events.Off) bad = kept
      by_reply (replies.Event (events.Readable lba)) bad = kept
      by_reply (replies.Event (events.Unreadable lba)) bad = kept
      by_reply (replies.Event (events.Found count)) bad = kept

  uncut_fail : (reply : Reply) (end : FailEnd) → Ok reply ≡ fail_outcome end → ¬ (reply ≡ replies.Event events.Cut)
  uncut_fail reply fails.Done is = λ cut. cc
  uncut_fail reply (fails.NoBlock blocks) is = λ cut. cc
  uncut_fail reply fails.Failed is = absurd cc

  uncut_wear : (reply : Reply) (end : Arm) → Ok reply ≡ wear_outcome end → ¬ (reply ≡ replies.Event events.Cut)
  uncut_wear reply arming.Set is = λ cut. cc
  uncut_wear reply (arming.NoBlock blocks) is = λ cut. cc
  uncut_wear reply arming.Full is = λ cut. cc

  same_after_fail : (reply : Reply) (end : FailEnd) → Ok reply ≡ fail_outcome end → contents_after_fail s end ≡ t → s ≡ t
  same_after_fail reply fails.Done is same = same
  same_after_fail reply (fails.NoBlock blocks) is same = same
  same_after_fail reply fails.Failed is same = absurd cc

  tick_turn : (reply : Reply) (out : TickOut) → Ok reply ≡ tick_outcome out → SameMode old new → TickContents (λ x. x ≡ t) s out → To (λ after. after ≡ left_in reply r)
  tick_turn reply out is mode step = by_out out is step
    where
      replied : (x : Reply) → done reply ≡ done x → x ≡ reply
      replied x e = same_reply reply x e

      kept : (o : TickOut) (x : Reply) → IsPrinted (tick_answer o) → x ≡ reply → TickContents (λ y. y ≡ t) s o → left_by (tick_answer o) r ≡ left_in x r → To (λ after. after ≡ left_in reply r)
      kept o x printed same went agrees =
          subst (λ (y : Reply). To (λ after. after ≡ left_in y r)) same
          (by_rule lost at new t (λ after. after ≡ left_by (tick_answer o) r) (λ after. after ≡ left_in x r) (λ after e. e ∙ agrees)
          (leaves lost at old new s t r was mode (tick_answer o) printed (tick_stays at s t o went) (tick_falls (SoInBlock (Contains (falls_under lost r.falls)) at) (block_with at) s t o went was.falls)))

      by_out : (o : TickOut) → Ok reply ≡ tick_outcome o → TickContents (λ y. y ≡ t) s o → To (λ after. after ≡ left_in reply r)
      by_out ticks.Idle e went = kept ticks.Idle (replies.Event events.Idle) tt (replied (replies.Event events.Idle) e) went refl
      by_out (ticks.Written lba) e went = kept (ticks.Written lba) (replies.Event (events.Written lba)) tt (replied (replies.Event (events.Written lba)) e) went refl
      by_out (ticks.NoSpare lba) e went = kept (ticks.NoSpare lba) (replies.Event (events.NoSpare lba)) tt (replied (replies.Event (events.NoSpare lba)) e) went refl
      by_out (ticks.NoUpdate counter) e went = kept (ticks.NoUpdate counter) (replies.Event events.NoUpdate) tt (replied (replies.Event events.NoUpdate) e) went refl
      by_out ticks.Cut e went = kept ticks.Cut (replies.Event events.Cut) tt (replied (replies.Event events.Cut) e) went refl
      by_out ticks.Off e went = kept ticks.Off (replies.Event events.Off) tt (replied (replies.Event events.Off) e) went refl
      by_out ticks.Fault e went = absurd cc

  scrub_turn : (reply : Reply) → ScrubLeaves s t (Ok reply) → SameMode old new → To (λ after. after ≡ left_in reply r)
  scrub_turn reply (inl same) mode = event_stays reply mode same.0 (λ cut. same.1 (ap done cut))
  scrub_turn reply (inr (inl cut)) mode =
      subst (λ (y : Reply). To (λ after. after ≡ left_in y r)) (same_reply reply (replies.Event events.Cut) cut.1)
      (leaves lost at old new s t r was mode answers.Cut tt (verify_stays at s t reads.Cut cut.0) (verify_falls (SoInBlock (Contains (falls_under lost r.falls)) at) (block_with at) s t reads.Cut cut.0 was.falls))
  scrub_turn reply (inr (inr fault)) mode = absurd (let is : Ok reply ≡ Err stopped.ImageFault = fault.1 in cc)

  -- ---- any line on a disc
  pub rule_turn : (host later : Host) (line : Line) (payload : List ℕ) (reply : Reply) (data_in : List ℕ) → CacheStandsFor new t
      → ((disc : List ℕ) → t ≡ Has (settled_values disc) → length disc ≡ 32768 * block_count new.drive)
      → DiscRule old new (λ x. x ≡ s) (λ x. x ≡ t) host later line payload (Ok reply) data_in → To (λ after. TurnUnder lost at old.drive.lists t r line payload reply data_in after)
  rule_turn host later lines.Power payload reply data_in stands whole p =
      by_rule lost at new t (λ after. AfterPower at r reply after) (λ after. (data_in ≡ []) × AfterPower at r reply after) (λ after q. (p.1, q))
      (power_turn reply p.0.out p.0.outcome_is p.0.powered.cause.1.1 p.0.powered.cause.0 whole (p.0.powered.step s refl))
  rule_turn host later (lines.Fail block) payload reply data_in stands whole p =
      by_rule lost at new t (λ after. after ≡ left_in reply r) (λ after. (data_in ≡ []) × (after ≡ left_in reply r)) (λ after q. (p.1, q))
      (event_stays reply p.0.cache.1 (same_after_fail reply p.0.end p.0.outcome_is (p.0.stands s refl)) (uncut_fail reply p.0.end p.0.outcome_is))
  rule_turn host later (lines.Wear block n) payload reply data_in stands whole p =
      by_rule lost at new t (λ after. after ≡ left_in reply r) (λ after. (data_in ≡ []) × (after ≡ left_in reply r)) (λ after q. (p.1, q))
      (event_stays reply p.0.keeps.cache.1 (p.0.keeps.stands s refl) (uncut_wear reply p.0.end p.0.outcome_is))
  rule_turn host later (lines.Cut n fate) payload reply data_in stands whole p =
      by_rule lost at new t (λ after. after ≡ left_in reply r) (λ after. (data_in ≡ []) × (after ≡ left_in reply r)) (λ after q. (p.1, q))
      (event_stays reply p.0.keeps.cache.1 (p.0.keeps.stands s refl) (let is : Ok reply ≡ event events.Armed = p.0.outcome_is in λ cut. cc))
  rule_turn host later lines.Tick payload reply data_in stands whole p =
      by_rule lost at new t (λ after. after ≡ left_in reply r) (λ after. (data_in ≡ []) × (after ≡ left_in reply r)) (λ after q. (p.1, q))
      (tick_turn reply p.0.out p.0.outcome_is (tick_mode old new p.0.out p.0.cause) (p.0.step s refl))
  rule_turn host later (lines.Scrub false) payload reply data_in stands whole p =
      scrub_turn reply (step_leaves s t old new host later (Ok reply) p) (of_step (λ faulted a b. b.caches ≡ a.caches) scrub_mode old new p.from p.to p.end p.rule)
  rule_turn host later (lines.Scrub true) payload reply data_in stands whole p =
      scrub_turn reply (pass_leaves s t old new host later (Ok reply) p) (of_pass (λ faulted a b. b.caches ≡ a.caches) scrub_mode old new p.from p.to p.end p.rule)
  rule_turn host later (lines.Command cdb) payload reply data_in stands whole p =
      let is = printed_reply cdb reply p.answer p.outcome_is in
      by_rule lost at new t (λ after. CommandUnder lost at old.drive.lists t r (decoded cdb payload) payload data_in p.answer after)
      (λ after. (answer : Answer) × (reply ≡ replies.Command cdb answer) × CommandUnder lost at old.drive.lists t r (decoded cdb payload) payload data_in answer after)
      (λ after q. (p.answer, is.1, q))
      (command_turn lost at old new s t r stood was host later cdb payload data_in p.answer is.0 p.step)
  rule_turn host later lines.Empty payload reply data_in stands whole p = absurd p
  rule_turn host later (lines.Press zones scale psa) payload reply data_in stands whole p = absurd p

-- What is settled in a session is read in the next one over its image.
use Rattle.std.specs.Prelude.{◌≡◌, ℕ, ◌*◌, ◌<◌, ◌^◌, ◌⊎◌, None, Some, List, [], ◌∷◌, ◌++◌, map}
use Rattle.std.proofs.Common.{sym, inl, inr, subst, append-nil}
use Rattle.model_cache.proofs.Members.{Contains-cases}
use Rattle.model_nbd.specs.Handshake.{Export, Serving}
use Rattle.ram_text.specs.declared.script.Line.{Line}
use Rattle.ram_machine.specs.Answered.{AnsweredStep}
use Rattle.ram_machine.specs.Acknowledged.{LeavesSector}
use Rattle.ram_machine.specs.States.{State, Unopened, Disc, IsLeft, kind_of}
use Rattle.ram_machine.specs.Register.{Value, Bytes, Lost, Register, Turns, reopened}
use Rattle.ram_machine.proofs.SectorAgain.{registers_again}
use Rattle.ram_script.specs.Progress.{Beginning}
use Rattle.ram_session.specs.Doing.{step_of}
use Rattle.ram_session.specs.Talk.{Phase, Turned, Talk, dids_in}
use Rattle.ram_session.specs.Opening.{Given, without_data, opening_lines, lines_done, AreOpening, export_after}
use Rattle.ram_session.specs.Kept.{LeaveByMessages}
use Rattle.ram_session.specs.Session.{SessionSoFar}
use Rattle.ram_session.proofs.Chains.{session_runs}
use Rattle.ram_session_laws.specs.ReadBack.{ReadSector, SettledSector, FaultsLeave}
use Rattle.ram_machine.proofs.Registers.{HasAmong, by_line, carried}
use Rattle.ram_session_laws.proofs.Chains.{Chain, two_runs, chain_of, earlier_chain, messages_keep, message_read, same_bytes}
use Rattle.ram_session_laws.proofs.Settled.{joint_of, settled_last}
use Rattle.ram_session.specs.Promise.{AreAnswered}

-- the messages of a talk were answered
talk_answered : (export : Export) (first last : State) (turns : List Turned) (phase : Phase) → Talk export first turns last phase → AreAnswered export turns phase
talk_answered export first last [] phase talk = talk.1
talk_answered export first last (turned ∷ before) phase talk = (talk.1, talk_answered export first talk.0 before talk.1 talk.2, talk.4)

-- the lines before the greeting leave the sector
abbrev GivenLeave : (at : ℕ) → List Given → Type 0
GivenLeave at [] = Unit {0}
GivenLeave at (given ∷ rest) = LeavesSector at given.line given.payload × GivenLeave at rest

given_last : (at : ℕ) (front : List Given) (last : Given) → GivenLeave at (front ++ last ∷ []) → GivenLeave at front × LeavesSector at last.line last.payload
given_last at [] last leave = (tt, leave.0)
given_last at (given ∷ front) last leave = let rest = given_last at front last leave.1 in ((leave.0, rest.0), rest.1)

faults_leave : (at : ℕ) (faults : List Line) → FaultsLeave at faults → GivenLeave at (map without_data faults)
faults_leave at [] leave = tt
faults_leave at (line ∷ rest) leave = (leave.0, faults_leave at rest leave.1)

opening_leaves : (at : ℕ) (faults : List Line) → FaultsLeave at faults → GivenLeave at (opening_lines faults)
opening_leaves at faults leave = (tt, (tt, (tt, faults_leave at faults leave)))

steps_leave : (at : ℕ) (start : State) (faults : List Line) (steps : List AnsweredStep) → AreOpening start faults steps → FaultsLeave at faults → GivenLeave at (lines_done steps)
steps_leave at (Unopened image) faults steps is leave = subst (λ (l : List AnsweredStep). GivenLeave at (lines_done l)) (sym is) tt
steps_leave at (Disc s) faults steps is leave = subst (GivenLeave at) (sym is.0) (opening_leaves at faults leave)

module _ (at : ℕ) (bytes : List ℕ) where
  -- these bytes, or it is lost
  abbrev OrLost : Value → Type 0
  OrLost v = (v ≡ Bytes bytes) ⊎ (v ≡ Lost)

  lines_keep : (r last : Register) (steps : List AnsweredStep) → GivenLeave at (lines_done steps) → Turns at r steps last → HasAmong OrLost OrLost r → HasAmong OrLost OrLost last
  lines_keep r last [] leave turns has = carried at OrLost OrLost (λ v is. is) r last turns has
  lines_keep r last (step ∷ before) leave turns has =
      let both = given_last at (lines_done before) (record { line = step.line; payload = step.payload }) leave in
      by_line at OrLost OrLost (λ v is. is) (λ v is. is) turns.0 last step.line step.payload step.reply step.data_in turns.2 (inr both.1)
      (lines_keep r turns.0 before both.0 turns.1 has)

  again_among : (r : Register) → HasAmong (λ v. v ≡ Bytes bytes) (λ v. v ≡ Bytes bytes) r → HasAmong OrLost OrLost (reopened r)
  again_among r has = record {
    shows = λ found is. absurd (let clash : None ≡ Some found = is in cc);
    falls = λ found there. elim (Contains-cases Lost r.falls found there) [ inl lost ↦ inr (sym lost) | inr held ↦ inl (has.falls found held) ];
  }

  not_lost : (found : List ℕ) → OrLost (Bytes found) → found ≡ bytes
  not_lost found (inl is) = same_bytes found bytes is
  not_lost found (inr lost) = absurd (let clash : Bytes found ≡ Lost = lost in cc)

  -- the second session
  read_second : (size : ℕ) → size < 2048 * 2 ^ 32 → (r last : Register) (read : Turned) (before : List Turned) (phase : Phase) (found : List ℕ) → HasAmong OrLost OrLost r
      → Chain size at r (read ∷ before) last phase → LeaveByMessages size at before → ReadSector size at read found → found ≡ bytes
  read_second size small r last read before phase found has chain leave reads =
      let kept = messages_keep size at small OrLost OrLost (λ v is. is) r chain.0 before [] chain.1
      (λ mid was none. carried at OrLost OrLost (λ v is. is) r mid none.0 has)
      (subst (λ (l : List Turned). Chain size at r l chain.0 chain.1) (sym (append-nil before)) chain.2) leave in
      not_lost found (kept.shows (Bytes found) (message_read size at small chain.0 last chain.1 phase read found chain.4 reads chain.3).0)

pub read_again : (first second : Beginning) (faults others : List Line) (one : SessionSoFar first faults) (two : SessionSoFar second others) (size large at : ℕ) (read : Turned) (before after : List Turned)
    (bytes found : List ℕ) → export_after one.opened.steps ≡ Serving size → size < 2048 * 2 ^ 32 → SettledSector size at one.turns bytes
    → IsLeft one.now second.image → kind_of two.opened.start ≡ kind_of one.now → FaultsLeave at others → export_after two.opened.steps ≡ Serving large → large < 2048 * 2 ^ 32
    → two.turns ≡ after ++ (read ∷ before) → LeaveByMessages large at before → ReadSector large at read found → found ≡ bytes
read_again first second faults others one two size large at read before after bytes found serves small settled left kind faults_leave_it serves_then short turns_are leave reads =
    let registers = registers_again first.image second.image one.opened.start one.now two.opened.start two.now
    (map step_of (dids_in one.turns) ++ one.opened.steps) (map step_of (dids_in two.turns) ++ two.opened.steps) at
    one.opened.starts (session_runs first faults one) left two.opened.starts kind (session_runs second others two) in
    let runs = two_runs at registers.first registers.middle (map step_of (dids_in one.turns)) one.opened.steps registers.turns in
    let joint = joint_of size at one.opened.ready one.now runs.mid registers.middle one.turns one.phase
    (subst (λ (e : Export). Talk e one.opened.ready one.turns one.now one.phase) serves one.talk) runs.second in
    let has = settled_last size at small one.opened.ready runs.mid bytes one.now registers.middle one.turns one.phase joint settled in
    let then_runs = two_runs at (reopened registers.middle) registers.last (map step_of (dids_in two.turns)) two.opened.steps registers.then_turns in
    let kept = lines_keep at bytes (reopened registers.middle) then_runs.mid two.opened.steps
    (steps_leave at two.opened.start others two.opened.steps two.opened.lines_are faults_leave_it) then_runs.first (again_among at bytes registers.middle has) in
    let answered = talk_answered (Serving large) two.opened.ready two.now two.turns two.phase
    (subst (λ (e : Export). Talk e two.opened.ready two.turns two.now two.phase) serves_then two.talk) in
    let chain = chain_of large at then_runs.mid registers.last two.turns two.phase answered then_runs.second in
    let rest = earlier_chain large at then_runs.mid registers.last after (read ∷ before) two.phase
    (subst (λ (l : List Turned). Chain large at then_runs.mid l registers.last two.phase) turns_are chain) in
    read_second at bytes large short then_runs.mid rest.last read before rest.phase found kept rest.chain leave reads

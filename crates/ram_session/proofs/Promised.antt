-- The promise of a session, from what stands with each status.
use Rattle.std.specs.Prelude.{◌≡◌, ℕ, false, Option, Some, None, List, [], ◌∷◌, ◌++◌, map, take, drop}
use Rattle.std.proofs.Common.{refl, sym, ap, ◌∙◌, inl, inr, append_assoc, append-nil, take-append-drop}
use Rattle.model_cache.proofs.Members.{Contains-none}
use Rattle.model_nbd.specs.Messages.{greeting}
use Rattle.model_nbd.specs.Handshake.{Export}
use Rattle.ram_text.specs.declared.script.Line.{Line}
use Rattle.ram_machine.specs.declared.status.Status.{Status}
use Rattle.ram_machine.specs.declared.status.Status.TheVariants as statuses
use Rattle.ram_machine.specs.Answered.{AnsweredStep}
use Rattle.ram_machine.specs.Register.{IsRegister, Register}
use Rattle.ram_machine.specs.States.{State, Unopened, Disc}
use Rattle.ram_machine.proofs.SectorOpened.{registers}
use Rattle.ram_script.specs.Progress.{Beginning}
use Rattle.ram_session.specs.Doing.{step_of}
use Rattle.ram_session.specs.Talk.{Phase, Turned, Talk, dids_in, told_in}
use Rattle.ram_session.specs.Opening.{Given, AreOpening, IsOpenedInPart, opening_lines, lines_done, export_after}
use Rattle.ram_script.specs.Endings.{Aftermath}
use Rattle.ram_machine.specs.Inserted.{LeavesImage}
use Rattle.ram_session.specs.Session.{SessionSoFar, TalkEnds, SessionStands, newest, earlier}
use Rattle.ram_session.specs.Promise.{AreAnswered, KeepsSession}
use Rattle.ram_session.proofs.Chains.{session_runs}

-- a talk is answered
talk_answered : (export : Export) (first last : State) (turns : List Turned) (phase : Phase) → Talk export first turns last phase
    → AreAnswered export turns phase
talk_answered export first last [] phase talk = talk.1
talk_answered export first last (turned ∷ before) phase talk =
    (talk.1, talk_answered export first talk.0 before talk.1 talk.2, talk.4)

-- the lines before the greeting begin those of the words
record Begins (faults : List Line) (steps : List AnsweredStep) : Type 0 where
  others : List Given
  lines_are : opening_lines faults ≡ lines_done steps ++ others

opening_begins : (start : State) (faults : List Line) (steps : List AnsweredStep) → AreOpening start faults steps → Begins faults steps
opening_begins (Unopened image) faults steps is =
    record { others = opening_lines faults; lines_are = ap (λ (l : List AnsweredStep). lines_done l ++ opening_lines faults) (sym is) }
opening_begins (Disc s) faults steps is = record { others = []; lines_are = sym is.0 ∙ sym (append-nil (lines_done steps)) }

-- the newest answer behind the others
told_last : (turns : List Turned) → told_in turns ≡ earlier turns ++ newest turns
told_last [] = refl
told_last (turned ∷ before) = refl

module _ (first : Beginning) (faults : List Line) where
  abbrev Keeps : Option (List ℕ) → Type 0
  Keeps written = KeepsSession faults first.script first.report first.image written

  so_far : (far : SessionSoFar first faults) (written : Option (List ℕ)) (bytes more : List ℕ) → written ≡ Some bytes
      → bytes ++ more ≡ first.report ++ told_in far.turns → Keeps written
  so_far far written bytes more is prefix =
      let begins = opening_begins far.opened.start faults far.opened.steps far.opened.lines_are in
      record {
        opening = far.opened.steps;
        others = begins.others;
        lines_are = begins.lines_are;
        turns = far.turns;
        phase = far.phase;
        answered = talk_answered (export_after far.opened.steps) far.opened.ready far.now far.turns far.phase far.talk;
        rest = far.rest;
        sent_is = far.sent_is;
        registers = λ at. registers first.image far.opened.start far.now (map step_of (dids_in far.turns) ++ far.opened.steps) at
            far.opened.starts (session_runs first faults far);
        bytes = bytes;
        more = more;
        written_is = is;
        prefix = prefix;
      }

  -- all answers are written
  told : (far : SessionSoFar first faults) (written : Option (List ℕ)) → written ≡ Some (first.report ++ told_in far.turns) → Keeps written
  told far written is =
      so_far far written (first.report ++ told_in far.turns) [] is (append-nil (first.report ++ told_in far.turns))

  -- a part of the newest is
  told_in_part : (far : SessionSoFar first faults) (written : Option (List ℕ)) (n : ℕ)
      → written ≡ Some (first.report ++ (earlier far.turns ++ take n (newest far.turns))) → Keeps written
  told_in_part far written n is =
      so_far far written (first.report ++ (earlier far.turns ++ take n (newest far.turns))) (drop n (newest far.turns)) is
      (append_assoc first.report (earlier far.turns ++ take n (newest far.turns)) (drop n (newest far.turns))
      ∙ ap (λ (l : List ℕ). first.report ++ l) (append_assoc (earlier far.turns) (take n (newest far.turns)) (drop n (newest far.turns))
      ∙ ap (λ (l : List ℕ). earlier far.turns ++ l) (take-append-drop n (newest far.turns)) ∙ sym (told_last far.turns)))

  -- a client was greeted
  pub greeted : (leaves : State → Type 0) (left written : Option (List ℕ)) (status : Status)
      → TalkEnds first faults leaves left written status → Keeps written
  greeted leaves left written statuses.Done (far, ends) = told far written ends.at.written_is
  greeted leaves left written statuses.Script (far, inl (violates, at)) = told far written at.written_is
  greeted leaves left written statuses.Script (far, inr (inl (came, some, awaits, none, at))) = told far written at.written_is
  greeted leaves left written statuses.Script (far, inr (inr (most, at))) = told far written at.written_is
  greeted leaves left written statuses.SourceFault (far, ends) = told far written ends.at.written_is
  greeted leaves left written statuses.SinkFault (far, ends) = told_in_part far written ends.n ends.written_is
  greeted leaves left written statuses.ImageFault (far, ends) = told far written ends.written_is
  greeted leaves left written statuses.Differs ends = absurd ends
  greeted leaves left written statuses.Usage ends = absurd ends
  greeted leaves left written statuses.NoMemory ends = absurd ends
  greeted leaves left written statuses.NotADisc ends = absurd ends

  -- some of the lines before the greeting were done, and nothing came or was told
  pub in_part : (part : IsOpenedInPart first faults) (written : Option (List ℕ)) → written ≡ Some first.report → Keeps written
  in_part part written is = record {
    opening = part.steps;
    others = part.next ∷ part.others;
    lines_are = part.lines_are;
    turns = [];
    phase = _;
    answered = refl;
    rest = first.script;
    sent_is = refl;
    registers = λ at. registers first.image part.start part.now part.steps at part.starts part.run;
    bytes = first.report;
    more = greeting;
    written_is = is;
    prefix = refl;
  }

  -- nothing was done at all
  pub not_begun : (written : Option (List ℕ)) → written ≡ Some first.report → Keeps written
  not_begun written is = record {
    opening = [];
    others = opening_lines faults;
    lines_are = refl;
    turns = [];
    phase = _;
    answered = refl;
    rest = first.script;
    sent_is = refl;
    registers = λ at. untouched at;
    bytes = first.report;
    more = greeting;
    written_is = is;
    prefix = refl;
  }
    where
      nothing : Register
      nothing = record { now = None; falls = []; caches = false }

      untouched : (at : ℕ) → IsRegister first.image [] at
      untouched at = record {
        first = nothing;
        last = nothing;
        opened = record { off = refl; held = λ value has. absurd (Contains-none value has); uncached = refl };
        turns = refl;
      }

-- by the status
pub session_keeps : (first : Beginning) (faults : List Line) (after : Aftermath) (status : Status) → SessionStands first faults after status
    → KeepsSession faults first.script first.report first.image after.written
session_keeps first faults after status stands = by status stands
  where
    left : (status : Status) → TalkEnds first faults (λ s. LeavesImage s after.image) after.left after.written status
        → KeepsSession faults first.script first.report first.image after.written
    left status = greeted first faults (λ s. LeavesImage s after.image) after.left after.written status

    by : (status : Status) → SessionStands first faults after status → KeepsSession faults first.script first.report first.image after.written
    by statuses.Script (inl (ends, ungreeted)) = in_part first faults ends.part after.written ungreeted.written_is
    by statuses.Script (inr ends) = left statuses.Script ends
    by statuses.ImageFault (inl (inl unopened)) = not_begun first faults after.written unopened.ungreeted.written_is
    by statuses.ImageFault (inl (inr (ends, ungreeted))) = in_part first faults ends.part after.written ungreeted.written_is
    by statuses.ImageFault (inr ends) = left statuses.ImageFault ends
    by statuses.Done ends = left statuses.Done ends
    by statuses.SourceFault ends = left statuses.SourceFault ends
    by statuses.SinkFault ends = left statuses.SinkFault ends
    by statuses.Differs ends = left statuses.Differs ends
    by statuses.Usage ends = left statuses.Usage ends
    by statuses.NoMemory ends = left statuses.NoMemory ends
    by statuses.NotADisc ends = left statuses.NotADisc ends

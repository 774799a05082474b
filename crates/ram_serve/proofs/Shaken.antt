-- What the greeting, the flags and the options of a client make of a session.
use Rattle.std.specs.Prelude.{◌≡◌, ℕ, ◌+◌, Bool, Option, Some, Result, Ok, Err, List, [], take}
use Rattle.std.proofs.Common.{arith, refl, sym, ap, ◌∙◌, subst}
use Rattle.std.specs.Io.KnownBytes.{append_known, prepend_known}
use Rattle.model_nbd.specs.declared.NextPhase.{NextPhase}
use Rattle.model_nbd.specs.Messages.{greeting}
use Rattle.model_nbd.specs.Handshake.{Export, Serving, OptionAnswer, option_answer}
use Rattle.ram_nbd.specs.declared.handshake.OptionHead.{OptionHead}
use Rattle.ram_text.specs.declared.script.Line.{Line}
use Rattle.ram_machine.specs.declared.status.Status.{Status}
use Rattle.ram_machine.specs.declared.status.Status.TheVariants as statuses
use Rattle.ram_machine.specs.States.{State, Served, Disc}
use Rattle.ram_script.specs.Progress.{Beginning}
use Rattle.ram_session.specs.Talk.{Greeted, Options, Transmission, Flags, Wants, IsOptionAnswered, phase_after}
use Rattle.ram_session.specs.Session.{SessionSoFar, TalkEnds}
use Rattle.ram_serve.specs.Messages.{ToldRule}
use Rattle.ram_serve.specs.Taking.{TakeRule, FlagsCame, OptionCame, head_answer}
use Rattle.ram_serve.specs.Turns.{BetweenRequests}
use Rattle.ram_serve.specs.Handshakes.{IsState, IsToBeGreeted, InHandshake, HandshakeLeadsTo}
use Rattle.ram_serve.proofs.Talked.{append_nothing, ends_untaken, answer_told, answer_cut}

module _ (first : Beginning) (faults : List Line) (export : Export) (ready : State) where
  module _ (left left' written written' : Option (List ℕ)) (u : IsToBeGreeted first faults export ready left written) where
    abbrev begun : SessionSoFar first faults
    begun = record {
      opened = u.opened;
      turns = [];
      now = u.opened.ready;
      phase = Greeted;
      talk = (refl, refl);
      rest = first.script;
      sent_is = refl;
    }

    -- the client was greeted
    pub greeted : (bytes : List ℕ) → bytes ≡ greeting → left' ≡ left → written' ≡ append_known written bytes
        → InHandshake first faults export ready Greeted 0 left' written'
    greeted bytes is same told = record {
      far = begun;
      serves = u.serves;
      phase_is = refl;
      many = omega arith;
      at = record {
        written_is =
            told ∙ ap (λ (o : Option (List ℕ)). append_known o bytes) u.written_is
            ∙ ap (λ (l : List ℕ). append_known (Some first.report) l) is;
        left_is = ap (λ (o : Option (List ℕ)). prepend_known [] o) (same ∙ u.left_is);
        leaves_now = u.ready_is;
      };
    }

    -- the sink failed in the greeting
    pub greeting_cut : (bytes : List ℕ) (g g' : ℕ) (status : Status) → bytes ≡ greeting → left' ≡ left
        → ToldRule written written' g g' bytes (Err status) → TalkEnds first faults (IsState ready) left' written' status
    greeting_cut bytes g g' status is same rule =
        by_status status (subst (λ (l : List ℕ). ToldRule written written' g g' l (Err status)) is rule)
      where
        by_status : (status : Status) → ToldRule written written' g g' greeting (Err status)
            → TalkEnds first faults (IsState ready) left' written' status
        by_status statuses.SinkFault rule = (
          begun,
          record {
            n = rule.0;
            part = rule.1;
            written_is = rule.2 ∙ ap (λ (o : Option (List ℕ)). append_known o (take rule.0 greeting)) u.written_is;
            left_is = same ∙ u.left_is;
            leaves_now = u.ready_is;
          },
        )
        by_status statuses.Done rule = absurd rule
        by_status statuses.Script rule = absurd rule
        by_status statuses.SourceFault rule = absurd rule
        by_status statuses.ImageFault rule = absurd rule
        by_status statuses.Differs rule = absurd rule
        by_status statuses.Usage rule = absurd rule
        by_status statuses.NoMemory rule = absurd rule
        by_status statuses.NotADisc rule = absurd rule

  -- its flags came, or none
  pub flags_taken : (left left' written written' : Option (List ℕ)) (f f' : ℕ) → InHandshake first faults export ready Greeted 0 left written
      → written' ≡ written → (result : Result Bool Status) → TakeRule left left' f f' (FlagsCame left left' f f') Greeted result
      → HandshakeLeadsTo first faults export ready Options 1 left' written' result
  flags_taken left left' written written' f f' b same (Ok zeros) came =
      answer_told first faults export Greeted 0 (IsState ready) left left' written b (Flags zeros) came.went [] [] b.far.now (Options zeros) refl
      (record { nothing_done = refl; nothing_told = refl; next_is = refl }) (IsState ready) written' b.at.leaves_now
      (same ∙ append_nothing written)
  flags_taken left left' written written' f f' b same (Err status) none =
      ends_untaken first faults export Greeted 0 (IsState ready) left left' written b tt f f' status written' same none

  -- an option came
  module _ (zeros : Bool) (n : ℕ) (left left' written written' : Option (List ℕ))
      (b : InHandshake first faults export ready (Options zeros) n left written) (f f' : ℕ) (room : List ℕ) (head : OptionHead)
      (came : OptionCame left left' f f' room head) (bytes : List ℕ) (next : NextPhase)
      (answer : record { bytes = bytes; next = next } ≡ head_answer export zeros head room) where
    is_answer : record { bytes = bytes; next = next } ≡ option_answer export zeros came.option
    is_answer = answer ∙ came.answers export zeros

    option_answered : IsOptionAnswered export zeros came.option [] bytes (phase_after zeros next)
    option_answered = record {
      whole = came.whole;
      nothing_done = refl;
      told_is = ap (λ (a : OptionAnswer). a.bytes) is_answer;
      next_is = ap (λ (a : OptionAnswer). phase_after zeros a.next) is_answer;
    }

    -- Its answer was told, of a sink and a source that are as they were.
    module _ (shown left'' : Option (List ℕ)) (spoken : List ℕ) (same_shown : shown ≡ written) (same_left : left'' ≡ left') (is : spoken ≡ bytes) where
      pub option_told : written' ≡ append_known shown spoken → InHandshake first faults export ready (phase_after zeros next) (n + 1) left'' written'
      option_told told =
          subst (λ (o : Option (List ℕ)). InHandshake first faults export ready (phase_after zeros next) (n + 1) o written') (sym same_left)
          (answer_told first faults export (Options zeros) n (IsState ready) left left' written b (Wants came.option) came.went [] bytes b.far.now
          (phase_after zeros next) refl option_answered (IsState ready) written' b.at.leaves_now
          (told ∙ ap (λ (o : Option (List ℕ)). append_known o spoken) same_shown ∙ ap (λ (l : List ℕ). append_known written l) is))

      -- the sink failed in it
      pub option_answer_cut : (g g' : ℕ) (status : Status) → ToldRule shown written' g g' spoken (Err status)
          → TalkEnds first faults (IsState ready) left'' written' status
      option_answer_cut g g' status rule =
          subst (λ (o : Option (List ℕ)). TalkEnds first faults (IsState ready) o written' status) (sym same_left)
          (by_status status
          (subst (λ (l : List ℕ). ToldRule written written' g g' l (Err status)) is
          (subst (λ (o : Option (List ℕ)). ToldRule o written' g g' spoken (Err status)) same_shown rule)))
        where
          by_status : (status : Status) → ToldRule written written' g g' bytes (Err status)
              → TalkEnds first faults (IsState ready) left' written' status
          by_status statuses.SinkFault rule =
              answer_cut first faults export (Options zeros) n (IsState ready) left left' written b (Wants came.option) came.went [] bytes b.far.now
              (phase_after zeros next) refl option_answered (IsState ready) written' rule.0 b.at.leaves_now rule.1 rule.2
          by_status statuses.Done rule = absurd rule
          by_status statuses.Script rule = absurd rule
          by_status statuses.SourceFault rule = absurd rule
          by_status statuses.ImageFault rule = absurd rule
          by_status statuses.Differs rule = absurd rule
          by_status statuses.Usage rule = absurd rule
          by_status statuses.NoMemory rule = absurd rule
          by_status statuses.NotADisc rule = absurd rule

-- After the handshake requests may be served to the disc that the client was greeted with.
pub requests_begin : (first : Beginning) (faults : List Line) (size n : ℕ) (disc : Served) (stands : State → Type 0)
    (left written : Option (List ℕ)) → stands (Disc disc) → InHandshake first faults (Serving size) (Disc disc) Transmission n left written
    → BetweenRequests first faults size n stands left written
requests_begin first faults size n disc stands left written there b = record {
  between = record {
    far = b.far;
    serves = b.serves;
    phase_is = b.phase_is;
    many = b.many;
    at = record { written_is = b.at.written_is; left_is = b.at.left_is; leaves_now = subst stands (sym b.at.leaves_now) there };
  };
  disc = disc;
  disc_is = b.at.leaves_now;
}

-- What a message that came makes of a session, in any phase, and how a session ends between two messages.
use Rattle.std.specs.Prelude.{◌≡◌, ℕ, ◌+◌, ◌-◌, ◌^◌, ◌<◌, ◌≤◌, Option, None, Some, List, [], ◌∷◌, ◌++◌, length, take}
use Rattle.std.proofs.Common.{arith, inl, inr, refl, sym, ap, ◌∙◌, subst, append_assoc, append-nil}
use Rattle.std.specs.Io.KnownBytes.{append_known, prepend_known}
use Rattle.model_nbd.specs.Handshake.{Export}
use Rattle.ram_text.specs.declared.script.Line.{Line}
use Rattle.ram_outside.specs.Conversation.{Asked, AsksOnly}
use Rattle.ram_outside.proofs.Additions.{added_then, added_mapped}
use Rattle.ram_receive.specs.Receiving.{Went}
use Rattle.ram_machine.specs.declared.status.Status.{Status}
use Rattle.ram_machine.specs.declared.status.Status.TheVariants as statuses
use Rattle.ram_machine.specs.States.{State}
use Rattle.ram_script.specs.Progress.{Beginning}
use Rattle.ram_session.specs.Doing.{Did, Doing}
use Rattle.ram_session.specs.Talk.{Phase, Left, Violation, Message, message_bytes, FollowsBy, AwaitsMessage, BeginsNoMessage, sent_in, told_in}
use Rattle.ram_session.specs.Opening.{export_after}
use Rattle.ram_session.specs.Session.{SessionSoFar, IsToldBy, IsLeftAt, BreaksProtocol, TalkEnds}
use Rattle.ram_serve.specs.Taking.{IsAskWithin, NoneCame}
use Rattle.ram_serve.specs.Turns.{BetweenMessages}
use Rattle.ram_serve.proofs.Cuts.{at_end}

-- what is left behind these bytes
pub record IsBehind (left' : Option (List ℕ)) (came rest : List ℕ) : Type 0 where
  pub behind : List ℕ
  pub left_is : left' ≡ Some behind
  pub rest_is : rest ≡ came ++ behind

known_left : (left : Option (List ℕ)) (rest : List ℕ) → prepend_known [] left ≡ Some rest → left ≡ Some rest
known_left None rest is = is
known_left (Some xs) rest is = is

behind : (left left' : Option (List ℕ)) (came rest : List ℕ) → left ≡ Some rest → Went left left' came → IsBehind left' came rest
behind None left' came rest is went = absurd (none_some rest is)
  where
    none_some : (xs : List ℕ) → None ≡ Some xs → ⊥
    none_some xs same = cc
behind (Some xs) None came rest is went = elim went.next [ ]
behind (Some xs) (Some ys) came rest is went = record { behind = ys; left_is = refl; rest_is = same_in xs rest is ∙ went.next }
  where
    same_in : (xs ys : List ℕ) → Some xs ≡ Some ys → ys ≡ xs
    same_in xs ys same = cc

-- what is written, and nothing more
pub append_nothing : (o : Option (List ℕ)) → o ≡ append_known o []
append_nothing None = refl
append_nothing (Some xs) = ap Some (sym (append-nil xs))

module _ (first : Beginning) (faults : List Line) (export : Export) (phase : Phase) (n : ℕ) (stands : State → Type 0)
    (left left' written : Option (List ℕ)) (b : BetweenMessages first faults export phase n stands left written) where
  -- after these bytes
  at_behind : (came : List ℕ) → IsBehind left' came b.far.rest → IsLeftAt b.far stands left' written came
  at_behind came k = record {
    written_is = b.at.written_is;
    left_is = ap (λ (o : Option (List ℕ)). prepend_known came o) k.left_is ∙ ap Some (sym k.rest_is);
    leaves_now = b.at.leaves_now;
  }

  pub rest_behind : (came : List ℕ) → Went left left' came → IsBehind left' came b.far.rest
  rest_behind came went = behind left left' came b.far.rest (known_left left b.far.rest b.at.left_is) went

  -- no message came
  pub ends_taking : AwaitsMessage phase → (f f' : ℕ) (status : Status) → NoneCame left left' f f' phase status
      → TalkEnds first faults stands left' written status
  ends_taking awaits f f' statuses.Done rule =
      let k = rest_behind [] rule.went in
      (b.far, record { ended = inr (k.rest_is ∙ at_end left' k.behind rule.ended k.left_is); at = at_behind [] k })
  ends_taking awaits f f' statuses.Script rule =
      let k = rest_behind rule.came rule.went in
      let none : BeginsNoMessage b.far.phase b.far.rest =
      subst (λ (p : Phase). BeginsNoMessage p b.far.rest) (sym b.phase_is)
      (subst (λ (l : List ℕ). BeginsNoMessage phase l) (sym k.rest_is) (rule.none k.behind k.left_is)) in
      (b.far, inr (inl (rule.came, rule.some, subst AwaitsMessage (sym b.phase_is) awaits, none, at_behind rule.came k)))
  ends_taking awaits f f' statuses.SourceFault rule =
      let none : BeginsNoMessage b.far.phase rule.came =
      subst (λ (p : Phase). BeginsNoMessage p rule.came) (sym b.phase_is) rule.none in (
        b.far,
        record {
          awaits = subst AwaitsMessage (sym b.phase_is) awaits;
          came = rule.came;
          no_message = none;
          at = at_behind rule.came (rest_behind rule.came rule.went);
        },
      )
  ends_taking awaits f f' statuses.Differs rule = absurd rule
  ends_taking awaits f f' statuses.Usage rule = absurd rule
  ends_taking awaits f f' statuses.ImageFault rule = absurd rule
  ends_taking awaits f f' statuses.SinkFault rule = absurd rule
  ends_taking awaits f f' statuses.NoMemory rule = absurd rule
  ends_taking awaits f f' statuses.NotADisc rule = absurd rule

  -- the same with a sink that is as it was
  pub ends_untaken : AwaitsMessage phase → (f f' : ℕ) (status : Status) (shown : Option (List ℕ)) → shown ≡ written
      → NoneCame left left' f f' phase status → TalkEnds first faults stands left' shown status
  ends_untaken awaits f f' status shown same rule =
      subst (λ (o : Option (List ℕ)). TalkEnds first faults stands left' o status) (sym same) (ends_taking awaits f f' status rule)

  -- a message came
  module _ (message : Message) (went : Went left left' (message_bytes message)) (dids : List Did) (reply : List ℕ) (now : State) (next : Phase)
      (does : Doing b.far.now dids now) (follows : FollowsBy phase message export dids reply next) where
    abbrev k : IsBehind left' (message_bytes message) b.far.rest
    k = rest_behind (message_bytes message) went

    abbrev follows_on : FollowsBy b.far.phase message (export_after b.far.opened.steps) dids reply next
    follows_on =
        subst (λ (p : Phase). FollowsBy p message (export_after b.far.opened.steps) dids reply next) (sym b.phase_is)
        (subst (λ (e : Export). FollowsBy phase message e dids reply next) (sym b.serves) follows)

    abbrev further : SessionSoFar first faults
    further = record {
      opened = b.far.opened;
      turns = record { message = message; dids = dids; bytes = reply } ∷ b.far.turns;
      now = now;
      phase = next;
      talk = (b.far.now, b.far.phase, b.far.talk, does, follows_on);
      rest = k.behind;
      sent_is =
          b.far.sent_is ∙ ap (λ (l : List ℕ). sent_in b.far.turns ++ l) k.rest_is
          ∙ sym (append_assoc (sent_in b.far.turns) (message_bytes message) k.behind);
    }

    -- and the answer to it was told
    abbrev pub answer_told : (stands' : State → Type 0) (written' : Option (List ℕ)) → stands' now → written' ≡ append_known written reply
        → BetweenMessages first faults export next (n + 1) stands' left' written'
    answer_told stands' written' there told = record {
      far = further;
      serves = b.serves;
      phase_is = refl;
      many = omega (arith, b.many);
      at = record {
        written_is =
            told ∙ ap (λ (o : Option (List ℕ)). append_known o reply) b.at.written_is
            ∙ ap Some (append_assoc first.report (told_in b.far.turns) reply);
        left_is = ap (λ (o : Option (List ℕ)). prepend_known [] o) k.left_is;
        leaves_now = there;
      };
    }

    -- and the sink failed in the answer to it
    pub answer_cut : (stands' : State → Type 0) (written' : Option (List ℕ)) (m : ℕ) → stands' now → m < length reply
        → written' ≡ append_known written (take m reply) → TalkEnds first faults stands' left' written' statuses.SinkFault
    answer_cut stands' written' m there part told = (
      further,
      record {
        n = m;
        part = part;
        written_is =
            told ∙ ap (λ (o : Option (List ℕ)). append_known o (take m reply)) b.at.written_is
            ∙ ap Some (append_assoc first.report (told_in b.far.turns) (take m reply));
        left_is = k.left_is;
        leaves_now = there;
      },
    )

module _ (first : Beginning) (faults : List Line) (export : Export) (n : ℕ) (stands : State → Type 0) (left written : Option (List ℕ)) where
  -- the client left
  pub has_left : BetweenMessages first faults export Left n stands left written → TalkEnds first faults stands left written statuses.Done
  has_left b = (b.far, record { ended = inl b.phase_is; at = b.at })

  -- the protocol has no answer
  pub has_no_answer : BetweenMessages first faults export Violation n stands left written → TalkEnds first faults stands left written statuses.Script
  has_no_answer b = (b.far, inl (b.phase_is, b.at))

  module _ (phase : Phase) where
    -- as many messages came as a session has at most
    pub has_most : 2 ^ 64 - 1 ≤ n → BetweenMessages first faults export phase n stands left written → TalkEnds first faults stands left written statuses.Script
    has_most most b = (b.far, inr (inr (omega (arith, most, b.many), b.at)))

    -- at least as many messages
    pub many_as : (m : ℕ) → m ≤ n → BetweenMessages first faults export phase n stands left written → BetweenMessages first faults export phase m stands left written
    many_as m fewer b = record { far = b.far; serves = b.serves; phase_is = b.phase_is; many = omega (arith, fewer, b.many); at = b.at }

    -- whenever more was asked for in a message, all was told
    pub asks_told : BetweenMessages first faults export phase n stands left written → (a b c : Option (List Asked))
        → AsksOnly (IsToldBy first faults) a b → AsksOnly (IsAskWithin left written phase) b c → AsksOnly (IsToldBy first faults) a c
    asks_told between a b c before asks =
        added_then (IsToldBy first faults) a b c before
        (added_mapped (IsAskWithin left written phase) (IsToldBy first faults) (λ ask within. told_by ask within) b c asks)
      where
        told_by : (ask : Asked) → IsAskWithin left written phase ask → IsToldBy first faults ask
        told_by ask within =
            let k = rest_behind first faults export phase n stands left ask.left written between within.came within.went in
            record {
              far = between.far;
              written_is = within.written_is ∙ between.at.written_is;
              awaits = subst AwaitsMessage (sym between.phase_is) within.awaits;
              came = within.came;
              no_message = subst (λ (p : Phase). BeginsNoMessage p within.came) (sym between.phase_is) within.none;
              rest_is = ap (λ (o : Option (List ℕ)). prepend_known within.came o) k.left_is ∙ ap Some (sym k.rest_is);
            }

-- A session that leaves states of one kind leaves those of another, where each is.
pub ends_where : (first : Beginning) (faults : List Line) (stands stands' : State → Type 0) (left written : Option (List ℕ))
    → ((s : State) → stands s → stands' s) → (status : Status) → TalkEnds first faults stands left written status
    → TalkEnds first faults stands' left written status
ends_where first faults stands stands' left written each status ends = by_status status ends
  where
    moved : (far : SessionSoFar first faults) (came : List ℕ) → IsLeftAt far stands left written came → IsLeftAt far stands' left written came
    moved far came at = record { written_is = at.written_is; left_is = at.left_is; leaves_now = each far.now at.leaves_now }

    broken : (far : SessionSoFar first faults) → BreaksProtocol far stands left written → BreaksProtocol far stands' left written
    broken far (inl breaks) = inl (breaks.0, moved far [] breaks.1)
    broken far (inr (inl breaks)) = inr (inl (breaks.0, breaks.1, breaks.2, breaks.3, moved far breaks.0 breaks.4))
    broken far (inr (inr breaks)) = inr (inr (breaks.0, moved far [] breaks.1))

    by_status : (status : Status) → TalkEnds first faults stands left written status → TalkEnds first faults stands' left written status
    by_status statuses.Done ends = (ends.0, record { ended = ends.1.ended; at = moved ends.0 [] ends.1.at })
    by_status statuses.Script ends = (ends.0, broken ends.0 ends.1)
    by_status statuses.SourceFault ends = (
      ends.0,
      record {
        awaits = ends.1.awaits;
        came = ends.1.came;
        no_message = ends.1.no_message;
        at = moved ends.0 ends.1.came ends.1.at;
      },
    )
    by_status statuses.SinkFault ends = (
      ends.0,
      record {
        n = ends.1.n;
        part = ends.1.part;
        written_is = ends.1.written_is;
        left_is = ends.1.left_is;
        leaves_now = each ends.0.now ends.1.leaves_now;
      },
    )
    by_status statuses.ImageFault ends =
        let e = ends.1 in (
          ends.0,
          record {
            size = e.size;
            serves = e.serves;
            asks = e.asks;
            request = e.request;
            whole = e.whole;
            rest = e.rest;
            comes = e.comes;
            dids = e.dids;
            good = e.good;
            mid = e.mid;
            done = e.done;
            state = e.state;
            fails = e.fails;
            written_is = e.written_is;
            left_is = e.left_is;
            leaves_state = each e.state e.leaves_state;
          },
        )
    by_status statuses.Differs ends = absurd ends
    by_status statuses.Usage ends = absurd ends
    by_status statuses.NoMemory ends = absurd ends
    by_status statuses.NotADisc ends = absurd ends

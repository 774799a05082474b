-- What a request that came makes of a session.
use Rattle.std.specs.Prelude.{◌≡◌, ℕ, ◌+◌, Option, Result, Ok, Err, List, []}
use Rattle.std.proofs.Common.{inl, inr, refl, sym, ap, ◌∙◌, subst}
use Rattle.std.specs.Io.KnownBytes.{append_known}
use Rattle.model_nbd.specs.declared.NbdOperation.{NbdOperation}
use Rattle.model_nbd.specs.Messages.{request_bytes}
use Rattle.model_nbd.specs.Handshake.{Serving}
use Rattle.model_nbd.specs.Operations.{request_asks}
use Rattle.model_nbd.specs.Commands.{Command, commands_of}
use Rattle.ram_text.specs.declared.script.Line.{Line}
use Rattle.ram_machine.specs.declared.status.Status.{Status}
use Rattle.ram_machine.specs.declared.status.Status.TheVariants as statuses
use Rattle.ram_machine.specs.States.{State, Served, Disc}
use Rattle.ram_script.specs.Progress.{Beginning}
use Rattle.ram_session.specs.Doing.{Doing, AreDone, AsksToLast, reply_to}
use Rattle.ram_session.specs.Talk.{Phase, Transmission, Left, Asks, IsRequestAnswered, phase_asked}
use Rattle.ram_session.specs.Session.{TalkEnds}
use Rattle.ram_transmission.specs.Requests.{RequestDone, RequestFails}
use Rattle.ram_serve.specs.declared.incoming.Incoming.{Incoming}
use Rattle.ram_serve.specs.Taking.{RequestCame}
use Rattle.ram_serve.specs.Turns.{BetweenMessages, BetweenRequests, RequestsLeadTo, ReplyRule, AnswerRule}
use Rattle.ram_serve.proofs.Talked.{append_nothing, rest_behind, answer_told, answer_cut, has_left}

-- a request came
module _ (first : Beginning) (faults : List Line) (size n : ℕ) (stands stands' : State → Type 0)
    (left left' written written' : Option (List ℕ)) (b : BetweenRequests first faults size n stands left written) (f f' : ℕ) (room : List ℕ)
    (incoming : Incoming) (came : RequestCame left left' f f' size room incoming) where
  same_asked : commands_of incoming.operation room ≡ commands_of (request_asks size came.request.header) came.request.payload
  same_asked = came.commands ∙ ap (λ (o : NbdOperation). commands_of o came.request.payload) came.operation_is

  -- its reply
  module _ (reply : List ℕ) (done : RequestDone stands' b.disc incoming.operation room incoming.cookie reply) where
    answered : (next : Phase) → next ≡ phase_asked incoming.operation → IsRequestAnswered size came.request done.dids reply next
    answered next is = record {
      whole = came.whole;
      done = subst (λ (cs : List Command). AreDone cs done.dids) same_asked done.done;
      told_is =
          done.reply_is
          ∙ ap (λ (c : ℕ). reply_to c incoming.operation done.dids) came.cookie_is
          ∙ ap (λ (o : NbdOperation). reply_to came.request.header.cookie o done.dids) came.operation_is;
      next_is = is ∙ ap phase_asked came.operation_is;
    }

    does : Doing b.between.far.now done.dids (Disc done.now)
    does = subst (λ (s : State). Doing s done.dids (Disc done.now)) (sym b.disc_is) done.does

    abbrev told_next : (next : Phase) → next ≡ phase_asked incoming.operation → written' ≡ append_known written reply
        → BetweenMessages first faults (Serving size) next (n + 1) stands' left' written'
    told_next next is told =
        answer_told first faults (Serving size) Transmission n stands left left' written b.between (Asks came.request) came.went done.dids reply
        (Disc done.now) next does (answered next is) stands' written' done.stands told

    told_then : (result : Result (Unit {0}) Status) → ReplyRule written written' incoming.operation reply result
        → RequestsLeadTo first faults size (n + 1) stands' left' written' result
    told_then (Ok ok) rule = record { between = told_next Transmission (sym rule.0) rule.1; disc = done.now; disc_is = refl }
    told_then (Err statuses.Done) rule =
        let nothing : [] ≡ reply = sym (done.reply_is ∙ ap (λ (o : NbdOperation). reply_to incoming.cookie o done.dids) rule.0) in
        has_left first faults (Serving size) (n + 1) stands' left' written'
        (told_next Left (sym (ap phase_asked rule.0)) (rule.1 ∙ append_nothing written ∙ ap (λ (l : List ℕ). append_known written l) nothing))
    told_then (Err statuses.SinkFault) rule =
        answer_cut first faults (Serving size) Transmission n stands left left' written b.between (Asks came.request) came.went done.dids reply
        (Disc done.now) (phase_asked incoming.operation) does (answered (phase_asked incoming.operation) refl) stands' written' rule.0
        done.stands rule.1 rule.2
    told_then (Err statuses.Script) rule = absurd rule
    told_then (Err statuses.SourceFault) rule = absurd rule
    told_then (Err statuses.Differs) rule = absurd rule
    told_then (Err statuses.Usage) rule = absurd rule
    told_then (Err statuses.ImageFault) rule = absurd rule
    told_then (Err statuses.NoMemory) rule = absurd rule
    told_then (Err statuses.NotADisc) rule = absurd rule

  -- the image failed in one of its commands
  image_failed : RequestFails stands' b.disc incoming.operation room → written' ≡ written
      → TalkEnds first faults stands' left' written' statuses.ImageFault
  image_failed (inl fails) same =
      let k = rest_behind first faults (Serving size) Transmission n stands left left' written b.between (request_bytes came.request) came.went in (
        b.between.far,
        record {
          size = size;
          serves = b.between.serves;
          asks = b.between.phase_is;
          request = came.request;
          whole = came.whole;
          rest = k.behind;
          comes = k.rest_is;
          dids = fails.dids;
          good = fails.good;
          mid = Disc fails.mid;
          done = subst (λ (s : State). Doing s fails.dids (Disc fails.mid)) (sym b.disc_is) fails.does;
          state = Disc fails.fails.now;
          fails = inl (record {
            command = fails.command;
            undone = fails.undone;
            commands_are = sym same_asked ∙ fails.commands_are;
            data_in = fails.fails.data_in;
            step = fails.fails.step;
          });
          written_is = same ∙ b.between.at.written_is;
          left_is = k.left_is;
          leaves_state = fails.fails.stands;
        },
      )
  -- or as all was to last
  image_failed (inr fails) same =
      let k = rest_behind first faults (Serving size) Transmission n stands left left' written b.between (request_bytes came.request) came.went in (
        b.between.far,
        record {
          size = size;
          serves = b.between.serves;
          asks = b.between.phase_is;
          request = came.request;
          whole = came.whole;
          rest = k.behind;
          comes = k.rest_is;
          dids = fails.dids;
          good = fails.good.good;
          mid = Disc fails.mid;
          done = subst (λ (s : State). Doing s fails.dids (Disc fails.mid)) (sym b.disc_is) fails.does;
          state = Disc fails.fails.now;
          fails = inr (record {
            asks = subst AsksToLast came.operation_is fails.asks;
            all_done = sym same_asked ∙ fails.good.all_done;
            step = fails.fails.step;
          });
          written_is = same ∙ b.between.at.written_is;
          left_is = k.left_is;
          leaves_state = fails.fails.stands;
        },
      )

  -- it was done, or not
  pub answered_then : (result : Result (Unit {0}) Status)
      → AnswerRule stands' written written' b.disc incoming.operation room incoming.cookie result
      → RequestsLeadTo first faults size (n + 1) stands' left' written' result
  answered_then (Ok ok) rule = told_then rule.reply rule.done (Ok ok) rule.told
  answered_then (Err statuses.Done) rule = told_then rule.reply rule.done (Err statuses.Done) rule.told
  answered_then (Err statuses.SinkFault) rule = told_then rule.reply rule.done (Err statuses.SinkFault) rule.told
  answered_then (Err statuses.ImageFault) rule = image_failed rule.0 rule.1
  answered_then (Err statuses.Script) rule = absurd rule.told
  answered_then (Err statuses.SourceFault) rule = absurd rule.told
  answered_then (Err statuses.Differs) rule = absurd rule.told
  answered_then (Err statuses.Usage) rule = absurd rule.told
  answered_then (Err statuses.NoMemory) rule = absurd rule.told
  answered_then (Err statuses.NotADisc) rule = absurd rule.told

  -- the same, where the reply was told of a sink and a source that are as they were
  pub request_served : (shown left'' : Option (List ℕ)) → shown ≡ written → left'' ≡ left' → (result : Result (Unit {0}) Status)
      → ((s : Served) → stands (Disc s) → AnswerRule stands' shown written' s incoming.operation room incoming.cookie result)
      → RequestsLeadTo first faults size (n + 1) stands' left'' written' result
  request_served shown left'' same_shown same_left result rule =
      subst (λ (o : Option (List ℕ)). RequestsLeadTo first faults size (n + 1) stands' o written' result) (sym same_left)
      (answered_then result
      (subst (λ (o : Option (List ℕ)). AnswerRule stands' o written' b.disc incoming.operation room incoming.cookie result) same_shown
      (rule b.disc (subst stands b.disc_is b.between.at.leaves_now))))

-- a request was done, and its reply told so
pub answered_so : (after : State → Type 0) (written written' : Option (List ℕ)) (s : Served) (operation : NbdOperation)
    (payload : List ℕ) (cookie : ℕ) (reply shown : List ℕ) → shown ≡ reply → RequestDone after s operation payload cookie reply
    → (result : Result (Unit {0}) Status) → ReplyRule written written' operation shown result
    → AnswerRule after written written' s operation payload cookie result
answered_so after written written' s operation payload cookie reply shown same done result rule =
    by_result result (subst (λ (l : List ℕ). ReplyRule written written' operation l result) same rule)
  where
    by_result : (result : Result (Unit {0}) Status) → ReplyRule written written' operation reply result
        → AnswerRule after written written' s operation payload cookie result
    by_result (Ok ok) told = record { reply = reply; done = done; told = told }
    by_result (Err statuses.Done) told = record { reply = reply; done = done; told = told }
    by_result (Err statuses.SinkFault) told = record { reply = reply; done = done; told = told }
    by_result (Err statuses.ImageFault) told = absurd told
    by_result (Err statuses.Script) told = absurd told
    by_result (Err statuses.SourceFault) told = absurd told
    by_result (Err statuses.Differs) told = absurd told
    by_result (Err statuses.Usage) told = absurd told
    by_result (Err statuses.NoMemory) told = absurd told
    by_result (Err statuses.NotADisc) told = absurd told

-- the same number of messages
pub between_as : (first : Beginning) (faults : List Line) (size n m : ℕ) (stands : State → Type 0) (left written : Option (List ℕ))
    → n ≡ m → BetweenRequests first faults size n stands left written → BetweenRequests first faults size m stands left written
between_as first faults size n m stands left written same between =
    subst (λ (k : ℕ). BetweenRequests first faults size k stands left written) same between

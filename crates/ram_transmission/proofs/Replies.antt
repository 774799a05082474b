-- The reply to a request, by how its commands ended.
use Rattle.std.specs.Prelude.{◌≡◌, ℕ, ◌==◌, if◌then◌else◌, Bool, true, false, IsTrue, Ok, Err, List, [], ◌∷◌, ◌++◌}
use Rattle.std.proofs.Common.{refl, sym, ap, ◌∙◌, subst, inl, inr}
use Rattle.model_sense.specs.declared.answer.Answer.{Answer}
use Rattle.model_sense.specs.declared.answer.Answer.TheVariants as answers
use Rattle.model_nbd.specs.declared.NbdOperation.{NbdOperation}
use Rattle.model_nbd.specs.declared.NbdOperation.TheVariants as operations
use Rattle.model_nbd.specs.Messages.{reply_bytes}
use Rattle.model_nbd.specs.Commands.{Command, commands_of, error_of, lacks_spare}
use Rattle.ram_medium.specs.declared.control.SyncEnd.TheVariants as syncs
use Rattle.ram_machine.specs.declared.stopped.Stopped.{Stopped}
use Rattle.ram_machine.specs.declared.stopped.Stopped.TheVariants as stopped
use Rattle.ram_machine.specs.States.{State, Served, Unopened, Disc}
use Rattle.ram_machine.specs.Control.{SyncStep, IsSynced}
use Rattle.ram_session.specs.Doing.{Did, WereAllGood, AreDone, AsksToLast, error_after, data_from, reply_to}
use Rattle.ram_transmission.specs.Chains.{EndsWith, ChainDone, ChainRule, AnyData, GoesBehind}
use Rattle.ram_transmission.specs.Requests.{RequestDone, RequestRule, LastingRule, DiscFailsToLast}

error_ended : (dids : List Did) (answer : Answer) → EndsWith dids answer → error_after dids ≡ error_of answer
error_ended [] answer ends = absurd ends
error_ended (did ∷ before) answer ends = ap error_of ends

-- an error is not 0
either : (b : Bool) (bytes : List ℕ) → (if (if b then 28 else 5) == 0 then bytes else []) ≡ []
either true bytes = refl
either false bytes = refl

no_data : (answer : Answer) (bytes : List ℕ) → ¬ (answer ≡ answers.Good) → (if error_of answer == 0 then bytes else []) ≡ []
no_data answers.Good bytes bad = absurd (bad refl)
no_data (answers.Check sense) bytes bad = either (lacks_spare sense) bytes
no_data answers.Cut bytes bad = refl
no_data answers.Off bytes bad = refl
no_data answers.Fault bytes bad = refl

module _ (after : State → Type 0) (s : Served) (cookie : ℕ) where
  -- nothing was asked of the disc
  pub refused : (error : ℕ) (payload reply : List ℕ) → after (Disc s) → reply ≡ reply_bytes error cookie []
      → RequestDone after s (operations.Refused error) payload cookie reply
  refused error payload reply stands told = record {
    dids = [];
    done = inl (record { good = tt; all_done = refl });
    reply_is = told;
    now = s;
    does = refl;
    stands = stands;
  }

  -- a request whose reply has no data
  pub told_alone : (operation : NbdOperation) (payload reply : List ℕ) (answer : Answer)
      → ((dids : List Did) → reply_to cookie operation dids ≡ reply_bytes (error_after dids) cookie [])
      → reply ≡ reply_bytes (error_of answer) cookie [] → ChainDone AnyData after s (commands_of operation payload) answer
      → RequestDone after s operation payload cookie reply
  told_alone operation payload reply answer alone told chain = record {
    dids = chain.dids;
    done = chain.done;
    reply_is = told ∙ ap (λ (error : ℕ). reply_bytes error cookie []) (sym (error_ended chain.dids answer chain.ends)) ∙ sym (alone chain.dids);
    now = chain.now;
    does = chain.does;
    stands = chain.stands;
  }

  -- a client that leaves
  pub left_alone : (payload reply : List ℕ) (answer : Answer) → reply ≡ []
      → ChainDone AnyData after s (commands_of operations.Disconnect payload) answer → RequestDone after s operations.Disconnect payload cookie reply
  left_alone payload reply answer told chain =
      record { dids = chain.dids; done = chain.done; reply_is = told; now = chain.now; does = chain.does; stands = chain.stands }

  module _ (lba n : ℕ) (payload : List ℕ) where
    -- a read that was good
    pub read_told : (head reply : List ℕ) → head ≡ reply_bytes 0 cookie []
        → ChainDone (GoesBehind head reply) after s (commands_of (operations.Read lba n) payload) answers.Good
        → RequestDone after s (operations.Read lba n) payload cookie reply
    read_told head reply told chain = record {
      dids = chain.dids;
      done = chain.done;
      reply_is = chain.given ∙ ap (λ (xs : List ℕ). xs ++ data_from chain.dids) told
          ∙ ap (λ (error : ℕ). reply_bytes error cookie (if error == 0 then data_from chain.dids else [])) (sym (error_ended chain.dids answers.Good chain.ends));
      now = chain.now;
      does = chain.does;
      stands = chain.stands;
    }

    -- and one that was not
    pub read_refused : (head other reply : List ℕ) (answer : Answer) → ¬ (answer ≡ answers.Good) → reply ≡ reply_bytes (error_of answer) cookie []
        → ChainDone (GoesBehind head other) after s (commands_of (operations.Read lba n) payload) answer
        → RequestDone after s (operations.Read lba n) payload cookie reply
    read_refused head other reply answer bad told chain = record {
      dids = chain.dids;
      done = chain.done;
      reply_is = told ∙ ap (reply_bytes (error_of answer) cookie) (sym (no_data answer (data_from chain.dids) bad))
          ∙ ap (λ (error : ℕ). reply_bytes error cookie (if error == 0 then data_from chain.dids else [])) (sym (error_ended chain.dids answer chain.ends));
      now = chain.now;
      does = chain.does;
      stands = chain.stands;
    }

  -- the image failed
  pub request_failed : (gives : Answer → List ℕ → Type 0) (operation : NbdOperation) (payload reply : List ℕ) (why : Stopped)
      → ChainRule gives after s (commands_of operation payload) (Err why) → RequestRule after s operation payload cookie reply (Err why)
  request_failed gives operation payload reply stopped.ImageFault fails = inl fails
  request_failed gives operation payload reply stopped.NotInLanguage none = none
  request_failed gives operation payload reply stopped.LineTooLong none = none
  request_failed gives operation payload reply stopped.ScriptTooLong none = none
  request_failed gives operation payload reply stopped.NotADisc none = none
  request_failed gives operation payload reply stopped.SourceFault none = none
  request_failed gives operation payload reply stopped.SinkFault none = none

-- ---- all is to last

-- the disc, where the image failed in it
pub synced_failed : (s : Served) (after : State → Type 0) → IsSynced (Disc s) after syncs.Failed → DiscFailsToLast after s
synced_failed s after is = by_state is.state is.step is.stands
  where
    by_state : (t : State) → SyncStep (Disc s) syncs.Failed t → after t → DiscFailsToLast after s
    by_state (Unopened image) step stands = absurd step
    by_state (Disc now) step stands = record { now = now; step = step; stands = stands }

-- commands that ended with a good one were all good
all_good : (commands : List Command) (dids : List Did) → AreDone commands dids → EndsWith dids answers.Good → WereAllGood commands dids
all_good commands dids (inl good) ends = good
all_good commands dids (inr stopped) ends =
    absurd (stopped.not_good (subst (λ (ds : List Did). EndsWith ds answers.Good) stopped.dids_are ends))

module _ (before after : State → Type 0) (s : Served) where
  -- the disc is then as the commands left it
  pub then_lasting : (commands : List Command) (answer : Answer) (asked : Bool) → ChainDone AnyData before s commands answer
      → ((t : Served) → before (Disc t) → LastingRule after t answer asked (Ok tt)) → ChainDone AnyData after s commands answer
  then_lasting commands answer asked chain lasts = record {
    dids = chain.dids;
    done = chain.done;
    ends = chain.ends;
    given = chain.given;
    now = chain.now;
    does = chain.does;
    stands = lasts chain.now chain.stands;
  }

  -- or the image failed
  pub lasting_failed : (cookie : ℕ) (operation : NbdOperation) (payload reply : List ℕ) (answer : Answer) (asked : Bool) (why : Stopped)
      → (IsTrue asked → AsksToLast operation) → ChainDone AnyData before s (commands_of operation payload) answer
      → ((t : Served) → before (Disc t) → LastingRule after t answer asked (Err why))
      → RequestRule after s operation payload cookie reply (Err why)
  lasting_failed cookie operation payload reply answer asked stopped.ImageFault asks chain fails =
      let failed = fails chain.now chain.stands in
      inr (record {
        asks = asks failed.0;
        dids = chain.dids;
        good = all_good (commands_of operation payload) chain.dids chain.done (subst (EndsWith chain.dids) failed.1 chain.ends);
        mid = chain.now;
        does = chain.does;
        fails = failed.2;
      })
  lasting_failed cookie operation payload reply answer asked stopped.NotInLanguage asks chain fails = fails chain.now chain.stands
  lasting_failed cookie operation payload reply answer asked stopped.LineTooLong asks chain fails = fails chain.now chain.stands
  lasting_failed cookie operation payload reply answer asked stopped.ScriptTooLong asks chain fails = fails chain.now chain.stands
  lasting_failed cookie operation payload reply answer asked stopped.NotADisc asks chain fails = fails chain.now chain.stands
  lasting_failed cookie operation payload reply answer asked stopped.SourceFault asks chain fails = fails chain.now chain.stands
  lasting_failed cookie operation payload reply answer asked stopped.SinkFault asks chain fails = fails chain.now chain.stands

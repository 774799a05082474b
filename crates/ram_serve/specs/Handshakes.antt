-- What the handshake makes of a session. For the calls that greet a client and answer its options. (This project's own, as all here.)
use Rattle.std.specs.Prelude.{◌≡◌, ℕ, Option, Some, IsSome, Result, Ok, Err, List}
use Rattle.model_nbd.specs.declared.NextPhase.{NextPhase}
use Rattle.model_nbd.specs.declared.NextPhase.TheVariants as phases
use Rattle.model_nbd.specs.Handshake.{Export}
use Rattle.ram_text.specs.declared.script.Line.{Line}
use Rattle.ram_machine.specs.declared.status.Status.{Status}
use Rattle.ram_machine.specs.States.{State}
use Rattle.ram_script.specs.Progress.{Beginning}
use Rattle.ram_session.specs.Talk.{Phase, Transmission}
use Rattle.ram_session.specs.Opening.{IsSessionOpened, export_after}
use Rattle.ram_session.specs.Session.{TalkEnds}
use Rattle.ram_serve.specs.Turns.{BetweenMessages}

-- it is this state
abbrev pub IsState : State → State → Type 0
IsState ready s = s ≡ ready

module _ (first : Beginning) (faults : List Line) (export : Export) (ready : State) where
  -- A session was opened, in which this is served, and the client is to be greeted in this state: nothing came, and nothing was told.
  pub record IsToBeGreeted (left written : Option (List ℕ)) : Type 0 where
    pub opened : IsSessionOpened first faults
    pub ready_is : opened.ready ≡ ready
    pub serves : export_after opened.steps ≡ export
    pub left_is : left ≡ Some first.script
    pub written_is : written ≡ Some first.report

  -- Between two messages of the handshake, of which n came at least. Nothing is done to the drive in it.
  abbrev pub InHandshake : Phase → (n : ℕ) → (left written : Option (List ℕ)) → Type 0
  InHandshake phase n left written = BetweenMessages first faults export phase n (IsState ready) left written

  -- What a call makes of it, by its answer: the client stands in this phase; or the session ends with this status.
  abbrev pub HandshakeLeadsTo : {X : Type 0} → (phase : X → Phase) → (n : ℕ) → (left written : Option (List ℕ)) → Result X Status
      → Type 0
  HandshakeLeadsTo phase n left written (Ok answer) = InHandshake (phase answer) n left written
  HandshakeLeadsTo phase n left written (Err status) = TalkEnds first faults (IsState ready) left written status

-- requests follow
abbrev pub transmits : Unit {0} → Phase
transmits done = Transmission

-- After an option requests follow only where there is a disc, of this many bytes.
abbrev pub HasDiscFor : (size : Option ℕ) → NextPhase → Type 0
HasDiscFor size phases.Transmission = IsSome size
HasDiscFor size next = Unit {0}

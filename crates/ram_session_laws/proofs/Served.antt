-- A client that keeps to the protocol is served to its end: what else a session may have left does not agree with its messages.
use Rattle.std.specs.Prelude.{◌≡◌, ℕ, ◌+◌, ◌*◌, ◌<◌, ◌≤◌, ◌^◌, ◌⊎◌, Bool, true, false, Option, None, Some, List, [], ◌∷◌, ◌++◌, length, codes}
use Rattle.std.specs.Io.KnownBytes.{prepend_known}
use Rattle.std.proofs.Common.{refl, sym, ap, ◌∙◌, inl, inr, subst, arith, append_assoc, append-nil, length-append}
use Rattle.byteorder.specs.Endian.{big_bytes}
use Rattle.model_nbd.specs.Messages.{OptionRequest, Request, client_flags}
use Rattle.model_nbd.specs.Handshake.{Export, Serving, Nothing}
use Rattle.model_nbd.proofs.Readings.{wish_first, request_first}
use Rattle.ram_text.specs.declared.script.Line.{Line}
use Rattle.ram_machine.specs.Inserted.{LeavesImage}
use Rattle.ram_machine.specs.States.{State}
use Rattle.ram_machine.specs.declared.status.Status.{Status}
use Rattle.ram_machine.specs.declared.status.Status.TheVariants as statuses
use Rattle.ram_script.specs.Completes.{NoneRose}
use Rattle.ram_script.specs.Endings.{Aftermath}
use Rattle.ram_script.specs.Progress.{Beginning}
use Rattle.ram_script.specs.RunCounts.{Counts}
use Rattle.ram_session.specs.Doing.{Did}
use Rattle.ram_session.specs.Talk.{Message, Flags, Wants, Asks, message_bytes, Phase, Greeted, Options, Transmission, Left, Violation, MayCome, BeginsNoMessage, Turned, Talk, FollowsBy, sent_in}
use Rattle.ram_session.specs.Opening.{IsSessionOpened, export_after}
use Rattle.ram_session.specs.Session.{SessionSoFar, HasEnded, BreaksProtocol, SessionStands, SessionCounts, EndsRefused}
use Rattle.ram_session_laws.specs.Protocol.{phase_told, KeepsProtocol, messages_bytes, messages_in, IsServedToEnd}

-- two messages that may come in one phase, and begin the same bytes
record SameFirst (one two : Message) (x y : List ℕ) : Type 0 where
  same : one ≡ two
  rest : x ≡ y

flags_first : (a b : Bool) (x y : List ℕ) → client_flags a ++ x ≡ client_flags b ++ y → SameFirst (Flags a) (Flags b) x y
flags_first true true x y same = record { same = refl; rest = cc }
flags_first true false x y same = absurd cc
flags_first false true x y same = absurd cc
flags_first false false x y same = record { same = refl; rest = cc }

wants_first : (a b : OptionRequest) (x y : List ℕ) → (a ≡ b) × (x ≡ y) → SameFirst (Wants a) (Wants b) x y
wants_first a b x y same = record { same = ap Wants same.0; rest = same.1 }

asks_first : (a b : Request) (x y : List ℕ) → (a ≡ b) × (x ≡ y) → SameFirst (Asks a) (Asks b) x y
asks_first a b x y same = record { same = ap Asks same.0; rest = same.1 }

message_first : (was : Phase) (m n : Message) (x y : List ℕ) → MayCome was m → MayCome was n → message_bytes m ++ x ≡ message_bytes n ++ y → SameFirst m n x y
message_first Greeted (Flags a) (Flags b) x y may may' same = flags_first a b x y same
message_first Greeted (Flags a) (Wants q) x y may may' same = absurd may'
message_first Greeted (Flags a) (Asks q) x y may may' same = absurd may'
message_first Greeted (Wants o) n x y may may' same = absurd may
message_first Greeted (Asks o) n x y may may' same = absurd may
message_first (Options zeros) (Wants o) (Wants q) x y may may' same = wants_first o q x y (wish_first o q x y may may' same)
message_first (Options zeros) (Wants o) (Flags b) x y may may' same = absurd may'
message_first (Options zeros) (Wants o) (Asks q) x y may may' same = absurd may'
message_first (Options zeros) (Flags a) n x y may may' same = absurd may
message_first (Options zeros) (Asks o) n x y may may' same = absurd may
message_first Transmission (Asks o) (Asks q) x y may may' same = asks_first o q x y (request_first o q x y may may' same)
message_first Transmission (Asks o) (Flags b) x y may may' same = absurd may'
message_first Transmission (Asks o) (Wants q) x y may may' same = absurd may'
message_first Transmission (Flags a) n x y may may' same = absurd may
message_first Transmission (Wants o) n x y may may' same = absurd may
message_first Left m n x y may may' same = absurd may
message_first Violation m n x y may may' same = absurd may

-- a message that was answered may have come, and its answer leads on
record Came (export : Export) (was : Phase) (message : Message) (next : Phase) : Type 0 where
  may : MayCome was message
  next_is : next ≡ phase_told export was message

came : (export : Export) (was : Phase) (m : Message) (dids : List Did) (told : List ℕ) (next : Phase) → FollowsBy was m export dids told next → Came export was m next
came export Greeted (Flags zeros) dids told next f = record { may = tt; next_is = f.next_is }
came export (Options zeros) (Wants option) dids told next f = record { may = f.whole; next_is = f.next_is }
came (Serving size) Transmission (Asks request) dids told next f = record { may = f.whole; next_is = f.next_is }
came (Nothing why) Transmission (Asks request) dids told next f = absurd f
came export Greeted (Wants option) dids told next f = absurd f
came export Greeted (Asks request) dids told next f = absurd f
came export (Options zeros) (Flags other) dids told next f = absurd f
came export (Options zeros) (Asks request) dids told next f = absurd f
came export Transmission (Flags zeros) dids told next f = absurd f
came export Transmission (Wants option) dids told next f = absurd f
came export Left m dids told next f = absurd f
came export Violation m dids told next f = absurd f

-- a message has some bytes
numbers_long : (x : ℕ) (l : List ℕ) → length (big_bytes 4 x ++ l) ≡ 4 + length l
numbers_long x l = omega arith

message_long : (m : Message) → 4 ≤ length (message_bytes m)
message_long (Flags zeros) = flags_long zeros
  where
    flags_long : (zeros : Bool) → 4 ≤ length (client_flags zeros)
    flags_long true = omega arith
    flags_long false = omega arith
message_long (Wants option) = omega (arith, length-append (codes "IHAVEOPT" ++ big_bytes 4 option.number ++ big_bytes 4 (length option.payload)) option.payload)
message_long (Asks request) = omega (arith, numbers_long 0x25609513 [])

sent_long : (turns : List Turned) → 4 * length turns ≤ length (sent_in turns)
sent_long [] = omega arith
sent_long (turned ∷ before) =
    let rest = sent_long before in
    let here = message_long turned.message in
    omega (arith, rest, here, length-append (sent_in before) (message_bytes turned.message))

-- what is still to come of the messages
record StillToCome (export : Export) (turns : List Turned) (phase : Phase) (rest : List ℕ) (messages : List Message) : Type 0 where
  more : List Message
  messages_are : messages ≡ messages_in turns ++ more
  keeps : KeepsProtocol export phase more
  rest_is : rest ≡ messages_bytes more

nothing_ahead : (m : Message) (rest : List ℕ) → message_bytes m ++ rest ≡ [] → ⊥
nothing_ahead m rest is = omega (arith, message_long m, length-append (message_bytes m) rest, ap length is)

one_more : (export : Export) (turned : Turned) (before : List Turned) (was phase : Phase) (rest : List ℕ) (messages : List Message) → Came export was turned.message phase
    → StillToCome export before was (message_bytes turned.message ++ rest) messages → StillToCome export (turned ∷ before) phase rest messages
one_more export turned before was phase rest messages here still = by still.more still.messages_are still.keeps still.rest_is
  where
    by : (more : List Message) → messages ≡ messages_in before ++ more → KeepsProtocol export was more → message_bytes turned.message ++ rest ≡ messages_bytes more → StillToCome export (turned ∷ before) phase rest messages
    by [] messages_are keeps rest_is = absurd (nothing_ahead turned.message rest rest_is)
    by (m ∷ more) messages_are keeps rest_is =
        let first = message_first was turned.message m rest (messages_bytes more) here.may keeps.0 rest_is in
        record {
          more = more;
          messages_are = messages_are ∙ ap (λ (n : Message). messages_in before ++ n ∷ more) (sym first.same)
              ∙ sym (append_assoc (messages_in before) (turned.message ∷ []) more);
          keeps = subst (λ (p : Phase). KeepsProtocol export p more) (ap (phase_told export was) (sym first.same) ∙ sym here.next_is) keeps.1;
          rest_is = first.rest;
        }

still_to_come : (export : Export) (s t : State) (turns : List Turned) (phase : Phase) (rest : List ℕ) (messages : List Message) → Talk export s turns t phase
    → KeepsProtocol export Greeted messages → sent_in turns ++ rest ≡ messages_bytes messages → StillToCome export turns phase rest messages
still_to_come export s t [] phase rest messages talk keeps sent =
    record { more = messages; messages_are = refl; keeps = subst (λ (p : Phase). KeepsProtocol export p messages) (sym talk.1) keeps; rest_is = sent }
still_to_come export s t (turned ∷ before) phase rest messages talk keeps sent =
    one_more export turned before talk.1 phase rest messages (came export talk.1 turned.message turned.dids turned.bytes phase talk.4)
    (still_to_come export s talk.0 before talk.1 (message_bytes turned.message ++ rest) messages talk.2 keeps
    (sym (append_assoc (sent_in before) (message_bytes turned.message) rest) ∙ sent))

-- nothing is to come where nothing is left, or the client has left
none_more : (export : Export) (phase : Phase) (rest : List ℕ) (more : List Message) → KeepsProtocol export phase more → rest ≡ messages_bytes more → (phase ≡ Left) ⊎ (rest ≡ []) → more ≡ []
none_more export phase rest [] keeps is ended = refl
none_more export phase rest (m ∷ more) keeps is (inl left) = absurd (subst (λ (p : Phase). MayCome p m) left keeps.0)
none_more export phase rest (m ∷ more) keeps is (inr none) = absurd (nothing_ahead m (messages_bytes more) (sym is ∙ none))

-- the protocol has an answer to the last
no_violation : (export : Export) (phase : Phase) (more : List Message) → KeepsProtocol export phase more → ¬ (phase ≡ Violation)
no_violation export phase [] keeps is = keeps is
no_violation export phase (m ∷ more) keeps is = absurd (subst (λ (p : Phase). MayCome p m) is keeps.0)

-- what came begins a message, or nothing came
begins : (export : Export) (phase : Phase) (rest came_now : List ℕ) (left : Option (List ℕ)) (more : List Message) → KeepsProtocol export phase more → rest ≡ messages_bytes more
    → BeginsNoMessage phase rest → 0 < length came_now → prepend_known came_now left ≡ Some rest → ⊥
begins export phase rest came_now left (m ∷ more) keeps is none some known = none m (messages_bytes more) keeps.0 is
begins export phase rest came_now None [] keeps is none some known = absurd (let clash : None ≡ Some rest = known in cc)
begins export phase rest came_now (Some left) [] keeps is none some known =
    let same : came_now ++ left ≡ rest = cc in
    omega (arith, some, length-append came_now left, ap length (same ∙ is))

module _ (first : Beginning) (faults : List Line) (after : Aftermath) (messages : List Message)
    (sends : first.script ≡ messages_bytes messages) (short : length first.script < 2 ^ 64)
    (keeps : (opened : IsSessionOpened first faults) → KeepsProtocol (export_after opened.steps) Greeted messages) where
  still : (far : SessionSoFar first faults) → StillToCome (export_after far.opened.steps) far.turns far.phase far.rest messages
  still far = still_to_come (export_after far.opened.steps) far.opened.ready far.now far.turns far.phase far.rest messages far.talk (keeps far.opened) (sym far.sent_is ∙ sends)

  broken : (far : SessionSoFar first faults) → BreaksProtocol far (λ s. LeavesImage s after.image) after.left after.written → ⊥
  broken far (inl (violates, at)) = let has = still far in no_violation (export_after far.opened.steps) far.phase has.more has.keeps violates
  broken far (inr (inl (came_now, some, awaits, none, at))) =
      let has = still far in begins (export_after far.opened.steps) far.phase far.rest came_now after.left has.more has.keeps has.rest_is none some at.left_is
  broken far (inr (inr (most, at))) =
      omega (arith, most, sent_long far.turns, length-append (sent_in far.turns) far.rest, ap length far.sent_is, short)

  done : (far : SessionSoFar first faults) → HasEnded far (λ s. LeavesImage s after.image) after.left after.written → IsServedToEnd first faults messages after statuses.Done
  done far ended =
      let has = still far in
      let none = none_more (export_after far.opened.steps) far.phase far.rest has.more has.keeps has.rest_is ended.ended in
      record {
        done = refl;
        far = far;
        ended = ended;
        all = sym (has.messages_are ∙ ap (λ (l : List Message). messages_in far.turns ++ l) none ∙ append-nil (messages_in far.turns));
      }

  by_status : (counts later : Counts) (status : Status) → SessionStands first faults after status → SessionCounts counts later status → NoneRose counts later
      → ¬ EndsRefused first faults after → IsServedToEnd first faults messages after status
  by_status counts later statuses.Done stands rose none refused = done stands.0 stands.1
  by_status counts later statuses.Script (inl ends) rose none refused = absurd (refused ends)
  by_status counts later statuses.Script (inr ends) rose none refused = absurd (broken ends.0 ends.1)
  by_status counts later statuses.SourceFault stands rose none refused = absurd (none.source rose.source)
  by_status counts later statuses.SinkFault stands rose none refused = absurd (none.sink (omega (arith, rose.sink)))
  by_status counts later statuses.ImageFault stands rose none refused = absurd (none.image rose.image)
  by_status counts later statuses.Differs stands rose none refused = absurd stands
  by_status counts later statuses.Usage stands rose none refused = absurd stands
  by_status counts later statuses.NoMemory stands rose none refused = absurd stands
  by_status counts later statuses.NotADisc stands rose none refused = absurd stands

pub served : (first : Beginning) (faults : List Line) (after : Aftermath) (status : Status) (counts later : Counts) (messages : List Message) → SessionStands first faults after status
    → SessionCounts counts later status → NoneRose counts later → ¬ EndsRefused first faults after → first.script ≡ messages_bytes messages → length first.script < 2 ^ 64
    → ((opened : IsSessionOpened first faults) → KeepsProtocol (export_after opened.steps) Greeted messages) → IsServedToEnd first faults messages after status
served first faults after status counts later messages stands rose none refused sends short keeps =
    by_status first faults after messages sends short keeps counts later status stands rose none refused

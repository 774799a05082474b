-- What a client sends is read in one way.
use Rattle.std.proofs.Common.{◌≡◌, ℕ, Bool, true, false, List, [], ◌∷◌, ◌++◌, length, map, refl, sym, ap, ◌∙◌, subst, append_assoc, arith}
use Rattle.model_nbd.specs.Messages.{OptionRequest, Request, client_flags}
use Rattle.model_nbd.specs.Handshake.{Export, Serving, Nothing, option_answer}
use Rattle.model_nbd.specs.Operations.{request_asks}
use Rattle.model_nbd.proofs.Readings.{wish_first, request_first}
use Rattle.ram_machine.specs.States.{State}
use Rattle.ram_session.specs.Doing.{Did}
use Rattle.ram_session.specs.Talk.{Phase, Greeted, Options, Transmission, Left, Violation, Message, Flags, Wants, Asks, message_bytes, Turned, Talk, FollowsBy, phase_after, phase_asked, sent_in}

abbrev messages_of : List Turned → List Message
messages_of turns = map (λ (turned : Turned). turned.message) turns

-- one message: the same bytes in the same phase
record SameNext (one two : Message) (next then : Phase) (x y : List ℕ) : Type 0 where
  same_message : one ≡ two
  same_phase : next ≡ then
  same_rest : x ≡ y

-- the flags are told apart by their last byte
flags_first : (a b : Bool) (x y : List ℕ) → client_flags a ++ x ≡ client_flags b ++ y → (a ≡ b) × (x ≡ y)
flags_first true true x y same = (refl, cc)
flags_first true false x y same = absurd cc
flags_first false true x y same = absurd cc
flags_first false false x y same = (refl, cc)

next_same : (export : Export) (was : Phase) (m n : Message) (d e : List Did) (b c : List ℕ) (next then : Phase) (x y : List ℕ)
    → FollowsBy was m export d b next → FollowsBy was n export e c then → message_bytes m ++ x ≡ message_bytes n ++ y → SameNext m n next then x y
next_same export Greeted (Flags a) (Flags z) d e b c next then x y f g same =
    let one = flags_first a z x y same in
    record { same_message = ap Flags one.0; same_phase = f.next_is ∙ ap Options one.0 ∙ sym g.next_is; same_rest = one.1 }
next_same export (Options zeros) (Wants o) (Wants p) d e b c next then x y f g same =
    let one = wish_first o p x y f.whole g.whole same in
    record {
      same_message = ap Wants one.0;
      same_phase = f.next_is ∙ ap (λ (q : OptionRequest). phase_after zeros (option_answer export zeros q).next) one.0 ∙ sym g.next_is;
      same_rest = one.1;
    }
next_same (Serving size) Transmission (Asks r) (Asks q) d e b c next then x y f g same =
    let one = request_first r q x y f.whole g.whole same in
    record {
      same_message = ap Asks one.0;
      same_phase = f.next_is ∙ ap (λ (t : Request). phase_asked (request_asks size t.header)) one.0 ∙ sym g.next_is;
      same_rest = one.1;
    }
next_same (Nothing why) Transmission (Asks r) n d e b c next then x y f g same = absurd f
next_same export Greeted (Flags a) (Wants p) d e b c next then x y f g same = absurd g
next_same export Greeted (Flags a) (Asks q) d e b c next then x y f g same = absurd g
next_same export Greeted (Wants o) n d e b c next then x y f g same = absurd f
next_same export Greeted (Asks r) n d e b c next then x y f g same = absurd f
next_same export (Options zeros) (Wants o) (Flags z) d e b c next then x y f g same = absurd g
next_same export (Options zeros) (Wants o) (Asks q) d e b c next then x y f g same = absurd g
next_same export (Options zeros) (Flags a) n d e b c next then x y f g same = absurd f
next_same export (Options zeros) (Asks r) n d e b c next then x y f g same = absurd f
next_same (Serving size) Transmission (Asks r) (Flags z) d e b c next then x y f g same = absurd g
next_same (Serving size) Transmission (Asks r) (Wants p) d e b c next then x y f g same = absurd g
next_same export Transmission (Flags a) n d e b c next then x y f g same = absurd f
next_same export Transmission (Wants o) n d e b c next then x y f g same = absurd f
next_same export Left m n d e b c next then x y f g same = absurd f
next_same export Violation m n d e b c next then x y f g same = absurd f

-- all messages, each in the phase of the one before
record SameTalk (turns others : List Turned) (phase other : Phase) (rest left : List ℕ) : Type 0 where
  same_messages : messages_of turns ≡ messages_of others
  same_phase : phase ≡ other
  same_rest : rest ≡ left

same_talk : (export : Export) (s t u v : State) (turns others : List Turned) (phase other : Phase) (rest left : List ℕ)
    → Talk export s turns t phase → Talk export u others v other → length turns ≡ length others → sent_in turns ++ rest ≡ sent_in others ++ left
    → SameTalk turns others phase other rest left
same_talk export s t u v [] [] phase other rest left one two many same = record { same_messages = refl; same_phase = one.1 ∙ sym two.1; same_rest = same }
same_talk export s t u v [] (n ∷ after) phase other rest left one two many same = absurd (omega (arith, many))
same_talk export s t u v (m ∷ before) [] phase other rest left one two many same = absurd (omega (arith, many))
same_talk export s t u v (m ∷ before) (n ∷ after) phase other rest left one two many same =
    let earlier = same_talk export s one.0 u two.0 before after one.1 two.1 (message_bytes m.message ++ rest) (message_bytes n.message ++ left) one.2 two.2
    (omega (arith, many))
    (sym (append_assoc (sent_in before) (message_bytes m.message) rest) ∙ same ∙ append_assoc (sent_in after) (message_bytes n.message) left) in
    let here = next_same export one.1 m.message n.message m.dids n.dids m.bytes n.bytes phase other rest left one.4
    (subst (λ (p : Phase). FollowsBy p n.message export n.dids n.bytes other) (sym earlier.same_phase) two.4) earlier.same_rest in
    record {
      same_messages = together m.message n.message (messages_of before) (messages_of after) here.same_message earlier.same_messages;
      same_phase = here.same_phase;
      same_rest = here.same_rest;
    }
  where
    together : (a b : Message) (x y : List Message) → a ≡ b → x ≡ y → a ∷ x ≡ b ∷ y
    together a b x y p q = cc

pub one_reading : (export : Export) (s t u v : State) (turns others : List Turned) (phase other : Phase) (rest left : List ℕ)
    → Talk export s turns t phase → Talk export u others v other → length turns ≡ length others → sent_in turns ++ rest ≡ sent_in others ++ left
    → (messages_of turns ≡ messages_of others) × (phase ≡ other) × (rest ≡ left)
one_reading export s t u v turns others phase other rest left one two many same =
    let is = same_talk export s t u v turns others phase other rest left one two many same in
    (is.same_messages, is.same_phase, is.same_rest)

-- The flags of a client and its options, as they come: what is none, and how one that came is answered.
use Rattle.std.specs.Prelude.{◌≡◌, ℕ, ◌<◌, ◌^◌, nat_lt, if◌then◌else◌, Bool, Option, Ok, Err, List, ◌++◌, length}
use Rattle.std.proofs.Common.{arith, refl, sym, ap, ◌∙◌, subst, append_assoc, length-append}
use Rattle.model_nbd.specs.declared.TheConstants.{OPTION_LIMIT}
use Rattle.model_nbd.specs.Messages.{client_flags, option_head_bytes, option_bytes}
use Rattle.model_nbd.specs.Handshake.{long_answer, short_answer}
use Rattle.model_nbd.proofs.Fields.{list_first}
use Rattle.model_nbd.proofs.Readings.{option_head_first}
use Rattle.ram_nbd.specs.declared.handshake.OptionHead.{OptionHead}
use Rattle.ram_outside.specs.Conversation.{Asked, AsksOnly}
use Rattle.ram_receive.specs.Receiving.{Went, IsShortAsk}
use Rattle.ram_machine.specs.declared.status.Status.{Status}
use Rattle.ram_session.specs.Talk.{Greeted, Options, Flags, Wants, Asks, BeginsNoMessage}
use Rattle.ram_serve.specs.Messages.{FirstRule}
use Rattle.ram_serve.specs.Taking.{IsAskWithin, IsNoMessage, NoneCame, OptionHeadCame, OptionDataRule, OptionCame}
use Rattle.ram_serve.proofs.Came.{went_on}
use Rattle.ram_serve.proofs.Cuts.{first_cut, first_unread, others_cut}
use Rattle.ram_serve.proofs.Within.{within_first, within_others}

flags_long : (zeros : Bool) → length (client_flags zeros) ≡ 4
flags_long zeros = refl

head_long : (number count : ℕ) → length (option_head_bytes number count) ≡ 16
head_long number count = refl

-- too few bytes for flags
flags_short : (bytes : List ℕ) → length bytes < 4 → BeginsNoMessage Greeted bytes
flags_short bytes few (Flags zeros) after may same =
    omega (arith, few, ap length same, length-append (client_flags zeros) after, flags_long zeros)
flags_short bytes few (Wants option) after may same = may
flags_short bytes few (Asks request) after may same = may

-- as many bytes as flags have, which are none
no_flags : (bytes rest : List ℕ) → length bytes ≡ 4 → ((zeros : Bool) → bytes ≡ client_flags zeros → ⊥) → BeginsNoMessage Greeted (bytes ++ rest)
no_flags bytes rest long none (Flags zeros) after may same =
    none zeros (list_first bytes (client_flags zeros) rest after (long ∙ sym (flags_long zeros)) same).0
no_flags bytes rest long none (Wants option) after may same = may
no_flags bytes rest long none (Asks request) after may same = may

-- too few bytes for the head of an option
head_short : (zeros : Bool) (bytes : List ℕ) → length bytes < 16 → BeginsNoMessage (Options zeros) bytes
head_short zeros bytes few (Flags wanted) after may same = may
head_short zeros bytes few (Wants option) after may same =
    omega (
      arith,
      few,
      ap length same,
      length-append (option_bytes option) after,
      length-append (option_head_bytes option.number (length option.payload)) option.payload,
      head_long option.number (length option.payload),
    )
head_short zeros bytes few (Asks request) after may same = may

-- as many bytes as the head of an option has, which are none
no_head : (zeros : Bool) (bytes rest : List ℕ) → length bytes ≡ 16 → ((number count : ℕ) → bytes ≡ option_head_bytes number count → ⊥)
    → BeginsNoMessage (Options zeros) (bytes ++ rest)
no_head zeros bytes rest long none (Flags wanted) after may same = may
no_head zeros bytes rest long none (Wants option) after may same =
    let count = length option.payload in
    none option.number count
    (list_first bytes (option_head_bytes option.number count) rest (option.payload ++ after) (long ∙ sym (head_long option.number count))
    (same ∙ append_assoc (option_head_bytes option.number count) option.payload after)).0
no_head zeros bytes rest long none (Asks request) after may same = may

-- the head of an option, and fewer data than it has
head_partial : (zeros : Bool) (number count : ℕ) (more : List ℕ) → number < 2 ^ 32 → count < 2 ^ 32 → length more < count
    → BeginsNoMessage (Options zeros) (option_head_bytes number count ++ more)
head_partial zeros number count more small short few (Flags wanted) after may same = may
head_partial zeros number count more small short few (Wants option) after may same =
    let p = option_head_first number option.number count (length option.payload) more (option.payload ++ after) small may.number_fits short
    may.length_fits (same ∙ append_assoc (option_head_bytes option.number (length option.payload)) option.payload after) in
    omega (arith, few, p.1, ap length p.2, length-append option.payload after)
head_partial zeros number count more small short few (Asks request) after may same = may

-- more was asked for before the flags were whole
pub flags_asks : (left written : Option (List ℕ)) (a b : Option (List Asked)) → AsksOnly (IsShortAsk left written 4) a b
    → AsksOnly (IsAskWithin left written Greeted) a b
flags_asks left written a b asks = within_first Greeted tt left written 4 a b flags_short asks

-- before the head of an option was
pub head_asks : (zeros : Bool) (left written : Option (List ℕ)) (a b : Option (List Asked)) → AsksOnly (IsShortAsk left written 16) a b
    → AsksOnly (IsAskWithin left written (Options zeros)) a b
head_asks zeros left written a b asks = within_first (Options zeros) tt left written 16 a b (head_short zeros) asks

-- and before its data were
pub option_asks : (zeros : Bool) (left mid written shown : Option (List ℕ)) (faults middle : ℕ) (head : OptionHead)
    (a b c : Option (List Asked)) → OptionHeadCame left mid faults middle head → shown ≡ written
    → AsksOnly (IsAskWithin left written (Options zeros)) a b → AsksOnly (IsShortAsk mid shown head.length) b c
    → AsksOnly (IsAskWithin left written (Options zeros)) a c
option_asks zeros left mid written shown faults middle head a b c came same before asks =
    within_others (Options zeros) tt left mid written shown (option_head_bytes head.number head.length) head.length a b c
    (λ more few. head_partial zeros head.number head.length more came.number_fits came.length_fits few) came.went same before asks

module _ (left left' : Option (List ℕ)) (faults faults' : ℕ) where
  -- the flags did not come whole
  pub flags_cut : (into : List ℕ) (status : Status) → length into ≡ 4 → FirstRule left left' faults faults' into (Err status)
      → NoneCame left left' faults faults' Greeted status
  flags_cut into status long rule =
      first_cut Greeted left left' faults faults' into status (λ bytes few. flags_short bytes (omega (arith, few, long))) rule

  -- as many bytes came as flags have, and are none
  pub flags_unread : (into : List ℕ) → length into ≡ 4 → ((zeros : Bool) → into ≡ client_flags zeros → ⊥) → Went left left' into
      → faults' ≡ faults → IsNoMessage left left' faults faults' Greeted
  flags_unread into long none went count =
      first_unread Greeted left left' faults faults' into (omega (arith, long)) (λ rest. no_flags into rest long none) went count

  module _ (zeros : Bool) where
    -- the head of an option did not come whole
    pub head_cut : (into : List ℕ) (status : Status) → length into ≡ 16 → FirstRule left left' faults faults' into (Err status)
        → NoneCame left left' faults faults' (Options zeros) status
    head_cut into status long rule =
        first_cut (Options zeros) left left' faults faults' into status (λ bytes few. head_short zeros bytes (omega (arith, few, long))) rule

    -- as many bytes came as it has, and are none
    pub head_unread : (into : List ℕ) → length into ≡ 16 → ((number count : ℕ) → into ≡ option_head_bytes number count → ⊥)
        → Went left left' into → faults' ≡ faults → IsNoMessage left left' faults faults' (Options zeros)
    head_unread into long none went count =
        first_unread (Options zeros) left left' faults faults' into (omega (arith, long)) (λ rest. no_head zeros into rest long none) went count

    -- the head of an option came, and not all of its data
    pub option_cut : (mid : Option (List ℕ)) (middle : ℕ) (head : OptionHead) (room : List ℕ) (status : Status)
        → OptionHeadCame left mid faults middle head → OptionDataRule mid left' middle faults' head room (Err status)
        → NoneCame left left' faults faults' (Options zeros) status
    option_cut mid middle head room status came rule =
        others_cut (Options zeros) left left' faults faults' mid middle (option_head_bytes head.number head.length) rule.0 head.length status
        (omega (arith, head_long head.number head.length))
        (λ more few. head_partial zeros head.number head.length more came.number_fits came.length_fits few) came.went came.count rule.1

  -- the head and its data came
  pub option_came : (mid : Option (List ℕ)) (middle : ℕ) (head : OptionHead) (room : List ℕ) → OptionHeadCame left mid faults middle head
      → OptionDataRule mid left' middle faults' head room (Ok tt) → OptionCame left left' faults faults' room head
  option_came mid middle head room came rule = record {
    option = record { number = head.number; payload = rule.0 };
    whole = record { number_fits = came.number_fits; length_fits = omega (arith, came.length_fits, rule.1.0) };
    went =
        went_on left mid left' (option_head_bytes head.number (length rule.0)) rule.0
        (subst (λ (n : ℕ). Went left mid (option_head_bytes head.number n)) (sym rule.1.0) came.went) rule.1.1;
    count = rule.1.2 ∙ came.count;
    answers = λ export zeros.
        rule.2 export zeros
        ∙ ap (λ (n : ℕ). if nat_lt OPTION_LIMIT n then long_answer head.number else short_answer export zeros head.number rule.0) (sym rule.1.0);
  }

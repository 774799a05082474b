-- Whenever more was asked for, each message that had come whole by then was answered.
use Rattle.std.specs.Prelude.{◌≡◌, ℕ, ◌<◌, ◌⊎◌, Option, Some, List, [], ◌∷◌, ◌++◌, length}
use Rattle.std.proofs.Common.{arith, inl, inr, sym, ap, ◌∙◌, subst, append_assoc}
use Rattle.std.proofs.Math.Nat.{eq-or-lt_of_le}
use Rattle.std.proofs.lemmas.Bool.{cases_order}
use Rattle.std.proofs.lemmas.List.{append_cancel_right}
use Rattle.std.specs.Io.KnownBytes.{prepend_known}
use Rattle.model_nbd.specs.Handshake.{Export, Serving, Nothing}
use Rattle.ram_outside.specs.Conversation.{Asked}
use Rattle.ram_text.specs.declared.script.Line.{Line}
use Rattle.ram_machine.specs.States.{State}
use Rattle.ram_script.specs.Progress.{Beginning}
use Rattle.ram_session.specs.Doing.{Did}
use Rattle.ram_session.specs.Talk.{Phase, Greeted, Options, Transmission, Left, Violation, Message, Flags, Wants, Asks}
use Rattle.ram_session.specs.Talk.{message_bytes, MayCome, Turned, Talk, FollowsBy, sent_in}
use Rattle.ram_session.specs.Opening.{export_after}
use Rattle.ram_session.specs.Session.{IsToldBy}
use Rattle.ram_session.proofs.OneReading.{one_reading}

-- what was answered may come
may_follow : (export : Export) (was : Phase) (message : Message) (dids : List Did) (bytes : List ℕ) (next : Phase)
    → FollowsBy was message export dids bytes next → MayCome was message
may_follow export Greeted (Flags zeros) dids bytes next follows = tt
may_follow export (Options zeros) (Wants option) dids bytes next follows = follows.whole
may_follow (Serving size) Transmission (Asks request) dids bytes next follows = follows.whole
may_follow (Nothing why) Transmission (Asks request) dids bytes next follows = absurd follows
may_follow export Greeted (Wants option) dids bytes next follows = absurd follows
may_follow export Greeted (Asks request) dids bytes next follows = absurd follows
may_follow export (Options zeros) (Flags wanted) dids bytes next follows = absurd follows
may_follow export (Options zeros) (Asks request) dids bytes next follows = absurd follows
may_follow export Transmission (Flags zeros) dids bytes next follows = absurd follows
may_follow export Transmission (Wants option) dids bytes next follows = absurd follows
may_follow export Left message dids bytes next follows = absurd follows
may_follow export Violation message dids bytes next follows = absurd follows

-- a message of this phase came whole, and was not answered
record Waits (phase : Phase) (rest left : List ℕ) : Type 0 where
  message : Message
  may : MayCome phase message
  more : List ℕ
  rest_is : rest ≡ (message_bytes message ++ more) ++ left

module _ (export : Export) (s now u : State) (answered : List Turned) (phase : Phase) (rest left : List ℕ)
    (did : Talk export s answered now phase) where
  -- Another talk has as many messages at least, and its next one came whole.
  waits : (turns : List Turned) → (length answered ≡ length turns) ⊎ (length answered < length turns) → (t : State) (other : Phase)
      (message : Message) (more : List ℕ) → Talk export u turns t other → MayCome other message
      → sent_in answered ++ rest ≡ sent_in turns ++ ((message_bytes message ++ more) ++ left) → Waits phase rest left
  waits turns (inl many) t other message more talk may same =
      let is = one_reading export s now u t answered turns phase other rest ((message_bytes message ++ more) ++ left) did talk many same in
      record { message = message; may = subst (λ (p : Phase). MayCome p message) (sym is.1) may; more = more; rest_is = is.2 }
  waits [] (inr fewer) t other message more talk may same = absurd (omega (arith, fewer))
  waits (newest ∷ before) (inr fewer) t other message more talk may same =
      waits before (eq-or-lt_of_le (omega (arith, fewer))) talk.0 talk.1 newest.message (message_bytes message ++ more) talk.2
      (may_follow export talk.1 newest.message newest.dids newest.bytes other talk.4)
      (same ∙ append_assoc (sent_in before) (message_bytes newest.message) ((message_bytes message ++ more) ++ left)
      ∙ ap (λ (l : List ℕ). sent_in before ++ l) (sym (append_assoc (message_bytes newest.message) (message_bytes message ++ more) left)))

same_bytes : (xs ys : List ℕ) → Some xs ≡ Some ys → xs ≡ ys
same_bytes xs ys same = cc

module _ (first : Beginning) (faults : List Line) (ask : Asked) (told : IsToldBy first faults ask) (left : List ℕ)
    (is : ask.left ≡ Some left) where
  -- none waits
  none_waits : Waits told.far.phase told.far.rest left → ⊥
  none_waits w =
      let came : told.came ++ left ≡ (message_bytes w.message ++ w.more) ++ left =
      same_bytes (told.came ++ left) ((message_bytes w.message ++ w.more) ++ left)
      (sym (ap (λ (o : Option (List ℕ)). prepend_known told.came o) is) ∙ told.rest_is ∙ ap Some w.rest_is) in
      told.no_message w.message w.more w.may (append_cancel_right told.came (message_bytes w.message ++ w.more) left came)

  pub all_answered : (s t : State) (turns : List Turned) (phase : Phase) (message : Message) (more : List ℕ)
      → Talk (export_after told.far.opened.steps) s turns t phase → MayCome phase message
      → first.script ≡ sent_in turns ++ ((message_bytes message ++ more) ++ left) → length turns < length told.far.turns
  all_answered s t turns phase message more talk may same = by_order (cases_order (length told.far.turns) (length turns))
    where
      too_few : (length told.far.turns ≡ length turns) ⊎ (length told.far.turns < length turns) → ⊥
      too_few fits =
          none_waits (waits (export_after told.far.opened.steps) told.far.opened.ready told.far.now s told.far.turns told.far.phase told.far.rest left
          told.far.talk turns fits t phase message more talk may (sym told.far.sent_is ∙ same))

      by_order : (length told.far.turns ≡ length turns)
          ⊎ ((length told.far.turns < length turns) ⊎ (length turns < length told.far.turns)) → length turns < length told.far.turns
      by_order (inl many) = absurd (too_few (inl many))
      by_order (inr (inl fewer)) = absurd (too_few (inr fewer))
      by_order (inr (inr more)) = more

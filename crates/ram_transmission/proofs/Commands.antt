-- One command of a client: what the machine does for its line.
use Rattle.std.specs.Prelude.{◌≡◌, ℕ, zero, suc, ◌++◌, ◌*◌, ◌<◌, ◌≤◌, ◌^◌, Result, Ok, Err, List, [], ◌∷◌, length, take, replicate}
use Rattle.std.proofs.Common.{refl, sym, ap, ◌∙◌, subst}
use Rattle.std.proofs.lemmas.List.{take-replicate, length-replicate}
use Rattle.model_sense.specs.declared.answer.Answer.{Answer}
use Rattle.model_sense.specs.declared.answer.Answer.TheVariants as answers
use Rattle.model_nbd.specs.Commands.{bare, read_cdb, zeroes_for}
use Rattle.ram_text.specs.declared.script.Line.TheVariants as lines
use Rattle.ram_machine.specs.declared.reply.Reply.{Reply}
use Rattle.ram_machine.specs.declared.reply.Reply.TheVariants as replies
use Rattle.ram_machine.specs.declared.stopped.Stopped.{Stopped}
use Rattle.ram_machine.specs.declared.stopped.Stopped.TheVariants as stopped
use Rattle.ram_machine.specs.Replies.{command_outcome, data_told}
use Rattle.ram_machine.specs.States.{State, Served, Unopened, Disc}
use Rattle.ram_machine.specs.LineSteps.{Step}
use Rattle.ram_machine.specs.Inserted.{IsAnswered}
use Rattle.ram_session.proofs.ReadData.{read_gives_sectors}
use Rattle.ram_transmission.specs.Chains.{CommandDone, CommandFails, CommandRule, AnyData, GoesBehind}

-- the reply to a command names its block
same_block : (cdb same : List ℕ) (answer given : Answer) → Ok (replies.Command same answer) ≡ command_outcome cdb given → same ≡ cdb
same_block cdb same answer answers.Good is = cc
same_block cdb same answer (answers.Check why) is = cc
same_block cdb same answer answers.Cut is = cc
same_block cdb same answer answers.Off is = cc
same_block cdb same answer answers.Fault is = absurd cc

-- a command that is not answered failed by its image
by_image : (cdb : List ℕ) (why : Stopped) (given : Answer) → Err why ≡ command_outcome cdb given → why ≡ stopped.ImageFault
by_image cdb why answers.Good is = absurd cc
by_image cdb why (answers.Check sense) is = absurd cc
by_image cdb why answers.Cut is = absurd cc
by_image cdb why answers.Off is = absurd cc
by_image cdb why answers.Fault is = cc

done_to : (s : Served) (cdb same payload data_in : List ℕ) (after : State → Type 0) (answer : Answer) (t : State)
    → Step (Disc s) (lines.Command cdb) payload (Ok (replies.Command same answer)) data_in t → after t
    → CommandDone (λ given bytes. bytes ≡ data_in) after s (record { cdb = cdb; payload = payload }) answer
done_to s cdb same payload data_in after answer (Unopened image) step stands = absurd step
done_to s cdb same payload data_in after answer (Disc t) step stands = record {
  data_in = data_in;
  given = refl;
  now = t;
  step = subst (λ (block : List ℕ). Step (Disc s) (lines.Command cdb) payload (Ok (replies.Command block answer)) data_in (Disc t))
      (same_block cdb same answer step.rule.answer step.rule.outcome_is) step;
  stands = stands;
}

pub command_done : (s : Served) (cdb same payload data_in found : List ℕ) (after : State → Type 0) (reply : Reply) (answer : Answer)
    → reply ≡ replies.Command same answer
    → IsAnswered (Disc s) (lines.Command cdb) payload (data_told (Ok reply) data_in found) after (Ok reply)
    → CommandDone (λ given bytes. bytes ≡ data_in) after s (record { cdb = cdb; payload = payload }) answer
command_done s cdb same payload data_in found after reply answer is answered =
    let it = subst (λ (r : Reply). IsAnswered (Disc s) (lines.Command cdb) payload (data_told (Ok r) data_in found) after (Ok r)) is answered in
    done_to s cdb same payload data_in after answer it.state it.step it.stands

fails_to : (s : Served) (cdb payload data_in : List ℕ) (after : State → Type 0) (t : State)
    → Step (Disc s) (lines.Command cdb) payload (Err stopped.ImageFault) data_in t → after t → CommandFails after s (record { cdb = cdb; payload = payload })
fails_to s cdb payload data_in after (Unopened image) step stands = absurd step
fails_to s cdb payload data_in after (Disc t) step stands = record { data_in = data_in; now = t; step = step; stands = stands }

stops_to : (s : Served) (cdb payload data_in : List ℕ) (why : Stopped) (t : State) → Step (Disc s) (lines.Command cdb) payload (Err why) data_in t → why ≡ stopped.ImageFault
stops_to s cdb payload data_in why (Unopened image) step = absurd step
stops_to s cdb payload data_in why (Disc t) step = by_image cdb why step.rule.answer step.rule.outcome_is

pub command_stopped : (gives : Answer → List ℕ → Type 0) (s : Served) (cdb payload data_in found : List ℕ) (after : State → Type 0) (why : Stopped)
    → IsAnswered (Disc s) (lines.Command cdb) payload (data_told (Err why) data_in found) after (Err why)
    → CommandRule gives after s (record { cdb = cdb; payload = payload }) (Err why)
command_stopped gives s cdb payload data_in found after why answered =
    let is : why ≡ stopped.ImageFault = stops_to s cdb payload data_in why answered.state answered.step in
    let step : Step (Disc s) (lines.Command cdb) payload (Err stopped.ImageFault) data_in answered.state =
    subst (λ (w : Stopped). Step (Disc s) (lines.Command cdb) payload (Err w) data_in answered.state) is answered.step in
    subst (λ (w : Stopped). CommandRule gives after s (record { cdb = cdb; payload = payload }) (Err w)) (sym is)
    (fails_to s cdb payload data_in after answered.state step answered.stands)

-- the same of the block and the data that these are, whatever comes with the answer
pub any_command : (gives : Answer → List ℕ → Type 0) (after : State → Type 0) (s : Served) (cdb block payload sent : List ℕ) (result : Result Answer Stopped)
    → cdb ≡ block → payload ≡ sent → CommandRule gives after s (record { cdb = cdb; payload = payload }) result
    → CommandRule AnyData after s (record { cdb = block; payload = sent }) result
any_command gives after s cdb block payload sent result same also rule =
    subst (λ (xs : List ℕ). CommandRule AnyData after s (record { cdb = block; payload = xs }) result) also
    (subst (λ (xs : List ℕ). CommandRule AnyData after s (record { cdb = xs; payload = payload }) result) same (weaker result rule))
  where
    weaker : (result : Result Answer Stopped) → CommandRule gives after s (record { cdb = cdb; payload = payload }) result
        → CommandRule AnyData after s (record { cdb = cdb; payload = payload }) result
    weaker (Ok answer) done = record { data_in = done.data_in; given = tt; now = done.now; step = done.step; stands = done.stands }
    weaker (Err stopped.ImageFault) fails = fails
    weaker (Err stopped.NotInLanguage) none = none
    weaker (Err stopped.LineTooLong) none = none
    weaker (Err stopped.ScriptTooLong) none = none
    weaker (Err stopped.NotADisc) none = none
    weaker (Err stopped.SourceFault) none = none
    weaker (Err stopped.SinkFault) none = none

-- a read whose data went behind the reply
pub read_done : (after : State → Type 0) (s : Served) (lba n : ℕ) (cdb bytes reply reply' : List ℕ) (answer : Answer) → cdb ≡ read_cdb (record { lba = lba; n = n })
    → lba < 2 ^ 32 → n ≤ 1024 → (length bytes ≡ 2048 * n → GoesBehind reply reply' answer bytes)
    → CommandDone (λ given read. read ≡ bytes) after s (record { cdb = cdb; payload = [] }) answer
    → CommandDone (GoesBehind reply reply') after s (bare (read_cdb (record { lba = lba; n = n }))) answer
read_done after s lba n cdb bytes reply reply' answer same small few behind done =
    let it = subst (λ (block : List ℕ). CommandDone (λ given read. read ≡ bytes) after s (record { cdb = block; payload = [] }) answer) same done in
    record {
      data_in = it.data_in;
      given = subst (λ (read : List ℕ). GoesBehind reply reply' answer read) (sym it.given)
          (by_answer answer it.data_in it.now (it.given) it.step behind);
      now = it.now;
      step = it.step;
      stands = it.stands;
    }
  where
    by_answer : (a : Answer) (read : List ℕ) (t : Served) → read ≡ bytes
        → Step (Disc s) (lines.Command (read_cdb (record { lba = lba; n = n }))) [] (Ok (replies.Command (read_cdb (record { lba = lba; n = n })) a)) read (Disc t)
        → (length bytes ≡ 2048 * n → GoesBehind reply reply' a bytes) → GoesBehind reply reply' a bytes
    by_answer answers.Good read t is step behind =
        behind (ap length (sym is) ∙ read_gives_sectors (Disc s) (Disc t) (record { lba = lba; n = n }) read small few step)
    by_answer (answers.Check why) read t is step behind = tt
    by_answer answers.Cut read t is step behind = tt
    by_answer answers.Off read t is step behind = tt
    by_answer answers.Fault read t is step behind = tt

-- another failure does not depend on what comes with an answer
pub stopped_same : (gives other : Answer → List ℕ → Type 0) (after : State → Type 0) (s : Served) (cdb block payload : List ℕ) (why : Stopped) → cdb ≡ block
    → CommandRule gives after s (record { cdb = cdb; payload = payload }) (Err why) → CommandRule other after s (record { cdb = block; payload = payload }) (Err why)
stopped_same gives other after s cdb block payload why same rule =
    subst (λ (xs : List ℕ). CommandRule other after s (record { cdb = xs; payload = payload }) (Err why)) same (by_cause why rule)
  where
    by_cause : (why : Stopped) → CommandRule gives after s (record { cdb = cdb; payload = payload }) (Err why)
        → CommandRule other after s (record { cdb = cdb; payload = payload }) (Err why)
    by_cause stopped.ImageFault fails = fails
    by_cause stopped.NotInLanguage none = none
    by_cause stopped.LineTooLong none = none
    by_cause stopped.ScriptTooLong none = none
    by_cause stopped.NotADisc none = none
    by_cause stopped.SourceFault none = none
    by_cause stopped.SinkFault none = none

-- the zeros of a part are the first of the longest part's
pub fewer_zeroes : (n : ℕ) (zeros : List ℕ) → n ≤ length zeros → zeros ≡ zeroes_for (length zeros) → take n zeros ≡ zeroes_for n
unfolding zeroes_for
fewer_zeroes n zeros few are = ap (take n) are ∙ take-replicate n (length zeros) 0 few

-- zeros that were put down where nothing was
take_none : (xs : List ℕ) (n : ℕ) → xs ≡ [] → take n xs ≡ []
take_none [] zero is = refl
take_none [] (suc n) is = refl
take_none (x ∷ xs) n is = absurd cc

pub as_zeroes : (n k : ℕ) (old bytes : List ℕ) → old ≡ [] → bytes ≡ take n old ++ replicate k 0 → bytes ≡ zeroes_for (length bytes)
unfolding zeroes_for
as_zeroes n k old bytes none are =
    let is : bytes ≡ replicate k 0 = are ∙ ap (λ (xs : List ℕ). xs ++ replicate k 0) (take_none old n none) in
    is ∙ ap (λ (m : ℕ). replicate m 0) (sym (ap length is ∙ length-replicate k 0))

-- Commands of a request, one after another, up to the first that is not good.
use Rattle.std.specs.Prelude.{◌≡◌, ℕ, suc, ◌+◌, ◌-◌, ◌/◌, ◌<◌, ◌≤◌, ◌⊎◌, Result, Ok, Err, List, [], ◌∷◌, ◌++◌, map}
use Rattle.std.proofs.Common.{arith, refl, sym, ap, ◌∙◌, subst, inl, inr, append_assoc}
use Rattle.model_sense.specs.declared.answer.Answer.{Answer}
use Rattle.model_sense.specs.declared.answer.Answer.TheVariants as answers
use Rattle.model_nbd.specs.Commands.{Command, Sectors, parts, parts_before}
use Rattle.ram_machine.specs.declared.stopped.Stopped.{Stopped}
use Rattle.ram_machine.specs.declared.stopped.Stopped.TheVariants as stopped
use Rattle.ram_machine.specs.States.{State, Served, Disc}
use Rattle.ram_session.specs.Doing.{Did, Doing, WereGood, commands_in, data_from}
use Rattle.ram_transmission.specs.Chains.{CommandRule, ChainDone, ChainRule, AnyData, GoesBehind}

-- The commands before the rest were all done, and good; `sofar` tells of their data.
pub record UpTo (sofar : List ℕ → Type 0) (after : State → Type 0) (s : Served) (all rest : List Command) : Type 0 where
  pub dids : List Did
  pub good : WereGood dids
  pub now : Served
  pub does : Doing (Disc s) dids (Disc now)
  pub stands : after (Disc now)
  pub given : sofar (data_from dids)
  pub are : all ≡ commands_in dids ++ rest

pub nothing_yet : (sofar : List ℕ → Type 0) (after : State → Type 0) (s : Served) (all : List Command) → after (Disc s) → sofar [] → UpTo sofar after s all all
nothing_yet sofar after s all stands given = record { dids = []; good = tt; now = s; does = refl; stands = stands; given = given; are = refl }

-- the first of several parts, and of one
parts_more : (at left : ℕ) → 1024 < left → parts at left ≡ record { lba = at; n = 1024 } ∷ parts (at + 1024) (left - 1024)
parts_more at left many =
    let one : (left - 1) / 1024 ≡ suc ((left - 1024 - 1) / 1024) = omega arith in
    ap (λ (k : ℕ). parts_before k at left) one

parts_last : (at left : ℕ) → left ≤ 1024 → parts at left ≡ record { lba = at; n = left } ∷ []
parts_last at left few =
    let none : (left - 1) / 1024 ≡ 0 = omega arith in
    ap (λ (k : ℕ). parts_before k at left) none

-- the commands with the next one, and what is left
with_next : (all front : List Command) (next : Command) (rest : List Command) → all ≡ front ++ (next ∷ rest) → all ≡ (front ++ next ∷ []) ++ rest
with_next all front next rest is = is ∙ sym (append_assoc front (next ∷ []) rest)

-- a command, its answer and its data
abbrev did_of : Command → Answer → List ℕ → Did
did_of command answer data_in = record { command = command; answer = answer; data_in = data_in }

good_or_not : (answer : Answer) → (answer ≡ answers.Good) ⊎ ¬ (answer ≡ answers.Good)
good_or_not answers.Good = inl refl
good_or_not (answers.Check sense) = inr (λ same. cc)
good_or_not answers.Cut = inr (λ same. cc)
good_or_not answers.Off = inr (λ same. cc)
good_or_not answers.Fault = inr (λ same. cc)

module _ (before after : State → Type 0) (s : Served) (all : List Command) (sofar : List ℕ → Type 0) where
  -- one command more was good
  good_one : (sofar' : List ℕ → Type 0) (gives : Answer → List ℕ → Type 0) (next : Command) (rest : List Command) → UpTo sofar before s all (next ∷ rest)
      → ((bytes more : List ℕ) → sofar bytes → gives answers.Good more → sofar' (bytes ++ more))
      → ((t : Served) → before (Disc t) → CommandRule gives after t next (Ok answers.Good)) → UpTo sofar' after s all rest
  good_one sofar' gives next rest far joins step =
      let done = step far.now far.stands in
      record {
        dids = did_of next answers.Good done.data_in ∷ far.dids;
        good = (refl, far.good);
        now = done.now;
        does = (Disc far.now, far.does, done.step);
        stands = done.stands;
        given = joins (data_from far.dids) done.data_in far.given done.given;
        are = with_next all (commands_in far.dids) next rest far.are;
      }

  module _ (gives part : Answer → List ℕ → Type 0) (next : Command) where
    -- one was not
    refused_one : (rest : List Command) (answer : Answer) → UpTo sofar before s all (next ∷ rest) → ¬ (answer ≡ answers.Good)
        → ((bytes more : List ℕ) → sofar bytes → part answer more → gives answer (bytes ++ more))
        → ((t : Served) → before (Disc t) → CommandRule part after t next (Ok answer)) → ChainDone gives after s all answer
    refused_one rest answer far bad joins step =
        let done = step far.now far.stands in
        record {
          dids = did_of next answer done.data_in ∷ far.dids;
          done = inr (record {
            last = did_of next answer done.data_in;
            before = far.dids;
            dids_are = refl;
            good = far.good;
            not_good = bad;
            undone = rest;
            some_done = with_next all (commands_in far.dids) next rest far.are;
          });
          ends = refl;
          given = joins (data_from far.dids) done.data_in far.given done.given;
          now = done.now;
          does = (Disc far.now, far.does, done.step);
          stands = done.stands;
        }

    -- the last one was good
    all_good : UpTo sofar before s all (next ∷ []) → ((bytes more : List ℕ) → sofar bytes → part answers.Good more → gives answers.Good (bytes ++ more))
        → ((t : Served) → before (Disc t) → CommandRule part after t next (Ok answers.Good)) → ChainDone gives after s all answers.Good
    all_good far joins step =
        let done = step far.now far.stands in
        record {
          dids = did_of next answers.Good done.data_in ∷ far.dids;
          done = inl (record { good = (refl, far.good); all_done = far.are });
          ends = refl;
          given = joins (data_from far.dids) done.data_in far.given done.given;
          now = done.now;
          does = (Disc far.now, far.does, done.step);
          stands = done.stands;
        }

    -- the image failed in one
    failed_one : (rest : List Command) (why : Stopped) → UpTo sofar before s all (next ∷ rest)
        → ((t : Served) → before (Disc t) → CommandRule part after t next (Err why)) → ChainRule gives after s all (Err why)
    failed_one rest stopped.ImageFault far step = record {
      dids = far.dids;
      good = far.good;
      mid = far.now;
      does = far.does;
      command = next;
      undone = rest;
      commands_are = far.are;
      fails = step far.now far.stands;
    }
    failed_one rest stopped.NotInLanguage far step = step far.now far.stands
    failed_one rest stopped.LineTooLong far step = step far.now far.stands
    failed_one rest stopped.ScriptTooLong far step = step far.now far.stands
    failed_one rest stopped.NotADisc far step = step far.now far.stands
    failed_one rest stopped.SourceFault far step = step far.now far.stands
    failed_one rest stopped.SinkFault far step = step far.now far.stands

    -- the last one, however it ended
    last_one : (result : Result Answer Stopped) → UpTo sofar before s all (next ∷ [])
        → ((answer : Answer) (bytes more : List ℕ) → sofar bytes → part answer more → gives answer (bytes ++ more))
        → ((t : Served) → before (Disc t) → CommandRule part after t next result) → ChainRule gives after s all result
    last_one (Err why) far joins step = failed_one [] why far step
    last_one (Ok answer) far joins step = elim (good_or_not answer) [
      | inl good ↦ subst (λ (a : Answer). ChainDone gives after s all a) (sym good)
          (all_good far (joins answers.Good) (λ t stood. subst (λ (a : Answer). CommandRule part after t next (Ok a)) good (step t stood)))
      | inr bad ↦ refused_one [] answer far bad (joins answer) step
    ]

-- the same of the commands of parts
module _ (command_of : Sectors → Command) (before after : State → Type 0) (s : Served) (all : List Command) (sofar : List ℕ → Type 0) (at left : ℕ)
    (far : UpTo sofar before s all (map command_of (parts at left))) where
  next_part : 1024 < left → UpTo sofar before s all (command_of (record { lba = at; n = 1024 }) ∷ map command_of (parts (at + 1024) (left - 1024)))
  next_part many = subst (λ (some : List Sectors). UpTo sofar before s all (map command_of some)) (parts_more at left many) far

  pub part_good : (sofar' : List ℕ → Type 0) (gives : Answer → List ℕ → Type 0) → 1024 < left
      → ((bytes more : List ℕ) → sofar bytes → gives answers.Good more → sofar' (bytes ++ more))
      → ((t : Served) → before (Disc t) → CommandRule gives after t (command_of (record { lba = at; n = 1024 })) (Ok answers.Good))
      → UpTo sofar' after s all (map command_of (parts (at + 1024) (left - 1024)))
  part_good sofar' gives many joins step =
      good_one before after s all sofar sofar' gives (command_of (record { lba = at; n = 1024 })) (map command_of (parts (at + 1024) (left - 1024))) (next_part many) joins step

  module _ (gives part : Answer → List ℕ → Type 0) where
    pub part_refused : (answer : Answer) → 1024 < left → ¬ (answer ≡ answers.Good)
        → ((bytes more : List ℕ) → sofar bytes → part answer more → gives answer (bytes ++ more))
        → ((t : Served) → before (Disc t) → CommandRule part after t (command_of (record { lba = at; n = 1024 })) (Ok answer))
        → ChainDone gives after s all answer
    part_refused answer many bad joins step =
        refused_one before after s all sofar gives part (command_of (record { lba = at; n = 1024 })) (map command_of (parts (at + 1024) (left - 1024))) answer (next_part many) bad joins step

    pub part_failed : (why : Stopped) → 1024 < left
        → ((t : Served) → before (Disc t) → CommandRule part after t (command_of (record { lba = at; n = 1024 })) (Err why))
        → ChainRule gives after s all (Err why)
    part_failed why many step =
        failed_one before after s all sofar gives part (command_of (record { lba = at; n = 1024 })) (map command_of (parts (at + 1024) (left - 1024))) why (next_part many) step

    pub part_last : (result : Result Answer Stopped) → left ≤ 1024
        → ((answer : Answer) (bytes more : List ℕ) → sofar bytes → part answer more → gives answer (bytes ++ more))
        → ((t : Served) → before (Disc t) → CommandRule part after t (command_of (record { lba = at; n = left })) result)
        → ChainRule gives after s all result
    part_last result few joins step =
        last_one before after s all sofar gives part (command_of (record { lba = at; n = left })) result
        (subst (λ (some : List Sectors). UpTo sofar before s all (map command_of some)) (parts_last at left few) far) joins step

-- one command alone
pub one_command : (after : State → Type 0) (before : State → Type 0) (s : Served) (command : Command) (result : Result Answer Stopped) → before (Disc s)
    → ((t : Served) → before (Disc t) → CommandRule AnyData after t command result) → ChainRule AnyData after s (command ∷ []) result
one_command after before s command result stands step =
    last_one before after s (command ∷ []) (λ bytes. Unit {0}) AnyData AnyData command result
    (nothing_yet (λ bytes. Unit {0}) before s (command ∷ []) stands tt) (λ answer bytes more a b. tt) step

-- the data of a good part go behind the reply, and so those of all of them
pub goes_on : (first reply reply' bytes more : List ℕ) → reply ≡ first ++ bytes → reply' ≡ reply ++ more → reply' ≡ first ++ (bytes ++ more)
goes_on first reply reply' bytes more one two = two ∙ ap (λ (xs : List ℕ). xs ++ more) one ∙ append_assoc first bytes more

pub goes_behind : (first reply reply' : List ℕ) (answer : Answer) (bytes more : List ℕ) → reply ≡ first ++ bytes → GoesBehind reply reply' answer more
    → GoesBehind first reply' answer (bytes ++ more)
goes_behind first reply reply' answers.Good bytes more one two = goes_on first reply reply' bytes more one two
goes_behind first reply reply' (answers.Check why) bytes more one two = tt
goes_behind first reply reply' answers.Cut bytes more one two = tt
goes_behind first reply reply' answers.Off bytes more one two = tt
goes_behind first reply reply' answers.Fault bytes more one two = tt

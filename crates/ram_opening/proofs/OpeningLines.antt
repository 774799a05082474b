-- One line of the opening: what the machine does for it.
use Rattle.std.specs.Prelude.{◌≡◌, ℕ, Some, Result, Ok, Err, List, []}
use Rattle.std.proofs.Common.{subst, ◌∙◌}
use Rattle.model_sectors.specs.declared.PowerOut.{PowerOut}
use Rattle.model_sectors.specs.declared.PowerOut.TheVariants as powers
use Rattle.model_sense.specs.declared.answer.Answer.{Answer}
use Rattle.model_sense.specs.declared.answer.Answer.TheVariants as answers
use Rattle.ram_report.specs.declared.printing.Event.TheVariants as events
use Rattle.ram_text.specs.Faults.{IsFaultWord, fault_word}
use Rattle.ram_text.specs.declared.script.Line.{Line}
use Rattle.ram_text.specs.declared.script.Line.TheVariants as lines
use Rattle.ram_machine.specs.declared.reply.Reply.{Reply}
use Rattle.ram_machine.specs.declared.reply.Reply.TheVariants as replies
use Rattle.ram_machine.specs.declared.stopped.Stopped.{Stopped}
use Rattle.ram_machine.specs.declared.stopped.Stopped.TheVariants as stopped
use Rattle.ram_machine.specs.Replies.{power_outcome, command_outcome}
use Rattle.ram_machine.specs.States.{State, Served, Unopened, Disc}
use Rattle.ram_machine.specs.LineSteps.{CountsUses, Step}
use Rattle.ram_machine.specs.LineFaults.{LineCount}
use Rattle.ram_machine.specs.Inserted.{IsAnswered}
use Rattle.ram_machine.proofs.Answering.{disc_answers}
use Rattle.ram_text.proofs.Faults.{given_word}
use Rattle.ram_script.specs.Endings.{status_of}
use Rattle.ram_script.proofs.LinesTaken.{read_uses}
use Rattle.ram_opening.specs.Faults.{ReadsAsFault}
use Rattle.ram_session.specs.Opening.{Given, RefusesFault}
use Rattle.ram_opening.specs.Opens.{IsOpeningLine, OpeningLineDone, OpeningLineRule}

-- a line, and the data that go with it
abbrev given_of : Line → List ℕ → Given
given_of line payload = record { line = line; payload = payload }

-- a word has one reading, which is a line of an opening
pub one_fault : (word : List ℕ) (line other : Line) → Some line ≡ fault_word word → IsFaultWord word other → line ≡ other
one_fault word line other read is = let same : Some line ≡ Some other = read ∙ given_word word other is in cc

pub opens_fault : (word : List ℕ) (line : Line) → IsFaultWord word line → IsOpeningLine line
opens_fault word (lines.Fail block) is = tt
opens_fault word (lines.Wear block n) is = tt
opens_fault word (lines.Cut n fate) is = tt
opens_fault word lines.Empty is = absurd is.fault
opens_fault word (lines.Press zones scale psa) is = absurd is.fault
opens_fault word lines.Power is = absurd is.fault
opens_fault word lines.Tick is = absurd is.fault
opens_fault word (lines.Scrub all) is = absurd is.fault
opens_fault word (lines.Command cdb) is = absurd is.fault

pub uses_fault : (word : List ℕ) (line : Line) → IsFaultWord word line → CountsUses line
uses_fault word line is = read_uses word line [] is.reads

pub not_none : (word : List ℕ) → ReadsAsFault word → ((line : Line) → ¬ IsFaultWord word line) → ⊥
not_none word reads none = none reads.0 reads.1

module _ (s : Served) (payload data_in : List ℕ) (after : State → Type 0) where
  done_to : (line : Line) (reply : Reply) (t : State) → IsOpeningLine line → Step (Disc s) line payload (Ok reply) data_in t → after t
      → OpeningLineDone after s (given_of line payload) reply
  done_to lines.Power reply (Unopened image) opens step stands = absurd step
  done_to (lines.Fail block) reply (Unopened image) opens step stands = absurd step
  done_to (lines.Wear block n) reply (Unopened image) opens step stands = absurd step
  done_to (lines.Cut n fate) reply (Unopened image) opens step stands = absurd step
  done_to (lines.Command cdb) reply (Unopened image) opens step stands = absurd step
  done_to lines.Power reply (Disc t) opens step stands = record { data_in = data_in; now = t; step = step; stands = stands }
  done_to (lines.Fail block) reply (Disc t) opens step stands = record { data_in = data_in; now = t; step = step; stands = stands }
  done_to (lines.Wear block n) reply (Disc t) opens step stands = record { data_in = data_in; now = t; step = step; stands = stands }
  done_to (lines.Cut n fate) reply (Disc t) opens step stands = record { data_in = data_in; now = t; step = step; stands = stands }
  done_to (lines.Command cdb) reply (Disc t) opens step stands = record { data_in = data_in; now = t; step = step; stands = stands }
  done_to _ reply t opens step stands = absurd opens

  -- the line was answered
  pub line_done : (line : Line) (reply : Reply) → IsOpeningLine line → IsAnswered (Disc s) line payload data_in after (Ok reply)
      → OpeningLineDone after s (given_of line payload) reply
  line_done line reply opens answered = done_to line reply answered.state opens answered.step answered.stands

  -- it was not: the image failed
  pub line_stopped : (line : Line) (why : Stopped) (faults faults' : ℕ) → LineCount faults faults' (Err why)
      → IsAnswered (Disc s) line payload data_in after (Err why) → OpeningLineRule after s (given_of line payload) (Err (status_of (Err why)))
  line_stopped line stopped.ImageFault faults faults' count answered =
      record { data_in = data_in; state = answered.state; step = answered.step; stands = answered.stands }
  line_stopped line stopped.NotADisc faults faults' count answered = absurd (disc_answers s line payload data_in answered.state answered.step)
  line_stopped line stopped.NotInLanguage faults faults' count answered = absurd count
  line_stopped line stopped.LineTooLong faults faults' count answered = absurd count
  line_stopped line stopped.ScriptTooLong faults faults' count answered = absurd count
  line_stopped line stopped.SourceFault faults faults' count answered = absurd count
  line_stopped line stopped.SinkFault faults faults' count answered = absurd count

ok_is : (reply other : Reply) → ◌≡◌ {A = Result Reply Stopped} (Ok reply) (Ok other) → reply ≡ other
ok_is reply other same = cc

-- the turning on of the power is not answered as a fault that is refused
by_power : (reply : Reply) (out : PowerOut) → Ok reply ≡ power_outcome out → RefusesFault reply → ⊥
by_power reply (powers.Ready capacity) is refuses = subst RefusesFault (ok_is reply (replies.Event (events.Ready capacity)) is) refuses
by_power reply powers.NotFormatted is refuses = subst RefusesFault (ok_is reply (replies.Event events.NotFormatted) is) refuses
by_power reply powers.Cut is refuses = subst RefusesFault (ok_is reply (replies.Event events.Cut) is) refuses
by_power reply powers.Fault is refuses = cc

pub power_kept : (s t : Served) (payload data_in : List ℕ) (reply : Reply) → Step (Disc s) lines.Power payload (Ok reply) data_in (Disc t) → RefusesFault reply → ⊥
power_kept s t payload data_in reply step = by_power reply step.rule.0.out step.rule.0.outcome_is

-- nor is a command
by_command : (cdb : List ℕ) (reply : Reply) (answer : Answer) → Ok reply ≡ command_outcome cdb answer → RefusesFault reply → ⊥
by_command cdb reply answers.Good is refuses = subst RefusesFault (ok_is reply (replies.Command cdb answers.Good) is) refuses
by_command cdb reply (answers.Check sense) is refuses = subst RefusesFault (ok_is reply (replies.Command cdb (answers.Check sense)) is) refuses
by_command cdb reply answers.Cut is refuses = subst RefusesFault (ok_is reply (replies.Command cdb answers.Cut) is) refuses
by_command cdb reply answers.Off is refuses = subst RefusesFault (ok_is reply (replies.Command cdb answers.Off) is) refuses
by_command cdb reply answers.Fault is refuses = cc

pub command_kept : (s t : Served) (cdb payload data_in : List ℕ) (reply : Reply) → Step (Disc s) (lines.Command cdb) payload (Ok reply) data_in (Disc t) → RefusesFault reply → ⊥
command_kept s t cdb payload data_in reply step = by_command cdb reply step.rule.answer step.rule.outcome_is

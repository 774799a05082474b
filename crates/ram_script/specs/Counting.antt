-- The answers to commands, counted by what they are. For the tally of a run, and the summary of a script from a number.
use Rattle.std.specs.Prelude.{ℕ, ◌+◌, ◌≤◌, ◌==◌, ◌&&◌, Bool, true, false, if◌then◌else◌, List, [], ◌∷◌, All, map}
use Rattle.model_sense.specs.declared.sense.Sense.{Sense}
use Rattle.model_sense.specs.declared.answer.Answer.TheVariants as answers
use Rattle.model_target.specs.Senses.{senses}
use Rattle.ram_script.specs.declared.counts.AnswerCounts.{AnswerCounts}
use Rattle.ram_script.specs.declared.counts.SenseCount.{SenseCount}
use Rattle.ram_machine.specs.declared.reply.Reply.{Reply}
use Rattle.ram_machine.specs.declared.reply.Reply.TheVariants as replies
use Rattle.ram_script.specs.Answered.{AnsweredLine}

-- whether both have the same key, code and qualifier; their information may differ (this project's own, as all here)
abbrev pub is_same_sense : Sense → Sense → Bool
is_same_sense a b = (a.key == b.key) && (a.asc == b.asc) && (a.ascq == b.ascq)

-- whether a command was answered good
abbrev pub is_told_good : Reply → Bool
is_told_good (replies.Command cdb answers.Good) = true
is_told_good _ = false

-- whether a command was cut
abbrev pub is_cut : Reply → Bool
is_cut (replies.Command cdb answers.Cut) = true
is_cut _ = false

-- whether a command found the power off
abbrev pub is_off : Reply → Bool
is_off (replies.Command cdb answers.Off) = true
is_off _ = false

-- whether a command was answered with this sense
abbrev pub is_check : Sense → Reply → Bool
is_check sense (replies.Command cdb (answers.Check given)) = is_same_sense sense given
is_check sense _ = false

-- how many lines were answered so
abbrev pub times : (Reply → Bool) → List AnsweredLine → ℕ
times is_so [] = 0
times is_so (event ∷ events) = if is_so event.step.reply then times is_so events + 1 else times is_so events

-- how often a sense came
abbrev pub sense_count_of : List AnsweredLine → Sense → SenseCount
sense_count_of events sense = record { sense = sense; times = times (is_check sense) events }

-- how the commands of these lines were answered
abbrev pub counts_in : List AnsweredLine → AnswerCounts
counts_in events = record {
  good = times is_told_good events;
  cut = times is_cut events;
  off = times is_off events;
  checks = map (sense_count_of events) senses;
}

-- the count of a sense after this one came
abbrev pub raised_by : Sense → SenseCount → SenseCount
raised_by given row = if is_same_sense row.sense given then record row { times = row.times + 1 } else row

-- the counts after one reply more
abbrev pub with_reply : AnswerCounts → Reply → AnswerCounts
with_reply counts (replies.Command cdb answers.Good) = record counts { good = counts.good + 1 }
with_reply counts (replies.Command cdb answers.Cut) = record counts { cut = counts.cut + 1 }
with_reply counts (replies.Command cdb answers.Off) = record counts { off = counts.off + 1 }
with_reply counts (replies.Command cdb (answers.Check sense)) =
    record counts { checks = map (raised_by sense) counts.checks }
with_reply counts _ = counts

-- no count is above this
pub record AreAtMost (counts : AnswerCounts) (most : ℕ) : Type 0 where
  pub good : counts.good ≤ most
  pub cut : counts.cut ≤ most
  pub off : counts.off ≤ most
  pub checks : All (λ row. row.times ≤ most) counts.checks

-- How a command changes what a target remembers for its host. (This project's own, as all here.)
use Rattle.std.specs.Prelude.{Bool, true, false, ◌&&◌, not, if◌then◌else◌, Option, Some, None}
use Rattle.model_commands.specs.declared.Operation.{Operation}
use Rattle.model_commands.specs.declared.Operation.TheVariants as operations
use Rattle.model_sense.specs.Sense.{sense}
use Rattle.model_sense.specs.declared.sense.Sense.{Sense}
use Rattle.model_sense.specs.declared.answer.Answer.{Answer}
use Rattle.model_sense.specs.declared.answer.Answer.TheVariants as answers
use Rattle.model_cdb.specs.declared.commands.Command.{Command}
use Rattle.model_cdb.specs.declared.commands.Command.TheVariants as commands
use Rattle.model_target.specs.declared.host.Host.{Host}

-- after the power was turned off and on again the disc is in, and removal allowed
abbrev pub powered_on : Host
powered_on = record { attention = true; prevented = false; out = false; kept = None }

-- the commands that do not wait for the attention
abbrev pub passes_attention : Operation → Bool
passes_attention operations.Inquiry = true
passes_attention operations.RequestSense = true
passes_attention operations.GetConfiguration = true
passes_attention operations.GetEventStatusNotification = true
passes_attention _ = false

-- the command is told of the attention, in place of being done
abbrev pub is_told : Host → Operation → Bool
is_told host operation = host.attention && not (passes_attention operation)

-- the sense that REQUEST SENSE gives: what is kept, else the attention, else that there is nothing to tell
abbrev pub sense_told : Host → Sense
sense_told host = sense_by host.kept host.attention where
  sense_by : Option Sense → Bool → Sense
  sense_by (Some kept) attention = kept
  sense_by None true = sense 0x6 0x29 0x00
  sense_by None false = sense 0x0 0x00 0x00

-- the command was done
abbrev pub is_good : Answer → Bool
is_good answers.Good = true
is_good _ = false

-- The sense that is kept after an answer: that of a command that was checked, and none after one that was done. An answer
-- that turns the power off, or tells that it is, keeps what was.
abbrev pub kept_after : Option Sense → Answer → Option Sense
kept_after kept answers.Good = None
kept_after kept (answers.Check why) = Some why
kept_after kept _ = kept

-- the attention is cleared where a command is told of it, and where REQUEST SENSE tells it
abbrev pub attention_after_sense : Option Sense → Bool → Bool
attention_after_sense (Some kept) attention = attention
attention_after_sense None attention = false

-- what a command that is done changes, beside the sense that is kept
abbrev pub done_by : Command → Host → Host
done_by (commands.RequestSense alloc) host = record host { attention = attention_after_sense host.kept host.attention }
done_by (commands.Prevent on) host = record host { prevented = on }
done_by (commands.StartStop start eject) host = record host { out = if eject then not start else host.out }
done_by _ host = host

-- the host with the sense that is kept after this answer
abbrev pub with_kept_sense : Host → Answer → Host
with_kept_sense host answer = record host { kept = kept_after host.kept answer }

-- The attention is cleared where a command is told of it, and stands where the code is unknown.
abbrev pub attention_after : Host → Option Operation → Bool
attention_after host None = host.attention
attention_after host (Some operation) = if is_told host operation then false else host.attention

-- A line that was answered, without the state of any drive. For the runs of the machine, and for who speaks of answers alone.
use Rattle.std.specs.Prelude.{ℕ, List}
use Rattle.ram_text.specs.declared.script.Line.{Line}
use Rattle.ram_machine.specs.declared.reply.Reply.{Reply}

-- One line that was answered: what it asks for, the data that go with it, what it is answered, and the data that it gave: the bytes
-- of a command, or the blocks that a scrub of all of them found. (This project's own, as all here.)
pub record AnsweredStep : Type 0 where
  pub line : Line
  pub payload : List ℕ
  pub reply : Reply
  pub data_in : List ℕ

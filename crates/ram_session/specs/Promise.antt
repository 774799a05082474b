-- What a user may rely on of a session, by the words of the program, the bytes of the client and of the replies, and those of the image
-- alone: each sector is a register. (This project's own, as all here.)
use Rattle.std.specs.Prelude.{◌≡◌, ℕ, Option, Some, List, [], ◌∷◌, ◌++◌, map}
use Rattle.model_nbd.specs.Handshake.{Export}
use Rattle.ram_text.specs.declared.script.Line.{Line}
use Rattle.ram_machine.specs.Answered.{AnsweredStep}
use Rattle.ram_machine.specs.Register.{IsRegister}
use Rattle.ram_session.specs.Doing.{step_of}
use Rattle.ram_session.specs.Talk.{Phase, Greeted, Turned, TurnFollows, dids_in, sent_in, told_in}
use Rattle.ram_session.specs.Opening.{Given, opening_lines, lines_done, export_after}

-- Each of the messages, the newest first, came where the one before led to, and was answered as the protocol has it.
abbrev pub AreAnswered : Export → List Turned → Phase → Type 0
AreAnswered export [] phase = phase ≡ Greeted
AreAnswered export (turned ∷ before) phase = (was : Phase) × AreAnswered export before was × TurnFollows export was turned phase

-- The promise: the client's first messages were answered; what was written is a beginning of the greeting and of these answers, behind
-- what was written before; and each sector is a register over the commands by which they were done, behind the first of the lines before
-- the greeting.
pub record KeepsSession (faults : List Line) (sent report image : List ℕ) (written : Option (List ℕ)) : Type 0 where
  pub opening : List AnsweredStep
  pub others : List Given
  pub lines_are : opening_lines faults ≡ lines_done opening ++ others
  pub turns : List Turned
  pub phase : Phase
  pub answered : AreAnswered (export_after opening) turns phase
  pub rest : List ℕ
  pub sent_is : sent ≡ sent_in turns ++ rest
  pub registers : (at : ℕ) → IsRegister image (map step_of (dids_in turns) ++ opening) at
  pub bytes : List ℕ
  pub more : List ℕ
  pub written_is : written ≡ Some bytes
  pub prefix : bytes ++ more ≡ report ++ told_in turns

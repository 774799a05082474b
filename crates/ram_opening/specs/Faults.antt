-- Words that ask for faults. For the call that opens a session. (This project's own, as all here.)
use Rattle.std.specs.Prelude.{ℕ, List}
use Rattle.ram_text.specs.Faults.{IsFaultWord, AreFaultWords}
use Rattle.ram_text.specs.declared.script.Line.{Line}

-- the word reads as a fault
abbrev pub ReadsAsFault : (word : List ℕ) → Type 0
ReadsAsFault word = (fault : Line) × IsFaultWord word fault

-- so does each of the words
abbrev pub ReadAsFaults : (words : List (List ℕ)) → Type 0
ReadAsFaults words = (faults : List Line) × AreFaultWords words faults

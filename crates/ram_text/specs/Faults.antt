-- The lines that make something fail, as words of the program ask for them. (This project's own, as all here.)
use Rattle.std.specs.Prelude.{◌≡◌, ℕ, ◌==◌, if◌then◌else◌, Option, None, List, [], ◌∷◌, slice_index}
use Rattle.ram_text.specs.ScriptWords.{words_of, without_return, number_sign}
use Rattle.ram_text.specs.Script.{Reads}
use Rattle.ram_text.specs.ScriptReading.{◌>>=◌, form_of, fail_of, wear_of, cut_of}
use Rattle.ram_text.specs.declared.script.Form.{Form}
use Rattle.ram_text.specs.declared.script.Form.TheVariants as forms
use Rattle.ram_text.specs.declared.script.Line.{Line}
use Rattle.ram_text.specs.declared.script.Line.TheVariants.{Fail, Wear, Cut}

-- the line makes a block fail, now or at a later use, or cuts the power at one
abbrev pub IsFault : Line → Type 0
IsFault (Fail block) = Unit {0}
IsFault (Wear block n) = Unit {0}
IsFault (Cut n fate) = Unit {0}
IsFault _ = ⊥

-- a word reads as this line, which is a fault
pub record IsFaultWord (word : List ℕ) (line : Line) : Type 0 where
  pub reads : Reads word line []
  pub fault : IsFault line

-- the words read as these lines, which are faults
abbrev pub AreFaultWords : (words : List (List ℕ)) → List Line → Type 0
AreFaultWords [] faults = faults ≡ []
AreFaultWords (word ∷ words) [] = ⊥
AreFaultWords (word ∷ words) (line ∷ faults) = IsFaultWord word line × AreFaultWords words faults

-- the fault of each form, by the words behind its first
abbrev pub fault_by : List (List ℕ) → Form → Option Line
fault_by words forms.Fail = fail_of words
fault_by words forms.Wear = wear_of words
fault_by words forms.Cut = cut_of words
fault_by words _ = None

-- the fault of these words
unfoldable pub fault_of : List (List ℕ) → Option Line
fault_of [] = None
fault_of (word ∷ words) = form_of word >>= fault_by words

-- the fault of a line without its line feed and carriage return
abbrev pub fault_in : List ℕ → Option Line
fault_in line = if slice_index line 0 == number_sign then None else fault_of (words_of line)

-- the fault that a word reads as
abbrev pub fault_word : List ℕ → Option Line
fault_word word = fault_in (without_return word)

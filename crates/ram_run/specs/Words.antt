-- The words of the program, and what it does for each. For the main clause of the run.
use Rattle.std.specs.Prelude.{◌≡◌, ℕ, ◌⊎◌, ◌&&◌, nat_lt, nat_le, if◌then◌else◌, Option, None, Some, List, [], ◌∷◌, length, map, codes}
use Rattle.std.specs.Char.{is_ascii_digit}
use Rattle.std.specs.List.{list_all}
use Rattle.model_geometry.specs.declared.kinds.LayoutKind.{LayoutKind}
use Rattle.model_geometry.specs.declared.kinds.LayoutKind.TheVariants.{OneGroup, EachZone}
use Rattle.ram_text.specs.ScriptWords.{decimal_value}
use Rattle.ram_text.specs.Faults.{AreFaultWords}
use Rattle.ram_text.specs.declared.script.Line.{Line}
use Rattle.ram_run.specs.declared.form.Form.{Form}
use Rattle.ram_run.specs.declared.form.Form.TheVariants as forms
use Rattle.ram_machine.specs.declared.status.Status.{Status}
use Rattle.ram_machine.specs.declared.status.Status.TheVariants as statuses

-- the word that runs a script over discs with a layout of this kind (this project's own, as all here)
abbrev pub served_word : LayoutKind → List ℕ
served_word OneGroup = codes "run"
served_word EachZone = codes "groups"

-- the words are that word and this name of an image
abbrev pub IsServedOf : LayoutKind → List ℕ → List (List ℕ) → Type 0
IsServedOf kind name words = words ≡ served_word kind ∷ name ∷ []

-- the words are that word and the name of an image
abbrev pub IsServedImage : LayoutKind → List (List ℕ) → Type 0
IsServedImage kind words = (name : List ℕ) × IsServedOf kind name words

-- the number that a word spells: 1 to 20 decimal digits, at most 18,446,744,073,709,551,615; none of another word
unfoldable pub seed_of : List ℕ → Option ℕ
seed_of word =
    if nat_lt 0 (length word) && nat_le (length word) 20 && list_all is_ascii_digit word
    && nat_le (decimal_value word) 18446744073709551615
    then Some (decimal_value word) else None

-- the words are `generate`, this name of an image and the digits of this number
abbrev pub IsGenerateOf : List ℕ → ℕ → List (List ℕ) → Type 0
IsGenerateOf name seed words =
    (digits : List ℕ) × (words ≡ codes "generate" ∷ name ∷ digits ∷ []) × (seed_of digits ≡ Some seed)

-- the words are `generate`, the name of an image and a number
abbrev pub IsGenerate : List (List ℕ) → Type 0
IsGenerate words = (name : List ℕ) × (seed : ℕ) × IsGenerateOf name seed words

-- the words are `audit` and this name of an image
abbrev pub IsAuditOf : List ℕ → List (List ℕ) → Type 0
IsAuditOf name words = words ≡ codes "audit" ∷ name ∷ []

-- the words are `check` and this name of an image
abbrev pub IsCheckOf : List ℕ → List (List ℕ) → Type 0
IsCheckOf name words = words ≡ codes "check" ∷ name ∷ []

-- the words are one of these and the name of an image
abbrev pub IsOfCertificate : List (List ℕ) → Type 0
IsOfCertificate words = (name : List ℕ) × (IsAuditOf name words ⊎ IsCheckOf name words)

-- the words are `nbd`, this name of an image, and words that read as these faults
abbrev pub IsNbdOf : List ℕ → List Line → List (List ℕ) → Type 0
IsNbdOf name faults words =
    (asked : List (List ℕ)) × (words ≡ codes "nbd" ∷ name ∷ asked) × AreFaultWords asked faults

-- the words are `nbd`, the name of an image, and words that read as faults
abbrev pub IsNbd : List (List ℕ) → Type 0
IsNbd words = (name : List ℕ) × (faults : List Line) × IsNbdOf name faults words

-- the words are `mirror` and these names of two images, which differ
abbrev pub IsMirrorOf : (a b : List ℕ) → List (List ℕ) → Type 0
IsMirrorOf a b words = (words ≡ codes "mirror" ∷ a ∷ b ∷ []) × (a ≡ b → ⊥)

-- the words are `mirror` and two names of images, which differ
abbrev pub IsMirror : List (List ℕ) → Type 0
IsMirror words = (a : List ℕ) × (b : List ℕ) × IsMirrorOf a b words

-- the words are `--help` alone
abbrev pub IsHelp : List (List ℕ) → Type 0
IsHelp words = words ≡ codes "--help" ∷ []

-- the words are `--version` alone
abbrev pub IsVersion : List (List ℕ) → Type 0
IsVersion words = words ≡ codes "--version" ∷ []

-- the words are one of the program's forms
abbrev pub IsWordForm : List (List ℕ) → Type 0
IsWordForm words =
    ((kind : LayoutKind) × IsServedImage kind words) ⊎ IsGenerate words ⊎ IsHelp words ⊎ IsVersion words
    ⊎ IsOfCertificate words ⊎ IsNbd words ⊎ IsMirror words

-- the words are none of the program's forms exactly where the status is that of usage
abbrev pub UsageRule : List (List ℕ) → Status → Type 0
UsageRule words statuses.Usage = ¬ IsWordForm words
UsageRule words _ = IsWordForm words

-- no run ends for want of memory
abbrev pub MemoryRule : Status → Type 0
MemoryRule statuses.NoMemory = ⊥
MemoryRule _ = Unit {0}

-- the words are `nbd`, this name of an image, and these words, which read as faults
pub record AsksForSession (name : List ℕ) (asked words : List (List ℕ)) : Type 0 where
  pub faults : List Line
  pub read : AreFaultWords asked faults
  pub words_are : words ≡ codes "nbd" ∷ name ∷ asked

-- the form of words that ask for a session, and none of others
abbrev pub SessionRule : List (List ℕ) → Option Form → Type 0
SessionRule words None = ¬ IsNbd words
SessionRule words (Some (forms.Nbd name asked)) = AsksForSession name.now (map (λ word. word.now) asked.now) words
SessionRule words (Some form) = ⊥

-- the form of words that ask for a mirror, and none of others
abbrev pub MirrorRule : List (List ℕ) → Option Form → Type 0
MirrorRule words None = ¬ IsMirror words
MirrorRule words (Some (forms.Mirror a b)) = IsMirrorOf a.now b.now words
MirrorRule words (Some form) = ⊥

-- the form of words that ask for a session or for a mirror, and none of others
abbrev pub LongerRule : List (List ℕ) → Option Form → Type 0
LongerRule words None = (¬ IsNbd words) × (¬ IsMirror words)
LongerRule words (Some (forms.Nbd name asked)) = AsksForSession name.now (map (λ word. word.now) asked.now) words
LongerRule words (Some (forms.Mirror a b)) = IsMirrorOf a.now b.now words
LongerRule words (Some form) = ⊥

-- the form of the words, where they have one
abbrev pub FormRule : List (List ℕ) → Option Form → Type 0
FormRule words None = ¬ IsWordForm words
FormRule words (Some (forms.Run kind name)) = IsServedOf kind name.now words
FormRule words (Some (forms.Generate name seed)) = IsGenerateOf name.now seed words
FormRule words (Some (forms.Audit name)) = IsAuditOf name.now words
FormRule words (Some (forms.Check name)) = IsCheckOf name.now words
FormRule words (Some (forms.Nbd name asked)) = AsksForSession name.now (map (λ word. word.now) asked.now) words
FormRule words (Some (forms.Mirror a b)) = IsMirrorOf a.now b.now words
FormRule words (Some forms.Help) = IsHelp words
FormRule words (Some forms.Version) = IsVersion words

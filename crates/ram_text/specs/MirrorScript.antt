-- What a line of a script for a mirror of two discs reads as, with its data: for the parser, and for the run that answers lines.
-- (This project's own, as all here.)
use Rattle.std.specs.Prelude.{◌≡◌, ℕ, ◌*◌, ◌<◌, ◌≤◌, List, [], ◌∷◌, length, codes}
use Rattle.ram_report.specs.MirrorLines.{side_word}
use Rattle.ram_text.specs.ScriptWords.{IsNumber}
use Rattle.ram_text.specs.Script.{IsForm, AreNamed, ReadsBy}
use Rattle.ram_text.specs.declared.script.Line.TheVariants as lines
use Rattle.ram_text.specs.declared.mirror.MirrorLine.{MirrorLine}
use Rattle.ram_text.specs.declared.mirror.MirrorLine.TheVariants.{Empty, Press, Power, Format, Read, Write, Resync, Lead, GiveLead, Fail, Wear, Cut}

-- how many sectors a read or a write has: 1 to 1,024
pub record IsCount (word : List ℕ) (n : ℕ) : Type 0 where
  pub number : IsNumber word n
  pub some : 0 < n
  pub few : n ≤ 1024

-- the data of a write of n sectors, as two words name them: n sectors, also where they are spelled out
pub record AreWritten (n : ℕ) (word digits payload : List ℕ) : Type 0 where
  pub named : AreNamed (2048 * n) word digits payload
  pub whole : length payload ≡ 2048 * n

-- The forms of a line, by its words: what it means, and the data that go with it. A line that makes a block fail, wears it or cuts the
-- power is that of a script for one disc, behind the word for a side.
abbrev pub IsMirrorForm : MirrorLine → (words : List (List ℕ)) → (payload : List ℕ) → Type 0
IsMirrorForm Empty [] payload = payload ≡ []
IsMirrorForm (Press zones scale psa) words payload = IsForm words (lines.Press zones scale psa) payload
IsMirrorForm Power (word ∷ []) payload = (word ≡ codes "power") × (payload ≡ [])
IsMirrorForm Format (word ∷ []) payload = (word ≡ codes "format") × (payload ≡ [])
IsMirrorForm (Read lba n) (word ∷ a ∷ b ∷ []) payload =
    (word ≡ codes "read") × IsNumber a lba × IsCount b n × (payload ≡ [])
IsMirrorForm (Write lba n) (word ∷ a ∷ b ∷ c ∷ d ∷ []) payload =
    (word ≡ codes "write") × IsNumber a lba × IsCount b n × AreWritten n c d payload
IsMirrorForm Resync (word ∷ []) payload = (word ≡ codes "resync") × (payload ≡ [])
IsMirrorForm Lead (word ∷ []) payload = (word ≡ codes "lead") × (payload ≡ [])
IsMirrorForm (GiveLead on_a) (word ∷ side ∷ []) payload =
    (word ≡ codes "lead") × (side ≡ side_word on_a) × (payload ≡ [])
IsMirrorForm (Fail on_a block) (side ∷ words) payload =
    (side ≡ side_word on_a) × IsForm words (lines.Fail block) payload
IsMirrorForm (Wear on_a block n) (side ∷ words) payload =
    (side ≡ side_word on_a) × IsForm words (lines.Wear block n) payload
IsMirrorForm (Cut on_a n fate) (side ∷ words) payload =
    (side ≡ side_word on_a) × IsForm words (lines.Cut n fate) payload
IsMirrorForm _ _ payload = ⊥

-- what a line of a script for a mirror means
abbrev pub MirrorReads : List ℕ → MirrorLine → List ℕ → Type 0
MirrorReads line read payload = ReadsBy Empty (λ words read payload. IsMirrorForm read words payload) line read payload

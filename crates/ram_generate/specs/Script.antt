-- The script that is drawn from a number: its first lines, and two thousand steps. (This project's own, as all here.)
use Rattle.std.specs.Prelude.{◌≡◌, ℕ, zero, suc, ◌+◌, nat_le, ◌==◌, if◌then◌else◌, List, [], ◌++◌}
use Rattle.rand_pcg.specs.Lcg.{Lcg}
use Rattle.ram_generate.specs.Drawing.{generator, draw}
use Rattle.ram_generate.specs.Lines.{write_text, read_text, fail_text, wear_text, cut_text, power_text, head_text}

-- what a step adds, and the generator after it
abbrev pub Drawn : Type 0
Drawn = List ℕ × Lcg

-- a write: its first sector, how many, and the first byte
abbrev pub write_step : Lcg → Drawn
write_step words =
    let lba = draw 1425 words in
    let n = draw 16 lba.1 in
    let first = draw 256 n.1 in
    (write_text lba.0 (1 + n.0) first.0, first.1)

-- a read: its first sector, and how many
abbrev pub read_step : Lcg → Drawn
read_step words = let lba = draw 1425 words in let n = draw 16 lba.1 in (read_text lba.0 (1 + n.0), n.1)

-- a block of the zones dies
abbrev pub fail_step : Lcg → Drawn
fail_step words = let block = draw 102 words in (fail_text (8 + block.0), block.1)

-- a block of the zones dies at one of its next uses
abbrev pub wear_step : Lcg → Drawn
wear_step words =
    let block = draw 102 words in let n = draw 8 block.1 in (wear_text (8 + block.0) (1 + n.0), n.1)

-- the power is cut at one of the next uses, with this fate
abbrev pub cut_step : Lcg → Drawn
cut_step words = let n = draw 40 words in let fate = draw 3 n.1 in (cut_text (1 + n.0) fate.0, fate.1)

-- the power goes off and on again, and the host is told
abbrev pub power_step : Lcg → Drawn
power_step words = (power_text, words)

-- The step by what was drawn of a hundred: 45 are writes, 50 are reads, one each fails a block, wears one and arms a cut,
-- and two are power lines.
abbrev pub step_by : (kind : ℕ) → Lcg → Drawn
step_by kind words =
    if nat_le kind 44 then write_step words
    else if nat_le kind 94 then read_step words
    else if kind == 95 then fail_step words
    else if kind == 96 then wear_step words
    else if kind == 97 then cut_step words
    else power_step words

-- one step: its kind is drawn of a hundred, and then its numbers
abbrev pub one_step : Lcg → Drawn
one_step words = let kind = draw 100 words in step_by kind.0 kind.1

-- the text of n steps
unfoldable pub steps_text : ℕ → Lcg → List ℕ
steps_text zero words = []
steps_text (suc n) words = (one_step words).0 ++ steps_text n (one_step words).1

-- the whole script
abbrev pub script_from : (seed : ℕ) → List ℕ
script_from seed = head_text ++ steps_text 2000 (generator seed)

-- a script grew by what a step adds; the generator stands behind it
abbrev pub AddsStep : (old new : List ℕ) → Lcg → Drawn → Type 0
AddsStep old new words drawn = (new ≡ old ++ drawn.0) × (words ≡ drawn.1)

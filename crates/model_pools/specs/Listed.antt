-- Which blocks a list names, and what the entries of a secondary list name as replacements: for pools and homes.
use Rattle.std.specs.Prelude.{ℕ, Bool, IsTrue, ◌==◌, Option, option_and_then, List}
use Rattle.std.specs.List.{All, filter_map, find, list_any}
use Rattle.model_lists.specs.declared.sdl.SdlEntry.{SdlEntry}

-- the block is one of the list
abbrev pub is_listed : List ℕ → ℕ → Bool
is_listed blocks block = list_any (λ b. b == block) blocks

-- each of these blocks is one of the list
abbrev pub AreListed : List ℕ → List ℕ → Type 0
AreListed blocks these = All (λ block. IsTrue (is_listed blocks block)) these

-- the blocks that the entries name as replacements (after ECMA-330's linear replacement)
abbrev pub replacements : List SdlEntry → List ℕ
replacements entries = filter_map (λ (entry : SdlEntry). entry.replacement) entries

-- what replaces a defective block, where an entry says so (after ECMA-330's linear replacement)
abbrev pub replacement_of : List SdlEntry → ℕ → Option ℕ
replacement_of entries block =
    option_and_then (λ (entry : SdlEntry). entry.replacement) (find (λ (entry : SdlEntry). entry.defective == block) entries)

-- What keeps a disc fair.
use Rattle.std.proofs.Common.{◌≡◌, ℕ, zero, suc, ◌==◌, Bool, true, false, if◌then◌else◌, Option, Some, None, List, [], ◌∷◌, inl, inr, refl, sym, ap, ◌∙◌, subst, arith, map, slice_index}
use Rattle.std.specs.List.{Contains, find}
use Rattle.std.specs.Option.{option_and_then}
use Rattle.std.specs.Prelude.{unwrap_or}
use Rattle.std.proofs.lemmas.Bool.{eqb-true}
use Rattle.model_geometry.specs.Geometry.{Shape}
use Rattle.model_lists.specs.declared.sdl.SdlEntry.{SdlEntry}
use Rattle.model_lists.specs.Values.{with_entry, pair, retired}
use Rattle.model_medium.specs.Cells.{Cell, Dead, cell_at}
use Rattle.model_pools.specs.Listed.{is_listed}
use Rattle.model_pools.specs.Pools.{spares_in}
use Rattle.model_pools.specs.Moves.{with_retired, former, tried_of}
use Rattle.model_places.specs.Places.{Lists, pools_of, logical_block, home_of, free_spares}
use Rattle.model_pools.proofs.Replacements.{Contains-first, Contains-later}
use Rattle.model_volume.specs.Moves.{lists_moved}
use Rattle.model_volume.specs.Expansions.{entry_expanded, lists_expanded}
use Rattle.model_pools.proofs.Members.{put_members}
use Rattle.model_lists.specs.declared.dds.PdlEntry.{PdlEntry}
use Rattle.model_formats.specs.Fresh.{fresh_lists}
use Rattle.model_drive.specs.Course.{Placing, ToHome, ToSpare, AreDead, WentTo, lists_placed}
use Rattle.model_fairness.specs.Fair.{NameDeadBlocks, IsFair}

-- one entry more, of a dead block
put_fair : (cells : List Cell) (new : SdlEntry) (entries : List SdlEntry) → cell_at cells new.defective ≡ Dead → NameDeadBlocks cells entries → NameDeadBlocks cells (with_entry new entries)
put_fair cells new entries dead fair entry has = elim (put_members new entries entry has) [
  | inl same ↦ ap (λ (e : SdlEntry). cell_at cells e.defective) same ∙ dead
  | inr was ↦ fair entry was.0
]

-- the spares that were tried are dead
tried_fair : (cells : List Cell) (free : List ℕ) (tried : ℕ) (entries : List SdlEntry) → AreDead cells free tried → NameDeadBlocks cells entries
    → NameDeadBlocks cells (with_retired (tried_of free tried) entries)
tried_fair cells free zero entries dead fair = fair
tried_fair cells free (suc tried) entries dead fair =
    put_fair cells (retired (slice_index free tried)) (with_retired (tried_of free tried) entries) (dead tried (omega arith))
    (tried_fair cells free tried entries (λ k less. dead k (omega (arith, less))) fair)

-- a former replacement was a home, which is dead
former_fair : (cells : List Cell) (own home : ℕ) (entries : List SdlEntry) → cell_at cells home ≡ Dead → NameDeadBlocks cells entries
    → NameDeadBlocks cells (with_retired (former own home) entries)
former_fair cells own home entries dead fair = by_test (home == own)
  where
    by_test : (same : Bool) → NameDeadBlocks cells (with_retired (if same then [] else home ∷ []) entries)
    by_test true = fair
    by_test false = put_fair cells (retired home) entries dead fair

-- an entry that is found names the block that was looked for
found : (own : ℕ) (entries : List SdlEntry) (entry : SdlEntry) → find (λ (e : SdlEntry). e.defective == own) entries ≡ Some entry
    → Contains entries entry × (entry.defective ≡ own)
found own [] entry is = absurd (let clash : None ≡ Some entry = is in cc)
found own (first ∷ entries) entry is = by_test (first.defective == own) refl is (found own entries entry)
  where
    by_test : (same : Bool) → (first.defective == own) ≡ same
        → (if same then Some first else find (λ (e : SdlEntry). e.defective == own) entries) ≡ Some entry
        → (find (λ (e : SdlEntry). e.defective == own) entries ≡ Some entry → Contains entries entry × (entry.defective ≡ own))
        → Contains (first ∷ entries) entry × (entry.defective ≡ own)
    by_test true same is later =
        let this : first ≡ entry = cc in (
          subst (Contains (first ∷ entries)) this (Contains-first first entries),
          sym (ap (λ (e : SdlEntry). e.defective) this) ∙ eqb-true first.defective own same,
        )
    by_test false same is later = (Contains-later first entries entry (later is).0, (later is).1)

-- the block whose home is dead is dead: it is the home itself, or an entry names it
own_dead : (cells : List Cell) (own : ℕ) (entries : List SdlEntry) → NameDeadBlocks cells entries → (seen : Option SdlEntry)
    → find (λ (e : SdlEntry). e.defective == own) entries ≡ seen
    → cell_at cells (unwrap_or (option_and_then (λ (e : SdlEntry). e.replacement) seen) own) ≡ Dead → cell_at cells own ≡ Dead
own_dead cells own entries fair None is dead = dead
own_dead cells own entries fair (Some entry) is dead =
    let has = found own entries entry is in
    ap (cell_at cells) (sym has.1) ∙ fair entry has.0

module _ (shape : Shape) (cells : List Cell) (lists : Lists) (fair : IsFair cells lists) where
  moved_fair : (i tried spare : ℕ) → cell_at cells (home_of shape lists i) ≡ Dead → AreDead cells (free_spares shape lists i) tried
      → IsFair cells (lists_moved shape lists i (tried_of (free_spares shape lists i) tried) spare)
  moved_fair i tried spare dead all_dead =
      let own = logical_block shape lists i in
      former_fair cells own (home_of shape lists i) (with_entry (pair own spare) (with_retired (tried_of (free_spares shape lists i) tried) lists.sdl.entries)) dead
      (put_fair cells (pair own spare) (with_retired (tried_of (free_spares shape lists i) tried) lists.sdl.entries)
      (own_dead cells own lists.sdl.entries fair (find (λ (e : SdlEntry). e.defective == own) lists.sdl.entries) refl dead)
      (tried_fair cells (free_spares shape lists i) tried lists.sdl.entries all_dead fair))

  pub placed_fair : (i : ℕ) (placing : Placing) → WentTo shape cells lists i placing → IsFair cells (lists_placed shape lists i placing)
  placed_fair i ToHome went = fair
  placed_fair i (ToSpare tried) went = moved_fair i tried (slice_index (free_spares shape lists i) tried) went.0 went.1

  -- an expansion names the same blocks
  expanded_same : (ssa : ℕ) (entry : SdlEntry) → (entry_expanded shape lists.dds ssa entry).defective ≡ entry.defective
  expanded_same ssa entry = by_test (is_listed (spares_in (pools_of shape lists.dds ssa)) entry.defective)
    where
      by_test : (listed : Bool) → (if listed then retired entry.defective else entry).defective ≡ entry.defective
      by_test true = refl
      by_test false = refl

  expanded_fair_for : (ssa : ℕ) (entries : List SdlEntry) → NameDeadBlocks cells entries → NameDeadBlocks cells (map (entry_expanded shape lists.dds ssa) entries)
  expanded_fair_for ssa [] fair entry (k, within, is) = absurd (omega arith)
  expanded_fair_for ssa (first ∷ entries) fair entry (zero, within, is) =
      ap (λ (e : SdlEntry). cell_at cells e.defective) (sym is) ∙ ap (cell_at cells) (expanded_same ssa first) ∙ fair first (Contains-first first entries)
  expanded_fair_for ssa (first ∷ entries) fair entry (suc k, within, is) =
      expanded_fair_for ssa entries (λ e has. fair e (Contains-later first entries e has)) entry (k, omega arith, is)

  pub expanded_fair : (ssa : ℕ) → IsFair cells (lists_expanded shape lists ssa)
  expanded_fair ssa = expanded_fair_for ssa lists.sdl.entries fair

-- dead blocks stay dead
pub dying_fair : (old new : List Cell) (lists : Lists) → ((block : ℕ) → cell_at old block ≡ Dead → cell_at new block ≡ Dead) → IsFair old lists → IsFair new lists
dying_fair old new lists stays fair entry has = stays entry.defective (fair entry has)

-- lists that were just made name none
pub fresh_fair : (shape : Shape) (cells : List Cell) (mark : ℕ) (entries : List PdlEntry) → IsFair cells (fresh_lists shape mark entries)
fresh_fair shape cells mark entries entry (k, within, is) = absurd (omega (arith, within))

-- What a read of state bytes found, and one of a good block's data.
use Rattle.std.specs.Prelude.{◌≡◌, ◌≢◌, ℕ, ◌+◌, ◌-◌, ◌<◌, ◌==◌, if◌then◌else◌, Option, Some, None, IfSome, List, length, take, drop, slice_index, slice_index_or, slice_range}
use Rattle.std.specs.Option.{ForSome}
use Rattle.std.proofs.Common.{arith, refl, sym, ap, ◌∙◌, inl, inr, subst, get_or-take, get_or-drop}
use Rattle.std.proofs.lemmas.Bool.{cases_Bool, cond-true, cond-false, eqb-true}
use Rattle.model_medium.specs.Cells.{Cell, Blank, Good, Torn, Dead, IsGood}
use Rattle.model_image.specs.Cells.{state_offset, data_offset, cell_of, data_in, cell_in}
use Rattle.ram_image.specs.CellCalls.{call_between, HaveGoodStates, LeadsWithGood, ReadDataRule}
use Rattle.ram_outside.specs.Image.{ReadAtRule}
use Rattle.ram_outside.specs.declared.image.Moved.{Moved}
use Rattle.ram_outside.specs.declared.image.Moved.TheVariants as moves

-- a byte that was read from a place on is the one that stands there
byte_read : (at j : ℕ) (states held : List ℕ) → j < length states → states ≡ take (length states) (drop at held) → slice_index states j ≡ slice_index held (at + j)
byte_read at j states held inside is = ap (λ l. slice_index_or l j 0) is ∙ get_or-take (length states) (drop at held) j 0 inside ∙ get_or-drop at held j 0

-- a block with another state byte than a good one's is not good
not_good_by : (state : ℕ) (block_data : List ℕ) → state ≢ 1 → ¬ IsGood (cell_of state block_data)
not_good_by state block_data other good = elim (cases_Bool (state == 0)) [
  | inl blank ↦ subst IsGood (cond-true (state == 0) Blank rest blank) good
  | inr more ↦ elim (cases_Bool (state == 1)) [
    | inl one ↦ other (eqb-true state 1 one)
    | inr neither ↦ elim (cases_Bool (state == 3)) [
      | inl dead ↦ subst IsGood (cond-false (state == 0) Blank rest more ∙ cond-false (state == 1) (Good block_data) last neither ∙ cond-true (state == 3) Dead Torn dead) good
      | inr torn ↦ subst IsGood (cond-false (state == 0) Blank rest more ∙ cond-false (state == 1) (Good block_data) last neither ∙ cond-false (state == 3) Dead Torn torn) good
    ]
  ]
]
  where
    last : Cell
    last = if state == 3 then Dead else Torn

    rest : Cell
    rest = if state == 1 then Good block_data else last

-- the blocks whose state bytes lead are good
pub row_good : (at block count : ℕ) (states : List ℕ) → at ≡ 16 + block → LeadsWithGood states count → (before : Option (List ℕ)) → IfSome before (λ held. states ≡ take (length states) (drop at held))
    → IfSome before (λ held. HaveGoodStates held block (block + count))
row_good at block count states at_is leads None read = tt
row_good at block count states at_is leads (Some held) read = λ k from to.
    let offset : at + (k - block) ≡ 16 + k = omega (arith, at_is, from) in
    ap (slice_index held) (sym offset) ∙ sym (byte_read at (k - block) states held (omega (arith, from, to, leads.inside)) read) ∙ leads.good (k - block) (omega (arith, from, to))

-- and they are those at the front of the state bytes that were read
pub row_leads : (at block most count : ℕ) (states : List ℕ) → at ≡ 16 + block → length states ≡ most → LeadsWithGood states count → (before : Option (List ℕ)) → IfSome before (λ held. states ≡ take (length states) (drop at held))
    → IfSome before (λ held. LeadsWithGood (slice_range held (state_offset block) (state_offset block + most)) count)
row_leads at block most count states at_is long leads None read = tt
row_leads at block most count states at_is long leads (Some held) read = subst (λ row. LeadsWithGood row count) (read ∙ ap (λ n. take n (drop at held)) many ∙ ap (λ p. take ((16 + block + most) - (16 + block)) (drop p held)) at_is) leads
  where
    many : length states ≡ (16 + block + most) - (16 + block)
    many = omega (arith, long)

-- and where there are none, the first is not
pub row_not_good : (total at block count : ℕ) (states : List ℕ) → at ≡ 16 + block → 0 < length states → LeadsWithGood states count → (before : Option (List ℕ)) → IfSome before (λ held. states ≡ take (length states) (drop at held))
    → IfSome before (λ held. count ≡ 0 → ¬ IsGood (cell_in total held block))
row_not_good total at block count states at_is some leads None read = tt
row_not_good total at block count states at_is some leads (Some held) read = λ none.
    not_good_by (slice_index held (state_offset block)) (data_in total held block)
    (λ one. leads.next (omega (arith, none, some)) (ap (slice_index states) none ∙ byte_read at 0 states held some read ∙ ap (slice_index held) (omega (arith, at_is)) ∙ one))

-- a good block has the bytes that were read from its data
pub data_found : (total block offset : ℕ) (into : List ℕ) → offset ≡ data_offset total block → length into ≡ 32768 → (before : Option (List ℕ)) → ForSome before (λ held. slice_index held (16 + block) ≡ 1)
    → IfSome before (λ held. into ≡ take (length into) (drop offset held)) → IfSome before (λ held. cell_in total held block ≡ Good into)
data_found total block offset into offset_is long None good gives = tt
data_found total block offset into offset_is long (Some held) good gives = ap (λ byte. cell_of byte (data_in total held block)) (good held refl) ∙ ap Good (sym data_is)
  where
    data_is : into ≡ data_in total held block
    data_is = gives ∙ ap (λ n. take n (drop offset held)) long ∙ ap (λ p. take 32768 (drop p held)) offset_is

pub data_read : (total block offset : ℕ) (into : List ℕ) → offset ≡ data_offset total block → length into ≡ 32768 → (before after : Option (List ℕ)) (f f' : ℕ) → ForSome before (λ held. slice_index held (16 + block) ≡ 1) → (r : Moved)
    → ReadAtRule before after f f' offset into r → ReadDataRule (call_between total block before after f f') into r
data_read total block offset into offset_is long before after f f' good moves.Done rule = (rule.0, data_found total block offset into offset_is long before good rule.1)
data_read total block offset into offset_is long before after f f' good moves.Failed rule = rule

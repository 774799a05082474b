-- Which bytes the calls on a block's cell change, where the image's bytes are known.
use Rattle.std.specs.Prelude.{◌≡◌, ℕ, ◌<◌, Option, IfSome, MatchOption, List, [], ◌∷◌, length, slice_index}
use Rattle.std.specs.Option.{option_map, ForSome}
use Rattle.std.proofs.Common.{refl, sym, ap, ◌∙◌, inl, inr, subst, arith}
use Rattle.model_bytes.specs.Bytes.{put_at, PartlyPut}
use Rattle.model_bytes.specs.Known.{WhereKnown}
use Rattle.model_medium.specs.Cells.{Dead}
use Rattle.model_medium.specs.declared.Fate.{Fate}
use Rattle.model_medium.specs.declared.Fate.TheVariants as fates
use Rattle.model_image.specs.Cells.{state_offset, data_offset, image_len, cell_in, data_in}
use Rattle.model_image.specs.Writes.{with_state, with_block, torn_state, dead_state, bytes_by, bytes_left, PutsInBlock, StopsInBytes, IsBeforeOrAfter}
use Rattle.model_image.proofs.ByteWrites.{one_byte, puts_none, three_writes, puts_till_first, puts_till_second, puts_till_third, put_at-partly, puts_state, dead_state_is, dead_cell_of, bytes_left-dead, bytes_left-alive}
use Rattle.model_image.proofs.KnownBytes.{known_then, known_change, known_part, known_with, known_same}
use Rattle.model_image.proofs.KnownCells.{known_more, same_where_known}
use Rattle.ram_outside.specs.Image.{WriteAtRule}
use Rattle.ram_outside.specs.declared.image.Moved.{Moved}
use Rattle.ram_outside.specs.declared.image.Moved.TheVariants as moves
use Rattle.ram_image.specs.CellCalls.{call_between, WriteStateBytes, WriteCellBytes, LeaveCellBytes}

-- the image is as long as one of n blocks
abbrev IsWhole : ℕ → List ℕ → Type 0
IsWhole total held = length held ≡ image_len total

-- a write of a state byte
pub state_bytes : (total block : ℕ) → block < total → (state : ℕ) (before after : Option (List ℕ)) → ForSome before (IsWhole total) → (f f' : ℕ) (r : Moved)
    → WriteAtRule before after f f' (state_offset block) (state ∷ []) r → WriteStateBytes (call_between total block before after f f') state r
state_bytes total block inside state before after whole f f' moves.Done rule = known_change (with_state block state) before after rule.changed
state_bytes total block inside state before after whole f f' moves.Failed rule =
    known_with (IsWhole total) (PartlyPut (state_offset block) (state ∷ [])) (λ held held'. IsBeforeOrAfter held (with_state block state held) held')
    (λ a b long put. one_byte (state_offset block) state a b (omega (arith, long)) put) before after whole (known_part (state_offset block) (state ∷ []) before after rule.1)

-- the three writes of a block
module _ (total block : ℕ) (inside : block < total) (from : List ℕ) (long : length from ≡ 32768) (before : Option (List ℕ)) (whole : ForSome before (IsWhole total)) where
  abbrev Stopped : ℕ → List ℕ → Option (List ℕ) → Option (List ℕ) → Type 0
  Stopped at bytes o p = MatchOption o (p ≡ o) (λ held. MatchOption p ⊥ (λ held'. PartlyPut at bytes held held'))

  abbrev torn : List ℕ → List ℕ
  torn held = with_state block torn_state held

  abbrev filled : List ℕ → List ℕ
  filled held = put_at (data_offset total block) from (torn held)

  pub bytes_first : (after : Option (List ℕ)) → Stopped (state_offset block) (2 ∷ []) before after → WhereKnown before after (PutsInBlock total block from)
  bytes_first after stopped =
      known_with (IsWhole total) (PartlyPut (state_offset block) (2 ∷ [])) (PutsInBlock total block from) (λ a b w put. puts_till_first total block inside from a w long b put) before after whole
      (known_part (state_offset block) (2 ∷ []) before after stopped)

  pub bytes_second : (b1 after : Option (List ℕ)) → b1 ≡ option_map torn before → Stopped (data_offset total block) from b1 after → WhereKnown before after (PutsInBlock total block from)
  bytes_second b1 after e1 stopped =
      known_with (IsWhole total) (λ a c. PartlyPut (data_offset total block) from (torn a) c) (PutsInBlock total block from) (λ a c w put. puts_till_second total block inside from a w long c put) before after whole
      (known_then (λ a b. b ≡ torn a) (PartlyPut (data_offset total block) from) (λ a c. PartlyPut (data_offset total block) from (torn a) c) (λ a b c e put. subst (λ l. PartlyPut (data_offset total block) from l c) e put)
      before b1 after (known_change torn before b1 e1) (known_part (data_offset total block) from b1 after stopped))

  known_filled : (b1 b2 : Option (List ℕ)) → b1 ≡ option_map torn before → b2 ≡ option_map (put_at (data_offset total block) from) b1 → WhereKnown before b2 (λ a b. b ≡ filled a)
  known_filled b1 b2 e1 e2 =
      known_then (λ a b. b ≡ torn a) (λ a b. b ≡ put_at (data_offset total block) from a) (λ a b. b ≡ filled a) (λ a b c e e'. e' ∙ ap (put_at (data_offset total block) from) e)
      before b1 b2 (known_change torn before b1 e1) (known_change (put_at (data_offset total block) from) b1 b2 e2)

  pub bytes_last : (b1 b2 after : Option (List ℕ)) → b1 ≡ option_map torn before → b2 ≡ option_map (put_at (data_offset total block) from) b1 → (f f2 f3 : ℕ) (r : Moved)
      → WriteAtRule b2 after f2 f3 (state_offset block) (1 ∷ []) r → WriteCellBytes (call_between total block before after f f3) from r
  bytes_last b1 b2 after e1 e2 f f2 f3 moves.Done rule =
      known_with (IsWhole total) (λ a c. c ≡ put_at (state_offset block) (1 ∷ []) (filled a)) (λ held held'. held' ≡ with_block total block from held) (λ a c w e. e ∙ three_writes total block inside from a w long) before after whole
      (known_then (λ a b. b ≡ filled a) (λ a b. b ≡ put_at (state_offset block) (1 ∷ []) a) (λ a c. c ≡ put_at (state_offset block) (1 ∷ []) (filled a)) (λ a b c e e'. e' ∙ ap (put_at (state_offset block) (1 ∷ [])) e)
      before b2 after (known_filled b1 b2 e1 e2) (known_change (put_at (state_offset block) (1 ∷ [])) b2 after rule.changed))
  bytes_last b1 b2 after e1 e2 f f2 f3 moves.Failed rule =
      known_with (IsWhole total) (λ a c. PartlyPut (state_offset block) (1 ∷ []) (filled a) c) (PutsInBlock total block from) (λ a c w put. puts_till_third total block inside from a w long c put) before after whole
      (known_then (λ a b. b ≡ filled a) (PartlyPut (state_offset block) (1 ∷ [])) (λ a c. PartlyPut (state_offset block) (1 ∷ []) (filled a) c) (λ a b c e put. subst (λ l. PartlyPut (state_offset block) (1 ∷ []) l c) e put)
      before b2 after (known_filled b1 b2 e1 e2) (known_part (state_offset block) (1 ∷ []) b2 after rule.1))

-- a write that ends by a fate
pub bytes_unread : (total block : ℕ) (from : List ℕ) (before after : Option (List ℕ)) → after ≡ before → WhereKnown before after (StopsInBytes total block from)
bytes_unread total block from before after e = known_same (StopsInBytes total block from) (λ held. record { puts = puts_none total block from held; dead_keeps = λ dead. refl }) before after e

module _ (total block : ℕ) (from : List ℕ) (fate : Fate) where
  abbrev IsLeft : List ℕ → List ℕ → Type 0
  IsLeft held held' = held' ≡ bytes_left fate total block from held

  abbrev IsAlive : List ℕ → Type 0
  IsAlive held = ¬ (cell_in total held block ≡ Dead)

  not_dead : (held : List ℕ) → IsAlive held → ¬ (slice_index held (state_offset block) ≡ dead_state)
  not_dead held alive e = alive (dead_cell_of (slice_index held (state_offset block)) (data_in total held block) e)

  pub bytes_dead : (before after : Option (List ℕ)) → IfSome before (λ held. cell_in total held block ≡ Dead) → after ≡ before → WhereKnown before after IsLeft
  bytes_dead before after dead e =
      same_where_known IsLeft (λ held. cell_in total held block ≡ Dead) (λ held d. bytes_left-dead fate total block from held (dead_state_is (slice_index held (state_offset block)) (data_in total held block) d)) before after dead e

  -- a block that is not dead
  alive_left : (before mid after : Option (List ℕ)) → IfSome before IsAlive → mid ≡ before → WhereKnown mid after (λ held held'. held' ≡ bytes_by fate total block from held) → WhereKnown before after IsLeft
  alive_left before mid after alive e known =
      known_more (λ held held'. held' ≡ bytes_by fate total block from held) IsLeft IsAlive (λ held held' lives is. is ∙ bytes_left-alive fate total block from held (not_dead held lives)) before after alive
      (subst (λ o. WhereKnown o after (λ held held'. held' ≡ bytes_by fate total block from held)) e known)

  alive_stops : (R : List ℕ → List ℕ → Type 0) (before mid after : Option (List ℕ)) → IfSome before IsAlive → mid ≡ before → ((a b : List ℕ) → R a b → PutsInBlock total block from a b) → WhereKnown mid after R
      → WhereKnown before after (StopsInBytes total block from)
  alive_stops R before mid after alive e puts known =
      known_more R (StopsInBytes total block from) IsAlive (λ held held' lives r. record { puts = puts held held' r; dead_keeps = λ dead. absurd (not_dead held lives dead) }) before after alive
      (subst (λ o. WhereKnown o after R) e known)

  pub bytes_old : fate ≡ fates.Old → (before after : Option (List ℕ)) → IfSome before IsAlive → after ≡ before → WhereKnown before after IsLeft
  bytes_old e before after alive same = alive_left before after after alive same (subst (λ f. WhereKnown after after (λ held held'. held' ≡ bytes_by f total block from held)) (sym e) (known_same (λ held held'. held' ≡ held) (λ held. refl) after after refl))

  pub bytes_new : fate ≡ fates.New → (before mid after : Option (List ℕ)) → IfSome before IsAlive → mid ≡ before → (r : Moved) → WriteCellBytes (call_between total block mid after 0 0) from r
      → LeaveCellBytes (call_between total block before after 0 0) from fate r
  bytes_new e before mid after alive same moves.Done known = alive_left before mid after alive same (subst (λ f. WhereKnown mid after (λ held held'. held' ≡ bytes_by f total block from held)) (sym e) known)
  bytes_new e before mid after alive same moves.Failed known = alive_stops (PutsInBlock total block from) before mid after alive same (λ a b r. r) known

  module _ (inside : block < total) where
    torn_puts : (held held' : List ℕ) → IsWhole total held → IsBeforeOrAfter held (with_state block torn_state held) held' → PutsInBlock total block from held held'
    torn_puts held held' whole (inl e) = subst (PutsInBlock total block from held) (sym e) (puts_none total block from held)
    torn_puts held held' whole (inr e) =
        subst (PutsInBlock total block from held) (sym e) (puts_state total block from 2 held (with_state block torn_state held) (inl refl) (put_at-partly (state_offset block) (2 ∷ []) held (omega (arith, whole))))

    pub bytes_torn : fate ≡ fates.Torn → (before mid after : Option (List ℕ)) → ForSome before (IsWhole total) → IfSome before IsAlive → mid ≡ before → (r : Moved)
        → WriteStateBytes (call_between total block mid after 0 0) torn_state r → LeaveCellBytes (call_between total block before after 0 0) from fate r
    bytes_torn e before mid after whole alive same moves.Done known = alive_left before mid after alive same (subst (λ f. WhereKnown mid after (λ held held'. held' ≡ bytes_by f total block from held)) (sym e) known)
    bytes_torn e before mid after whole alive same moves.Failed known =
        alive_stops (PutsInBlock total block from) before mid after alive same (λ a b r. r)
        (known_with (IsWhole total) (λ held held'. IsBeforeOrAfter held (with_state block torn_state held) held') (PutsInBlock total block from) (λ a b w r. torn_puts a b w r) mid after (subst (λ o. ForSome o (IsWhole total)) (sym same) whole) known)

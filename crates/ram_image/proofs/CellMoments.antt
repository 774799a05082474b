-- What an image is in the midst of a call on the cell of a block.
use Rattle.std.specs.Prelude.{◌≡◌, ℕ, ◌+◌, ◌<◌, ◌≤◌, Bool, true, false, Option, Some, None, IfSome, MatchOption, List, [], ◌∷◌, length}
use Rattle.std.specs.Option.{option_map, ForSome}
use Rattle.std.proofs.Common.{refl, sym, ap, ◌∙◌, inl, inr, subst, arith}
use Rattle.model_bytes.specs.Bytes.{put_at, PartlyPut}
use Rattle.model_bytes.specs.Known.{WhereKnown}
use Rattle.model_bytes.proofs.Laws.{length-put_at}
use Rattle.model_medium.specs.Cells.{Dead}
use Rattle.model_medium.specs.declared.Fate.{Fate}
use Rattle.model_medium.specs.declared.Fate.TheVariants as fates
use Rattle.model_image.specs.Cells.{state_offset, data_offset, image_len, cell_in}
use Rattle.model_image.specs.Writes.{with_state, torn_state, PutsInBlock, StopsInBytes, IsBeforeOrAfter}
use Rattle.model_image.proofs.ByteWrites.{put_at-partly, puts_none}
use Rattle.model_image.proofs.KnownBytes.{known_weaker}
use Rattle.ram_outside.specs.Image.{ReadAtRule, WriteAtRule}
use Rattle.ram_outside.specs.Past.{Moment, image_view, ReadPast, WritePast}
use Rattle.ram_outside.specs.declared.image.Moved.{Moved}
use Rattle.ram_outside.specs.declared.image.Moved.TheVariants as moves
use Rattle.ram_image.specs.CellCalls.{call_between, WriteStateBytes}
use Rattle.ram_image.specs.Moments.{PassesOnly, IsSame}
use Rattle.ram_image.proofs.Moments.{write_passes, reads_pass, passes_then, passes_as, passes_weaker, passes_same}
use Rattle.ram_image.proofs.ByteSteps.{state_bytes, bytes_first, bytes_second, bytes_last, bytes_new, bytes_torn}

-- a read, by its answer
pub read_at_passes : (before after : Option (List ℕ)) (past past' : Option (List Moment)) (f f' at : ℕ) (into : List ℕ) (r : Moved) → ReadAtRule before after f f' at into r
    → ReadPast (image_view before past) (image_view after past') r → PassesOnly IsSame before past past'
read_at_passes before after past past' f f' at into moves.Done rule adds = reads_pass before after past past' moves.Done rule.0.same adds
read_at_passes before after past past' f f' at into moves.Failed rule adds = reads_pass before after past past' moves.Failed rule.same adds

-- what a write makes of the bytes, whole or in part
abbrev Stopped : ℕ → List ℕ → Option (List ℕ) → Option (List ℕ) → Type 0
Stopped at bytes o p = MatchOption o (p ≡ o) (λ held. MatchOption p ⊥ (λ held'. PartlyPut at bytes held held'))

put_whole : (at : ℕ) (from : List ℕ) (before after : Option (List ℕ)) → ForSome before (λ held. at + length from ≤ length held) → after ≡ option_map (put_at at from) before → Stopped at from before after
put_whole at from None None fits e = refl
put_whole at from None (Some held') fits e = absurd (let clash : Some held' ≡ None = e in cc)
put_whole at from (Some held) None fits e = absurd (let clash : None ≡ Some (put_at at from held) = e in cc)
put_whole at from (Some held) (Some held') fits e =
    subst (λ (l : List ℕ). PartlyPut at from held l) (let both : Some held' ≡ Some (put_at at from held) = e in cc) (put_at-partly at from held (fits held refl))

stopped_of : (at : ℕ) (from : List ℕ) (before after : Option (List ℕ)) (f f' : ℕ) (r : Moved) → ForSome before (λ held. at + length from ≤ length held) → WriteAtRule before after f f' at from r → Stopped at from before after
stopped_of at from before after f f' moves.Done fits rule = put_whole at from before after fits rule.changed
stopped_of at from before after f f' moves.Failed fits rule = rule.1

-- a write of a state byte
state_changes : (total block state : ℕ) (before after : Option (List ℕ)) (f f' : ℕ) (r : Moved) → WriteStateBytes (call_between total block before after f f') state r
    → WhereKnown before after (λ held held'. IsBeforeOrAfter held (with_state block state held) held')
state_changes total block state before after f f' moves.Done known =
    known_weaker (λ held held'. held' ≡ with_state block state held) (λ held held'. IsBeforeOrAfter held (with_state block state held) held') (λ a b e. inr e) before after known
state_changes total block state before after f f' moves.Failed known = known

pub state_passes : (total block state : ℕ) → block < total → (before after : Option (List ℕ)) → ForSome before (λ held. length held ≡ image_len total) → (f f' : ℕ) (r : Moved)
    → WriteAtRule before after f f' (state_offset block) (state ∷ []) r → (past past' : Option (List Moment)) → WritePast (image_view before past) (image_view after past') r
    → PassesOnly (λ held held'. IsBeforeOrAfter held (with_state block state held) held') before past past'
state_passes total block state inside before after whole f f' r rule past past' adds =
    write_passes (λ held held'. IsBeforeOrAfter held (with_state block state held) held') before before after past past' r
    (state_changes total block state before after f f' r (state_bytes total block inside state before after whole f f' r rule)) adds

-- the three writes of a block
module _ (total block : ℕ) (inside : block < total) (from : List ℕ) (long : length from ≡ 32768) (before : Option (List ℕ)) (whole : ForSome before (λ held. length held ≡ image_len total)) where
  pub first_passes : (after : Option (List ℕ)) (f f' : ℕ) (r : Moved) → WriteAtRule before after f f' (state_offset block) (2 ∷ []) r → (past past' : Option (List Moment)) → WritePast (image_view before past) (image_view after past') r
      → PassesOnly (PutsInBlock total block from) before past past'
  first_passes after f f' r rule past past' adds =
      write_passes (PutsInBlock total block from) before before after past past' r
      (bytes_first total block inside from long before whole after (stopped_of (state_offset block) (2 ∷ []) before after f f' r (λ held is. omega (arith, whole held is, inside)) rule)) adds

  -- it stays as long
  long_after : (at : ℕ) (bytes : List ℕ) → at + length bytes ≤ image_len total → (b b' : Option (List ℕ)) → ForSome b (λ held. length held ≡ image_len total) → b' ≡ option_map (put_at at bytes) b
      → ForSome b' (λ held. length held ≡ image_len total)
  long_after at bytes fits None b' all e x is = absurd (let clash : None ≡ Some x = sym e ∙ is in cc)
  long_after at bytes fits (Some held) b' all e x is =
      let same : Some (put_at at bytes held) ≡ Some x = sym e ∙ is in
      let long_held : length held ≡ image_len total = all held refl in
      let put : put_at at bytes held ≡ x = cc in
      sym (ap length put) ∙ length-put_at at bytes held (omega (arith, long_held, fits)) ∙ long_held

  module _ (b1 b2 : Option (List ℕ)) (e1 : b1 ≡ option_map (put_at (state_offset block) (2 ∷ [])) before) where
    first_long : ForSome b1 (λ held. length held ≡ image_len total)
    first_long = long_after (state_offset block) (2 ∷ []) (omega (arith, inside)) before b1 whole e1

    pub second_passes : (f f' : ℕ) (r : Moved) → WriteAtRule b1 b2 f f' (data_offset total block) from r → (past past' : Option (List Moment)) → WritePast (image_view b1 past) (image_view b2 past') r
        → PassesOnly (PutsInBlock total block from) before past past'
    second_passes f f' r rule past past' adds =
        write_passes (PutsInBlock total block from) before b1 b2 past past' r
        (bytes_second total block inside from long before whole b1 b2 e1 (stopped_of (data_offset total block) from b1 b2 f f' r (λ held is. omega (arith, first_long held is, inside, long)) rule)) adds

    pub third_passes : (after : Option (List ℕ)) → b2 ≡ option_map (put_at (data_offset total block) from) b1 → (f f' : ℕ) (r : Moved) → WriteAtRule b2 after f f' (state_offset block) (1 ∷ []) r
        → (past past' : Option (List Moment)) → WritePast (image_view b2 past) (image_view after past') r → PassesOnly (PutsInBlock total block from) before past past'
    third_passes after e2 f f' r rule past past' adds =
        write_passes (PutsInBlock total block from) before b2 after past past' r
        (bytes_last total block inside from long before whole b1 b2 after e1 e2 0 0 1 moves.Failed (omega arith, stopped_of (state_offset block) (1 ∷ []) b2 after f f' r (λ held is. omega (arith, second_long held is, inside)) rule)) adds
      where
        second_long : ForSome b2 (λ held. length held ≡ image_len total)
        second_long = long_after (data_offset total block) from (omega (arith, inside, long)) b1 b2 first_long e2

-- a write that ends by a fate: a read before it, and then one of its forms
module _ (total block : ℕ) (from : List ℕ) where
  pub none_stops : (held held' : List ℕ) → held' ≡ held → StopsInBytes total block from held held'
  none_stops held held' e = subst (StopsInBytes total block from held) (sym e) (record { puts = puts_none total block from held; dead_keeps = λ dead. refl })

  pub read_then : (before mid : Option (List ℕ)) → mid ≡ before → (past past1 past2 : Option (List Moment)) → PassesOnly IsSame before past past1 → PassesOnly (StopsInBytes total block from) mid past1 past2
      → PassesOnly (StopsInBytes total block from) before past past2
  read_then before mid same past past1 past2 first second =
      passes_then (StopsInBytes total block from) before past past1 past2 (passes_weaker IsSame (StopsInBytes total block from) none_stops before past past1 first)
      (passes_same (StopsInBytes total block from) before mid same past1 past2 second)

  module _ (fate : Fate) (before : Option (List ℕ)) (alive : IfSome before (λ held. ¬ (cell_in total held block ≡ Dead))) (past past' : Option (List Moment)) where
    pub new_passes : fate ≡ fates.New → PassesOnly (PutsInBlock total block from) before past past' → PassesOnly (StopsInBytes total block from) before past past'
    new_passes e passes =
        passes_as (PutsInBlock total block from) (StopsInBytes total block from) before before (λ bytes known. bytes_new total block from fate e before before (Some bytes) alive refl moves.Failed known) past past' passes

    pub torn_passes : block < total → ForSome before (λ held. length held ≡ image_len total) → fate ≡ fates.Torn → PassesOnly (λ held held'. IsBeforeOrAfter held (with_state block torn_state held) held') before past past'
        → PassesOnly (StopsInBytes total block from) before past past'
    torn_passes inside whole e passes =
        passes_as (λ held held'. IsBeforeOrAfter held (with_state block torn_state held) held') (StopsInBytes total block from) before before
        (λ bytes known. bytes_torn total block from fate inside e before before (Some bytes) whole alive refl moves.Failed known) past past' passes

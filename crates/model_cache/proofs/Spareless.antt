-- That a block without a spare finds none later in a drain.
use Rattle.std.specs.Prelude.{◌≡◌, ℕ, zero, suc, ◌+◌, ◌*◌, ◌≤◌, ◌⊎◌, Option, List, [], ◌∷◌, length}
use Rattle.std.specs.Option.{option_map_or}
use Rattle.std.specs.List.{Contains}
use Rattle.std.proofs.Common.{arith, refl, sym, ap, ◌∙◌, inl, inr, subst}
use Rattle.model_geometry.specs.Geometry.{Shape}
use Rattle.model_sectors.specs.Requests.{block_with}
use Rattle.model_places.specs.Places.{Lists, logical_count, free_spares}
use Rattle.model_places.specs.Valid.{AreValid}
use Rattle.model_drive.specs.declared.WriteOut.{WriteOut}
use Rattle.model_drive.specs.declared.WriteOut.TheVariants as writes
use Rattle.model_drive.specs.Shown.{Shown}
use Rattle.model_drive.specs.Sound.{IsSound}
use Rattle.model_drive.specs.Course.{Placing, free_for, lists_reached, CanTakeCourse, IsUsable}
use Rattle.model_drive.specs.Writes.{EndsWriting}
use Rattle.model_drive.proofs.Courses.{after_total, after_valid, placed_free}
use Rattle.model_drive.proofs.WriteTurns.{inside_count}
use Rattle.model_cache.specs.Shown.{CacheShown}
use Rattle.model_cache.specs.Chains.{WritesBack}
use Rattle.model_cache.specs.Drains.{IsRefusal, Tries}
use Rattle.model_cache.proofs.FlushedHomes.{one_covered}

reached_free : (shape : Shape) (lists : Lists) (first : ℕ) (valid : AreValid shape lists) (course : List Placing) → first + length course ≤ logical_count shape lists → CanTakeCourse shape lists first course
    → (j b : ℕ) → Contains (free_spares shape (lists_reached shape lists first course) j) b → Contains (free_spares shape lists j) b
reached_free shape lists first valid [] inside can j b has = has
reached_free shape lists first valid (placing ∷ earlier) inside can j b has =
    let total = after_total shape lists first valid earlier in
    reached_free shape lists first valid earlier (omega (arith, inside)) can.1 j b
    (placed_free shape (lists_reached shape lists first earlier) (first + length earlier) placing (after_valid shape lists first valid earlier (omega (arith, inside)) can.1) (omega (arith, total, inside)) can.0 j b has)

-- no spare can be used for a logical block
abbrev pub HasNoSpare : Shown → ℕ → Type 0
HasNoSpare shown i = (spare : ℕ) → ¬ IsUsable shown i spare

module _ (old new : Shown) (i : ℕ) (same_shape : new.shape ≡ old.shape) (sound : IsSound old) (lists : Lists) (course : List Placing) (more : ℕ) (reached : Lists) (uses : ℕ) (buffered_now : List ℕ)
    (ends : EndsWriting old new lists (16 * i) 16 course more reached uses buffered_now) (few : length course ≤ 1) where
  fits : block_with (16 * i) + length course ≤ logical_count old.shape lists
  fits =
      let one = one_covered i in
      let last = inside_count old (16 * i) 16 0 lists ends.wrote.in_use ends.wrote.inside (omega (arith, one)) in
      omega (arith, last, few)

  free_now : (j b : ℕ) → Contains (free_for new j) b → Contains (free_for old j) b
  free_now j b has =
      subst (λ (l : List ℕ). Contains l b) (sym (ap (λ (o : Option Lists). option_map_or (λ (m : Lists). free_spares old.shape m j) o []) ends.wrote.in_use))
      (reached_free old.shape lists (block_with (16 * i)) (sound.in_use lists ends.wrote.in_use).valid course fits ends.wrote.can j b
      (subst (λ (l : List ℕ). Contains l b) (ap (λ (o : Option Lists). option_map_or (λ (m : Lists). free_spares new.shape m j) o []) ends.now_in_use
      ∙ ap (λ (s : Shape). free_spares s reached j) same_shape
      ∙ ap (λ (m : Lists). free_spares old.shape m j) ends.wrote.reached_are) has))

  none_now : (j : ℕ) → HasNoSpare old j → HasNoSpare new j
  none_now j none spare usable = none spare (record { free = free_now j spare usable.free; lives = λ dead. usable.lives (ends.ends.reach.lasts.stays_dead spare dead) })

pub back_spareless : (old new : CacheShown) (i : ℕ) (out : WriteOut) → WritesBack old new i out → (out ≡ writes.Good) ⊎ IsRefusal out → IsSound old.drive → (j : ℕ) → HasNoSpare old.drive j → HasNoSpare new.drive j
back_spareless old new i writes.Good back why sound j none =
    none_now old.drive new.drive i back.leaves.same_shape sound back.wrote.lists back.wrote.course 0 back.wrote.reached _ _ back.wrote.ends (let one = one_covered i in let all = back.wrote.all in omega (arith, one, all)) j none
back_spareless old new i (writes.NoSpare named) back why sound j none =
    none_now old.drive new.drive i back.leaves.same_shape sound back.wrote.lists back.wrote.course 1 back.wrote.reached _ _ back.wrote.ends (let one = one_covered i in let few = back.wrote.is_named.covered in omega (arith, one, few)) j none
back_spareless old new i (writes.NoUpdate counter) back why sound j none =
    none_now old.drive new.drive i back.leaves.same_shape sound back.wrote.lists back.wrote.course 1 back.wrote.reached _ _ back.wrote.ends (let one = one_covered i in let few = back.wrote.covered in omega (arith, one, few)) j none
back_spareless old new i writes.NotFormatted back (inl is) sound j none = absurd (let h : writes.NotFormatted ≡ writes.Good = is in cc)
back_spareless old new i writes.NotFormatted back (inr is) sound j none = absurd is
back_spareless old new i (writes.Range k) back (inl is) sound j none = absurd (let h : writes.Range k ≡ writes.Good = is in cc)
back_spareless old new i (writes.Range k) back (inr is) sound j none = absurd is
back_spareless old new i (writes.Unread n b) back (inl is) sound j none = absurd (let h : writes.Unread n b ≡ writes.Good = is in cc)
back_spareless old new i (writes.Unread n b) back (inr is) sound j none = absurd is
back_spareless old new i writes.Cut back (inl is) sound j none = absurd (let h : writes.Cut ≡ writes.Good = is in cc)
back_spareless old new i writes.Cut back (inr is) sound j none = absurd is
back_spareless old new i writes.Off back (inl is) sound j none = absurd (let h : writes.Off ≡ writes.Good = is in cc)
back_spareless old new i writes.Off back (inr is) sound j none = absurd is
back_spareless old new i writes.Fault back (inl is) sound j none = absurd (let h : writes.Fault ≡ writes.Good = is in cc)
back_spareless old new i writes.Fault back (inr is) sound j none = absurd is

pub tries_spareless : (due : List ℕ) (enough short : ℕ) (old new : CacheShown) (first : Option WriteOut) (j : ℕ) → IsSound old.drive → Tries old due enough new short first → HasNoSpare old.drive j → HasNoSpare new.drive j
tries_spareless due zero short old new first j sound tries none = subst (λ (s : CacheShown). HasNoSpare s.drive j) (sym tries.0) none
tries_spareless [] (suc enough) short old new first j sound tries none = subst (λ (s : CacheShown). HasNoSpare s.drive j) (sym tries.0) none
tries_spareless (i ∷ due) (suc enough) short old new first j sound (inl (mid, flush, later)) none =
    tries_spareless due enough short mid new first j flush.back.leaves.sound later (back_spareless old mid i writes.Good flush.back (inl refl) sound j none)
tries_spareless (i ∷ due) (suc enough) short old new first j sound (inr (mid, answer, told, is, later, first_is)) none =
    tries_spareless due (suc enough) short mid new told j is.back.leaves.sound later (back_spareless old mid i answer is.back (inr is.refused) sound j none)

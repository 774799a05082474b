-- The turns by which all blocks of a write are made ready for the cache.
use Rattle.std.proofs.Common.{◌≡◌, ℕ, suc, ◌+◌, ◌-◌, ◌*◌, ◌<◌, ◌⊎◌, inl, inr, Bool, true, false, List, [], ◌∷◌, ◌++◌, Option, Some, None, Ok, Err, length, refl, sym, ap, ◌∙◌, subst, arith, append_assoc, length-append}
use Rattle.std.specs.Prelude.{IsSome}
use Rattle.std.specs.List.{Contains}
use Rattle.std.proofs.lemmas.List.{map-append, length-map, append-nil}
use Rattle.std.proofs.lemmas.List.Elements.{Contains-append_cases}
use Rattle.model_buffer.specs.Buffer.{bytes_at, numbers_in}
use Rattle.model_sectors.specs.Discs.{block_of}
use Rattle.model_sectors.specs.Requests.{block_with, blocks_covered, start_in, end_in, is_partly, merged_in}
use Rattle.model_sectors.proofs.Covering.{covered_part}
use Rattle.model_drive.specs.declared.WriteOut.{WriteOut}
use Rattle.model_drive.specs.Shown.{IsOn, IsFormatted, block_count}
use Rattle.model_drive.specs.Parts.{IsInRange}
use Rattle.model_cache.specs.Values.{Values, Contents, Has, IsPending}
use Rattle.model_cache.specs.Shown.{CacheShown, AreApart}
use Rattle.model_cache.specs.Causes.{ReadsRest, fresh_blocks}
use Rattle.model_cache.proofs.Members.{Contains-none, Contains-first, Contains-later, Contains-cases}
use Rattle.ram_cache.specs.Staging.{IsNextStaged, IsStaged, LacksRestOf, StagedContents, StoppedContents, StagedSoFar, EndsComing, HasRoomForBlocks}
use Rattle.ram_cache.proofs.Numbers.{has_number, merged_long}
use Rattle.model_cache.proofs.Held.{none_at}
use Rattle.ram_cache.proofs.Fresh.{fresh_some, fresh_none, fresh_rise, fresh_below}

-- what the reading of a rest keeps
record KeepsAll (old new : CacheShown) : Type 0 where
  pub same_mode : new.caches ≡ old.caches
  pub on : IsOn new.drive
  pub formatted : IsFormatted new.drive
  pub same_count : block_count new.drive ≡ block_count old.drive

keeps_itself : (old new : CacheShown) → IsOn old.drive → IsFormatted old.drive → new ≡ old → KeepsAll old new
keeps_itself old new on formatted is = record {
  same_mode = ap (λ (s : CacheShown). s.caches) is;
  on = subst (λ (s : CacheShown). IsOn s.drive) (sym is) on;
  formatted = subst (λ (s : CacheShown). IsFormatted s.drive) (sym is) formatted;
  same_count = ap (λ (s : CacheShown). block_count s.drive) is;
}

rest_keeps : (old new : CacheShown) (block : ℕ) (partly : Bool) (held : Option (List ℕ)) → IsOn old.drive → IsFormatted old.drive → new.drive.shape ≡ old.drive.shape
    → ReadsRest old new block partly held → KeepsAll old new
rest_keeps old new block true None on formatted same rest = record {
  same_mode = rest.1.1;
  on = rest.0.cause.ends.is_on;
  formatted = subst (λ l. IsSome l) (sym rest.0.cause.keeps.same_lists) formatted;
  same_count = rw (same, rest.0.cause.keeps.same_lists) refl;
}
rest_keeps old new block true (Some held) on formatted same rest = keeps_itself old new on formatted rest
rest_keeps old new block false None on formatted same rest = keeps_itself old new on formatted rest
rest_keeps old new block false (Some held) on formatted same rest = keeps_itself old new on formatted rest

-- one block more that is apart from the others
apart_snoc : (xs : List (ℕ × List ℕ)) (i : ℕ) (b : List ℕ) → AreApart xs → ¬ IsPending xs i → AreApart (xs ++ (i, b) ∷ [])
apart_snoc [] i b apart none = (λ bytes has. Contains-none (i, bytes) has, tt)
apart_snoc (x ∷ xs) i b apart none = (
  λ bytes has. first_apart bytes (Contains-append_cases xs ((i, b) ∷ []) (x.0, bytes) has),
  apart_snoc xs i b (apart.1) (λ (held : IsPending xs i). none (held.0, Contains-later x xs (i, held.0) (held.1))),
)
  where
    first_apart : (bytes : List ℕ) → Contains xs (x.0, bytes) ⊎ Contains {X = ℕ × List ℕ} ((i, b) ∷ []) (x.0, bytes) → ⊥
    first_apart bytes (inl there) = apart.0 bytes there
    first_apart bytes (inr new) = elim (Contains-cases (i, b) [] (x.0, bytes) new) [
      | inl is ↦ none (x.1, subst (λ (n : ℕ). Contains (x ∷ xs) (n, x.1)) (sym (ap (λ (y : ℕ × List ℕ). y.0) is)) (Contains-first x xs))
      | inr no' ↦ Contains-none (x.0, bytes) no'
    ]

module _ (start : CacheShown) (lba n : ℕ) (bytes : List ℕ) (before : Contents → Type 0) where
  abbrev first : ℕ
  first = block_with lba

  pub staged_none : (list : List (ℕ × List ℕ)) → list ≡ [] → IsInRange start.drive lba n → AreApart start.pending → StagedSoFar start start lba n 0 bytes list 0 before before
  staged_none list none range apart = record {
    rests = refl;
    same_pending = refl;
    same_mode = refl;
    on = range.on;
    formatted = range.formatted;
    same_shape = refl;
    same_count = refl;
    numbers = ap numbers_in none;
    many = ap length none;
    apart = subst AreApart (sym (ap (λ (l : List (ℕ × List ℕ)). start.pending ++ l) none ∙ append-nil start.pending)) apart;
    have = λ i held has. absurd (Contains-none (i, held) (subst (λ (l : List (ℕ × List ℕ)). Contains l (i, held)) none has));
    gives = λ v so. (so, λ i held has. absurd (Contains-none (i, held) (subst (λ (l : List (ℕ × List ℕ)). Contains l (i, held)) none has)));
  }

  module _ (mid new : CacheShown) (k : ℕ) (covered : k < blocks_covered lba n) (list : List (ℕ × List ℕ)) (staged : ℕ) (amid after : Contents → Type 0)
      (far : StagedSoFar start mid lba n k bytes list staged before amid) where
    abbrev i : ℕ
    i = first + k

    -- there is room for the block, if it is not pending
    pub room_next : HasRoomForBlocks start.pending lba n → bytes_at i mid.pending ≡ None → length mid.pending + staged < 32
    room_next room none =
        let same = far.same_pending in
        let none' : bytes_at i start.pending ≡ None = subst (λ (l : List (ℕ × List ℕ)). bytes_at i l ≡ None) same none in
        let many = far.many in
        let counted : length list ≡ length (fresh_blocks start.pending first k) = sym (length-map list (λ (x : ℕ × List ℕ). x.0)) ∙ ap length far.numbers in
        let grown : length (fresh_blocks start.pending first (suc k)) ≡ length (fresh_blocks start.pending first k) + 1 =
        ap length (fresh_none start.pending first k none') ∙ length-append (fresh_blocks start.pending first k) (i ∷ []) in
        let rise = fresh_rise start.pending first (suc k) (blocks_covered lba n) (omega (arith, covered)) in
        omega (arith, ap length same, many, counted, grown, rise, room)

    not_there : bytes_at i start.pending ≡ None → ¬ IsPending (start.pending ++ list) i
    not_there none (held, has) = elim (Contains-append_cases start.pending list (i, held) has) [
      | inl there ↦ none_at start.pending i none (held, there)
      | inr new ↦ let below = (fresh_below start.pending first k i (subst (λ (l : List ℕ). Contains l i) far.numbers (has_number list i held new))).1 in absurd (omega (arith, below))
    ]

    -- one block more
    module _ (now : ℕ → List (ℕ × List ℕ)) (more : ℕ) (same : new.drive.shape ≡ mid.drive.shape) where
      abbrev list' : List (ℕ × List ℕ)
      list' = now more

      pub staged_more : IsStaged mid new lba n i bytes list (now more) staged more
          → ((v : Values) → amid (Has v) → StagedContents after v lba n i bytes (bytes_at i mid.pending) list now (Ok more))
          → StagedSoFar start new lba n (k + 1) bytes (now more) more before after
      staged_more one step =
          let at : suc k ≡ k + 1 = omega arith in
          subst (λ (m : ℕ). StagedSoFar start new lba n m bytes list' more before after) at
          (by_held (bytes_at i mid.pending) refl one.fresh step)
        where
          keeps : KeepsAll mid new
          keeps = rest_keeps mid new i (is_partly lba n i) (bytes_at i mid.pending) far.on far.formatted same one.rest

          by_held : (o : Option (List ℕ)) → bytes_at i mid.pending ≡ o → IsNextStaged lba n bytes i o list list' staged more
              → ((v : Values) → amid (Has v) → StagedContents after v lba n i bytes o list now (Ok more)) → StagedSoFar start new lba n (suc k) bytes list' more before after
          by_held (Some held) is fresh gave = record {
            rests = (mid, far.rests, one.rest);
            same_pending = one.same_pending ∙ far.same_pending;
            same_mode = keeps.same_mode ∙ far.same_mode;
            on = keeps.on;
            formatted = keeps.formatted;
            same_shape = same ∙ far.same_shape;
            same_count = keeps.same_count ∙ far.same_count;
            numbers = ap numbers_in (fresh.0) ∙ far.numbers ∙ sym (fresh_some start.pending first k held (subst (λ (l : List (ℕ × List ℕ)). bytes_at i l ≡ Some held) far.same_pending is));
            many = ap length (fresh.0) ∙ far.many ∙ sym (fresh.1);
            apart = subst (λ (l : List (ℕ × List ℕ)). AreApart (start.pending ++ l)) (sym (fresh.0)) far.apart;
            have = λ j b has. far.have j b (subst (λ (l : List (ℕ × List ℕ)). Contains l (j, b)) (fresh.0) has);
            gives = λ v so.
                let was = far.gives v so in
                let right : (j : ℕ) (b : List ℕ) → Contains {X = ℕ × List ℕ} (now more) (j, b) → b ≡ merged_in lba n bytes j (block_of v.disc j) =
                λ j b has. was.1 j b (subst (λ (l : List (ℕ × List ℕ)). Contains {X = ℕ × List ℕ} l (j, b)) (fresh.0) has) in
                (gave v (was.0), right);
          }
          by_held None is (rest, long, put, counted) gave =
              let none : bytes_at i start.pending ≡ None = subst (λ (l : List (ℕ × List ℕ)). bytes_at i l ≡ None) far.same_pending is in
              let many = far.many in
              record {
                rests = (mid, far.rests, one.rest);
                same_pending = one.same_pending ∙ far.same_pending;
                same_mode = keeps.same_mode ∙ far.same_mode;
                on = keeps.on;
                formatted = keeps.formatted;
                same_shape = same ∙ far.same_shape;
                same_count = keeps.same_count ∙ far.same_count;
                numbers = ap numbers_in put ∙ map-append (λ (x : ℕ × List ℕ). x.0) list ((i, merged_in lba n bytes i rest) ∷ []) ∙ ap (λ (l : List ℕ). l ++ i ∷ []) far.numbers
                    ∙ sym (fresh_none start.pending first k none);
                many = ap length put ∙ length-append list ((i, merged_in lba n bytes i rest) ∷ []) ∙ omega (arith, many, counted);
                apart = subst AreApart (append_assoc start.pending list ((i, merged_in lba n bytes i rest) ∷ []) ∙ sym (ap (λ (l : List (ℕ × List ℕ)). start.pending ++ l) put))
                    (apart_snoc (start.pending ++ list) i (merged_in lba n bytes i rest) far.apart (not_there none));
                have = λ j b has. have_one j b (Contains-append_cases list ((i, merged_in lba n bytes i rest) ∷ []) (j, b) (subst (λ (l : List (ℕ × List ℕ)). Contains l (j, b)) put has));
                gives = λ v so.
                    let was = far.gives v so in
                    let gives = gave v (was.0) in
                    let right : (j : ℕ) (b : List ℕ) → Contains {X = ℕ × List ℕ} (now more) (j, b) → b ≡ merged_in lba n bytes j (block_of v.disc j) =
                    λ j b has. right_one v (was.1) j b (Contains-append_cases list ((i, merged_in lba n bytes i (block_of v.disc i)) ∷ []) (j, b)
                    (subst (λ (l : List (ℕ × List ℕ)). Contains {X = ℕ × List ℕ} l (j, b)) (gives.1) has)) in
                    (gives.0, right);
              }
            where
              have_one : (j : ℕ) (b : List ℕ) → Contains list (j, b) ⊎ Contains {X = ℕ × List ℕ} ((i, merged_in lba n bytes i rest) ∷ []) (j, b)
                  → (rest : List ℕ) × (length rest ≡ 32768) × (b ≡ merged_in lba n bytes j rest)
              have_one j b (inl there) = far.have j b there
              have_one j b (inr new) = elim (Contains-cases (i, merged_in lba n bytes i rest) [] (j, b) new) [
                | inl e ↦ (rest, long, sym (ap (λ (x : ℕ × List ℕ). x.1) e) ∙ ap (λ (m : ℕ). merged_in lba n bytes m rest) (ap (λ (x : ℕ × List ℕ). x.0) e))
                | inr no' ↦ absurd (Contains-none (j, b) no')
              ]

              right_one : (v : Values) → ((j : ℕ) (b : List ℕ) → Contains list (j, b) → b ≡ merged_in lba n bytes j (block_of v.disc j)) → (j : ℕ) (b : List ℕ)
                  → Contains list (j, b) ⊎ Contains {X = ℕ × List ℕ} ((i, merged_in lba n bytes i (block_of v.disc i)) ∷ []) (j, b) → b ≡ merged_in lba n bytes j (block_of v.disc j)
              right_one v was j b (inl there) = was j b there
              right_one v was j b (inr new) = elim (Contains-cases (i, merged_in lba n bytes i (block_of v.disc i)) [] (j, b) new) [
                | inl e ↦ sym (ap (λ (x : ℕ × List ℕ). x.1) e) ∙ ap (λ (m : ℕ). merged_in lba n bytes m (block_of v.disc m)) (ap (λ (x : ℕ × List ℕ). x.0) e)
                | inr no' ↦ absurd (Contains-none (j, b) no')
              ]

    -- the rest of one could not be read
    pub staged_ends : (out : WriteOut) → (bytes_at i mid.pending ≡ None) × LacksRestOf mid new lba n i out → EndsComing start new lba n out
    staged_ends out (none, lacks) = record { before = k; covered = covered; late = mid; same_mode = far.same_mode; rests = far.rests; not_pending = none; lacks = lacks }

    pub stopped_contents : (out : WriteOut) (now : ℕ → List (ℕ × List ℕ)) → ((v : Values) → amid (Has v) → StagedContents after v lba n i bytes (bytes_at i mid.pending) list now (Err out))
        → (v : Values) → before (Has v) → StoppedContents after v out
    stopped_contents out now step v so = by_held (bytes_at i mid.pending) (step v ((far.gives v so).0))
      where
        by_held : (o : Option (List ℕ)) → StagedContents after v lba n i bytes o list now (Err out) → StoppedContents after v out
        by_held (Some held) p = p
        by_held None p = p

-- each of those to come has whole bytes
pub staged_long : (start now : CacheShown) (lba n : ℕ) (bytes : List ℕ) (list : List (ℕ × List ℕ)) (staged : ℕ) (before after : Contents → Type 0) → length bytes ≡ 2048 * n
    → StagedSoFar start now lba n (blocks_covered lba n) bytes list staged before after → (i : ℕ) (held : List ℕ) → Contains list (i, held) → length held ≡ 32768
staged_long start now lba n bytes list staged before after whole far i held has =
    let found = far.have i held has in
    let parts = fresh_below start.pending (block_with lba) (blocks_covered lba n) i (subst (λ (l : List ℕ). Contains l i) far.numbers (has_number list i held has)) in
    let low = parts.0 in
    let high = parts.1 in
    let k : ℕ = i - block_with lba in
    let at : block_with lba + k ≡ i = omega (arith, low) in
    let some : start_in lba i < end_in lba n i = subst (λ (m : ℕ). start_in lba m < end_in lba n m) at (covered_part lba n k (omega (arith, low, high))) in
    ap length (found.2) ∙ merged_long lba n i bytes (found.0) some whole (found.1)

-- A write, and the register of a sector that it covers, or does not.
use Rattle.std.specs.Prelude.{◌≡◌, ℕ, ◌+◌, ◌-◌, ◌*◌, ◌<◌, ◌≤◌, ◌⊎◌, Bool, true, false, ◌&&◌, not, nat_lt, MatchBool, None, Some, List, [], ◌∷◌, length}
use Rattle.std.specs.List.{Contains}
use Rattle.std.proofs.Common.{arith, refl, sym, ap, ◌∙◌, inl, inr, subst}
use Rattle.std.proofs.lemmas.Bool.{cases_lt, and_from, not_from_false, lt-ltb, le-ltb, true≢false}
use Rattle.model_sectors.specs.Discs.{sectors_of, replaced}
use Rattle.model_sectors.specs.Requests.{block_with, blocks_covered}
use Rattle.model_sectors.proofs.Covering.{covered_all}
use Rattle.model_sectors.proofs.Pieces.{length_replaced, sectors_replaced, other_sectors_replaced}
use Rattle.model_drive.specs.declared.WriteOut.{WriteOut}
use Rattle.model_drive.specs.declared.WriteOut.TheVariants as writes
use Rattle.model_cache.specs.declared.TheConstants.{CACHED_AT_ONCE}
use Rattle.model_cache.specs.Values.{Values, Contents, Has, MayHave, HasBlock, with_written, cached, is_among}
use Rattle.model_cache.specs.Shown.{CacheShown, CacheStandsFor, goes_into_cache}
use Rattle.model_cache.specs.Causes.{CachedCause, ThroughCause}
use Rattle.model_cache.specs.Steps.{CachedContents, ThroughContents}
use Rattle.model_cache.proofs.Members.{Contains-first, Contains-later, Contains-passed}
use Rattle.model_cache.proofs.Falls.{one, two, only, older_cached}
use Rattle.model_sense.specs.declared.answer.Answer.{Answer}
use Rattle.model_sense.specs.declared.answer.Answer.TheVariants as answers
use Rattle.model_target.specs.Steps.{WrittenCause, WrittenContents, write_answer}
use Rattle.ram_report.specs.ReportLines.{IsPrinted}
use Rattle.ram_machine.specs.Acknowledged.{IsAmong}
use Rattle.ram_machine.specs.SectorBytes.{bytes_of_sector}
use Rattle.ram_machine.proofs.WrittenDiscs.{Lies, lies, SoInBlock, SoInValues, SoInContents, so_shown, so_of_block}
use Rattle.ram_machine.specs.Register.{Bytes, Register, settled, or_else, goes_through, is_midway, AfterWrite}
use Rattle.ram_machine.proofs.SectorValues.{falls_under}
use Rattle.ram_machine.proofs.SectorNow.{now_of, now_in, now_there, now_same, here}
use Rattle.ram_machine.proofs.CacheModes.{SameMode, write_mode}
use Rattle.ram_machine.proofs.SectorMatching.{Matches, Turned, so_weaker, stays, goes, goes_or_else, settles}

-- a write of the sector, of a disc that has it
module _ (at lba n : ℕ) (payload : List ℕ) (whole : length payload ≡ 2048 * n) (among : IsAmong lba n at) (v : Values) (r : Lies v.disc lba n) where
  abbrev sent : List ℕ
  sent = bytes_of_sector lba payload at

  abbrev last : ℕ
  last = block_with lba + blocks_covered lba n

  has_block : HasBlock v.disc (block_with at)
  has_block = let to : at < lba + n = among.1 in let inside : lba + n ≤ 16 * r.blocks = r.inside in let long : length v.disc ≡ 32768 * r.blocks = r.long in omega (arith, to, inside, long)

  same_long : (b : ℕ) → length (replaced v.disc lba payload b) ≡ length v.disc
  same_long b = length_replaced v.disc r.blocks lba n payload b whole r.inside r.long

  reached : (b : ℕ) → at < 16 * b → sectors_of (replaced v.disc lba payload b) at 1 ≡ sent
  reached b before =
      let to : at < lba + n = among.1 in
      sectors_replaced v.disc r.blocks lba n payload b at 1 whole r.inside r.long among.0 (omega (arith, before)) (omega (arith, to))

  unreached : (b : ℕ) → 16 * b ≤ at → sectors_of (replaced v.disc lba payload b) at 1 ≡ sectors_of v.disc at 1
  unreached b past = other_sectors_replaced v.disc r.blocks lba n payload b at 1 whole r.inside r.long (inr (inr past))

  reached_now : (b : ℕ) → at < 16 * b → now_of at (replaced v.disc lba payload b) ≡ Some sent
  reached_now b before =
      let to : at < lba + n = among.1 in
      let inside : lba + n ≤ 16 * r.blocks = r.inside in
      let long : length v.disc ≡ 32768 * r.blocks = r.long in
      now_there at (replaced v.disc lba payload b) (omega (arith, to, inside, long, same_long b)) ∙ ap Some (reached b before)

  unreached_now : (b : ℕ) → 16 * b ≤ at → now_of at (replaced v.disc lba payload b) ≡ now_of at v.disc
  unreached_now b past = now_same at v.disc (replaced v.disc lba payload b) (same_long b) (unreached b past)

  covered : at < 16 * last
  covered =
      let from : lba ≤ at = among.0 in
      let to : at < lba + n = among.1 in
      let past : lba + n ≤ 16 * last = covered_all lba n (omega (arith, from, to)) in
      omega (arith, to, past)

  -- a block that is written has its new value alone
  not_older : (b : ℕ) → at < 16 * b → not (is_among (block_with lba) (b - block_with lba) (block_with at)) ≡ true → ⊥
  not_older b before kept =
      let from : lba ≤ at = among.0 in
      let among_them : is_among (block_with lba) (b - block_with lba) (block_with at) ≡ true =
      and_from (not (nat_lt (block_with at) (block_with lba))) (nat_lt (block_with at) (block_with lba + (b - block_with lba)))
      (not_from_false (nat_lt (block_with at) (block_with lba)) (le-ltb (block_with at) (block_with lba) (omega (arith, from))))
      (lt-ltb (block_with at) (block_with lba + (b - block_with lba)) (omega (arith, from, before))) in
      true≢false (sym kept ∙ ap not among_them)

  settled_values_of : (b : ℕ) → at < 16 * b → SoInValues (λ x. x ≡ sent) at (with_written v lba payload b)
  settled_values_of b before has held (inl is) = so_of_block (λ x. x ≡ sent) at (replaced v.disc lba payload b) held is (reached b before)
  settled_values_of b before has held (inr older) =
      absurd (not_older b before ((Contains-passed (λ (x : ℕ × List ℕ). not (is_among (block_with lba) (b - block_with lba) x.0)) v.older (block_with at, held) older).0))

  module _ (S : List ℕ → Type 0) (kept : SoInValues S at v) where
    kept_values_of : (b : ℕ) → 16 * b ≤ at → SoInValues S at (with_written v lba payload b)
    kept_values_of b past has held (inl is) =
        so_of_block S at (replaced v.disc lba payload b) held is (subst S (sym (unreached b past)) (so_shown S at v has_block kept))
    kept_values_of b past has held (inr older) =
        kept has_block held (inr ((Contains-passed (λ (x : ℕ × List ℕ). not (is_among (block_with lba) (b - block_with lba) x.0)) v.older (block_with at, held) older).1))

    -- either way it has the new bytes or what was so before
    either_values_of : (T : List ℕ → Type 0) → T sent → ((found : List ℕ) → S found → T found) → (b : ℕ) → SoInValues T at (with_written v lba payload b)
    either_values_of T new weaker b has held value = elim (cases_lt at (16 * b)) [
      | inl before ↦ subst T (sym (settled_values_of b before has held value)) new
      | inr past ↦ weaker (bytes_of_sector (16 * block_with at) held at) (kept_values_of b past has held value)
    ]

    cached_values_of : (T : List ℕ → Type 0) → T sent → ((found : List ℕ) → S found → T found) → SoInValues T at (cached v lba n payload)
    cached_values_of T new weaker has held (inl is) = so_of_block T at (replaced v.disc lba payload last) held is (subst T (sym (reached last covered)) new)
    cached_values_of T new weaker has held (inr older) =
        weaker (bytes_of_sector (16 * block_with at) held at) (kept has_block held (older_cached (block_with at) v lba n held older))

-- What a write of the sector leaves of it, by its answer.
module _ (at : ℕ) (new_bytes : List ℕ) (falls : List (List ℕ)) (s t : Contents) where
  abbrev IsLeft : Type 0
  IsLeft = (now_in at t ≡ now_in at s) × SoInContents (Contains falls) at t

  abbrev IsDone : Type 0
  IsDone = (now_in at t ≡ Some new_bytes) × SoInContents (Contains (new_bytes ∷ [])) at t

  abbrev IsOff : List (List ℕ) → Type 0
  IsOff choices = (now_in at t ≡ None) × SoInContents (Contains choices) at t

  abbrev WroteThrough : Answer → Type 0
  WroteThrough answers.Good = IsDone
  WroteThrough (answers.Check why) = MatchBool (is_midway why) (IsLeft ⊎ IsDone) IsLeft
  WroteThrough answers.Cut = IsOff (new_bytes ∷ falls)
  WroteThrough answers.Off = IsLeft
  WroteThrough answers.Fault = Unit {0}

  abbrev WroteInto : Answer → Type 0
  WroteInto answers.Good = (now_in at t ≡ Some new_bytes) × SoInContents (Contains (new_bytes ∷ falls)) at t
  WroteInto (answers.Check why) = IsLeft
  WroteInto answers.Cut = IsOff falls
  WroteInto answers.Off = IsLeft
  WroteInto answers.Fault = Unit {0}

module _ (at lba n : ℕ) (payload : List ℕ) (whole : length payload ≡ 2048 * n) (among : IsAmong lba n at) (old new : CacheShown) (t : Contents) (falls : List (List ℕ)) where
  abbrev bytes : List ℕ
  bytes = bytes_of_sector lba payload at

  is_one : (found : List ℕ) → found ≡ bytes → Contains (bytes ∷ []) found
  is_one found is = subst (Contains (bytes ∷ [])) (sym is) (Contains-first bytes [])

  module _ (v : Values) (stood : CacheStandsFor old (Has v)) (kept : SoInValues (Contains falls) at v) where
    left : Has v ≡ t → IsLeft at bytes falls (Has v) t
    left is = (here at (Has v) t is, subst (SoInContents (Contains falls) at) is (one (SoInBlock (Contains falls) at) (block_with at) v kept))

    done : (r : Lies v.disc lba n) (b : ℕ) → at < 16 * b → Has (with_written v lba payload b) ≡ t → IsDone at bytes falls (Has v) t
    done r b before is = (
      sym (ap (now_in at) is) ∙ reached_now at lba n payload whole among v r b before,
      so_weaker (λ x. x ≡ bytes) (Contains (bytes ∷ [])) at is_one t
          (subst (SoInContents (λ x. x ≡ bytes) at) is
          (one (SoInBlock (λ x. x ≡ bytes) at) (block_with at) (with_written v lba payload b) (settled_values_of at lba n payload whole among v r b before))),
    )

    part : (r : Lies v.disc lba n) (b : ℕ) → Has (with_written v lba payload b) ≡ t → IsLeft at bytes falls (Has v) t ⊎ IsDone at bytes falls (Has v) t
    part r b is = elim (cases_lt at (16 * b)) [
      | inl before ↦ inr (done r b before is)
      | inr past ↦ inl (
        sym (ap (now_in at) is) ∙ unreached_now at lba n payload whole among v r b past,
        subst (SoInContents (Contains falls) at) is
            (one (SoInBlock (Contains falls) at) (block_with at) (with_written v lba payload b) (kept_values_of at lba n payload whole among v r (Contains falls) kept b past)),
      )
    ]

    either : (r : Lies v.disc lba n) (b : ℕ) → SoInValues (Contains (bytes ∷ falls)) at (with_written v lba payload b)
    either r b = either_values_of at lba n payload whole among v r (Contains falls) kept (Contains (bytes ∷ falls)) (Contains-first bytes falls) (λ found has. Contains-later bytes falls found has) b

    kept_too : SoInValues (Contains (bytes ∷ falls)) at v
    kept_too has held value = Contains-later bytes falls (bytes_of_sector (16 * block_with at) held at) (kept has held value)

    off_two : (choices : List (List ℕ)) (w x : Values) → SoInValues (Contains choices) at w → SoInValues (Contains choices) at x → MayHave (w ∷ x ∷ []) ≡ t → IsOff at bytes falls (Has v) t choices
    off_two choices w x p q is = (sym (ap (now_in at) is), subst (SoInContents (Contains choices) at) is (two (SoInBlock (Contains choices) at) (block_with at) w x p q))

    off_one : MayHave (v ∷ []) ≡ t → IsOff at bytes falls (Has v) t falls
    off_one is = (sym (ap (now_in at) is), subst (SoInContents (Contains falls) at) is (one (SoInBlock (Contains falls) at) (block_with at) v kept))

    through : (out : WriteOut) → ThroughCause old new lba n out → ThroughContents old new (λ x. x ≡ t) (Has v) lba n payload out → WroteThrough at bytes falls (Has v) t (write_answer out)
    through writes.Good cause step =
        let r = lies old v lba n stood cause.0 in
        done r (block_with lba + blocks_covered lba n) (covered at lba n payload whole among v r) step
    through writes.NotFormatted cause step = left step.1
    through (writes.Range known) cause step = left step
    through (writes.Unread named block) cause step = part (lies old v lba n stood cause.0) (block_with named) step
    through (writes.NoSpare named) cause (inl step) = inl (left step.1)
    through (writes.NoSpare named) cause (inr step) = part (lies old v lba n stood cause.0) (block_with named) step.1
    through (writes.NoUpdate counter) cause (inl step) = inl (left step.1)
    through (writes.NoUpdate counter) cause (inr step) = part (lies old v lba n stood cause.0) (block_with lba + step.1.block) step.1.before
    through writes.Cut cause (inl step) = off_two (bytes ∷ falls) v v kept_too kept_too step.1
    through writes.Cut cause (inr step) =
        let r = lies old v lba n stood cause.0 in
        off_two (bytes ∷ falls) (with_written v lba payload (block_with lba + step.block)) (with_written v lba payload (block_with lba + (step.block + 1)))
        (either r (block_with lba + step.block)) (either r (block_with lba + (step.block + 1))) step.either
    through writes.Off cause step = absurd step
    through writes.Fault cause step = tt

    into : (out : WriteOut) → CachedCause old new lba n payload out → CachedContents (λ x. x ≡ t) (Has v) lba n payload out → WroteInto at bytes falls (Has v) t (write_answer out)
    into writes.Good cause step =
        let r = lies old v lba n stood cause.inside in (
          sym (ap (now_in at) step) ∙ reached_now at lba n payload whole among v r (block_with lba + blocks_covered lba n) (covered at lba n payload whole among v r),
          subst (SoInContents (Contains (bytes ∷ falls)) at) step
              (one (SoInBlock (Contains (bytes ∷ falls)) at) (block_with at) (cached v lba n payload)
              (cached_values_of at lba n payload whole among v r (Contains falls) kept (Contains (bytes ∷ falls)) (Contains-first bytes falls) (λ found has. Contains-later bytes falls found has))),
        )
    into writes.NotFormatted cause step = left step.1
    into (writes.Range known) cause step = left step
    into (writes.Unread named block) cause step = left step
    into (writes.NoSpare named) cause step = left step
    into (writes.NoUpdate counter) cause step = left step
    into writes.Cut cause (inl step) = off_one step
    into writes.Cut cause (inr step) = off_two falls v v kept kept step
    into writes.Off cause step = absurd step
    into writes.Fault cause step = tt

-- what is left of the register then
module _ (lost : List ℕ) (at : ℕ) (old new : CacheShown) (s t : Contents) (r : Register) (was : Matches lost at old s r) (mode : SameMode old new) (bytes : List ℕ) where
  abbrev To : (through : Bool) → Answer → Type 0
  To through answer = Turned lost at new t (λ after. AfterWrite r through bytes answer after)

  kept_or : (why_left : (now_in at t ≡ now_in at s) × SoInContents (Contains (falls_under lost r.falls)) at t) → Turned lost at new t (λ after. after ≡ r)
  kept_or (same, so) = stays lost at old new s t r was mode same so

  checked : (midway : Bool) → MatchBool midway (IsLeft at bytes (falls_under lost r.falls) s t ⊎ IsDone at bytes (falls_under lost r.falls) s t) (IsLeft at bytes (falls_under lost r.falls) s t)
      → Turned lost at new t (λ after. MatchBool midway ((after ≡ r) ⊎ (after ≡ settled r (Bytes bytes))) (after ≡ r))
  checked true (inl (same, so)) = let q = stays lost at old new s t r was mode same so in record { after = q.after; rule = inl q.rule; matches = q.matches }
  checked true (inr (is, so)) = let q = settles lost at old new s t r was mode (Bytes bytes) is so in record { after = q.after; rule = inr q.rule; matches = q.matches }
  checked false (same, so) = stays lost at old new s t r was mode same so

  turned_through : (answer : Answer) → IsPrinted answer → WroteThrough at bytes (falls_under lost r.falls) s t answer → To true answer
  turned_through answers.Good printed (is, so) = settles lost at old new s t r was mode (Bytes bytes) is so
  turned_through (answers.Check why) printed p = checked (is_midway why) p
  turned_through answers.Cut printed (none, so) = goes_or_else lost at old new s t r was mode (Bytes bytes) none so
  turned_through answers.Off printed (same, so) = stays lost at old new s t r was mode same so
  turned_through answers.Fault printed p = absurd printed

  turned_into : (answer : Answer) → IsPrinted answer → WroteInto at bytes (falls_under lost r.falls) s t answer → To false answer
  turned_into answers.Good printed (is, so) = record {
    after = or_else (record r { now = Some (Bytes bytes) }) (Bytes bytes);
    rule = refl;
    matches = record { now = sym is; falls = so; caches = was.caches ∙ sym mode };
  }
  turned_into (answers.Check why) printed (same, so) = stays lost at old new s t r was mode same so
  turned_into answers.Cut printed (none, so) = goes lost at old new s t r was mode none so
  turned_into answers.Off printed (same, so) = stays lost at old new s t r was mode same so
  turned_into answers.Fault printed p = absurd printed

-- a write that covers the sector
module _ (lost : List ℕ) (at lba n : ℕ) (payload : List ℕ) (whole : length payload ≡ 2048 * n) (among : IsAmong lba n at) (old new : CacheShown) (t : Contents) (r : Register) where
  abbrev Goes : (through : Bool) → Answer → Type 0
  Goes through answer = Turned lost at new t (λ after. AfterWrite r through (bytes_of_sector lba payload at) answer after)

  off_goes : (through : Bool) (all : List Values) → Matches lost at old (MayHave all) r → SameMode old new → MayHave all ≡ t → Goes through answers.Off
  off_goes true all was mode is = stays lost at old new (MayHave all) t r was mode (here at (MayHave all) t is) (subst (SoInContents (Contains (falls_under lost r.falls)) at) is was.falls)
  off_goes false all was mode is = stays lost at old new (MayHave all) t r was mode (here at (MayHave all) t is) (subst (SoInContents (Contains (falls_under lost r.falls)) at) is was.falls)

  through_off : (through : Bool) (all : List Values) (out : WriteOut) → Matches lost at old (MayHave all) r → SameMode old new → ThroughContents old new (λ x. x ≡ t) (MayHave all) lba n payload out → Goes through (write_answer out)
  through_off through all writes.Off was mode step = off_goes through all was mode step
  through_off through all writes.Good was mode step = absurd step
  through_off through all writes.NotFormatted was mode step = absurd step
  through_off through all (writes.Range known) was mode step = absurd step
  through_off through all (writes.Unread named block) was mode step = absurd step
  through_off through all (writes.NoSpare named) was mode step = absurd step
  through_off through all (writes.NoUpdate counter) was mode step = absurd step
  through_off through all writes.Cut was mode step = absurd step
  through_off through all writes.Fault was mode step = absurd step

  into_off : (through : Bool) (all : List Values) (out : WriteOut) → Matches lost at old (MayHave all) r → SameMode old new → CachedContents (λ x. x ≡ t) (MayHave all) lba n payload out → Goes through (write_answer out)
  into_off through all writes.Off was mode step = off_goes through all was mode step
  into_off through all writes.Good was mode step = absurd step
  into_off through all writes.NotFormatted was mode step = absurd step
  into_off through all (writes.Range known) was mode step = absurd step
  into_off through all (writes.Unread named block) was mode step = absurd step
  into_off through all (writes.NoSpare named) was mode step = absurd step
  into_off through all (writes.NoUpdate counter) was mode step = absurd step
  into_off through all writes.Cut was mode step = absurd step
  into_off through all writes.Fault was mode step = absurd step

  through_turn : (s : Contents) (out : WriteOut) → CacheStandsFor old s → Matches lost at old s r → SameMode old new → IsPrinted (write_answer out) → ThroughCause old new lba n out
      → ThroughContents old new (λ x. x ≡ t) s lba n payload out → Goes true (write_answer out)
  through_turn (Has v) out stood was mode printed cause step =
      turned_through lost at old new (Has v) t r was mode (bytes_of_sector lba payload at) (write_answer out) printed
      (through at lba n payload whole among old new t (falls_under lost r.falls) v stood (only (SoInBlock (Contains (falls_under lost r.falls)) at) (block_with at) v was.falls) out cause step)
  through_turn (MayHave all) out stood was mode printed cause step = through_off true all out was mode step

  into_turn : (s : Contents) (out : WriteOut) → CacheStandsFor old s → Matches lost at old s r → SameMode old new → IsPrinted (write_answer out) → CachedCause old new lba n payload out
      → CachedContents (λ x. x ≡ t) s lba n payload out → Goes false (write_answer out)
  into_turn (Has v) out stood was mode printed cause step =
      turned_into lost at old new (Has v) t r was mode (bytes_of_sector lba payload at) (write_answer out) printed
      (into at lba n payload whole among old new t (falls_under lost r.falls) v stood (only (SoInBlock (Contains (falls_under lost r.falls)) at) (block_with at) v was.falls) out cause step)
  into_turn (MayHave all) out stood was mode printed cause step = into_off false all out was mode step

  by_mode : (into_cache : Bool) (s : Contents) (out : WriteOut) → CacheStandsFor old s → Matches lost at old s r → SameMode old new → IsPrinted (write_answer out)
      → MatchBool into_cache (CachedCause old new lba n payload out) (ThroughCause old new lba n out)
      → MatchBool into_cache (CachedContents (λ x. x ≡ t) s lba n payload out) (ThroughContents old new (λ x. x ≡ t) s lba n payload out) → Goes (not into_cache) (write_answer out)
  by_mode true s out stood was mode printed cause step = into_turn s out stood was mode printed cause step
  by_mode false s out stood was mode printed cause step = through_turn s out stood was mode printed cause step

  pub write_turn : (fua : Bool) (s : Contents) (out : WriteOut) → CacheStandsFor old s → Matches lost at old s r → IsPrinted (write_answer out)
      → WrittenCause old new lba n payload fua out → WrittenContents old new lba n payload (λ x. x ≡ t) s fua out → Goes (goes_through r lba n fua) (write_answer out)
  write_turn true s out stood was printed cause step = through_turn s out stood was (write_mode true old new lba n payload out cause) printed cause step
  write_turn false s out stood was printed cause step =
      subst (λ (c : Bool). Goes (not (c && nat_lt (blocks_covered lba n) (CACHED_AT_ONCE + 1))) (write_answer out)) (sym was.caches)
      (by_mode (goes_into_cache old lba n) s out stood was (write_mode false old new lba n payload out cause) printed cause step)

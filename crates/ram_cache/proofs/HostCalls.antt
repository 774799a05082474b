-- The calls that are one call of the disc: what is left pending, and what the drive stands for then.
use Rattle.std.proofs.Common.{◌≡◌, ℕ, ◌+◌, ◌*◌, ◌/◌, ◌%◌, ◌<◌, ◌≤◌, ◌⊎◌, inl, inr, Bool, true, false, not, List, [], ◌∷◌, Option, Some, None, length, take, drop, refl, sym, ap, ◌∙◌, subst, arith, length-take}
use Rattle.std.specs.Prelude.{IsTrue, IsSome, ◌↔◌, if◌then◌else◌, min, nat_lt}
use Rattle.std.specs.List.{Contains}
use Rattle.std.proofs.lemmas.Bool.{cases_lt, lt-ltb, ltb-true, false≢true}
use Rattle.std.proofs.lemmas.List.{drop_all}
use Rattle.model_sectors.specs.Discs.{Standing, On, Off, block_of, candidates}
use Rattle.model_sectors.specs.declared.ReadOut.{ReadOut}
use Rattle.model_sectors.specs.declared.ReadOut.TheVariants as reads
use Rattle.model_sectors.specs.declared.PowerOut.{PowerOut}
use Rattle.model_sectors.specs.declared.PowerOut.TheVariants as powers
use Rattle.model_sectors.proofs.Pieces.{piece_of_piece}
use Rattle.model_places.specs.Places.{Lists}
use Rattle.model_drive.specs.declared.FormatOut.{FormatOut}
use Rattle.model_drive.specs.declared.FormatOut.TheVariants as formats
use Rattle.model_drive.specs.declared.Kind.{Kind}
use Rattle.model_drive.specs.declared.Kind.TheVariants as kinds
use Rattle.model_drive.specs.declared.ExpandOut.{ExpandOut}
use Rattle.model_drive.specs.declared.ExpandOut.TheVariants as expands
use Rattle.model_drive.specs.Shown.{Shown, IsOn, StandsFor, block_count, capacity, cells_in}
use Rattle.model_drive.specs.Tells.{HasDisc}
use Rattle.model_drive.specs.Reads.{VerifyStep}
use Rattle.model_drive.specs.Power.{PowerStep}
use Rattle.model_drive.specs.FullFormats.{FullCause, FullStep}
use Rattle.model_drive.specs.Rewriting.{RewriteCause, RewriteStep}
use Rattle.model_drive.specs.Formats.{FormatCause, FormatCauseBy, FormatStep, FormatStepBy}
use Rattle.model_drive.specs.Expands.{ExpandCause, ExpandStep, shortened}
use Rattle.model_formats.specs.Stopped.{zero_disc}
use Rattle.model_cache.specs.Values.{Values, Contents, Has, MayHave, HasValue, IsTaken, IsUnder, StandsCached, with_older, lifted, settled_values, no_values, candidates_of}
use Rattle.model_cache.specs.Shown.{CacheShown, pending_below}
use Rattle.model_cache.specs.Steps.{VerifyContents, PowerContents, FormatContents, FormatValues, FullValues, ExpandContents}
use Rattle.model_cache.specs.Causes.{leaves_after_read, leaves_after_full, leaves_after_rewrite, leaves_after_format, leaves_after_expansion}
use Rattle.model_cache.proofs.Members.{Contains-kept, Contains-passed}
use Rattle.model_cache.proofs.SameBlocks.{stands_plainly, takes_itself}
use Rattle.ram_cache.specs.Calls.{drops_all, LeftByLists, LeftAfter, LeftExpanded}
use Rattle.ram_cache.proofs.KeptByLists.{kept_by_lists}
use Rattle.ram_cache.proofs.Entering.{long_by, enters, all_dropped, empty}

-- ---- a verification

module _ (before after : Standing → Type 0) (p : List (ℕ × List ℕ)) where
  verify_by : (out : ReadOut) → ((t : Standing) → before t → VerifyStep after t out) → (s : Contents) → StandsCached before p s → VerifyContents (StandsCached after (leaves_after_read out p)) s out
  verify_by reads.Good step (Has v) (d, so, under) = (d, step (On d) so, under)
  verify_by reads.NotFormatted step (Has v) (d, so, under) = (d, step (On d) so, under)
  verify_by (reads.Range known) step (Has v) (d, so, under) = (d, step (On d) so, under)
  verify_by (reads.Unread named home) step (Has v) (d, so, under) = (d, step (On d) so, under)
  verify_by reads.Cut step (Has v) (d, so, under) = (d ∷ [], step (On d) so, (under.taken, refl))
  verify_by reads.Off step (Has v) (d, so, under) = step (On d) so
  verify_by reads.Fault step (Has v) (d, so, under) = (d ∷ [], step (On d) so, (under.taken, refl))
  verify_by reads.Good step (MayHave all) (ds, so, taken) = step (Off ds) so
  verify_by reads.NotFormatted step (MayHave all) (ds, so, taken) = step (Off ds) so
  verify_by (reads.Range known) step (MayHave all) (ds, so, taken) = step (Off ds) so
  verify_by (reads.Unread named home) step (MayHave all) (ds, so, taken) = step (Off ds) so
  verify_by reads.Cut step (MayHave all) (ds, so, taken) = step (Off ds) so
  verify_by reads.Off step (MayHave all) (ds, so, taken) = (ds, step (Off ds) so, taken)
  verify_by reads.Fault step (MayHave all) (ds, so, taken) = step (Off ds) so

  pub verify_contents : (left : List (ℕ × List ℕ)) (out : ReadOut) → left ≡ leaves_after_read out p → ((t : Standing) → before t → VerifyStep after t out)
      → (s : Contents) → StandsCached before p s → VerifyContents (StandsCached after left) s out
  verify_contents left out same step s so = subst (λ (l : List (ℕ × List ℕ)). VerifyContents (StandsCached after l) s out) (sym same) (verify_by out step s so)

-- ---- the power

module _ (new : Shown) (before after : Standing → Type 0) (p : List (ℕ × List ℕ)) where
  off_left : (s : Contents) → StandsCached before p s → ((t : Standing) → before t → after (Off (candidates t))) → StandsCached after [] (MayHave (candidates_of s))
  off_left (Has v) (d, so, under) step = (d ∷ [], step (On d) so, (under.taken, refl))
  off_left (MayHave all) (ds, so, taken) step = (ds, step (Off ds) so, taken)

  power_by : (s : Contents) (out : PowerOut) → StandsCached before p s → ((t : Standing) → before t → PowerStep new after t out) → PowerContents new (StandsCached after []) s out
  power_by (Has v) (powers.Ready known) (d, so, under) step =
      let found = step (On d) so in
      record {
        discs = d ∷ [];
        taken = (under.taken, refl);
        finds = record { lists = found.lists; in_use = found.in_use; disc = found.disc; first = found.first; found = stands_plainly after (On found.disc) found.found };
      }
  power_by (MayHave all) (powers.Ready known) (ds, so, taken) step =
      let found = step (Off ds) so in
      record {
        discs = ds;
        taken = taken;
        finds = record { lists = found.lists; in_use = found.in_use; disc = found.disc; first = found.first; found = stands_plainly after (On found.disc) found.found };
      }
  power_by (Has v) powers.NotFormatted (d, so, under) step = stands_plainly after (On []) (step (On d) so)
  power_by (MayHave all) powers.NotFormatted (ds, so, taken) step = stands_plainly after (On []) (step (Off ds) so)
  power_by s powers.Cut so step = off_left s so step
  power_by s powers.Fault so step = off_left s so step

  pub power_contents : (left : List (ℕ × List ℕ)) (out : PowerOut) → left ≡ [] → ((t : Standing) → before t → PowerStep new after t out)
      → (s : Contents) → StandsCached before p s → PowerContents new (StandsCached after left) s out
  power_contents left out none step s so = subst (λ (l : List (ℕ × List ℕ)). PowerContents new (StandsCached after l) s out) (sym none) (power_by s out so step)

-- ---- a format

true_from : {P : Type 0} (b : Bool) → IsTrue b ↔ P → P → b ≡ true
true_from b both p = both.1 p

false_from : {P : Type 0} (b : Bool) → IsTrue b ↔ P → ¬ P → b ≡ false
false_from true both none = absurd (none (both.0 refl))
false_from false both none = refl

lists_none : (lists : Option Lists) → lists ≡ None → ¬ IsSome lists
lists_none lists is some = false≢true (subst (λ (l : Option Lists). IsSome l) is some)

module _ (old new : Shown) (p q : List (ℕ × List ℕ)) (all was : Bool) (is_was : IsTrue was ↔ HasDisc old) where
  -- what is left by the lists that are in use then, where nothing was done
  by_lists : (l : Option Lists) → new.lists ≡ l → IsOn new → LeftByLists new p q → q ≡ kept_by_lists l p
  by_lists None is on left = left.1 (λ has. lists_none new.lists is (has.1))
  by_lists (Some lists) is on left = left.0 (on, subst (λ (l : Option Lists). IsSome l) (sym is) refl)

  none_left : new.lists ≡ None → LeftByLists new p q → q ≡ []
  none_left is left = left.1 (λ has. lists_none new.lists is (has.1))

  on_still : IsOn old → new ≡ old → IsOn new
  on_still on same = subst IsOn (sym same) on

  full_left : (drop_sdl : Bool) (out : FormatOut) → all ≡ true → FullCause old new drop_sdl out → LeftAfter new all out p q → q ≡ leaves_after_full new.lists out p
  full_left drop_sdl formats.Good is cause left = left ∙ ap (λ (b : Bool). if b then [] else p) is
  full_left drop_sdl (formats.TooMany found) is cause left =
      none_left cause.no_lists left ∙ sym (ap (λ (l : Option Lists). leaves_after_full l (formats.TooMany found) p) cause.no_lists)
  full_left drop_sdl (formats.NoUpdate counter) is (inl cause) left = by_some new.lists (by_lists new.lists refl (on_still cause.was_on cause.nothing) left)
    where
      by_some : (l : Option Lists) → q ≡ kept_by_lists l p → q ≡ leaves_after_full l (formats.NoUpdate counter) p
      by_some None e = e
      by_some (Some lists) e = e
  full_left drop_sdl (formats.NoUpdate counter) is (inr (inl cause)) left =
      none_left cause.no_lists left ∙ sym (ap (λ (l : Option Lists). leaves_after_full l (formats.NoUpdate counter) p) cause.no_lists)
  full_left drop_sdl (formats.NoUpdate counter) is (inr (inr (inl cause))) left =
      none_left cause.no_lists left ∙ sym (ap (λ (l : Option Lists). leaves_after_full l (formats.NoUpdate counter) p) cause.no_lists)
  full_left drop_sdl (formats.NoUpdate counter) is (inr (inr (inr cause))) left =
      none_left cause.no_lists left ∙ sym (ap (λ (l : Option Lists). leaves_after_full l (formats.NoUpdate counter) p) cause.no_lists)
  full_left drop_sdl formats.Cut is cause left = left
  full_left drop_sdl formats.Off is cause left = left
  full_left drop_sdl formats.Fault is cause left = left

  rewrite_left : (lists : Lists) (out : FormatOut) → old.lists ≡ Some lists → all ≡ not was → RewriteCause old new lists out → LeftAfter new all out p q → q ≡ leaves_after_rewrite out p
  rewrite_left lists formats.Good in_use is cause left =
      left ∙ ap (λ (b : Bool). if b then [] else p) (is ∙ ap not (true_from was is_was (cause.both.was_on, subst (λ (l : Option Lists). IsSome l) (sym in_use) refl)))
  rewrite_left lists (formats.TooMany found) in_use is cause left = absurd cause
  rewrite_left lists (formats.NoUpdate counter) in_use is cause left =
      left.0 (cause.both.ends.is_on, subst (λ (l : Option Lists). IsSome l) (sym (cause.both.keeps.same_lists ∙ in_use)) refl)
  rewrite_left lists formats.Cut in_use is cause left = left
  rewrite_left lists formats.Off in_use is cause left = left
  rewrite_left lists formats.Fault in_use is cause left = left

  left_of : (l : Option Lists) (kind : Kind) (out : FormatOut) → old.lists ≡ l → all ≡ drops_all kind was → FormatCauseBy old new l kind out → LeftAfter new all out p q
      → q ≡ leaves_after_format l new.lists kind out p
  left_of l (kinds.Full drop_sdl) out in_use is cause left = full_left drop_sdl out is cause left
  left_of None kinds.Rewrite out in_use is cause left = full_left false out (is ∙ ap not (false_from was is_was (λ has. lists_none old.lists in_use (has.1)))) cause left
  left_of (Some lists) kinds.Rewrite out in_use is cause left = rewrite_left lists out in_use is cause left

  pub format_left : (kind : Kind) (out : FormatOut) → all ≡ drops_all kind was → FormatCause old new kind out → LeftAfter new all out p q → q ≡ leaves_after_format old.lists new.lists kind out p
  format_left kind out is cause left = left_of old.lists kind out refl is cause left

-- what the drive stands for
module _ (old new : Shown) (before after : Standing → Type 0) (shown : (s : Standing) → after s → StandsFor new s) (p q : List (ℕ × List ℕ)) where
  -- where nothing was done the same disc is there, with what is left pending
  still : (l : Option Lists) → new.lists ≡ l → (v : Values) → q ≡ kept_by_lists l p → StandsCached after p (Has v) → StandsCached after q (Has v)
  still (Some lists) is v left so = subst (λ (l : List (ℕ × List ℕ)). StandsCached after l (Has v)) (sym left) so
  still None is v left so =
      subst (λ (l : List (ℕ × List ℕ)). StandsCached after l (Has v)) (all_dropped new after shown p (lists_none new.lists is) ∙ sym left) (enters new after shown p (Has v) so)

  stopped_full : (d : List ℕ) (v : Values) → q ≡ [] → IsUnder p d v → (after (Off (d ∷ [] ∷ [])) ⊎ after (Off ([] ∷ [])) ⊎ after (Off ([] ∷ zero_disc old.shape ∷ [])))
      → StandsCached after q (MayHave (v ∷ no_values ∷ [])) ⊎ StandsCached after q (MayHave (no_values ∷ [])) ⊎ StandsCached after q (MayHave (no_values ∷ settled_values (zero_disc old.shape) ∷ []))
  stopped_full d v none under (inl so) = inl (d ∷ [] ∷ [], so, (under.taken, (takes_itself [], refl)))
  stopped_full d v none under (inr (inl so)) = inr (inl ([] ∷ [], so, (takes_itself [], refl)))
  stopped_full d v none under (inr (inr so)) = inr (inr ([] ∷ zero_disc old.shape ∷ [], so, (takes_itself [], (takes_itself (zero_disc old.shape), refl))))

  anew : (d : List ℕ) → q ≡ [] → after (On d) → StandsCached after q (Has (settled_values d))
  anew d none so = subst (λ (l : List (ℕ × List ℕ)). StandsCached after l (Has (settled_values d))) (sym none) (stands_plainly after (On d) so)

  full_values : (d : List ℕ) (v : Values) (drop_sdl : Bool) (out : FormatOut) → IsUnder p d v → q ≡ leaves_after_full new.lists out p → FullCause old new drop_sdl out → FullStep old new after d out
      → FullValues (StandsCached after q) v old new out
  full_values d v drop_sdl formats.Good under left cause step = anew (zero_disc old.shape) left step
  full_values d v drop_sdl (formats.TooMany found) under left cause step =
      anew [] (left ∙ ap (λ (l : Option Lists). leaves_after_full l (formats.TooMany found) p) cause.no_lists) step
  full_values d v drop_sdl (formats.NoUpdate counter) under left cause (inl (lacks, so)) = inl (lacks, still new.lists refl v (left ∙ as_kept new.lists) (d, so, under))
    where
      as_kept : (l : Option Lists) → leaves_after_full l (formats.NoUpdate counter) p ≡ kept_by_lists l p
      as_kept None = refl
      as_kept (Some lists) = refl
  full_values d v drop_sdl (formats.NoUpdate counter) under left cause (inr (room, so)) = inr (room, anew [] (left ∙ lost cause) so)
    where
      lost : FullCause old new drop_sdl (formats.NoUpdate counter) → leaves_after_full new.lists (formats.NoUpdate counter) p ≡ []
      lost (inl lacks) = absurd (lacks.full room)
      lost (inr (inl at)) = ap (λ (l : Option Lists). leaves_after_full l (formats.NoUpdate counter) p) at.no_lists
      lost (inr (inr (inl at))) = ap (λ (l : Option Lists). leaves_after_full l (formats.NoUpdate counter) p) at.no_lists
      lost (inr (inr (inr at))) = ap (λ (l : Option Lists). leaves_after_full l (formats.NoUpdate counter) p) at.no_lists
  full_values d v drop_sdl formats.Cut under left cause step = stopped_full d v left under step
  full_values d v drop_sdl formats.Off under left cause step = step
  full_values d v drop_sdl formats.Fault under left cause step = stopped_full d v left under step

  rewrite_values : (d : List ℕ) (v : Values) (out : FormatOut) → IsUnder p d v → q ≡ leaves_after_rewrite out p → RewriteStep after d out
      → RewriteStep (λ t. StandsCached after q (lifted v.older t)) v.disc out
  rewrite_values d v formats.Good under left step = subst (λ (l : List (ℕ × List ℕ)). StandsCached after l (Has v)) (sym left) (d, step, under)
  rewrite_values d v (formats.TooMany found) under left step = step
  rewrite_values d v (formats.NoUpdate counter) under left step = subst (λ (l : List (ℕ × List ℕ)). StandsCached after l (Has v)) (sym left) (d, step, under)
  rewrite_values d v formats.Cut under left step = (d ∷ [], step, (under.taken, refl))
  rewrite_values d v formats.Off under left step = step
  rewrite_values d v formats.Fault under left step = (d ∷ [], step, (under.taken, refl))

  by_kind : (l : Option Lists) (d : List ℕ) (v : Values) (kind : Kind) (out : FormatOut) → IsUnder p d v → q ≡ leaves_after_format l new.lists kind out p → FormatCauseBy old new l kind out
      → FormatStepBy old new l after d kind out → FormatValues (StandsCached after q) v old new l kind out
  by_kind l d v (kinds.Full drop_sdl) out under left cause step = full_values d v drop_sdl out under left cause step
  by_kind None d v kinds.Rewrite out under left cause step = full_values d v false out under left cause step
  by_kind (Some lists) d v kinds.Rewrite out under left cause step = rewrite_values d v out under left step

  pub format_contents : (kind : Kind) (out : FormatOut) → q ≡ leaves_after_format old.lists new.lists kind out p → FormatCause old new kind out
      → ((t : Standing) → before t → FormatStep old new after t kind out) → (s : Contents) → StandsCached before p s → FormatContents old new (StandsCached after q) s kind out
  format_contents kind out left cause step (Has v) (d, so, under) = by_kind old.lists d v kind out under left cause (step (On d) so)
  format_contents kind formats.Off left cause step (MayHave all) (ds, so, taken) = (ds, step (Off ds) so, taken)
  format_contents kind formats.Good left cause step (MayHave all) (ds, so, taken) = step (Off ds) so
  format_contents kind (formats.TooMany found) left cause step (MayHave all) (ds, so, taken) = step (Off ds) so
  format_contents kind (formats.NoUpdate counter) left cause step (MayHave all) (ds, so, taken) = step (Off ds) so
  format_contents kind formats.Cut left cause step (MayHave all) (ds, so, taken) = step (Off ds) so
  format_contents kind formats.Fault left cause step (MayHave all) (ds, so, taken) = step (Off ds) so

-- ---- an expansion

-- a block of the first sectors
short_block : (d : List ℕ) (m i : ℕ) → 32768 * (i + 1) ≤ m → block_of (take m d) i ≡ block_of d i
unfolding block_of
short_block d m i inside =
    let front : 0 + 32768 * i ≡ 32768 * i = omega arith in
    piece_of_piece 0 m (32768 * i) 32768 d (omega (arith, inside)) ∙ ap (λ (j : ℕ). take 32768 (drop j d)) front

past_block : (d : List ℕ) (i : ℕ) → length d ≤ 32768 * i → block_of d i ≡ []
unfolding block_of
past_block d i past = ap (take 32768) (drop_all (32768 * i) d past)

module _ (d : List ℕ) (v : Values) (p : List (ℕ × List ℕ)) (under : IsUnder p d v) (sectors blocks : ℕ) (long : length (shortened sectors d) ≡ 32768 * blocks) where
  abbrev short : Values
  short = with_older v.older (shortened sectors v.disc)

  same_long : length (shortened sectors v.disc) ≡ length (shortened sectors d)
  same_long = length-take (2048 * sectors) v.disc ∙ ap (min (2048 * sectors)) under.taken.as_long ∙ sym (length-take (2048 * sectors) d)

  within : 32768 * blocks ≤ 2048 * sectors
  within = omega (arith, long, length-take (2048 * sectors) d)

  inside_same : (i : ℕ) → i < blocks → block_of (shortened sectors d) i ≡ block_of d i
  inside_same i below = let w = within in short_block d (2048 * sectors) i (omega (arith, w, below))

  inside_values : (i : ℕ) → i < blocks → block_of (shortened sectors v.disc) i ≡ block_of v.disc i
  inside_values i below = let w = within in short_block v.disc (2048 * sectors) i (omega (arith, w, below))

  pub short_taken : IsTaken short (shortened sectors d)
  short_taken = record {
    as_long = same_long;
    each = λ i. elim (cases_lt i blocks) [
      | inl below ↦ subst (HasValue short i) (sym (inside_same i below)) (still i below (under.taken.each i))
      | inr past ↦ inl (past_block (shortened sectors d) i (omega (arith, long, past)) ∙ sym (past_block (shortened sectors v.disc) i (let e = same_long in omega (arith, long, past, e))))
    ];
  }
    where
      still : (i : ℕ) → i < blocks → HasValue v i (block_of d i) → HasValue short i (block_of d i)
      still i below (inl e) = inl (e ∙ sym (inside_values i below))
      still i below (inr older) = inr older

  pub short_under : IsUnder (pending_below blocks p) (shortened sectors d) short
  short_under = record {
    taken = short_taken;
    inside = λ i held has. let below = (kept i held has).0 in omega (arith, below, long);
    last = λ i held has. inside_values i ((kept i held has).0) ∙ under.last i held ((kept i held has).1);
    others = λ i none. elim (cases_lt i blocks) [
      | inl below ↦ inside_values i below ∙ under.others i (λ (held, has). none (held, Contains-kept (λ (x : ℕ × List ℕ). nat_lt x.0 blocks) p (i, held) (lt-ltb i blocks below) has)) ∙ sym (inside_same i below)
      | inr past ↦ past_block (shortened sectors v.disc) i (let e = same_long in omega (arith, long, past, e)) ∙ sym (past_block (shortened sectors d) i (omega (arith, long, past)))
    ];
  }
    where
      kept : (i : ℕ) (held : List ℕ) → Contains (pending_below blocks p) (i, held) → (i < blocks) × Contains p (i, held)
      kept i held has = let passed = Contains-passed (λ (x : ℕ × List ℕ). nat_lt x.0 blocks) p (i, held) has in (ltb-true i blocks (passed.0), passed.1)

module _ (old new : Shown) (before after : Standing → Type 0) (was : (s : Standing) → before s → StandsFor old s) (shown : (s : Standing) → after s → StandsFor new s) (p q : List (ℕ × List ℕ)) where
  -- the disc that was cut has whole blocks
  cut_long : (d : List ℕ) (sectors : ℕ) → before (On d) → sectors % 16 ≡ 0 → sectors ≤ capacity old → length (shortened sectors d) ≡ 32768 * (sectors / 16)
  cut_long d sectors so whole fewer =
      let long = long_by old.shape (cells_in old) old.lists old.buffer d ((was (On d) so).2) in
      let blocks : sectors ≡ 16 * (sectors / 16) = omega (arith, whole) in
      length-take (2048 * sectors) d ∙ omega (arith, long, blocks, fewer)

  cut_values : (d : List ℕ) (v : Values) (sectors : ℕ) → before (On d) → IsUnder p d v → sectors % 16 ≡ 0 → sectors ≤ capacity old → after (Off (d ∷ shortened sectors d ∷ []))
      → StandsCached after q (MayHave (v ∷ with_older v.older (shortened sectors v.disc) ∷ []))
  cut_values d v sectors so under whole fewer step =
      (d ∷ shortened sectors d ∷ [], step, (under.taken, (short_taken d v p under sectors (sectors / 16) (cut_long d sectors so whole fewer), refl)))

  kept_values : (d : List ℕ) (v : Values) → IsUnder p d v → q ≡ p → after (On d) → StandsCached after q (Has v)
  kept_values d v under left so = subst (λ (l : List (ℕ × List ℕ)). StandsCached after l (Has v)) (sym left) (d, so, under)

  pub expand_contents : (sectors : ℕ) (out : ExpandOut) → ExpandCause old new sectors out → LeftExpanded new out p q → ((t : Standing) → before t → ExpandStep after t sectors out)
      → (s : Contents) → StandsCached before p s → ExpandContents (StandsCached after q) s sectors out
  expand_contents sectors expands.Good cause left step (Has v) (d, so, under) =
      let now = step (On d) so in
      let there = shown (On (shortened sectors d)) now in
      let long = long_by new.shape (cells_in new) new.lists new.buffer (shortened sectors d) (there.2) in (
        shortened sectors d,
        now,
        subst (λ (l : List (ℕ × List ℕ)). IsUnder l (shortened sectors d) (with_older v.older (shortened sectors v.disc))) (sym (left (there.1)))
            (short_under d v p under sectors (block_count new) long),
      )
  expand_contents sectors expands.NotFormatted cause left step (Has v) (d, so, under) =
      let now = step (On d) so in
      let same = under.taken.as_long in
      (empty v.disc (same ∙ ap length (now.0)), kept_values d v under left (now.1))
  expand_contents sectors (expands.Refused known) cause left step (Has v) (d, so, under) = kept_values d v under left (step (On d) so)
  expand_contents sectors (expands.NoUpdate counter) cause left step (Has v) (d, so, under) = kept_values d v under left (step (On d) so)
  expand_contents sectors expands.Cut cause left step (Has v) (d, so, under) = cut_values d v sectors so under cause.any.lawful.whole cause.any.lawful.fewer (step (On d) so)
  expand_contents sectors expands.Off cause left step (Has v) (d, so, under) = step (On d) so
  expand_contents sectors expands.Fault cause left step (Has v) (d, so, under) = cut_values d v sectors so under cause.any.lawful.whole cause.any.lawful.fewer (step (On d) so)
  expand_contents sectors expands.Off cause left step (MayHave all) (ds, so, taken) = (ds, step (Off ds) so, taken)
  expand_contents sectors expands.Good cause left step (MayHave all) (ds, so, taken) = step (Off ds) so
  expand_contents sectors expands.NotFormatted cause left step (MayHave all) (ds, so, taken) = step (Off ds) so
  expand_contents sectors (expands.Refused known) cause left step (MayHave all) (ds, so, taken) = step (Off ds) so
  expand_contents sectors (expands.NoUpdate counter) cause left step (MayHave all) (ds, so, taken) = step (Off ds) so
  expand_contents sectors expands.Cut cause left step (MayHave all) (ds, so, taken) = step (Off ds) so
  expand_contents sectors expands.Fault cause left step (MayHave all) (ds, so, taken) = step (Off ds) so

-- what is left pending
pub expanded_left : (old new : CacheShown) (sectors : ℕ) (out : ExpandOut) → ExpandCause old.drive new.drive sectors out → LeftExpanded new.drive out old.pending new.pending
    → new.pending ≡ leaves_after_expansion new out old.pending
expanded_left old new sectors expands.Good (inl cause) left = left cause.ends.is_on
expanded_left old new sectors expands.Good (inr cause) left = left cause.ends.is_on
expanded_left old new sectors expands.NotFormatted cause left = left
expanded_left old new sectors (expands.Refused known) cause left = left
expanded_left old new sectors (expands.NoUpdate counter) cause left = left
expanded_left old new sectors expands.Cut cause left = left
expanded_left old new sectors expands.Off cause left = left
expanded_left old new sectors expands.Fault cause left = left

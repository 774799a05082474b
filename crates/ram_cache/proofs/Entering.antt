-- The entry of a call: pending blocks that the disc has not are dropped first.
use Rattle.std.proofs.Common.{◌≡◌, ℕ, ◌*◌, ◌<◌, Bool, true, false, not, List, [], ◌∷◌, Option, Some, None, length, ◌/◌, refl, sym, ap, ◌∙◌, subst, arith}
use Rattle.std.specs.Prelude.{IsSome, nat_lt}
use Rattle.std.specs.Option.{option_map_or}
use Rattle.std.specs.List.{All, Contains}
use Rattle.std.proofs.lemmas.Bool.{cond-false, lt-ltb, le-ltb, ltb-true}
use Rattle.std.proofs.lemmas.List.Elements.{filter_passes}
use Rattle.model_geometry.specs.Geometry.{Shape}
use Rattle.model_medium.specs.Cells.{Cell}
use Rattle.model_places.specs.Places.{Lists, logical_count}
use Rattle.model_sectors.specs.Discs.{Standing, On}
use Rattle.model_drive.specs.Shown.{Shown, IsOn, IsFormatted, StandsFor, StandsBy, block_count, cells_in}
use Rattle.model_cache.specs.Values.{Values, Contents, Has, MayHave, HasBlock, IsUnder, StandsCached}
use Rattle.model_cache.specs.Shown.{pending_below}
use Rattle.model_drive.specs.Tells.{HasDisc, CapacityRule}
use Rattle.ram_cache.specs.Caches.{cache_of}
use Rattle.ram_cache.specs.Flushes.{EnterRule}
use Rattle.ram_cache.specs.declared.flushing.Entered.TheVariants as entered
use Rattle.model_cache.proofs.Members.{Contains-kept, Contains-passed}

-- what is left is below
pub all_below : (n : ℕ) (p : List (ℕ × List ℕ)) → All (λ (x : ℕ × List ℕ). x.0 < n) (pending_below n p)
all_below n p k d within = ltb-true _ n (filter_passes (λ (x : ℕ × List ℕ). nat_lt x.0 n) p k d within)

pub none_below : (p : List (ℕ × List ℕ)) → pending_below 0 p ≡ []
none_below [] = refl
none_below (held ∷ p) =
    cond-false (nat_lt held.0 0) (held ∷ pending_below 0 p) (pending_below 0 p) (le-ltb held.0 0 (omega arith)) ∙ none_below p

-- of a disc that is so long none was dropped
pub under_below : (n : ℕ) (p : List (ℕ × List ℕ)) (d : List ℕ) (v : Values) → length d ≡ 32768 * n → IsUnder p d v → IsUnder (pending_below n p) d v
under_below n p d v long under = record {
  taken = under.taken;
  inside = λ i bytes has. under.inside i bytes (was i bytes has);
  last = λ i bytes has. under.last i bytes (was i bytes has);
  others = λ i none. under.others i (λ held. none (held.0, stays i held.0 held.1));
}
  where
    was : (i : ℕ) (bytes : List ℕ) → Contains (pending_below n p) (i, bytes) → Contains p (i, bytes)
    was i bytes has = (Contains-passed (λ (x : ℕ × List ℕ). nat_lt x.0 n) p (i, bytes) has).1

    stays : (i : ℕ) (bytes : List ℕ) → Contains p (i, bytes) → Contains (pending_below n p) (i, bytes)
    stays i bytes has =
        let inside : HasBlock d i = under.inside i bytes has in
        Contains-kept (λ (x : ℕ × List ℕ). nat_lt x.0 n) p (i, bytes) (lt-ltb i n (omega (arith, inside, long))) has

pub long_by : (shape : Shape) (cells : List Cell) (lists : Option Lists) (buffer : List (ℕ × List ℕ)) (d : List ℕ) → StandsBy shape cells lists buffer d
    → length d ≡ 32768 * option_map_or (logical_count shape) lists 0
long_by shape cells None buffer d stands = ap length stands.0
long_by shape cells (Some lists) buffer d stands = stands.fits.as_long

pub none_count : (shape : Shape) (lists : Option Lists) → ¬ IsSome lists → option_map_or (logical_count shape) lists 0 ≡ 0
none_count shape None not = refl
none_count shape (Some lists) not = absurd (not refl)

pub empty : (a : List ℕ) → length a ≡ 0 → a ≡ []
empty [] short = refl
empty (x ∷ a) short = absurd (omega (arith, short))

module _ (drive : Shown) (before : Standing → Type 0) (shown : (s : Standing) → before s → StandsFor drive s) (p : List (ℕ × List ℕ)) where
  -- what the drive stands for it stands for without them
  pub enters : (s : Contents) → StandsCached before p s → StandsCached before (pending_below (block_count drive) p) s
  enters (Has v) (d, so, under) = (d, so, under_below (block_count drive) p d v (long_by drive.shape (cells_in drive) drive.lists drive.buffer d ((shown (On d) so).2)) under)
  enters (MayHave all) so = so

  -- a disc that is not formatted has none of them
  pub all_dropped : ¬ IsFormatted drive → pending_below (block_count drive) p ≡ []
  all_dropped not = ap (λ n. pending_below n p) (none_count drive.shape drive.lists not) ∙ none_below p

-- ---- what `enter` leaves

module _ (drive : Shown) (p left : List (ℕ × List ℕ)) where
  pub kept_is : (sectors : ℕ) → CapacityRule drive (Some sectors) → left ≡ pending_below (sectors / 16) p → left ≡ pending_below (block_count drive) p
  kept_is sectors rule e =
      let same = rule.1 in
      let count : sectors / 16 ≡ block_count drive = omega (arith, same) in
      e ∙ ap (λ n. pending_below n p) count

  pub ready : (caches : Bool) (sectors : ℕ) → CapacityRule drive (Some sectors) → left ≡ pending_below (sectors / 16) p
      → EnterRule (cache_of drive p caches) (cache_of drive left caches) (entered.Formatted sectors)
  ready caches sectors rule e = (
    record {
      can = record {
        on = rule.0.0;
        formatted = rule.0.1;
        inside = subst (λ (l : List (ℕ × List ℕ)). All (λ (x : ℕ × List ℕ). x.0 < block_count drive) l) (sym (kept_is sectors rule e)) (all_below (block_count drive) p);
      };
      sectors_are = rule.1;
      most = rule.2;
    },
    ap (λ (l : List (ℕ × List ℕ)). cache_of drive l caches) (kept_is sectors rule e),
  )

  pub unformatted : (caches : Bool) → IsOn drive → ¬ HasDisc drive → left ≡ [] → EnterRule (cache_of drive p caches) (cache_of drive left caches) entered.NotFormatted
  unformatted caches on not e = (on, λ formatted. not (on, formatted), ap (λ (l : List (ℕ × List ℕ)). cache_of drive l caches) (e ∙ sym (all_left (λ formatted. not (on, formatted)))), e)
    where
      all_left : ¬ IsFormatted drive → pending_below (block_count drive) p ≡ []
      all_left not = ap (λ n. pending_below n p) (none_count drive.shape drive.lists not) ∙ none_below p

  module _ (before : Standing → Type 0) (shown : (s : Standing) → before s → StandsFor drive s) where
    pub stands_ready : (sectors : ℕ) → CapacityRule drive (Some sectors) → left ≡ pending_below (sectors / 16) p → (s : Contents) → StandsCached before p s → StandsCached before left s
    stands_ready sectors rule e s so = subst (λ (l : List (ℕ × List ℕ)). StandsCached before l s) (sym (kept_is sectors rule e)) (enters drive before shown p s so)

    pub stands_unformatted : IsOn drive → ¬ HasDisc drive → left ≡ [] → (s : Contents) → StandsCached before p s → StandsCached before left s
    stands_unformatted on not e s so =
        subst (λ (l : List (ℕ × List ℕ)). StandsCached before l s) (sym (e ∙ sym (all_dropped drive before shown p (λ formatted. not (on, formatted))))) (enters drive before shown p s so)

pub not_false : (b : Bool) → not b ≡ false → b ≡ true
not_false true e = refl
not_false false e = absurd (let w = e in cc)

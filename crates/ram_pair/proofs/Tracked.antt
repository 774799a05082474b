-- Which image failed in a line, by what both sides tell that were watched.
use Rattle.std.specs.Prelude.{◌≡◌, ℕ, ◌+◌, Bool, true, false}
use Rattle.std.proofs.Common.{arith, sym, ◌∙◌, inl, inr}
use Rattle.std.proofs.lemmas.Bool.{false≢true}
use Rattle.model_counts.specs.Counts.{Rose}
use Rattle.model_mirror.specs.Watching.{TracksFaults}

module _ (x x' : ℕ) (failed : Bool) where
  -- it failed where it says so
  pub rose_where_told : TracksFaults x x' false failed → failed ≡ true → Rose x x'
  rose_where_told (inl same) is = absurd (false≢true (sym same.1 ∙ is))
  rose_where_told (inr rose) is = rose.0

  -- and else it did not
  pub same_where_not : TracksFaults x x' false failed → failed ≡ false → x' ≡ x
  same_where_not (inl same) is = same.0
  same_where_not (inr rose) is = absurd (false≢true (sym is ∙ rose.1))

rose_left : (x x' y y' : ℕ) → Rose x x' → (y' ≡ y) → Rose (x + y) (x' + y')
rose_left x x' y y' rose same = omega (arith, rose, same)

rose_both : (x x' y y' : ℕ) → Rose x x' → Rose y y' → Rose (x + y) (x' + y')
rose_both x x' y y' rose other = omega (arith, rose, other)

rose_right : (x x' y y' : ℕ) → (x' ≡ x) → Rose y y' → Rose (x + y) (x' + y')
rose_right x x' y y' same rose = omega (arith, same, rose)

module _ (x x' y y' : ℕ) (failed other : Bool) where
  -- the count of both rose where the first says that it failed
  pub both_rose_a : TracksFaults x x' false failed → TracksFaults y y' false other → failed ≡ true → Rose (x + y) (x' + y')
  both_rose_a a (inl same) is = rose_left x x' y y' (rose_where_told x x' failed a is) same.0
  both_rose_a a (inr rose) is = rose_both x x' y y' (rose_where_told x x' failed a is) rose.0

  -- and where the second does
  pub both_rose_b : TracksFaults x x' false failed → TracksFaults y y' false other → other ≡ true → Rose (x + y) (x' + y')
  both_rose_b (inl same) b is = rose_right x x' y y' same.0 (rose_where_told y y' other b is)
  both_rose_b (inr rose) b is = rose_both x x' y y' rose.0 (rose_where_told y y' other b is)

  -- it is as before where neither does
  pub both_same : TracksFaults x x' false failed → TracksFaults y y' false other → failed ≡ false → other ≡ false → x' + y' ≡ x + y
  both_same a b is is' = omega (arith, same_where_not x x' failed a is, same_where_not y y' other b is')

-- What is told of an image that is watched goes with the count of its failures, from one call to the next.
use Rattle.std.proofs.Common.{arith, ℕ, Bool, refl, sym, ◌∙◌, inl, inr, subst}
use Rattle.model_counts.specs.Counts.{Rose}
use Rattle.model_mirror.specs.Watching.{TracksFaults}

-- nothing happened
pub tracks_none : (faults : ℕ) (failed : Bool) → TracksFaults faults faults failed failed
tracks_none faults failed = inl (refl, refl)

rose_then : (a b c : ℕ) → Rose a b → Rose b c → Rose a c
rose_then a b c one two = omega (arith, one, two)

-- one call after another
pub tracks_then : (a b c : ℕ) (x y z : Bool) → TracksFaults a b x y → TracksFaults b c y z → TracksFaults a c x z
tracks_then a b c x y z (inl one) (inl two) = inl (two.0 ∙ one.0, two.1 ∙ one.1)
tracks_then a b c x y z (inl one) (inr two) = inr (subst (λ (n : ℕ). Rose n c) one.0 two.0, two.1)
tracks_then a b c x y z (inr one) (inl two) = inr (subst (λ (n : ℕ). Rose a n) (sym two.0) one.0, two.1 ∙ one.1)
tracks_then a b c x y z (inr one) (inr two) = inr (rose_then a b c one.0 two.0, two.1)

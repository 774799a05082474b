-- That a block which is put behind the others stays pending, and so do they.
use Rattle.std.specs.Prelude.{◌≡◌, ℕ, ◌==◌, Bool, true, false, not, List}
use Rattle.std.specs.List.{Contains, filter}
use Rattle.std.proofs.Common.{refl, ap, inl, inr}
use Rattle.std.proofs.lemmas.List.Elements.{Contains-append_left, Contains-append_right, Contains-append_cases}
use Rattle.model_cache.specs.Shown.{pending_but}
use Rattle.model_cache.specs.Values.{Values, IsUnder}
use Rattle.model_cache.proofs.Members.{Contains-kept, Contains-passed}
use Rattle.model_cache.specs.Drains.{put_behind}

module _ (i : ℕ) (pending : List (ℕ × List ℕ)) where
  split : (held : ℕ × List ℕ) (b : Bool) → (held.0 == i) ≡ b → Contains {X = ℕ × List ℕ} pending held → Contains {X = ℕ × List ℕ} (put_behind i pending) held
  split held true is has = Contains-append_right {X = ℕ × List ℕ} (pending_but i pending) (filter (λ (h : ℕ × List ℕ). h.0 == i) pending) held
      (Contains-kept {X = ℕ × List ℕ} (λ (h : ℕ × List ℕ). h.0 == i) pending held is has)
  split held false is has = Contains-append_left {X = ℕ × List ℕ} (pending_but i pending) (filter (λ (h : ℕ × List ℕ). h.0 == i) pending) held
      (Contains-kept {X = ℕ × List ℕ} (λ (h : ℕ × List ℕ). not (h.0 == i)) pending held (ap not is) has)

  pub stays_there : (held : ℕ × List ℕ) → Contains {X = ℕ × List ℕ} pending held → Contains {X = ℕ × List ℕ} (put_behind i pending) held
  stays_there held has = split held (held.0 == i) refl has

  pub was_there : (held : ℕ × List ℕ) → Contains {X = ℕ × List ℕ} (put_behind i pending) held → Contains {X = ℕ × List ℕ} pending held
  was_there held has = elim (Contains-append_cases {X = ℕ × List ℕ} (pending_but i pending) (filter (λ (h : ℕ × List ℕ). h.0 == i) pending) held has) [
    | inl other ↦ (Contains-passed {X = ℕ × List ℕ} (λ (h : ℕ × List ℕ). not (h.0 == i)) pending held other).1
    | inr this ↦ (Contains-passed {X = ℕ × List ℕ} (λ (h : ℕ × List ℕ). h.0 == i) pending held this).1
  ]

  pub under_behind : (disc : List ℕ) (v : Values) → IsUnder pending disc v → IsUnder (put_behind i pending) disc v
  under_behind disc v under = record {
    taken = under.taken;
    inside = λ j bytes has. under.inside j bytes (was_there (j, bytes) has);
    last = λ j bytes has. under.last j bytes (was_there (j, bytes) has);
    others = λ j away. under.others j (λ waiting. away (waiting.0, stays_there (j, waiting.0) waiting.1));
  }

-- A scrubber remembers just what it met.
use Rattle.std.proofs.Common.{◌≡◌, ℕ, ◌<◌, ◌⊎◌, inl, inr, Some, None, List, [], ◌∷◌, nat_lt, Contains, sym, ◌∙◌, subst, arith}
use Rattle.std.specs.Prelude.{◌↔◌}
use Rattle.std.specs.List.Sorted.{IsStrictlyIncreasing}
use Rattle.std.proofs.lemmas.List.Kept.{IsStrictlyIncreasing-filter}
use Rattle.model_scrub.specs.declared.ends.StepEnd.{StepEnd}
use Rattle.model_scrub.specs.declared.ends.StepEnd.TheVariants.{Readable, Unreadable, NotFormatted, Cut, Off, Fault}
use Rattle.model_scrub.specs.Scrubs.{Scrubber, begun_on, with_found, Leaves, LeavesOn, ScrubEvent, Stepped, Began, Scrubs, IsRemembered, SaysUnread, SaysRead}
use Rattle.model_scrub.proofs.Rising.{rises-with_block, in_with_block, with_block_there, with_block_keeps, in_without_block, without_block_keeps, in_below, below_keeps}

-- ---- in order

below_rises : (count : ℕ) (s : Scrubber) → IsStrictlyIncreasing s.found → IsStrictlyIncreasing (begun_on count s).found
below_rises count s rise = IsStrictlyIncreasing-filter (λ j. nat_lt j count) s.found rise

leaves_rise : (count : ℕ) (s : Scrubber) (end : StepEnd) (t : Scrubber) → LeavesOn count s end t → IsStrictlyIncreasing s.found → IsStrictlyIncreasing t.found
leaves_rise count s (Readable i) t leaves rise =
    subst (λ (x : Scrubber). IsStrictlyIncreasing x.found) (sym leaves.2) (IsStrictlyIncreasing-filter _ (begun_on count s).found (below_rises count s rise))
leaves_rise count s (Unreadable i) t leaves rise =
    subst (λ (x : Scrubber). IsStrictlyIncreasing x.found) (sym leaves.2) (rises-with_block (begun_on count s).next (begun_on count s).found (below_rises count s rise))
leaves_rise count s NotFormatted t leaves rise = absurd leaves
leaves_rise count s Cut t leaves rise = subst (λ (x : Scrubber). IsStrictlyIncreasing x.found) (sym leaves) (below_rises count s rise)
leaves_rise count s Off t leaves rise = absurd leaves
leaves_rise count s Fault t leaves rise = subst (λ (x : Scrubber). IsStrictlyIncreasing x.found) (sym leaves) (below_rises count s rise)

stays : (s : Scrubber) (end : StepEnd) (t : Scrubber) → Leaves None s end t → t ≡ s
stays s (Readable i) t leaves = absurd leaves
stays s (Unreadable i) t leaves = absurd leaves
stays s NotFormatted t leaves = leaves
stays s Cut t leaves = absurd leaves
stays s Off t leaves = leaves
stays s Fault t leaves = absurd leaves

pub all_rise : (events : List ScrubEvent) (s : Scrubber) → Scrubs events s → IsStrictlyIncreasing s.found
all_rise [] s is = subst (λ (x : Scrubber). IsStrictlyIncreasing x.found) (sym is) (λ k h. absurd (omega (arith, h)))
all_rise (Stepped None end ∷ events) s (before, went, leaves) =
    subst (λ (x : Scrubber). IsStrictlyIncreasing x.found) (sym (stays before end s leaves)) (all_rise events before went)
all_rise (Stepped (Some count) end ∷ events) s (before, went, leaves) = leaves_rise count before end s leaves (all_rise events before went)
all_rise (Began ∷ events) s (before, went, leaves) = subst (λ (x : Scrubber). IsStrictlyIncreasing x.found) (sym leaves) (all_rise events before went)

-- ---- just these

-- what a step on a formatted disc leaves of what was remembered
abbrev AddsUp : (count : ℕ) → Scrubber → StepEnd → Scrubber → ℕ → Type 0
AddsUp count s end t j = Contains t.found j ↔ (SaysUnread end j ⊎ (Contains s.found j × (j < count) × ¬ SaysRead end j))

only_below : (count : ℕ) (s t : Scrubber) (j : ℕ) → t ≡ begun_on count s → Contains t.found j ↔ (⊥ ⊎ (Contains s.found j × (j < count) × ¬ ⊥))
only_below count s t j leaves = (
  (λ has. let h = in_below count j s.found (subst (λ (x : Scrubber). Contains x.found j) leaves has) in inr (h.1, h.0, λ no. no)),
  (λ are. elim are [ inl none ↦ absurd none | inr h ↦ subst (λ (x : Scrubber). Contains x.found j) (sym leaves) (below_keeps count j s.found h.1 h.0) ]),
)

adds_up : (count : ℕ) (s : Scrubber) (end : StepEnd) (t : Scrubber) (j : ℕ) → LeavesOn count s end t → AddsUp count s end t j
adds_up count s (Readable i) t j leaves = (
  (λ has.
      let h = in_without_block (begun_on count s).next (begun_on count s).found j (subst (λ (x : Scrubber). Contains x.found j) leaves.2 has) in
      let low = in_below count j s.found h.1 in
      inr (low.1, low.0, λ same. h.0 (same ∙ leaves.0))),
  (λ are. elim are [
    | inl none ↦ absurd none
    | inr h ↦ subst (λ (x : Scrubber). Contains x.found j) (sym leaves.2)
        (without_block_keeps (begun_on count s).next (begun_on count s).found j (λ same. h.2 (same ∙ sym leaves.0)) (below_keeps count j s.found h.1 h.0))
  ]),
)
adds_up count s (Unreadable i) t j leaves = (
  (λ has. elim (in_with_block (begun_on count s).next (begun_on count s).found j (subst (λ (x : Scrubber). Contains x.found j) leaves.2 has)) [
    | inl same ↦ inl (same ∙ sym leaves.0)
    | inr there ↦ (let low = in_below count j s.found there in inr (low.1, low.0, λ no. no))
  ]),
  (λ are. subst (λ (x : Scrubber). Contains x.found j) (sym leaves.2) (elim are [
    | inl same ↦ subst (Contains (with_found (begun_on count s).next (begun_on count s).found)) (sym (same ∙ leaves.0)) (with_block_there (begun_on count s).next (begun_on count s).found)
    | inr h ↦ with_block_keeps (begun_on count s).next (begun_on count s).found j (below_keeps count j s.found h.1 h.0)
  ])),
)
adds_up count s NotFormatted t j leaves = absurd leaves
adds_up count s Cut t j leaves = only_below count s t j leaves
adds_up count s Off t j leaves = absurd leaves
adds_up count s Fault t j leaves = only_below count s t j leaves

without_says : (s : Scrubber) (end : StepEnd) (t : Scrubber) (j : ℕ) → Leaves None s end t → ¬ SaysUnread end j × ¬ SaysRead end j
without_says s (Readable i) t j leaves = absurd leaves
without_says s (Unreadable i) t j leaves = absurd leaves
without_says s NotFormatted t j leaves = ((λ no. no), (λ no. no))
without_says s Cut t j leaves = absurd leaves
without_says s Off t j leaves = ((λ no. no), (λ no. no))
without_says s Fault t j leaves = absurd leaves

pub remembered : (events : List ScrubEvent) (s : Scrubber) → Scrubs events s → (j : ℕ) → Contains s.found j ↔ IsRemembered events j
remembered [] s is j = (
  (λ has. none (subst (λ (x : Scrubber). Contains x.found j) is has)),
  (λ no. absurd no),
)
  where
    none : Contains [] j → ⊥
    none (k, within, at) = omega (arith, within)
remembered (Stepped None end ∷ events) s (before, went, leaves) j =
    let earlier = remembered events before went j in
    let same = stays before end s leaves in
    let says = without_says before end s j leaves in (
      (λ has. inr (earlier.0 (subst (λ (x : Scrubber). Contains x.found j) same has), tt, says.1)),
      (λ are. elim are [ inl unread ↦ absurd (says.0 unread) | inr h ↦ subst (λ (x : Scrubber). Contains x.found j) (sym same) (earlier.1 h.0) ]),
    )
remembered (Stepped (Some count) end ∷ events) s (before, went, leaves) j =
    let earlier = remembered events before went j in
    let adds = adds_up count before end s j leaves in (
      (λ has. elim (adds.0 has) [ inl unread ↦ inl unread | inr h ↦ inr (earlier.0 h.0, h.1, h.2) ]),
      (λ are. adds.1 (elim are [ inl unread ↦ inl unread | inr h ↦ inr (earlier.1 h.0, h.1, h.2) ])),
    )
remembered (Began ∷ events) s (before, went, leaves) j =
    let earlier = remembered events before went j in (
      (λ has. earlier.0 (subst (λ (x : Scrubber). Contains x.found j) leaves has)),
      (λ are. subst (λ (x : Scrubber). Contains x.found j) (sym leaves) (earlier.1 are)),
    )

-- A drain loses no block that can be read, but the one in which it is stopped.
use Rattle.std.specs.Prelude.{◌≡◌, ◌≢◌, ℕ, zero, suc, ◌*◌, ◌⊎◌, Option, List, [], ◌∷◌, ◌++◌}
use Rattle.std.specs.List.{Contains}
use Rattle.std.proofs.Common.{arith, refl, sym, ◌∙◌, inl, inr, subst}
use Rattle.model_drive.specs.declared.WriteOut.{WriteOut}
use Rattle.model_drive.specs.declared.WriteOut.TheVariants as writes
use Rattle.model_drive.specs.Shown.{IsKnown}
use Rattle.model_drive.specs.Sound.{IsSound}
use Rattle.model_drive.proofs.Kept.{write_kept}
use Rattle.model_cache.specs.Shown.{CacheShown}
use Rattle.model_cache.specs.Chains.{WritesBack}
use Rattle.model_cache.specs.Drains.{IsRefusal, Tries, StopsTrying}
use Rattle.model_cache.proofs.Members.{Contains-first, Contains-later}
use Rattle.model_cache.proofs.FlushedHomes.{one_covered, its_block}
use Rattle.model_costs.specs.Costs.{Lives}
use Rattle.model_costs.proofs.Living.{write_living}

-- ---- blocks live

back_living : (old new : CacheShown) (i : ℕ) (out : WriteOut) → WritesBack old new i out → IsSound old.drive → IsKnown old.drive → (j : ℕ)
    → ((out ≡ writes.Good) ⊎ IsRefusal out ⊎ (j ≢ i)) → Lives old.drive j → Lives new.drive j
back_living old new i writes.Good back sound known j why lives = write_living j old.drive new.drive back.leaves.same_shape back.leaves.sound ((write_kept old.drive new.drive (16 * i) 16 writes.Good back.wrote).as_known ∙ known) known lives sound (16 * i) 16 writes.Good tt back.wrote
back_living old new i writes.NotFormatted back sound known j why lives = write_living j old.drive new.drive back.leaves.same_shape back.leaves.sound ((write_kept old.drive new.drive (16 * i) 16 writes.NotFormatted back.wrote).as_known ∙ known) known lives sound (16 * i) 16 writes.NotFormatted tt back.wrote
back_living old new i (writes.Range r) back sound known j why lives = write_living j old.drive new.drive back.leaves.same_shape back.leaves.sound ((write_kept old.drive new.drive (16 * i) 16 (writes.Range r) back.wrote).as_known ∙ known) known lives sound (16 * i) 16 (writes.Range r) tt back.wrote
back_living old new i (writes.Unread n b) back sound known j why lives = write_living j old.drive new.drive back.leaves.same_shape back.leaves.sound ((write_kept old.drive new.drive (16 * i) 16 (writes.Unread n b) back.wrote).as_known ∙ known) known lives sound (16 * i) 16 (writes.Unread n b) tt back.wrote
back_living old new i (writes.NoSpare n) back sound known j why lives = write_living j old.drive new.drive back.leaves.same_shape back.leaves.sound ((write_kept old.drive new.drive (16 * i) 16 (writes.NoSpare n) back.wrote).as_known ∙ known) known lives sound (16 * i) 16 (writes.NoSpare n) tt back.wrote
back_living old new i (writes.NoUpdate c) back sound known j why lives = write_living j old.drive new.drive back.leaves.same_shape back.leaves.sound ((write_kept old.drive new.drive (16 * i) 16 (writes.NoUpdate c) back.wrote).as_known ∙ known) known lives sound (16 * i) 16 (writes.NoUpdate c) tt back.wrote
back_living old new i writes.Off back sound known j why lives = write_living j old.drive new.drive back.leaves.same_shape back.leaves.sound ((write_kept old.drive new.drive (16 * i) 16 writes.Off back.wrote).as_known ∙ known) known lives sound (16 * i) 16 writes.Off tt back.wrote
back_living old new i writes.Cut back sound known j why lives = write_living j old.drive new.drive back.leaves.same_shape back.leaves.sound ((write_kept old.drive new.drive (16 * i) 16 writes.Cut back.wrote).as_known ∙ known) known lives sound (16 * i) 16 writes.Cut
    (λ stopped same. apart (same ∙ (let b = its_block i in let one = one_covered i in let few = stopped.covered in omega (arith, b, one, few)))) back.wrote
  where
    apart : j ≢ i
    apart = elim why [ inl good ↦ absurd (let h : writes.Cut ≡ writes.Good = good in cc) | inr (inl is) ↦ absurd is | inr (inr ne) ↦ ne ]
back_living old new i writes.Fault back sound known j why lives = write_living j old.drive new.drive back.leaves.same_shape back.leaves.sound ((write_kept old.drive new.drive (16 * i) 16 writes.Fault back.wrote).as_known ∙ known) known lives sound (16 * i) 16 writes.Fault
    (λ stopped same. apart (same ∙ (let b = its_block i in let one = one_covered i in let few = stopped.covered in omega (arith, b, one, few)))) back.wrote
  where
    apart : j ≢ i
    apart = elim why [ inl good ↦ absurd (let h : writes.Fault ≡ writes.Good = good in cc) | inr (inl is) ↦ absurd is | inr (inr ne) ↦ ne ]

back_known : (old new : CacheShown) (i : ℕ) (out : WriteOut) → WritesBack old new i out → IsKnown old.drive → IsKnown new.drive
back_known old new i out back known = (write_kept old.drive new.drive (16 * i) 16 out back.wrote).as_known ∙ known

-- it lives, and what is shown is sound and known, so that it goes on
pub record LivesOn (shown : CacheShown) (j : ℕ) : Type 0 where
  pub sound : IsSound shown.drive
  pub known : IsKnown shown.drive
  pub lives : Lives shown.drive j

pub tries_living : (due : List ℕ) (enough short : ℕ) (old new : CacheShown) (first : Option WriteOut) (j : ℕ) → Tries old due enough new short first → LivesOn old j → LivesOn new j
tries_living due zero short old new first j tries on = subst (λ (s : CacheShown). LivesOn s j) (sym tries.0) on
tries_living [] (suc enough) short old new first j tries on = subst (λ (s : CacheShown). LivesOn s j) (sym tries.0) on
tries_living (i ∷ due) (suc enough) short old new first j (inl (mid, flush, later)) on =
    tries_living due enough short mid new first j later (record {
      sound = flush.back.leaves.sound;
      known = back_known old mid i writes.Good flush.back on.known;
      lives = back_living old mid i writes.Good flush.back on.sound on.known j (inl refl) on.lives;
    })
tries_living (i ∷ due) (suc enough) short old new first j (inr (mid, answer, told, is, later, first_is)) on =
    tries_living due (suc enough) short mid new told j later (record {
      sound = is.back.leaves.sound;
      known = back_known old mid i answer is.back on.known;
      lives = back_living old mid i answer is.back on.sound on.known j (inr (inl is.refused)) on.lives;
    })

among_rest : (done : List ℕ) (block : ℕ) (rest : List ℕ) → Contains (done ++ block ∷ rest) block
among_rest [] block rest = Contains-first block rest
among_rest (i ∷ done) block rest = Contains-later i (done ++ block ∷ rest) block (among_rest done block rest)

pub stopped_living : (old new : CacheShown) (due : List ℕ) (enough : ℕ) (out : WriteOut) (j : ℕ) → StopsTrying old new due enough out → ¬ Contains due j → LivesOn old j → Lives new.drive j
stopped_living old new due enough out j stopped away on =
    let mid = tries_living stopped.done enough (suc stopped.short) old stopped.mid stopped.first j stopped.tried on in
    back_living stopped.mid new stopped.block out stopped.stops mid.sound mid.known j
    (inr (inr (λ same. away (subst (λ (l : List ℕ). Contains l j) (sym stopped.due_is) (subst (Contains (stopped.done ++ stopped.block ∷ stopped.rest)) (sym same) (among_rest stopped.done stopped.block stopped.rest))))))
    mid.lives

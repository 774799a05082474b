-- That the sink was offered the answers, where it failed.
use Rattle.std.proofs.Common.{◌≡◌, ℕ, ◌+◌, ◌-◌, ◌<◌, ◌≤◌, Option, None, Some, IfSome, List, ◌++◌, length, arith, sym, ap, subst, length-append}
use Rattle.ram_outside.specs.Sink.{length_with}
use Rattle.ram_script.specs.Progress.{Beginning, SoFar, IsDue, IsOffered}

-- all that was due was offered, and it is all answers
pub offered_due : {first : Beginning} (far : SoFar first) (due : Option (List ℕ)) (refused : Option ℕ) (more : ℕ) → IsDue far due → refused ≡ length_with due more → IsOffered far refused
offered_due {first} far due refused more known is = subst (IsOffered far) (sym is) (by_due due known)
  where
    by_due : (o : Option (List ℕ)) → IsDue far o → IsOffered far (length_with o more)
    by_due None known = tt
    by_due (Some text) known = omega (arith, ap length known)

-- a byte at least of the newest answer was offered, behind all others
pub offered_newest : (due : Option (List ℕ)) (refused : Option ℕ) (report so_far newest : List ℕ) (offered : ℕ) → 0 < offered → IfSome due (λ text. text ≡ report ++ so_far) → refused ≡ length_with due offered
    → IfSome refused (λ n. length (report ++ (so_far ++ newest)) ≤ n + (length newest - 1))
offered_newest due refused report so_far newest offered some known is = subst (λ (o : Option ℕ). IfSome o (λ n. length (report ++ (so_far ++ newest)) ≤ n + (length newest - 1))) (sym is) (by_due due known)
  where
    by_due : (o : Option (List ℕ)) → IfSome o (λ text. text ≡ report ++ so_far) → IfSome (length_with o offered) (λ n. length (report ++ (so_far ++ newest)) ≤ n + (length newest - 1))
    by_due None known = tt
    by_due (Some text) known = omega (
      arith,
      some,
      ap length known,
      length-append report so_far,
      length-append report (so_far ++ newest),
      length-append so_far newest,
    )

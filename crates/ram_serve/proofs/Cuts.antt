-- A message of any phase that did not come whole: what came of it is none.
use Rattle.std.specs.Prelude.{◌≡◌, ℕ, ◌<◌, Option, None, Some, Err, List, [], ◌++◌, length, take}
use Rattle.std.proofs.Common.{arith, sym, ap, ◌∙◌, subst, append-nil, length-append, length-take-le}
use Rattle.std.specs.Io.KnownBytes.{IsAtEnd}
use Rattle.model_counts.specs.Counts.{Rose}
use Rattle.ram_receive.specs.Receiving.{Went}
use Rattle.ram_machine.specs.declared.status.Status.{Status}
use Rattle.ram_machine.specs.declared.status.Status.TheVariants as statuses
use Rattle.ram_session.specs.Talk.{Phase, BeginsNoMessage}
use Rattle.ram_serve.specs.Messages.{FirstRule, MoreRule}
use Rattle.ram_serve.specs.Taking.{IsNoMessage, NoneCame}
use Rattle.ram_serve.proofs.Came.{went_on}

-- nothing follows what came
pub at_end : (left : Option (List ℕ)) (rest : List ℕ) → IsAtEnd left → left ≡ Some rest → rest ≡ []
at_end None rest ended is = absurd (none_some rest is)
  where
    none_some : (xs : List ℕ) → None ≡ Some xs → ⊥
    none_some xs same = cc
at_end (Some xs) rest ended is = same_in xs rest is ∙ ended
  where
    same_in : (xs ys : List ℕ) → Some xs ≡ Some ys → ys ≡ xs
    same_in xs ys same = cc

none_at_end : (phase : Phase) (left : Option (List ℕ)) (bytes : List ℕ) → IsAtEnd left → BeginsNoMessage phase bytes
    → (rest : List ℕ) → left ≡ Some rest → BeginsNoMessage phase (bytes ++ rest)
none_at_end phase left bytes ended none rest is =
    subst (λ (l : List ℕ). BeginsNoMessage phase l) (sym (ap (λ (l : List ℕ). bytes ++ l) (at_end left rest ended is) ∙ append-nil bytes)) none

module _ (phase : Phase) (left left' : Option (List ℕ)) (faults faults' : ℕ) where
  -- its first bytes did not all come, and fewer begin none
  pub first_cut : (into : List ℕ) (status : Status) → ((bytes : List ℕ) → length bytes < length into → BeginsNoMessage phase bytes)
      → FirstRule left left' faults faults' into (Err status) → NoneCame left left' faults faults' phase status
  first_cut into statuses.Done short rule = rule
  first_cut into statuses.Script short rule =
      let many = length-take-le rule.0 into (omega (arith, rule.2)) in
      record {
        came = take rule.0 into;
        some = omega (arith, many, rule.1);
        went = rule.3.went;
        none = none_at_end phase left' (take rule.0 into) rule.3.ended (short (take rule.0 into) (omega (arith, many, rule.2)));
        count = rule.3.count;
      }
  first_cut into statuses.SourceFault short rule =
      let many = length-take-le rule.0 into (omega (arith, rule.1)) in
      record {
        came = take rule.0 into;
        went = rule.2.went;
        none = short (take rule.0 into) (omega (arith, many, rule.1));
        count = rule.2.count;
      }
  first_cut into statuses.Differs short rule = absurd rule
  first_cut into statuses.Usage short rule = absurd rule
  first_cut into statuses.ImageFault short rule = absurd rule
  first_cut into statuses.SinkFault short rule = absurd rule
  first_cut into statuses.NoMemory short rule = absurd rule
  first_cut into statuses.NotADisc short rule = absurd rule

  -- its first bytes came, and begin none
  pub first_unread : (into : List ℕ) → 0 < length into → ((rest : List ℕ) → BeginsNoMessage phase (into ++ rest)) → Went left left' into
      → faults' ≡ faults → IsNoMessage left left' faults faults' phase
  first_unread into some none went count = record { came = into; some = some; went = went; none = λ rest is. none rest; count = count }

  -- its first bytes came, and not all of the others
  pub others_cut : (mid : Option (List ℕ)) (middle : ℕ) (begun held : List ℕ) (count : ℕ) (status : Status) → 0 < length begun
      → ((more : List ℕ) → length more < count → BeginsNoMessage phase (begun ++ more)) → Went left mid begun → middle ≡ faults
      → MoreRule mid left' middle faults' count held (Err status) → NoneCame left left' faults faults' phase status
  others_cut mid middle begun held count statuses.Script some partial went same rule = record {
    came = begun ++ rule.0;
    some = omega (arith, length-append begun rule.0, some);
    went = went_on left mid left' begun rule.0 went rule.2.went;
    none = none_at_end phase left' (begun ++ rule.0) rule.2.ended (partial rule.0 rule.1);
    count = rule.2.count ∙ same;
  }
  others_cut mid middle begun held count statuses.SourceFault some partial went same rule = record {
    came = begun ++ rule.0;
    went = went_on left mid left' begun rule.0 went rule.2.went;
    none = partial rule.0 rule.1;
    count = subst (λ (n : ℕ). Rose n faults') same rule.2.count;
  }
  others_cut mid middle begun held count statuses.Done some partial went same rule = absurd rule
  others_cut mid middle begun held count statuses.Differs some partial went same rule = absurd rule
  others_cut mid middle begun held count statuses.Usage some partial went same rule = absurd rule
  others_cut mid middle begun held count statuses.ImageFault some partial went same rule = absurd rule
  others_cut mid middle begun held count statuses.SinkFault some partial went same rule = absurd rule
  others_cut mid middle begun held count statuses.NoMemory some partial went same rule = absurd rule
  others_cut mid middle begun held count statuses.NotADisc some partial went same rule = absurd rule

-- What is told of an image, by how its text was written.
use Rattle.std.specs.Prelude.{◌≡◌, ℕ, ◌⊎◌, Bool, true, Option, Some, IfSome, List, [], ◌++◌, take}
use Rattle.std.specs.Bool.{OnTrue}
use Rattle.std.specs.Io.KnownBytes.{append_known}
use Rattle.std.proofs.Common.{arith, refl, sym, ap, ◌∙◌, inl, inr, subst}
use Rattle.std.proofs.lemmas.List.{append-nil}
use Rattle.model_counts.specs.Counts.{Rose, counted}
use Rattle.ram_machine.specs.declared.status.Status.{Status}
use Rattle.ram_machine.specs.declared.status.Status.TheVariants as statuses
use Rattle.ram_script.specs.RunCounts.{Counts, counts_of, SameCounts, OnlySinkRose}
use Rattle.ram_script.specs.Endings.{IsOfRun, StatusCounts, SinkRose}
use Rattle.ram_script.specs.Around.{Surroundings}
use Rattle.ram_certificate.specs.Auditing.{AnswersBy, Tells, OpensKnown}

-- the status is one of those that an answer is due with
pub data IsDue : Status → Type 0 where
  of_done : IsDue statuses.Done
  of_difference : IsDue statuses.Differs
  of_no_disc : IsDue statuses.NotADisc

due_of_run : (due : Status) → IsDue due → IsOfRun due
due_of_run due of_done = tt
due_of_run due of_difference = tt
due_of_run due of_no_disc = tt

module _ (due : Status) (is_due : IsDue due) (text : List ℕ) (before after : Option (List ℕ)) (sink sink' : ℕ) (status : Status) (by : AnswersBy due text before after sink sink' status) where
  pub answered_of_run : IsOfRun status
  answered_of_run = elim by [ inl all ↦ subst IsOfRun (sym all.0) (due_of_run due is_due) | inr part ↦ subst IsOfRun (sym part.0) tt ]

  whole : (answers : List ℕ → Status → Type 0) (s : Status) → IsDue s → answers text s → after ≡ append_known before text → Tells answers before after s
  whole answers s of_done ok wrote = (text, ok, wrote)
  whole answers s of_difference ok wrote = (text, ok, wrote)
  whole answers s of_no_disc ok wrote = (text, ok, wrote)

  pub answered_tells : (answers : List ℕ → Status → Type 0) → answers text due → Tells answers before after status
  answered_tells answers ok = elim by [
    | inl all ↦ subst (Tells answers before after) (sym all.0) (whole answers due is_due ok all.1)
    | inr part ↦ subst (Tells answers before after) (sym part.0) (due, text, part.1.0, ok, part.1.1)
  ]

  same_by : (s : Status) → IsDue s → (old new : Counts) → SameCounts old new → StatusCounts old new s
  same_by s of_done old new same = same
  same_by s of_difference old new same = same
  same_by s of_no_disc old new same = same

  pub answered_counts : (source source' image image' : ℕ) → source' ≡ source → image' ≡ image → StatusCounts (counts_of source sink image) (counts_of source' sink' image') status
  answered_counts source source' image image' of_source of_image = elim by [
    | inl all ↦ subst (StatusCounts (counts_of source sink image) (counts_of source' sink' image')) (sym all.0)
        (same_by due is_due (counts_of source sink image) (counts_of source' sink' image') (record { source = of_source; sink = all.2; image = of_image }))
    | inr part ↦ subst (StatusCounts (counts_of source sink image) (counts_of source' sink' image')) (sym part.0)
        (inl (record { source = of_source; sink = part.2; image = of_image }))
  ]

-- nothing more was written
pub nothing_more : (written : Option (List ℕ)) → written ≡ append_known written []
nothing_more written = by_known written
  where
    by_known : (o : Option (List ℕ)) → o ≡ append_known o []
    by_known (Some bytes) = ap Some (sym (append-nil bytes))
    by_known _ = refl

-- ---- the image was taken back: its failures are the opener's

module _ (source source' sink sink' faults failed : ℕ) where
  pub counts_there : (status : Status) → StatusCounts (counts_of source sink 0) (counts_of source' sink' failed) status → StatusCounts (counts_of source sink faults) (counts_of source' sink' (counted faults failed)) status
  counts_there statuses.Done c = record { source = c.source; sink = c.sink; image = omega (arith, c.image) }
  counts_there statuses.Differs c = record { source = c.source; sink = c.sink; image = omega (arith, c.image) }
  counts_there statuses.Usage c = record { source = c.source; sink = c.sink; image = omega (arith, c.image) }
  counts_there statuses.Script c = record { source = c.source; sink = c.sink; image = omega (arith, c.image) }
  counts_there statuses.ImageFault c = record { source = c.source; sink = c.sink; image = omega (arith, c.image) }
  counts_there statuses.SourceFault c = record { source = c.source; sink = c.sink; image = omega (arith, c.image) }
  counts_there statuses.SinkFault (inl c) = inl (record { source = c.source; sink = c.sink; image = omega (arith, c.image) })
  counts_there statuses.SinkFault (inr (inl c)) = inr (inl (record { source = c.source; sink = c.sink; image = omega (arith, c.image) }))
  counts_there statuses.SinkFault (inr (inr c)) = inr (inr (record { source = c.source; sink = c.sink; image = omega (arith, c.image) }))
  counts_there statuses.NoMemory c = record { source = c.source; sink = c.sink; image = omega (arith, c.image) }
  counts_there statuses.NotADisc c = record { source = c.source; sink = c.sink; image = omega (arith, c.image) }

-- what is known, of the image that was opened
pub held_known : {I : Type 0} (bytes_of : I → Option (List ℕ)) (held : List ℕ) (before : Surroundings I) (returned_known : Bool) (image : I) → OpensKnown bytes_of held before returned_known
    → IfSome before.opener.next (λ known. image ≡ known) → bytes_of image ≡ Some held
held_known {I = I} bytes_of held before returned_known image known is =
    subst (λ (i : I). bytes_of i ≡ Some held) (sym (subst (λ (o : Option I). IfSome o (λ due. image ≡ due)) known.next_is is)) known.image_is

-- what holds of known bytes
pub known_some : (P : List ℕ → Type 0) (bytes : Option (List ℕ)) (held : List ℕ) → bytes ≡ Some held → IfSome bytes P → P held
known_some P bytes held is holds = subst (λ (o : Option (List ℕ)). IfSome o P) is holds

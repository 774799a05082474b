-- What the next line of the script makes of the lines so far.
use Rattle.std.specs.Prelude.{◌≡◌, ℕ, Option, List}
use Rattle.std.proofs.Common.{arith, sym, ◌∙◌, subst}
use Rattle.ram_text.specs.Lines.{GivesLine}
use Rattle.ram_script.specs.Progress.{View, unread}
use Rattle.ram_script.proofs.LinesTaken.{Follows, follows}
use Rattle.ram_answers.specs.declared.answers.Answers.{Ghosts as Answerers}
use Rattle.ram_answers.specs.TextRuns.{TextBeginning, ToldSoFar}
use Rattle.ram_answers.specs.TextEnds.{IsToldAt, IsToldDue, TakesRaw}

module _ {A R : Type 0} (these : Answerers A R) (first : TextBeginning A) (now : A) (far : ToldSoFar these first now) (old new : View)
    (at : IsToldAt these far old) (same_due : new.due ≡ old.due) where
  pub still_due : IsToldDue these far new.due
  still_due = subst (λ (o : Option (List ℕ)). IsToldDue these far o) (sym same_due) at.due_is

  pub takes_raw : (raw : List ℕ) (f f' : ℕ) → new.tally ≡ old.tally → GivesLine (unread old) (unread new) old.taken new.taken raw f f' → TakesRaw these far new raw
  takes_raw raw f f' same_tally gives =
      let on : Follows (unread new) old.taken new.taken far.rest raw = follows (unread new) old.taken new.taken far.rest raw f f' (subst (λ o. GivesLine o (unread new) old.taken new.taken raw f f') at.left_is gives) in
      record {
        comes = record { next = on.next; within = omega (arith, on.taken_is, at.taken_is, gives.within) };
        left_is = on.left_is;
        taken_is = on.taken_is ∙ at.taken_is;
        tallied = rw same_tally at.tallied;
        due_is = still_due;
      }

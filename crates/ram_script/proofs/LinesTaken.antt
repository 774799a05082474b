-- What the next line of the script, or its absence, makes of the lines so far.
use Rattle.std.specs.Prelude.{◌≡◌, ℕ, ◌+◌, ◌⊎◌, Option, None, Some, is_some, Err, List, [], ◌∷◌, ◌++◌, length}
use Rattle.std.proofs.Common.{arith, refl, sym, ap, ◌∙◌, inl, inr, subst, append_assoc, append-nil, length-append}
use Rattle.ram_text.specs.Lines.{line_feed, EndsByFeed, EndsByScript, GivesLine}
use Rattle.ram_text.specs.ScriptWords.{words_of, without_return}
use Rattle.ram_text.specs.Script.{IsForm, Reads}
use Rattle.ram_text.specs.declared.script.Line.{Line}
use Rattle.ram_text.specs.declared.script.Line.TheVariants as lines
use Rattle.ram_script.specs.declared.state.Tally.{Tally}
use Rattle.ram_machine.specs.declared.stopped.Stopped.TheVariants as stopped
use Rattle.ram_script.specs.NextLines.{IsNextLine, IsNextWithin}
use Rattle.ram_machine.specs.LineSteps.{CountsUses}
use Rattle.ram_script.specs.Progress.{Beginning, SoFar, View, IsDue, IsTallied, IsAt, Taken, IsStoppedAt, unread}

-- what follows a line that was taken from what is left
pub record Follows (left' : Option (List ℕ)) (taken taken' : ℕ) (rest raw : List ℕ) : Type 0 where
  pub next : IsNextLine rest raw
  pub left_is : left' ≡ Some next.after
  pub taken_is : taken' + length next.after ≡ taken + length rest

pub follows : (left' : Option (List ℕ)) (taken taken' : ℕ) (rest raw : List ℕ) (f f' : ℕ) → GivesLine (Some rest) left' taken taken' raw f f' → Follows left' taken taken' rest raw
follows None taken taken' rest raw f f' gives = absurd (clash gives.known)
  where
    clash : is_some {T = List ℕ} None ≡ is_some (Some rest) → ⊥
    clash e = cc
follows (Some after) taken taken' rest raw f f' gives = cases gives.ends
  where
    cases : EndsByFeed (Some rest) (Some after) taken taken' raw ⊎ EndsByScript (Some rest) (Some after) taken taken' raw → Follows (Some after) taken taken' rest raw
    cases (inl feed) = record {
      next = record { line = record { one = gives.one; short = gives.short }; after = after; parts = inl (feed.went ∙ append_assoc raw (line_feed ∷ []) after) };
      left_is = refl;
      taken_is = omega (arith, feed.grew, ap length feed.went, length-append (raw ++ line_feed ∷ []) after, length-append raw (line_feed ∷ []));
    }
    cases (inr last) = record {
      next = record { line = record { one = gives.one; short = gives.short }; after = after; parts = inr (last.went ∙ ap (λ l. raw ++ l) last.ended ∙ append-nil raw, last.some, last.ended) };
      left_is = refl;
      taken_is = omega (arith, last.grew, ap length last.went, length-append raw after);
    }

-- What the search for the next line may find after these lines, where the view was theirs; what is due stays.
module _ (first : Beginning) (far : SoFar first) (old new : View) (at : IsAt far old) (same_due : new.due ≡ old.due) (same_tally : new.tally ≡ old.tally) where
  still_due : IsDue far new.due
  still_due = subst (λ (o : Option (List ℕ)). IsDue far o) (sym same_due) at.due_is

  still_tallied : IsTallied far new.tally
  still_tallied = record { lines = ap (λ (t : Tally). t.lines) same_tally ∙ at.tallied.lines; answered = ap (λ (t : Tally). t.answered) same_tally ∙ at.tallied.answered; counts = ap (λ (t : Tally). t.counts) same_tally ∙ at.tallied.counts }

  module _ (raw : List ℕ) (f f' : ℕ) (gives : GivesLine (unread old) (unread new) old.taken new.taken raw f f') where
    abbrev on : Follows (unread new) old.taken new.taken far.rest raw
    on = follows (unread new) old.taken new.taken far.rest raw f f' (subst (λ o. GivesLine o (unread new) old.taken new.taken raw f f') at.left_is gives)

    abbrev comes : IsNextWithin first.script far.rest raw
    comes = record { next = on.next; within = omega (arith, on.taken_is, at.taken_is, gives.within) }

    pub takes_line : (line : Line) (payload : List ℕ) → Reads raw line payload → Taken far new line payload
    takes_line line payload reads = record {
      raw = raw;
      comes = comes;
      reads = reads;
      left_is = on.left_is;
      taken_is = on.taken_is ∙ at.taken_is;
      tallied = still_tallied;
      due_is = still_due;
    }

    pub stops_unread : ((line : Line) (payload : List ℕ) → ¬ Reads raw line payload) → IsStoppedAt far new (Err stopped.NotInLanguage)
    stops_unread nothing = record { due_is = still_due; last_is = (record { raw = raw; comes = comes; nothing = nothing }, ap (λ n. n + 1) still_tallied.lines); unended = tt; offered = tt; tallied = still_tallied }

-- an arm or a cut in a line that was read falls at a use from the next one on
form_uses : (words : List (List ℕ)) (line : Line) (payload : List ℕ) → IsForm words line payload → CountsUses line
form_uses words lines.Empty payload form = tt
form_uses words (lines.Press zones scale psa) payload form = tt
form_uses words lines.Power payload form = tt
form_uses words (lines.Fail block) payload form = tt
form_uses words lines.Tick payload form = tt
form_uses words (lines.Scrub all) payload form = tt
form_uses words (lines.Command cdb) payload form = tt
form_uses [] (lines.Wear block n) payload form = absurd form
form_uses (a ∷ []) (lines.Wear block n) payload form = absurd form
form_uses (a ∷ b ∷ []) (lines.Wear block n) payload form = absurd form
form_uses (a ∷ b ∷ c ∷ []) (lines.Wear block n) payload form = form.3
form_uses (a ∷ b ∷ c ∷ e ∷ []) (lines.Wear block n) payload form = absurd form
form_uses (a ∷ b ∷ c ∷ e ∷ f ∷ words) (lines.Wear block n) payload form = absurd form
form_uses [] (lines.Cut n fate) payload form = absurd form
form_uses (a ∷ []) (lines.Cut n fate) payload form = absurd form
form_uses (a ∷ b ∷ []) (lines.Cut n fate) payload form = absurd form
form_uses (a ∷ b ∷ c ∷ []) (lines.Cut n fate) payload form = form.2
form_uses (a ∷ b ∷ c ∷ e ∷ []) (lines.Cut n fate) payload form = absurd form
form_uses (a ∷ b ∷ c ∷ e ∷ f ∷ words) (lines.Cut n fate) payload form = absurd form

pub read_uses : (raw : List ℕ) (line : Line) (payload : List ℕ) → Reads raw line payload → CountsUses line
read_uses raw line payload (inl comment) = subst (λ l. CountsUses l) (sym comment.nothing) tt
read_uses raw line payload (inr other) = form_uses (words_of (without_return raw)) line payload other.form

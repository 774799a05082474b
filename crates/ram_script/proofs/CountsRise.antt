-- Counts over several steps.
use Rattle.std.specs.Prelude.{◌≡◌, ℕ, Option, Ok, Err, List}
use Rattle.std.proofs.Common.{refl, sym, ap, ◌∙◌, inl, inr, subst}
use Rattle.model_counts.specs.Counts.{Rose, counted}
use Rattle.ram_outside.specs.Sink.{FailsOnce, sink_shown}
use Rattle.ram_script.specs.declared.state.Tally.{Tally}
use Rattle.ram_machine.specs.declared.stopped.Stopped.{Stopped}
use Rattle.ram_machine.specs.declared.stopped.Stopped.TheVariants as stopped
use Rattle.ram_machine.specs.declared.status.Status.{Status}
use Rattle.ram_machine.specs.declared.status.Status.TheVariants as statuses
use Rattle.ram_machine.specs.Replies.{Outcome}
use Rattle.ram_script.specs.RunCounts.{Counts, counts_of, SameCounts, WhyCounts, StopCounts, TellCount}
use Rattle.ram_machine.specs.LineFaults.{LineCount}
use Rattle.ram_script.specs.Progress.{View, Ending, TellRule}
use Rattle.ram_script.specs.Endings.{status_of, SinkRose, StatusCounts, SinkCause, EndsWhole, FinishRule}
use Rattle.ram_script.proofs.Behind.{Behind}
use Rattle.ram_script.proofs.Finishes.{not_sink}

-- nothing failed in either of two steps
pub none_rose : (a b c : Counts) → SameCounts a b → SameCounts b c → SameCounts a c
none_rose a b c p q = record { source = q.source ∙ p.source; sink = q.sink ∙ p.sink; image = q.image ∙ p.image }

-- a run is stopped in a step after one in which nothing failed
pub why_counts : (a b c : Counts) (why : Stopped) → SameCounts a b → WhyCounts b c why → WhyCounts a c why
why_counts a b c stopped.NotInLanguage p q = none_rose a b c p q
why_counts a b c stopped.LineTooLong p q = none_rose a b c p q
why_counts a b c stopped.ScriptTooLong p q = none_rose a b c p q
why_counts a b c stopped.NotADisc p q = none_rose a b c p q
why_counts a b c stopped.SourceFault p q = record { source = subst (λ n. Rose n c.source) p.source q.source; sink = q.sink ∙ p.sink; image = q.image ∙ p.image }
why_counts a b c stopped.SinkFault p q = record { source = q.source ∙ p.source; sink = subst (λ n. FailsOnce n c.sink) p.sink q.sink; image = q.image ∙ p.image }
why_counts a b c stopped.ImageFault p q = record { source = q.source ∙ p.source; sink = q.sink ∙ p.sink; image = subst (λ n. Rose n c.image) p.image q.image }

-- the counts of a line that came out so, and whose outcome was told
module _ (source sink sink' image image' : ℕ) (old new : View) (data_in : List ℕ) where
  pub line_counts : (outcome : Outcome) (result : Ending) → LineCount image image' outcome → TellCount sink sink' outcome result → TellRule old new data_in outcome result
      → StopCounts (counts_of source sink image) (counts_of source sink' image') result
  line_counts (Ok reply) (Ok done) line count rule = record { source = refl; sink = count; image = line }
  line_counts (Ok reply) (Err stopped.SinkFault) line count rule = record { source = refl; sink = count; image = line }
  line_counts (Ok reply) (Err stopped.NotInLanguage) line count rule = absurd rule
  line_counts (Ok reply) (Err stopped.LineTooLong) line count rule = absurd rule
  line_counts (Ok reply) (Err stopped.ScriptTooLong) line count rule = absurd rule
  line_counts (Ok reply) (Err stopped.NotADisc) line count rule = absurd rule
  line_counts (Ok reply) (Err stopped.SourceFault) line count rule = absurd rule
  line_counts (Ok reply) (Err stopped.ImageFault) line count rule = absurd rule
  line_counts (Err why) result line count rule = subst (StopCounts (counts_of source sink image) (counts_of source sink' image')) (sym rule.0) (by_why why line)
    where
      by_why : (stop : Stopped) → LineCount image image' (Err stop) → WhyCounts (counts_of source sink image) (counts_of source sink' image') stop
      by_why stopped.NotADisc is = record { source = refl; sink = count; image = is }
      by_why stopped.ImageFault is = record { source = refl; sink = count; image = is }
      by_why stopped.NotInLanguage is = absurd is
      by_why stopped.LineTooLong is = absurd is
      by_why stopped.ScriptTooLong is = absurd is
      by_why stopped.SourceFault is = absurd is
      by_why stopped.SinkFault is = absurd is

-- the counts after a report was ended, by the status that is told
module _ (source source' sink sink' sink'' image image' : ℕ) (due before written : Option (List ℕ)) (refused refused' : Option ℕ) (tally : Tally) where
  -- the sink failed in the end, and not before
  once : sink' ≡ sink → FailsOnce sink' sink'' → FailsOnce sink sink''
  once same fails = fails ∙ ap (λ n. counted n 1) same

  -- what had stopped the lines failed, and the sink; nothing else
  pub behind : (ending : Ending) → StopCounts (counts_of source sink image) (counts_of source' sink' image') ending → SinkCause due (sink_shown before refused sink') (sink_shown written refused' sink'') ending
      → Behind (counts_of source sink image) (counts_of source' sink'' image') ending
  behind (Ok done) c cause = record { source = c.source; sink = once c.sink cause.count; image = c.image }
  behind (Err stopped.NotInLanguage) c cause = record { source = c.source; sink = once c.sink cause.count; image = c.image }
  behind (Err stopped.LineTooLong) c cause = record { source = c.source; sink = once c.sink cause.count; image = c.image }
  behind (Err stopped.ScriptTooLong) c cause = record { source = c.source; sink = once c.sink cause.count; image = c.image }
  behind (Err stopped.NotADisc) c cause = record { source = c.source; sink = once c.sink cause.count; image = c.image }
  behind (Err stopped.SinkFault) c cause = record { source = c.source; sink = cause.count ∙ c.sink; image = c.image }
  behind (Err stopped.SourceFault) c cause = record { source = c.source; sink = once c.sink cause.count; image = c.image }
  behind (Err stopped.ImageFault) c cause = record { source = c.source; sink = once c.sink cause.count; image = c.image }

  -- so at most one of source and image failed
  at_most_one : (ending : Ending) → Behind (counts_of source sink image) (counts_of source' sink'' image') ending → SinkRose (counts_of source sink image) (counts_of source' sink'' image')
  at_most_one (Ok done) b = inl b
  at_most_one (Err stopped.NotInLanguage) b = inl b
  at_most_one (Err stopped.LineTooLong) b = inl b
  at_most_one (Err stopped.ScriptTooLong) b = inl b
  at_most_one (Err stopped.NotADisc) b = inl b
  at_most_one (Err stopped.SinkFault) b = inl b
  at_most_one (Err stopped.SourceFault) b = inr (inl b)
  at_most_one (Err stopped.ImageFault) b = inr (inr b)

  -- the status tells how the lines ended, and the sink did not fail in the end
  by_ending : (ending : Ending) → (ending ≡ Err stopped.SinkFault → ⊥) → StopCounts (counts_of source sink image) (counts_of source' sink' image') ending → sink'' ≡ sink'
      → StatusCounts (counts_of source sink image) (counts_of source' sink'' image') (status_of ending)
  by_ending (Ok done) other c same = record { source = c.source; sink = same ∙ c.sink; image = c.image }
  by_ending (Err stopped.NotInLanguage) other c same = record { source = c.source; sink = same ∙ c.sink; image = c.image }
  by_ending (Err stopped.LineTooLong) other c same = record { source = c.source; sink = same ∙ c.sink; image = c.image }
  by_ending (Err stopped.ScriptTooLong) other c same = record { source = c.source; sink = same ∙ c.sink; image = c.image }
  by_ending (Err stopped.NotADisc) other c same = record { source = c.source; sink = same ∙ c.sink; image = c.image }
  by_ending (Err stopped.SourceFault) other c same = record { source = c.source; sink = same ∙ c.sink; image = c.image }
  by_ending (Err stopped.ImageFault) other c same = record { source = c.source; sink = same ∙ c.sink; image = c.image }
  by_ending (Err stopped.SinkFault) other c same = absurd (other refl)

  by_status : (ending : Ending) (status : Status) → (statuses.SinkFault ≡ status → ⊥) → StopCounts (counts_of source sink image) (counts_of source' sink' image') ending
      → EndsWhole due (sink_shown before refused sink') (sink_shown written refused' sink'') tally ending status → StatusCounts (counts_of source sink image) (counts_of source' sink'' image') status
  by_status ending status other c rule =
      subst (StatusCounts (counts_of source sink image) (counts_of source' sink'' image')) (sym rule.status_is)
      (by_ending ending (λ is. not_sink ending status rule.status_is is other) c rule.count)

  pub status_counts : (ending : Ending) (status : Status) → StopCounts (counts_of source sink image) (counts_of source' sink' image') ending
      → FinishRule due (sink_shown before refused sink') (sink_shown written refused' sink'') tally ending status → StatusCounts (counts_of source sink image) (counts_of source' sink'' image') status
  status_counts ending statuses.Differs c rule = absurd rule
  status_counts ending statuses.Usage c rule = absurd rule
  status_counts ending statuses.SinkFault c rule = at_most_one ending (behind ending c rule.cause)
  status_counts ending statuses.Done c rule = by_status ending statuses.Done (λ x. cc) c rule
  status_counts ending statuses.Script c rule = by_status ending statuses.Script (λ x. cc) c rule
  status_counts ending statuses.ImageFault c rule = by_status ending statuses.ImageFault (λ x. cc) c rule
  status_counts ending statuses.SourceFault c rule = by_status ending statuses.SourceFault (λ x. cc) c rule
  status_counts ending statuses.NoMemory c rule = by_status ending statuses.NoMemory (λ x. cc) c rule
  status_counts ending statuses.NotADisc c rule = by_status ending statuses.NotADisc (λ x. cc) c rule

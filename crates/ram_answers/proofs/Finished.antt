-- How a script ends: what answered its lines, and what was then written.
use Rattle.std.specs.Prelude.{◌≡◌, ℕ, ◌+◌, ◌≤◌, ◌⊎◌, true, Option, None, Some, IfSome, is_some, Ok, Err, List, [], ◌∷◌, ◌++◌, length}
use Rattle.std.specs.Io.KnownBytes.{append_known, prepend_known}
use Rattle.std.proofs.Common.{arith, refl, sym, ap, ◌∙◌, inl, inr, subst, append_assoc, append-nil}
use Rattle.ram_report.specs.ReportLines.{last_text}
use Rattle.ram_report.specs.declared.printing.LastLine.{LastLine}
use Rattle.ram_report.specs.declared.printing.LastLine.TheVariants as lasts
use Rattle.ram_outside.specs.Sink.{SinkShown, length_with}
use Rattle.ram_outside.specs.declared.sink.Sink.{Ghosts as Sinks}
use Rattle.ram_outside.specs.declared.conversation.Conversation.{Ghosts as Conversations}
use Rattle.ram_text.specs.Dialogue.{dialogue_room, gathered_of, sink_of, talk_of}
use Rattle.ram_text.specs.DialogueRoom.{IsEmptyRoom}
use Rattle.ram_text.specs.declared.dialogue.Dialogue.{Dialogue}
use Rattle.ram_machine.specs.declared.stopped.Stopped.{Stopped}
use Rattle.ram_machine.specs.declared.stopped.Stopped.TheVariants as stopped
use Rattle.ram_machine.specs.declared.status.Status.{Status}
use Rattle.ram_machine.specs.declared.status.Status.TheVariants as statuses
use Rattle.ram_script.specs.declared.state.Tally.{Tally}
use Rattle.ram_script.specs.Progress.{View, Ending, run_view}
use Rattle.ram_script.specs.RunCounts.{Counts, OnlySinkRose}
use Rattle.ram_script.specs.Endings.{status_of, last_of, IsNearlyWritten, FailsInTheEnd, SinkCause, EndsWhole, FinishRule}
use Rattle.ram_script.proofs.Behind.{Behind}
use Rattle.ram_script.proofs.Finishes.{not_sink, where_known}
use Rattle.ram_answers.specs.declared.answers.Answers.{Ghosts as Answerers}
use Rattle.ram_answers.specs.Texts.{AnsweredText, told_text, told_before}
use Rattle.ram_answers.specs.TextRuns.{TextBeginning, IsTextStep, TextRun, ToldSoFar}
use Rattle.ram_answers.specs.TextEnds.{IsToldDue, IsToldOffered, EndsBetweenTexts, EndsAtLine, BetweenTexts, TextsEnd}
use Rattle.ram_answers.specs.StateRuns.{StateRun}
use Rattle.ram_answers.specs.Reports.{Heard, RunSoFar, StopsAtLine, answers_text, IsLastLine, IsToldWhole, EndsAtSource, IsToldInPart, EndsQuietly, FailedBefore, IsCutAtSink}
use Rattle.ram_answers.specs.Telling.{heard_in, StopsAnswering, HearsBeginning, TextsToldWith}
use Rattle.ram_answers.proofs.Endings.{before_within, told_due}

-- a list that is told with more behind it
known_prefix : (written : Option (List ℕ)) (more whole : List ℕ) → append_known written more ≡ Some whole → (bytes : List ℕ) × (written ≡ Some bytes) × (bytes ++ more ≡ whole)
known_prefix None more whole e = absurd (let clash : Some whole ≡ None = sym e in cc)
known_prefix (Some bytes) more whole e = (bytes, refl, (let same : Some (bytes ++ more) ≡ Some whole = e in cc))

-- nothing is gathered, so what was written is due
nothing_gathered : (written : Option (List ℕ)) (gathered report : List ℕ) → gathered ≡ [] → IfSome written (λ text. text ≡ report) → IfSome (append_known written gathered) (λ text. text ≡ report ++ [])
nothing_gathered None gathered report none is = tt
nothing_gathered (Some text) gathered report none is = ap (λ (l : List ℕ). text ++ l) none ∙ ap (λ (l : List ℕ). l ++ []) is

-- all that was due was offered, and it is this text
offered_all : (due : Option (List ℕ)) (refused : Option ℕ) (more slack : ℕ) (text : List ℕ) → IfSome due (λ bytes. bytes ≡ text) → refused ≡ length_with due more → IfSome refused (λ n. length text ≤ n + slack)
offered_all due refused more slack text known is = subst (λ (o : Option ℕ). IfSome o (λ n. length text ≤ n + slack)) (sym is) (by_due due known)
  where
    by_due : (o : Option (List ℕ)) → IfSome o (λ bytes. bytes ≡ text) → IfSome (length_with o more) (λ n. length text ≤ n + slack)
    by_due None known = tt
    by_due (Some bytes) known = omega (arith, ap length known)

module _ {A R : Type 0} (these : Answerers A R) where
  -- the lines begin with nothing read and nothing gathered
  pub begins_texts : {T K : Type 0} (talks : Conversations T K) (sinks : Sinks K) (first : TextBeginning A) (start : A) (dialogue : Dialogue T K) (tally : Tally) → IsEmptyRoom (dialogue_room dialogue)
      → tally.lines ≡ 0 → tally.answered ≡ 0 → HearsBeginning these first (heard_in talks sinks dialogue) start → BetweenTexts these first start (run_view talks sinks dialogue tally)
  begins_texts talks sinks first start dialogue tally empty lines answered begins = record {
    far = record { events = []; rest = first.script; run = begins.start_is; lines = inl refl; within = omega arith };
    at = record {
      left_is = ap (λ l. prepend_known l (talks.left (talk_of dialogue))) empty.buffered ∙ ap (prepend_known []) begins.left_is;
      taken_is = ap (λ n. n + length first.script) empty.taken ∙ omega arith;
      tallied = record { lines = lines; answered = answered };
      due_is = nothing_gathered (sinks.written (sink_of talks dialogue)) (gathered_of dialogue) first.report empty.gathered (where_known (sinks.written (sink_of talks dialogue)) first.report begins.written_is);
    };
  }

  module _ (first : TextBeginning A) where
    abbrev Begins : A → Type 0
    Begins start = start ≡ first.start

    abbrev Steps : A → ℕ → AnsweredText → A → Type 0
    Steps before number event after = IsTextStep these before number event after

    abbrev Stops : A → List ℕ → Stopped → A → Type 0
    Stops = StopsAnswering these

    abbrev Far : Type 0
    Far = RunSoFar Begins Steps Stops first.script first.report

    -- a run of what answers the lines, as one of states
    as_run : (now : A) (events : List AnsweredText) → TextRun these first.start events now → StateRun Steps first.start events now
    as_run now [] run = run
    as_run now (event ∷ events) run = (run.0, as_run run.0 events run.1, run.2)

    abbrev as_far : (now : A) → ToldSoFar these first now → Far
    as_far now far = record {
      start = first.start;
      begins = refl;
      events = far.events;
      now = now;
      run = as_run now far.events far.run;
      rest = far.rest;
      lines = far.lines;
      within = far.within;
    }

    -- the answers, or the answers and a last line that tells why the lines end
    abbrev IsText : Far → List ℕ → Type 0
    IsText far text = (text ≡ answers_text Begins Steps Stops first.script first.report far)
        ⊎ ((last : LastLine) × (after : A) × IsLastLine Begins Steps Stops first.script first.report far last after × (text ≡ answers_text Begins Steps Stops first.script first.report far ++ last_text last))

    module _ (after : A) (view : View) (known : is_some view.due ≡ true) (old new : SinkShown) (seen : old.refused ≡ view.refused) (counts counts' : Counts) where
      abbrev heard : Heard
      heard = record { left = view.left; written = new.written; refused = new.refused }

      -- the next line is not answered, and ends the run
      abbrev at_line : (why : Stopped) (e : EndsAtLine these first after view why) → StopsAtLine Begins Steps Stops first.script first.report (as_far e.before e.far) why after
      at_line why e = record { raw = e.raw; comes = e.comes; stops = e.answered }

      -- the source failed after the lines
      at_source : (e : EndsBetweenTexts these first after view (Err stopped.SourceFault)) → EndsAtSource Begins Steps Stops first.script first.report (as_far after e.far) heard after
      at_source e = record { after_is = refl; given = view.buffered; unended = e.ends.there.0; rest_is = e.ends.there.1 }

      module _ (now : A) (far : ToldSoFar these first now) where
        -- a part of what was due was written
        in_part : (due extra more rest : List ℕ) → view.due ≡ Some due → IsNearlyWritten view.due new.written → append_known new.written more ≡ append_known view.due extra → IsText (as_far now far) ((due ++ extra) ++ rest)
            → length (first.report ++ told_text (told_before far.events)) ≤ length due → IsToldOffered these far new.refused → IsToldInPart Begins Steps Stops first.script first.report (as_far now far) heard
        in_part due extra more rest due_is nearly prefix text before offered =
            let found = known_prefix new.written more (due ++ extra) (prefix ∙ ap (λ o. append_known o extra) due_is) in
            record {
              bytes = found.0;
              more = more ++ rest;
              written_is = found.1;
              prefix = subst (IsText (as_far now far)) (sym (sym (append_assoc found.0 more rest) ∙ ap (λ (l : List ℕ). l ++ rest) found.2)) text;
              nearly = omega (arith, nearly due found.0 due_is found.1, before);
              offered = offered;
            }

        module _ (due_is : IsToldDue these far view.due) where
          -- what is due is the answers
          due_told : view.due ≡ Some (first.report ++ told_text far.events)
          due_told = told_due view.due (first.report ++ told_text far.events) known due_is

          -- all was written, and there is a last line
          told_whole : (last : LastLine) → IsLastLine Begins Steps Stops first.script first.report (as_far now far) last after → new.written ≡ append_known view.due (last_text last)
              → IsToldWhole Begins Steps Stops first.script first.report heard after last
          told_whole last is whole = record { far = as_far now far; last_is = is; written_is = whole ∙ ap (λ o. append_known o (last_text last)) due_told }

          -- all was written, and there is no last line
          told_alone : new.written ≡ append_known view.due [] → new.written ≡ Some (first.report ++ told_text far.events)
          told_alone whole = whole ∙ ap (λ o. append_known o []) due_told ∙ ap Some (append-nil (first.report ++ told_text far.events))

          -- the sink failed in the end
          cut_in : (extra more : List ℕ) → IsNearlyWritten view.due new.written → append_known new.written more ≡ append_known view.due extra → FailsInTheEnd view.due old new
              → IsText (as_far now far) (((first.report ++ told_text far.events) ++ extra) ++ []) → FailedBefore Begins Steps Stops first.script first.report (as_far now far) heard after counts counts'
              → IsCutAtSink Begins Steps Stops first.script first.report heard after counts counts'
          cut_in extra more nearly prefix fails text behind = record {
            far = as_far now far;
            told = in_part (first.report ++ told_text far.events) extra more [] due_told nearly prefix text (before_within first.report far.events)
                (offered_all view.due new.refused fails.more _ (first.report ++ told_text far.events) due_is fails.refused_is);
            behind = behind;
          }

          -- the same where there is a last line
          cut_at_last : (last : LastLine) (more : List ℕ) → IsLastLine Begins Steps Stops first.script first.report (as_far now far) last after → IsNearlyWritten view.due new.written
              → append_known new.written more ≡ append_known view.due (last_text last) → FailsInTheEnd view.due old new → OnlySinkRose counts counts'
              → EndsQuietly Begins Steps Stops first.script first.report (as_far now far) after → IsCutAtSink Begins Steps Stops first.script first.report heard after counts counts'
          cut_at_last last more is nearly prefix fails alone quiet =
              cut_in (last_text last) more nearly prefix fails (inr (last, after, is, append-nil ((first.report ++ told_text far.events) ++ last_text last))) (inl (alone, quiet))

          -- the same where there is none
          cut_alone : (more : List ℕ) → IsNearlyWritten view.due new.written → append_known new.written more ≡ append_known view.due [] → FailsInTheEnd view.due old new
              → FailedBefore Begins Steps Stops first.script first.report (as_far now far) heard after counts counts' → IsCutAtSink Begins Steps Stops first.script first.report heard after counts counts'
          cut_alone more nearly prefix fails behind =
              cut_in [] more nearly prefix fails (inl (append-nil ((first.report ++ told_text far.events) ++ []) ∙ append-nil (first.report ++ told_text far.events))) behind

      -- the sink failed in the end, whatever the lines ended by
      at_sink : (ending : Ending) (more : List ℕ) → TextsEnd these first after view ending → append_known new.written more ≡ append_known view.due (last_of view.tally ending) → IsNearlyWritten view.due new.written
          → SinkCause view.due old new ending → Behind counts counts' ending → IsCutAtSink Begins Steps Stops first.script first.report heard after counts counts'
      at_sink (Ok done) more e prefix nearly fails behind =
          cut_at_last after e.far e.ends.due_is (lasts.End view.tally.answered) more (e.ends.there, e.ends.tallied.answered, refl) nearly prefix fails behind (inl refl)
      at_sink (Err stopped.NotInLanguage) more e prefix nearly fails behind =
          cut_at_last e.before e.far e.due_is (lasts.NotInLanguage (view.tally.lines + 1)) more (at_line stopped.NotInLanguage e, ap (λ n. n + 1) e.tallied.lines) nearly prefix fails behind (inr (inl (at_line stopped.NotInLanguage e)))
      at_sink (Err stopped.LineTooLong) more e prefix nearly fails behind =
          cut_at_last after e.far e.ends.due_is (lasts.LineTooLong (view.tally.lines + 1)) more (e.ends.there, ap (λ n. n + 1) e.ends.tallied.lines, refl) nearly prefix fails behind (inl refl)
      at_sink (Err stopped.ScriptTooLong) more e prefix nearly fails behind =
          cut_at_last after e.far e.ends.due_is lasts.ScriptTooLong more (e.ends.there, refl) nearly prefix fails behind (inl refl)
      at_sink (Err stopped.NotADisc) more e prefix nearly fails behind =
          cut_at_last e.before e.far e.due_is (lasts.NotADisc (view.tally.lines + 1)) more (at_line stopped.NotADisc e, ap (λ n. n + 1) e.tallied.lines) nearly prefix fails behind (inr (inr (at_line stopped.NotADisc e)))
      at_sink (Err stopped.SourceFault) more e prefix nearly fails behind = cut_alone after e.far e.ends.due_is more nearly prefix fails (inr (inl (behind, at_source e)))
      at_sink (Err stopped.SinkFault) more e prefix nearly had behind = record {
        far = as_far after e.far;
        told = in_part after e.far e.written [] more e.more (told_due view.due e.written known e.due_is) nearly prefix (inl (ap (λ (l : List ℕ). l ++ e.more) (append-nil e.written) ∙ e.prefix)) e.before
            (subst (IsToldOffered these e.far) (sym (had.refused ∙ seen)) e.offered);
        behind = inl (behind, inl refl);
      }
      at_sink (Err stopped.ImageFault) more e prefix nearly fails behind = cut_alone e.before e.far e.due_is more nearly prefix fails (inr (inr (behind, at_line stopped.ImageFault e)))

      -- all was written, and the status tells how the lines ended
      at_end : (ending : Ending) → TextsEnd these first after view ending → (ending ≡ Err stopped.SinkFault → ⊥) → new.written ≡ append_known view.due (last_of view.tally ending) → TextsToldWith these first heard after counts counts' (status_of ending)
      at_end (Ok done) e other whole = (view.tally.answered, told_whole after e.far e.ends.due_is (lasts.End view.tally.answered) (e.ends.there, e.ends.tallied.answered, refl) whole)
      at_end (Err stopped.NotInLanguage) e other whole =
          (lasts.NotInLanguage (view.tally.lines + 1), tt, told_whole e.before e.far e.due_is (lasts.NotInLanguage (view.tally.lines + 1)) (at_line stopped.NotInLanguage e, ap (λ n. n + 1) e.tallied.lines) whole)
      at_end (Err stopped.LineTooLong) e other whole =
          (lasts.LineTooLong (view.tally.lines + 1), tt, told_whole after e.far e.ends.due_is (lasts.LineTooLong (view.tally.lines + 1)) (e.ends.there, ap (λ n. n + 1) e.ends.tallied.lines, refl) whole)
      at_end (Err stopped.ScriptTooLong) e other whole = (lasts.ScriptTooLong, tt, told_whole after e.far e.ends.due_is lasts.ScriptTooLong (e.ends.there, refl) whole)
      at_end (Err stopped.NotADisc) e other whole =
          (view.tally.lines + 1, told_whole e.before e.far e.due_is (lasts.NotADisc (view.tally.lines + 1)) (at_line stopped.NotADisc e, ap (λ n. n + 1) e.tallied.lines) whole)
      at_end (Err stopped.SourceFault) e other whole = record { far = as_far after e.far; written_is = told_alone after e.far e.ends.due_is whole; cut = at_source e }
      at_end (Err stopped.SinkFault) e other whole = absurd (other refl)
      at_end (Err stopped.ImageFault) e other whole = record { far = as_far e.before e.far; written_is = told_alone e.before e.far e.due_is whole; line = at_line stopped.ImageFault e }

      module _ (ending : Ending) (behind : SinkCause view.due old new ending → Behind counts counts' ending) where
        by_status : (status : Status) → (statuses.SinkFault ≡ status → ⊥) → TextsEnd these first after view ending → EndsWhole view.due old new view.tally ending status → TextsToldWith these first heard after counts counts' status
        by_status status other e rule =
            subst (TextsToldWith these first heard after counts counts') (sym rule.status_is) (at_end ending e (λ is. not_sink ending status rule.status_is is other) rule.whole)

        -- what answered the lines and what was written, by the status that is told
        pub told_by : (status : Status) → TextsEnd these first after view ending → FinishRule view.due old new view.tally ending status → TextsToldWith these first heard after counts counts' status
        told_by statuses.Differs e rule = absurd rule
        told_by statuses.Usage e rule = absurd rule
        told_by statuses.SinkFault e rule = at_sink ending rule.more e rule.prefix rule.nearly rule.cause (behind rule.cause)
        told_by statuses.Done e rule = by_status statuses.Done (λ x. cc) e rule
        told_by statuses.Script e rule = by_status statuses.Script (λ x. cc) e rule
        told_by statuses.ImageFault e rule = by_status statuses.ImageFault (λ x. cc) e rule
        told_by statuses.SourceFault e rule = by_status statuses.SourceFault (λ x. cc) e rule
        told_by statuses.NoMemory e rule = by_status statuses.NoMemory (λ x. cc) e rule
        told_by statuses.NotADisc e rule = by_status statuses.NotADisc (λ x. cc) e rule

-- How a run ends: what its lines left, and what was then written.
use Rattle.std.specs.Prelude.{◌≡◌, ℕ, ◌+◌, ◌≤◌, true, Option, None, Some, IfSome, is_some, Ok, Err, List, [], ◌++◌, length, take, drop}
use Rattle.std.specs.Io.KnownBytes.{append_known, prepend_known}
use Rattle.std.proofs.Common.{arith, refl, sym, ap, ◌∙◌, inl, inr, subst, append_assoc, append-nil, length-append, take-append-drop}
use Rattle.std.proofs.lemmas.Bool.{false≢true}
use Rattle.model_geometry.specs.declared.kinds.LayoutKind.{LayoutKind}
use Rattle.ram_report.proofs.Puts.{append_known-twice, length_with-append}
use Rattle.ram_report.specs.ReportLines.{last_text}
use Rattle.ram_report.specs.Writer.{IsCutShort}
use Rattle.ram_text.specs.Dialogue.{dialogue_room, gathered_of, sink_of, talk_of}
use Rattle.ram_text.specs.DialogueRoom.{IsEmptyRoom}
use Rattle.ram_text.specs.declared.dialogue.Dialogue.{Dialogue}
use Rattle.ram_report.specs.declared.gathered.TheConstants.{GATHERED_ROOM}
use Rattle.ram_outside.specs.declared.sink.Sink.{Ghosts as Sinks}
use Rattle.ram_outside.specs.declared.conversation.Conversation.{Ghosts as Conversations}
use Rattle.model_counts.specs.Counts.{counted}
use Rattle.ram_outside.specs.Sink.{FailsOnce, SinkShown, length_with, sink_shown}
use Rattle.ram_report.specs.declared.gathered.Print.TheVariants as prints
use Rattle.ram_report.specs.declared.printing.LastLine.{LastLine}
use Rattle.ram_report.specs.declared.printing.LastLine.TheVariants as lasts
use Rattle.ram_script.specs.declared.state.RunState.{RunState}
use Rattle.ram_script.specs.declared.state.Tally.{Tally}
use Rattle.ram_machine.specs.declared.stopped.Stopped.{Stopped}
use Rattle.ram_machine.specs.declared.stopped.Stopped.TheVariants as stopped
use Rattle.ram_machine.specs.declared.status.Status.{Status}
use Rattle.ram_machine.specs.declared.status.Status.TheVariants as statuses
use Rattle.ram_machine.specs.Replies.{Outcome}
use Rattle.ram_machine.specs.States.{State}
use Rattle.ram_machine.specs.Inserted.{LeavesImage}
use Rattle.ram_script.specs.Answered.{report_text}
use Rattle.ram_machine.specs.Starts.{StandsFirst}
use Rattle.ram_script.specs.RunState.{IsFresh}
use Rattle.ram_script.specs.Progress.{Beginning, SoFar, IsOffered, View, Between, IsReported, IsDue, IsDueInPart, ComesOut, IsLast, Ending, last_line, IsLastIfAny, EndsBetween, EndsInLine, Ends, due_before, run_view}
use Rattle.ram_script.specs.Endings.{status_of, whole_text, text_if_any, last_of, LastLineRule, IsEnded, ComesToThis, IsStoppedInLine, IsWrittenInPart, IsReportCutOff, IsCutBySource, IsNearlyWritten, StandsWith, aftermath, FailsInTheEnd, SinkCause, EndsAtSink, EndsWhole, FinishRule}
use Rattle.ram_script.specs.RunCounts.{Counts, OnlySinkRose}
use Rattle.ram_script.proofs.Behind.{Behind}
use Rattle.ram_script.proofs.Offered.{offered_due}
use Rattle.ram_script.proofs.Turns.{before_within}

-- a list that is told with more behind it
known_prefix : (written : Option (List ℕ)) (more whole : List ℕ) → append_known written more ≡ Some whole → (bytes : List ℕ) × (written ≡ Some bytes) × (bytes ++ more ≡ whole)
known_prefix None more whole e = absurd (let clash : Some whole ≡ None = sym e in cc)
known_prefix (Some bytes) more whole e = (bytes, refl, (let same : Some (bytes ++ more) ≡ Some whole = e in cc))

-- what is due was told, and more behind it
with_where_known : (due : Option (List ℕ)) (report answers last : List ℕ) → due ≡ Some (report ++ answers) → append_known due last ≡ Some (report ++ (answers ++ last))
with_where_known due report answers last known = ap (λ o. append_known o last) known ∙ ap Some (append_assoc report answers last)

-- nothing more is due
append_known-nil : (o : Option (List ℕ)) → append_known o [] ≡ o
append_known-nil None = refl
append_known-nil (Some bytes) = ap Some (append-nil bytes)

-- what is due is known, so it is the answers so far
pub told : {first : Beginning} (far : SoFar first) (due : Option (List ℕ)) → is_some due ≡ true → IsDue far due → IsReported far due
told far None known is = absurd (false≢true known)
told far (Some text) known is = ap Some is

-- the same of the beginning of it
told_in_part : {first : Beginning} (far : SoFar first) (due : Option (List ℕ)) → is_some due ≡ true → (part : IsDueInPart far due) → due ≡ Some part.written
told_in_part far None known part = absurd (false≢true known)
told_in_part far (Some text) known part = ap Some part.due_is

-- where something was written that is known, what is due then is known
pub due_known : (written : Option (List ℕ)) (gathered report : List ℕ) → written ≡ Some report → is_some (append_known written gathered) ≡ true
due_known None gathered report is = absurd (let clash : Some report ≡ None = sym is in cc)
due_known (Some bytes) gathered report is = refl

module _ (first : Beginning) (far : SoFar first) (due written : Option (List ℕ)) where
  -- the answers alone were written
  written_as_due : IsReported far due → written ≡ append_known due [] → IsReported far written
  written_as_due known whole = whole ∙ append_known-nil due ∙ known

  -- of what was due before the newest line at most one piece is missing
  nearly_before : IsNearlyWritten due written → IsReported far due → (bytes : List ℕ) → written ≡ Some bytes → due_before far ≤ length bytes + GATHERED_ROOM
  nearly_before nearly known bytes is =
      omega (arith, nearly (first.report ++ report_text far.events) bytes known is, before_within first.report far.events)

  -- the sink was offered the answers
  module _ (refused : Option ℕ) (offered : IsOffered far refused) where
    -- a prefix of the answers and a last line was written
    prefix_with_last : IsNearlyWritten due written → (more : List ℕ) (last : LastLine) → IsReported far due → IsLast far last → append_known written more ≡ append_known due (last_text last) → IsWrittenInPart far written refused
    prefix_with_last nearly more last known is prefix =
        let found = known_prefix written more (whole_text far last) (prefix ∙ with_where_known due first.report (report_text far.events) (last_text last) known) in
        record { bytes = found.0; more = more; written_is = found.1; prefix = inr (last, is, found.2); nearly = nearly_before nearly known found.0 found.1; offered = offered }

    -- a prefix of the answers was written
    prefix_of_due : IsNearlyWritten due written → (more : List ℕ) → IsReported far due → append_known written more ≡ append_known due [] → IsWrittenInPart far written refused
    prefix_of_due nearly more known prefix =
        let found = known_prefix written more (first.report ++ report_text far.events) (prefix ∙ append_known-nil due ∙ known) in
        record { bytes = found.0; more = more; written_is = found.1; prefix = inl found.2; nearly = nearly_before nearly known found.0 found.1; offered = offered }

    -- a prefix of a front was written
    prefix_of_prefix : IsNearlyWritten due written → (more : List ℕ) → is_some due ≡ true → IsDueInPart far due → append_known written more ≡ append_known due [] → IsWrittenInPart far written refused
    prefix_of_prefix nearly more known part prefix =
        let due_is = told_in_part far due known part in
        let found = known_prefix written more part.written (prefix ∙ append_known-nil due ∙ due_is) in
        record {
          bytes = found.0;
          more = more ++ part.more;
          written_is = found.1;
          prefix = inl (sym (append_assoc found.0 more part.more) ∙ ap (λ l. l ++ part.more) found.2 ∙ part.prefix);
          nearly = omega (arith, nearly part.written found.0 due_is found.1, part.before);
          offered = offered;
        }

    -- a prefix of the answers and of a last line, if there is one
    prefix_with_any : IsNearlyWritten due written → (more : List ℕ) (last : Option LastLine) → IsReported far due → IsLastIfAny far last → append_known written more ≡ append_known due (text_if_any last) → IsWrittenInPart far written refused
    prefix_with_any nearly more None known is prefix = prefix_of_due nearly more known prefix
    prefix_with_any nearly more (Some last) known is prefix = prefix_with_last nearly more last known is prefix

-- a status that is not the sink's is told of another ending
pub not_sink : (ending : Ending) (status : Status) → status ≡ status_of ending → ending ≡ Err stopped.SinkFault → (statuses.SinkFault ≡ status → ⊥) → ⊥
not_sink ending status is sink other = other (sym (is ∙ ap status_of sink))

-- nothing is gathered, so what was written is due
nothing_gathered : (written : Option (List ℕ)) (gathered report : List ℕ) → gathered ≡ [] → IfSome written (λ text. text ≡ report) → IfSome (append_known written gathered) (λ text. text ≡ report ++ [])
nothing_gathered None gathered report none is = tt
nothing_gathered (Some text) gathered report none is = ap (λ (l : List ℕ). text ++ l) none ∙ ap (λ (l : List ℕ). l ++ []) is

-- what is known of what was written
pub where_known : (written : Option (List ℕ)) (report : List ℕ) → written ≡ Some report → IfSome written (λ text. text ≡ report)
where_known written report is = subst (λ (o : Option (List ℕ)). IfSome o (λ text. text ≡ report)) (sym is) refl

-- the lines begin with nothing read and nothing gathered
pub begins : {T K : Type 0} (talks : Conversations T K) (sinks : Sinks K) (first : Beginning) (kind : LayoutKind) (stands : State → Type 0) (dialogue : Dialogue T K) (state : RunState) → first.kind ≡ kind → IsFresh state → IsEmptyRoom (dialogue_room dialogue)
    → talks.left (talk_of dialogue) ≡ Some first.script → IfSome (sinks.written (sink_of talks dialogue)) (λ text. text ≡ first.report)
    → StandsFirst kind first.image stands → Between first stands (run_view talks sinks dialogue state.tally)
begins talks sinks first kind stands dialogue state same fresh empty left_is written_is start = record {
  far = record { start = start.state; events = []; now = start.state; rest = first.script; starts = start.first; kind_is = start.kind_is ∙ sym same; run = refl; lines = inl refl; within = omega arith };
  stands_now = start.stands_first;
  at = record {
    left_is = ap (λ l. prepend_known l (talks.left (talk_of dialogue))) empty.buffered ∙ ap (prepend_known []) left_is;
    taken_is = ap (λ n. n + length first.script) empty.taken ∙ omega arith;
    tallied = record { lines = ap (λ (t : Tally). t.lines) fresh.tally; answered = ap (λ (t : Tally). t.answered) fresh.tally; counts = ap (λ (t : Tally). t.counts) fresh.tally };
    due_is = nothing_gathered (sinks.written (sink_of talks dialogue)) (gathered_of dialogue) first.report empty.gathered written_is;
  };
}

-- little is gathered, so little of what is due is not written
nearly_by : (due written : Option (List ℕ)) (gathered extra : List ℕ) → length gathered ≤ GATHERED_ROOM → append_known written gathered ≡ append_known due extra → IsNearlyWritten due written
nearly_by due written gathered extra few same text bytes due_is written_is =
    let known : Some (bytes ++ gathered) ≡ Some (text ++ extra) = sym (ap (λ o. append_known o gathered) written_is) ∙ same ∙ ap (λ o. append_known o extra) due_is in
    let parts : bytes ++ gathered ≡ text ++ extra = cc in
    omega (arith, few, ap length parts, length-append bytes gathered, length-append text extra)

-- the sink failed at the last line
at_last_line : (due due' written : Option (List ℕ)) (gathered text : List ℕ) → due' ≡ append_known written gathered → (n : ℕ) → due' ≡ append_known due (take n text)
    → append_known written (gathered ++ drop n text) ≡ append_known due text
at_last_line due due' written gathered text is n grew =
    sym (append_known-twice written gathered (drop n text)) ∙ ap (λ o. append_known o (drop n text)) (sym is ∙ grew) ∙ append_known-twice due (take n text) (drop n text) ∙ ap (append_known due) (take-append-drop n text)

-- the sink failed at the last line, or had failed before
module _ (due due' before written : Option (List ℕ)) (refused refused' : Option ℕ) (gathered : List ℕ) (f f' : ℕ) (tally : Tally) (is : due' ≡ append_known written gathered) (few : length gathered ≤ GATHERED_ROOM) where
  abbrev Fails : Ending → Type 0
  Fails ending = EndsAtSink due (sink_shown before refused f) (sink_shown written refused' f') tally ending

  while_printing : (ending : Ending) → (FailsInTheEnd due (sink_shown before refused f) (sink_shown written refused' f') → SinkCause due (sink_shown before refused f) (sink_shown written refused' f') ending)
      → IsCutShort refused' due due' f f' (last_of tally ending) → Fails ending
  while_printing ending cause rule = record {
    more = gathered ++ drop rule.n (last_of tally ending);
    prefix = at_last_line due due' written gathered (last_of tally ending) is rule.n rule.grew;
    nearly = nearly_by due written gathered (take rule.n (last_of tally ending)) few (sym is ∙ rule.grew);
    cause = cause (record { more = rule.offered; refused_is = rule.refused_is; count = rule.count });
  }

  none_printed : (why : Stopped) → (prints.Failed ≡ prints.Done) × (due' ≡ due) × (f' ≡ f) → Fails (Err why)
  none_printed why rule = absurd (let clash : prints.Failed ≡ prints.Done = rule.0 in cc)

  pub failed_at_last : (ending : Ending) → LastLineRule due due' (sink_shown before refused f) (sink_shown written refused' f') tally ending prints.Failed → Fails ending
  failed_at_last (Ok done) rule = while_printing (Ok done) (λ fails. fails) rule
  failed_at_last (Err stopped.NotInLanguage) rule = while_printing (Err stopped.NotInLanguage) (λ fails. fails) rule
  failed_at_last (Err stopped.LineTooLong) rule = while_printing (Err stopped.LineTooLong) (λ fails. fails) rule
  failed_at_last (Err stopped.ScriptTooLong) rule = while_printing (Err stopped.ScriptTooLong) (λ fails. fails) rule
  failed_at_last (Err stopped.NotADisc) rule = while_printing (Err stopped.NotADisc) (λ fails. fails) rule
  failed_at_last (Err stopped.SinkFault) rule = record {
    more = gathered;
    prefix = sym is ∙ rule.1 ∙ sym (append_known-nil due);
    nearly = nearly_by due written gathered [] few (sym is ∙ rule.1 ∙ sym (append_known-nil due));
    cause = record { refused = rule.2; count = rule.3 };
  }
  failed_at_last (Err stopped.SourceFault) rule = none_printed stopped.SourceFault rule
  failed_at_last (Err stopped.ImageFault) rule = none_printed stopped.ImageFault rule

-- the last line is printed, where there is one
module _ (due due' : Option (List ℕ)) (old mid : SinkShown) (tally : Tally) where
  no_last : (why : Stopped) → last_of tally (Err why) ≡ [] → (prints.Done ≡ prints.Done) × (due' ≡ due) × (mid.faults ≡ old.faults)
      → (due' ≡ append_known due (last_of tally (Err why))) × (mid.faults ≡ old.faults)
  no_last why none rule = (rule.1 ∙ sym (append_known-nil due) ∙ ap (append_known due) (sym none), rule.2)

  pub last_printed : (ending : Ending) → LastLineRule due due' old mid tally ending prints.Done → (due' ≡ append_known due (last_of tally ending)) × (mid.faults ≡ old.faults)
  last_printed (Ok done) rule = (rule.grew, rule.count)
  last_printed (Err stopped.NotInLanguage) rule = (rule.grew, rule.count)
  last_printed (Err stopped.LineTooLong) rule = (rule.grew, rule.count)
  last_printed (Err stopped.ScriptTooLong) rule = (rule.grew, rule.count)
  last_printed (Err stopped.NotADisc) rule = (rule.grew, rule.count)
  last_printed (Err stopped.SinkFault) rule = absurd (let clash : prints.Done ≡ prints.Failed = rule.0 in cc)
  last_printed (Err stopped.SourceFault) rule = no_last stopped.SourceFault refl rule
  last_printed (Err stopped.ImageFault) rule = no_last stopped.ImageFault refl rule

  -- so the sink had not failed before
  in_the_end : (new : SinkShown) (ending : Ending) → LastLineRule due due' old mid tally ending prints.Done → FailsInTheEnd due old new → SinkCause due old new ending
  in_the_end new (Ok done) rule fails = fails
  in_the_end new (Err stopped.NotInLanguage) rule fails = fails
  in_the_end new (Err stopped.LineTooLong) rule fails = fails
  in_the_end new (Err stopped.ScriptTooLong) rule fails = fails
  in_the_end new (Err stopped.NotADisc) rule fails = fails
  in_the_end new (Err stopped.SinkFault) rule fails = absurd (let clash : prints.Done ≡ prints.Failed = rule.0 in cc)
  in_the_end new (Err stopped.SourceFault) rule fails = fails
  in_the_end new (Err stopped.ImageFault) rule fails = fails

  -- the sink failed when all was to be handed over
  pub failed_at_flush : (due'' : Option (List ℕ)) (new : SinkShown) (gathered : List ℕ) → due'' ≡ append_known new.written gathered → length gathered ≤ GATHERED_ROOM → (ending : Ending)
      → LastLineRule due due' old mid tally ending prints.Done → due'' ≡ due' → new.refused ≡ length_with due' 0 → FailsOnce mid.faults new.faults → EndsAtSink due old new tally ending
  failed_at_flush due'' new gathered is few ending rule same refuses fails =
      let printed = last_printed ending rule in
      let whole = sym is ∙ same ∙ printed.0 in
      record {
        more = gathered;
        prefix = whole;
        nearly = nearly_by due new.written gathered (last_of tally ending) few whole;
        cause = in_the_end new ending rule (record {
          more = length (last_of tally ending) + 0;
          refused_is = refuses ∙ ap (λ (o : Option (List ℕ)). length_with o 0) printed.0 ∙ length_with-append due (last_of tally ending) 0;
          count = fails ∙ ap (λ n. counted n 1) printed.1;
        });
      }

module _ (first : Beginning) (stands : State → Type 0) (image : Option (List ℕ)) (leaves : (s : State) → stands s → LeavesImage s image) where
  -- the image is as the line leaves it
  pub comes_to : (far : SoFar first) (outcome : Outcome) → ComesOut far stands outcome → ComesToThis far image outcome
  comes_to far outcome out = record {
    line = out.line;
    payload = out.payload;
    data_in = out.data_in;
    state = out.state;
    next = out.next;
    step = out.step;
    image_is = leaves out.state out.stands_after;
  }

  module _ (view : View) (known : is_some view.due ≡ true) (old new : SinkShown) (seen : old.refused ≡ view.refused) (counts counts' : Counts) where
    -- the source failed after the lines
    cut_by_source : (e : EndsBetween first stands view (Err stopped.SourceFault)) → IsCutBySource e.far (aftermath view.left new.written new.refused image)
    cut_by_source e = record { image_is = leaves e.far.now e.stands_now; given = view.buffered; unended = e.stopped_at.unended.0; rest_is = e.stopped_at.unended.1 }

    -- the sink failed in the end, after lines that ended between two of them
    sink_between : (ending : Ending) (more : List ℕ) → EndsBetween first stands view ending → append_known new.written more ≡ append_known view.due (last_of view.tally ending) → IsNearlyWritten view.due new.written
        → FailsInTheEnd view.due old new → OnlySinkRose counts counts' → IsReportCutOff first (aftermath view.left new.written new.refused image) counts counts'
    sink_between ending more e prefix nearly fails alone = record {
      far = e.far;
      written_is = prefix_with_any first e.far view.due new.written new.refused (offered_due e.far view.due new.refused fails.more e.stopped_at.due_is fails.refused_is) nearly more (last_line view.tally ending)
          (told e.far view.due known e.stopped_at.due_is) e.stopped_at.last_is prefix;
      behind = inl (alone, leaves e.far.now e.stands_now);
    }

    -- the sink failed in the end, whatever the lines ended by
    at_sink : (ending : Ending) (more : List ℕ) → Ends first stands view ending → append_known new.written more ≡ append_known view.due (last_of view.tally ending) → IsNearlyWritten view.due new.written
        → SinkCause view.due old new ending → Behind counts counts' ending → IsReportCutOff first (aftermath view.left new.written new.refused image) counts counts'
    at_sink (Ok done) more e prefix nearly fails behind = sink_between (Ok done) more e prefix nearly fails behind
    at_sink (Err stopped.NotInLanguage) more e prefix nearly fails behind = sink_between (Err stopped.NotInLanguage) more e prefix nearly fails behind
    at_sink (Err stopped.LineTooLong) more e prefix nearly fails behind = sink_between (Err stopped.LineTooLong) more e prefix nearly fails behind
    at_sink (Err stopped.ScriptTooLong) more e prefix nearly fails behind = sink_between (Err stopped.ScriptTooLong) more e prefix nearly fails behind
    at_sink (Err stopped.NotADisc) more e prefix nearly fails behind = sink_between (Err stopped.NotADisc) more e prefix nearly fails behind
    at_sink (Err stopped.SourceFault) more e prefix nearly fails behind = record {
      far = e.far;
      written_is = prefix_of_due first e.far view.due new.written new.refused (offered_due e.far view.due new.refused fails.more e.stopped_at.due_is fails.refused_is) nearly more (told e.far view.due known e.stopped_at.due_is) prefix;
      behind = inr (inl (behind, cut_by_source e));
    }
    at_sink (Err stopped.SinkFault) more e prefix nearly had behind = record {
      far = e.far;
      written_is = prefix_of_prefix first e.far view.due new.written new.refused (subst (IsOffered e.far) (sym (had.refused ∙ seen)) e.offered) nearly more known e.part prefix;
      behind = inl (behind, leaves e.far.now e.stands_now);
    }
    at_sink (Err stopped.ImageFault) more e prefix nearly fails behind = record {
      far = e.far;
      written_is = prefix_of_due first e.far view.due new.written new.refused (offered_due e.far view.due new.refused fails.more e.due_is fails.refused_is) nearly more (told e.far view.due known e.due_is) prefix;
      behind = inr (inr (behind, comes_to e.far (Err stopped.ImageFault) e.line));
    }

    -- all was written, and there is a last line
    ended : (last : LastLine) (far : SoFar first) → stands far.now → IsDue far view.due → IsLast far last → new.written ≡ append_known view.due (last_text last) → IsEnded first (aftermath view.left new.written new.refused image) last
    ended last far now due_is last_is whole = record {
      far = far;
      last_is = last_is;
      written_is = whole ∙ with_where_known view.due first.report (report_text far.events) (last_text last) (told far view.due known due_is);
      image_is = leaves far.now now;
    }

    -- the next line was not done whole, and is not told
    stopped_in : (outcome : Outcome) → EndsInLine first stands view outcome → new.written ≡ append_known view.due [] → IsStoppedInLine first (aftermath view.left new.written new.refused image) outcome
    stopped_in outcome e whole = record { far = e.far; written_is = written_as_due first e.far view.due new.written (told e.far view.due known e.due_is) whole; line = comes_to e.far outcome e.line }

    -- all was written, and the status tells how the lines ended
    at_end : (ending : Ending) → Ends first stands view ending → (ending ≡ Err stopped.SinkFault → ⊥) → new.written ≡ append_known view.due (last_of view.tally ending) → StandsWith first (aftermath view.left new.written new.refused image) counts counts' (status_of ending)
    at_end (Ok done) e other whole = (view.tally.answered, ended (lasts.End view.tally.answered) e.far e.stands_now e.stopped_at.due_is e.stopped_at.last_is whole)
    at_end (Err stopped.NotInLanguage) e other whole =
        (lasts.NotInLanguage (view.tally.lines + 1), tt, ended (lasts.NotInLanguage (view.tally.lines + 1)) e.far e.stands_now e.stopped_at.due_is e.stopped_at.last_is whole)
    at_end (Err stopped.LineTooLong) e other whole =
        (lasts.LineTooLong (view.tally.lines + 1), tt, ended (lasts.LineTooLong (view.tally.lines + 1)) e.far e.stands_now e.stopped_at.due_is e.stopped_at.last_is whole)
    at_end (Err stopped.ScriptTooLong) e other whole = (lasts.ScriptTooLong, tt, ended lasts.ScriptTooLong e.far e.stands_now e.stopped_at.due_is e.stopped_at.last_is whole)
    at_end (Err stopped.NotADisc) e other whole =
        (view.tally.lines + 1, ended (lasts.NotADisc (view.tally.lines + 1)) e.far e.stands_now e.stopped_at.due_is e.stopped_at.last_is whole)
    at_end (Err stopped.SourceFault) e other whole =
        record {
          far = e.far;
          written_is = written_as_due first e.far view.due new.written (told e.far view.due known e.stopped_at.due_is) whole;
          cut = cut_by_source e;
        }
    at_end (Err stopped.SinkFault) e other whole = absurd (other refl)
    at_end (Err stopped.ImageFault) e other whole = inr (stopped_in (Err stopped.ImageFault) e whole)

    module _ (ending : Ending) (behind : SinkCause view.due old new ending → Behind counts counts' ending) where
      by_status : (status : Status) → (statuses.SinkFault ≡ status → ⊥) → Ends first stands view ending → EndsWhole view.due old new view.tally ending status → StandsWith first (aftermath view.left new.written new.refused image) counts counts' status
      by_status status other e rule =
          subst (StandsWith first (aftermath view.left new.written new.refused image) counts counts') (sym rule.status_is) (at_end ending e (λ is. not_sink ending status rule.status_is is other) rule.whole)

      -- what is left and written, by the status that is told
      pub left_by : (status : Status) → Ends first stands view ending → FinishRule view.due old new view.tally ending status → StandsWith first (aftermath view.left new.written new.refused image) counts counts' status
      left_by statuses.Differs e rule = absurd rule
      left_by statuses.Usage e rule = absurd rule
      left_by statuses.SinkFault e rule = at_sink ending rule.more e rule.prefix rule.nearly rule.cause (behind rule.cause)
      left_by statuses.Done e rule = by_status statuses.Done (λ x. cc) e rule
      left_by statuses.Script e rule = by_status statuses.Script (λ x. cc) e rule
      left_by statuses.ImageFault e rule = by_status statuses.ImageFault (λ x. cc) e rule
      left_by statuses.SourceFault e rule = by_status statuses.SourceFault (λ x. cc) e rule
      left_by statuses.NoMemory e rule = by_status statuses.NoMemory (λ x. cc) e rule
      left_by statuses.NotADisc e rule = by_status statuses.NotADisc (λ x. cc) e rule

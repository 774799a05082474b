-- How the lines so far go on by one line, and how they end.
use Rattle.std.specs.Prelude.{◌≡◌, ℕ, ◌+◌, ◌<◌, ◌≤◌, ◌⊎◌, Option, None, Some, IfSome, is_some, Ok, Err, List, [], ◌∷◌, ◌++◌, length, take, drop}
use Rattle.std.specs.Io.KnownBytes.{append_known, prepend_known}
use Rattle.std.proofs.Common.{arith, refl, sym, ap, ◌∙◌, inl, inr, subst, append_assoc, append-nil, length-append, take-append-drop}
use Rattle.ram_text.specs.Lines.{line_feed}
use Rattle.ram_script.specs.declared.counts.AnswerCounts.{AnswerCounts}
use Rattle.ram_text.specs.declared.script.Line.{Line}
use Rattle.ram_machine.specs.declared.reply.Reply.{Reply}
use Rattle.ram_script.specs.declared.state.Tally.{Tally}
use Rattle.ram_machine.specs.declared.stopped.Stopped.{Stopped}
use Rattle.ram_machine.specs.declared.stopped.Stopped.TheVariants as stopped
use Rattle.ram_machine.proofs.Answering.{lacks_same}
use Rattle.ram_script.proofs.Counted.{one_counted}
use Rattle.ram_script.proofs.Offered.{offered_newest}
use Rattle.ram_script.specs.NextLines.{ComesNext}
use Rattle.ram_machine.specs.Replies.{Outcome}
use Rattle.ram_script.specs.Counting.{with_reply}
use Rattle.ram_machine.specs.States.{State}
use Rattle.ram_machine.specs.Inserted.{IsAnswered}
use Rattle.ram_script.specs.Answered.{AnsweredLine, EndsWithBytes, answers_of, script_text, report_text, line_text}
use Rattle.ram_machine.specs.LineFaults.{LineCount}
use Rattle.ram_script.specs.Progress.{Beginning, SoFar, IsOffered, View, Between, Taken, Ending, EndsBetween, EndsCutOff, EndsInLine, Ends, TurnsTo, IsStoppedAt, IsStop, IsReplied, IsToldInPart, TellRule, lines_before}

-- the script after one line more
pub reaches_more : (ends : Type 0) (script text rest raw after : List ℕ) → (script ≡ text ++ rest) ⊎ ((rest ≡ []) × ends × (script ++ line_feed ∷ [] ≡ text)) → (rest ≡ raw ++ (line_feed ∷ after)) ⊎ ((rest ≡ raw) × (0 < length raw) × (after ≡ []))
    → (script ≡ (text ++ (raw ++ line_feed ∷ [])) ++ after) ⊎ ((after ≡ []) × (0 < length raw) × (script ++ line_feed ∷ [] ≡ text ++ (raw ++ line_feed ∷ [])))
reaches_more ends script text rest raw after (inl whole) (inl parts) =
    inl (whole ∙ ap (λ l. text ++ l) (parts ∙ sym (append_assoc raw (line_feed ∷ []) after)) ∙ sym (append_assoc text (raw ++ line_feed ∷ []) after))
reaches_more ends script text rest raw after (inl whole) (inr last) =
    inr (last.2, last.1, ap (λ l. l ++ line_feed ∷ []) (whole ∙ ap (λ l. text ++ l) last.0) ∙ append_assoc text raw (line_feed ∷ []))
reaches_more ends script text rest raw after (inr ended) (inl parts) = absurd (omega (arith, ap length (sym ended.0 ∙ parts), length-append raw (line_feed ∷ after)))
reaches_more ends script text rest raw after (inr ended) (inr last) = absurd (omega (arith, ap length (sym ended.0 ∙ last.0), last.1))

-- what is due after one text more
pub due_more : (due due' : Option (List ℕ)) (report so_far text : List ℕ) → IfSome due (λ bytes. bytes ≡ report ++ so_far) → due' ≡ append_known due text → IfSome due' (λ bytes. bytes ≡ report ++ (so_far ++ text))
due_more None due' report so_far text known grew = subst (λ (o : Option (List ℕ)). IfSome o (λ bytes. bytes ≡ report ++ (so_far ++ text))) (sym grew) tt
due_more (Some bytes) due' report so_far text known grew =
    subst (λ (o : Option (List ℕ)). IfSome o (λ all. all ≡ report ++ (so_far ++ text))) (sym grew) (ap (λ (l : List ℕ). l ++ text) known ∙ append_assoc report so_far text)

-- a text more leaves what is due known, or unknown
known_still : (due : Option (List ℕ)) (text : List ℕ) → is_some (append_known due text) ≡ is_some due
known_still None text = refl
known_still (Some bytes) text = refl

-- so does what a line is answered
pub known_after : (old new : View) (data_in : List ℕ) (outcome : Outcome) (result : Ending) → TellRule old new data_in outcome result → is_some new.due ≡ is_some old.due
known_after old new data_in (Ok reply) (Ok done) rule = ap (λ (o : Option (List ℕ)). is_some o) rule.grew ∙ known_still old.due (line_text (old.tally.lines + 1) reply data_in)
known_after old new data_in (Ok reply) (Err stopped.SinkFault) rule = ap (λ (o : Option (List ℕ)). is_some o) rule.grew ∙ known_still old.due (take rule.n (line_text (old.tally.lines + 1) reply data_in))
known_after old new data_in (Ok reply) (Err stopped.NotInLanguage) rule = absurd rule
known_after old new data_in (Ok reply) (Err stopped.LineTooLong) rule = absurd rule
known_after old new data_in (Ok reply) (Err stopped.ScriptTooLong) rule = absurd rule
known_after old new data_in (Ok reply) (Err stopped.NotADisc) rule = absurd rule
known_after old new data_in (Ok reply) (Err stopped.SourceFault) rule = absurd rule
known_after old new data_in (Ok reply) (Err stopped.ImageFault) rule = absurd rule
known_after old new data_in (Err why) result rule = ap (λ (v : View). is_some v.due) rule.1

-- what was due before the newest line is a part of what is due
pub before_within : (report : List ℕ) (events : List AnsweredLine) → length (report ++ report_text (lines_before events)) ≤ length (report ++ report_text events)
before_within report [] = omega arith
before_within report (event ∷ events) = omega (
  arith,
  length-append report (report_text events),
  length-append report (report_text (event ∷ events)),
  length-append (report_text events) (line_text (length events + 1) event.step.reply event.step.data_in),
)

module _ (first : Beginning) (far : SoFar first) (view : View) (line : Line) (payload : List ℕ) (t : Taken far view line payload) (stands : State → Type 0) (data_in : List ℕ) where
  -- the line with what it is answered
  abbrev event : Reply → AnsweredLine
  event reply = record { raw = t.raw; step = record { line = line; payload = payload; reply = reply; data_in = data_in } }

  -- the lines with this one
  abbrev one_more : (reply : Reply) → IsAnswered far.now line payload data_in stands (Ok reply) → SoFar first
  one_more reply answered = record {
    start = far.start;
    events = event reply ∷ far.events;
    now = answered.state;
    rest = t.comes.next.after;
    starts = far.starts;
    kind_is = far.kind_is;
    run = (far.now, far.run, record { read = record { line = t.comes.next.line; reads = t.reads }; step = answered.step });
    lines = reaches_more (EndsWithBytes far.events) first.script (script_text far.events) far.rest t.raw t.comes.next.after far.lines t.comes.next.parts;
    within = t.comes.within;
  }

  -- the line was answered, and the answer is due
  use_continues : (new : View) (reply : Reply) → IsAnswered far.now line payload data_in stands (Ok reply) → IsReplied view new reply data_in → Between first stands new
  use_continues new reply answered replied = record {
    far = one_more reply answered;
    stands_now = answered.stands;
    at = record {
      left_is = ap (λ b. prepend_known b new.left) replied.same_buffered ∙ ap (prepend_known view.buffered) replied.same_left ∙ t.left_is;
      taken_is = ap (λ n. n + length t.comes.next.after) replied.same_taken ∙ t.taken_is;
      tallied = record {
        lines = ap (λ (x : Tally). x.lines) replied.tally_is ∙ ap (λ n. n + 1) t.tallied.lines ∙ omega arith;
        answered = ap (λ (x : Tally). x.answered) replied.tally_is ∙ ap (λ n. n + answers_of reply) t.tallied.answered;
        counts = ap (λ (x : Tally). x.counts) replied.tally_is ∙ ap (λ (x : AnswerCounts). with_reply x reply) t.tallied.counts ∙ one_counted (event reply) far.events;
      };
      due_is = due_more view.due new.due first.report (report_text far.events) (line_text (length far.events + 1) reply data_in) t.due_is
          (replied.grew ∙ ap (λ n. append_known view.due (line_text (n + 1) reply data_in)) t.tallied.lines);
    };
  }

  -- the line was answered, and the beginning of the answer is due
  cut_off : (new : View) (reply : Reply) → IsAnswered far.now line payload data_in stands (Ok reply)
      → IsToldInPart view new (line_text (view.tally.lines + 1) reply data_in) → EndsCutOff first stands new
  cut_off new reply answered cut = record { far = one_more reply answered; stands_now = answered.stands; part = record { written = written; more = drop cut.n text; due_is = grown; prefix = whole; before = there }; offered = reached }
    where
      text : List ℕ
      text = line_text (view.tally.lines + 1) reply data_in

      written : List ℕ
      written = first.report ++ (report_text far.events ++ take cut.n text)

      there : length (first.report ++ report_text far.events) ≤ length written
      there = omega (
        arith,
        length-append first.report (report_text far.events),
        length-append first.report (report_text far.events ++ take cut.n text),
        length-append (report_text far.events) (take cut.n text),
      )

      grown : IfSome new.due (λ text. text ≡ written)
      grown = due_more view.due new.due first.report (report_text far.events) (take cut.n text) t.due_is cut.grew

      reached : IsOffered (one_more reply answered) new.refused
      reached = offered_newest view.due new.refused first.report (report_text far.events) (line_text (length far.events + 1) reply data_in) cut.offered cut.some t.due_is cut.refused_is

      whole : written ++ drop cut.n text ≡ first.report ++ (report_text far.events ++ line_text (length far.events + 1) reply data_in)
      whole =
          append_assoc first.report (report_text far.events ++ take cut.n text) (drop cut.n text)
          ∙ ap (λ l. first.report ++ l) (append_assoc (report_text far.events) (take cut.n text) (drop cut.n text) ∙ ap (λ l. report_text far.events ++ l) (take-append-drop cut.n text)
          ∙ ap (λ n. report_text far.events ++ line_text (n + 1) reply data_in) t.tallied.lines)

  -- the line comes next
  comes_next : ComesNext first.script far.rest line payload
  comes_next = record { raw = t.raw; comes = t.comes; reads = t.reads }

  -- the line needs a disc, and there is none
  ends_without_disc : IsAnswered far.now line payload data_in stands (Err stopped.NotADisc) → EndsBetween first stands view (Err stopped.NotADisc)
  ends_without_disc answered = record {
    far = far;
    stands_now = subst stands (lacks_same far.now line payload data_in answered.state answered.step) answered.stands;
    stopped_at = record {
      due_is = t.due_is;
      last_is = ((line, payload, data_in, answered.state, comes_next, answered.step), ap (λ n. n + 1) t.tallied.lines);
      unended = tt;
      offered = tt;
      tallied = t.tallied;
    };
  }

  -- the line was not done whole
  ends_in_line : (outcome : Outcome) → IsAnswered far.now line payload data_in stands outcome → EndsInLine first stands view outcome
  ends_in_line outcome answered = record {
    far = far;
    due_is = t.due_is;
    line = record { line = line; payload = payload; data_in = data_in; state = answered.state; next = comes_next; step = answered.step; stands_after = answered.stands };
  }

  -- the outcome of the line was told
  pub answered_line : (new : View) (f f' : ℕ) (outcome : Outcome) (result : Ending) → IsAnswered far.now line payload data_in stands outcome → LineCount f f' outcome → TellRule view new data_in outcome result → TurnsTo first stands new result
  answered_line new f f' (Ok reply) (Ok done) answered count rule = use_continues new reply answered rule
  answered_line new f f' (Ok reply) (Err stopped.SinkFault) answered count rule = cut_off new reply answered rule
  answered_line new f f' (Ok reply) (Err stopped.NotInLanguage) answered count rule = absurd rule
  answered_line new f f' (Ok reply) (Err stopped.LineTooLong) answered count rule = absurd rule
  answered_line new f f' (Ok reply) (Err stopped.ScriptTooLong) answered count rule = absurd rule
  answered_line new f f' (Ok reply) (Err stopped.NotADisc) answered count rule = absurd rule
  answered_line new f f' (Ok reply) (Err stopped.SourceFault) answered count rule = absurd rule
  answered_line new f f' (Ok reply) (Err stopped.ImageFault) answered count rule = absurd rule
  answered_line new f f' (Err why) result answered count rule = subst (TurnsTo first stands new) (sym rule.0) (subst (λ v. Ends first stands v (Err why)) (sym rule.1) (by_why why count answered))
    where
      by_why : (stop : Stopped) → LineCount f f' (Err stop) → IsAnswered far.now line payload data_in stands (Err stop) → Ends first stands view (Err stop)
      by_why stopped.NotADisc counts stops = ends_without_disc stops
      by_why stopped.ImageFault counts stops = ends_in_line (Err stopped.ImageFault) stops
      by_why stopped.NotInLanguage counts stops = absurd counts
      by_why stopped.LineTooLong counts stops = absurd counts
      by_why stopped.ScriptTooLong counts stops = absurd counts
      by_why stopped.SourceFault counts stops = absurd counts
      by_why stopped.SinkFault counts stops = absurd counts

-- the lines ended between two of them, and the inserted disc stands for the state that they lead to
pub ends_between : (first : Beginning) (stands : State → Type 0) (far : SoFar first) (view : View) (why : Stopped) → stands far.now → IsStoppedAt far view (Err why) → IsStop why → Ends first stands view (Err why)
ends_between first stands far view stopped.NotInLanguage now at is = record { far = far; stands_now = now; stopped_at = at }
ends_between first stands far view stopped.LineTooLong now at is = record { far = far; stands_now = now; stopped_at = at }
ends_between first stands far view stopped.ScriptTooLong now at is = record { far = far; stands_now = now; stopped_at = at }
ends_between first stands far view stopped.SourceFault now at is = record { far = far; stands_now = now; stopped_at = at }
ends_between first stands far view stopped.SinkFault now at is = record {
  far = far;
  stands_now = now;
  part = record {
    written = first.report ++ report_text far.events;
    more = [];
    due_is = at.due_is;
    prefix = append-nil (first.report ++ report_text far.events);
    before = before_within first.report far.events;
  };
  offered = at.offered;
}
ends_between first stands far view stopped.NotADisc now at is = absurd is
ends_between first stands far view stopped.ImageFault now at is = absurd is

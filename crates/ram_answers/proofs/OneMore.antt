-- How the lines so far go on by one line, and how they end in one.
use Rattle.std.specs.Prelude.{◌≡◌, ℕ, ◌+◌, if◌then◌else◌, Ok, Err, List, ◌∷◌, ◌++◌, length, take, drop}
use Rattle.std.specs.Io.KnownBytes.{append_known, prepend_known}
use Rattle.std.proofs.Common.{arith, refl, ap, ◌∙◌, append_assoc, length-append, take-append-drop}
use Rattle.ram_report.specs.Writer.{IsCutShort}
use Rattle.ram_machine.specs.declared.stopped.Stopped.{Stopped}
use Rattle.ram_machine.specs.declared.stopped.Stopped.TheVariants as stopped
use Rattle.ram_script.specs.Progress.{View}
use Rattle.ram_script.proofs.Turns.{reaches_more, due_more}
use Rattle.ram_script.proofs.Offered.{offered_newest}
use Rattle.ram_answers.specs.declared.answers.Answers.{Ghosts as Answerers}
use Rattle.ram_answers.specs.Outcomes.{LineStops}
use Rattle.ram_answers.specs.Texts.{AnsweredText, taken_text, told_text, TookBytes}
use Rattle.ram_answers.specs.TextRuns.{TextBeginning, ToldSoFar}
use Rattle.ram_answers.specs.TextEnds.{BetweenTexts, TakesRaw, EndsInAnswer, EndsAtLine, TextsEnd}

module _ {A R : Type 0} (these : Answerers A R) (first : TextBeginning A) (before after : A) (far : ToldSoFar these first before) (view : View) (raw : List ℕ)
    (t : TakesRaw these far view raw) where
  -- the text of a reply
  abbrev told : R → List ℕ
  told reply = these.text after (view.tally.lines + 1) reply

  -- the line with what it is answered
  abbrev event : R → AnsweredText
  event reply = record { raw = raw; answers = if these.is_answer reply then 1 else 0; text = told reply }

  -- the lines with this one
  abbrev one_more : (reply : R) → these.answered before raw (Ok reply) after → ToldSoFar these first after
  one_more reply answered = record {
    events = event reply ∷ far.events;
    rest = t.comes.next.after;
    run = (
      before,
      far.run,
      record {
        line = t.comes.next.line;
        reply = reply;
        answered = answered;
        text_is = ap (λ n. these.text after (n + 1) reply) t.tallied.lines;
        answers_are = refl;
      },
    );
    lines = reaches_more (TookBytes far.events) first.script (taken_text far.events) far.rest raw t.comes.next.after far.lines t.comes.next.parts;
    within = t.comes.within;
  }

  -- the line was answered, and the answer is due
  pub goes_on : (new : View) (reply : R) → these.answered before raw (Ok reply) after → new.buffered ≡ view.buffered → new.left ≡ view.left → new.taken ≡ view.taken
      → new.due ≡ append_known view.due (told reply) → new.tally.lines ≡ view.tally.lines + 1
      → new.tally.answered ≡ view.tally.answered + (if these.is_answer reply then 1 else 0) → BetweenTexts these first after new
  goes_on new reply answered same_buffered same_left same_taken grew lines answers = record {
    far = one_more reply answered;
    at = record {
      left_is = ap (λ b. prepend_known b new.left) same_buffered ∙ ap (prepend_known view.buffered) same_left ∙ t.left_is;
      taken_is = ap (λ n. n + length t.comes.next.after) same_taken ∙ t.taken_is;
      tallied = record {
        lines = lines ∙ ap (λ n. n + 1) t.tallied.lines ∙ omega arith;
        answered = answers ∙ ap (λ n. n + (if these.is_answer reply then 1 else 0)) t.tallied.answered;
      };
      due_is = due_more view.due new.due first.report (told_text far.events) (told reply) t.due_is grew;
    };
  }

  -- the line was answered, and the beginning of the answer is due
  pub cut_off : (new : View) (reply : R) (f f' : ℕ) → these.answered before raw (Ok reply) after → IsCutShort new.refused view.due new.due f f' (told reply)
      → EndsInAnswer these first after new
  cut_off new reply f f' answered cut = record {
    far = one_more reply answered;
    written = first.report ++ (told_text far.events ++ take cut.n (told reply));
    more = drop cut.n (told reply);
    due_is = due_more view.due new.due first.report (told_text far.events) (take cut.n (told reply)) t.due_is cut.grew;
    prefix =
        append_assoc first.report (told_text far.events ++ take cut.n (told reply)) (drop cut.n (told reply))
        ∙ ap (λ l. first.report ++ l) (append_assoc (told_text far.events) (take cut.n (told reply)) (drop cut.n (told reply))
        ∙ ap (λ l. told_text far.events ++ l) (take-append-drop cut.n (told reply)));
    before = omega (
      arith,
      length-append first.report (told_text far.events),
      length-append first.report (told_text far.events ++ take cut.n (told reply)),
      length-append (told_text far.events) (take cut.n (told reply)),
    );
    offered = offered_newest view.due new.refused first.report (told_text far.events) (told reply) cut.offered cut.some t.due_is cut.refused_is;
  }

  -- the line was not answered, and ends the run
  at_line : (why : Stopped) → these.answered before raw (Err why) after → EndsAtLine these first after view why
  at_line why answered = record {
    before = before;
    far = far;
    due_is = t.due_is;
    tallied = t.tallied;
    raw = raw;
    comes = t.comes;
    answered = answered;
  }

  pub ends_in_line : (why : Stopped) (f f' : ℕ) → LineStops {R = R} f f' (Err why) → these.answered before raw (Err why) after → TextsEnd these first after view (Err why)
  ends_in_line stopped.NotInLanguage f f' stops answered = at_line stopped.NotInLanguage answered
  ends_in_line stopped.NotADisc f f' stops answered = at_line stopped.NotADisc answered
  ends_in_line stopped.ImageFault f f' stops answered = at_line stopped.ImageFault answered
  ends_in_line stopped.LineTooLong f f' stops answered = absurd stops
  ends_in_line stopped.ScriptTooLong f f' stops answered = absurd stops
  ends_in_line stopped.SourceFault f f' stops answered = absurd stops
  ends_in_line stopped.SinkFault f f' stops answered = absurd stops

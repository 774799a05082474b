-- What stands between two lines, and where the lines end. (This project's own, as all here.)
use Rattle.std.specs.Prelude.{◌≡◌, ℕ, ◌+◌, ◌-◌, ◌<◌, ◌≤◌, Bool, true, false, Option, Some, IfSome, Result, Ok, Err, List, [], ◌++◌, length}
use Rattle.ram_text.specs.Lines.{HasNoFeed}
use Rattle.ram_text.specs.declared.lines.TheConstants.{SCRIPT_LIMIT}
use Rattle.ram_machine.specs.declared.stopped.Stopped.{Stopped}
use Rattle.ram_machine.specs.declared.stopped.Stopped.TheVariants as stopped
use Rattle.ram_script.specs.declared.state.Tally.{Tally}
use Rattle.ram_script.specs.NextLines.{IsNextWithin, PassesLineLimit, PassesScriptLimit}
use Rattle.ram_script.specs.Progress.{View, Ending, unread}
use Rattle.ram_answers.specs.declared.answers.Answers.{Ghosts as Answerers}
use Rattle.ram_answers.specs.Texts.{AnsweredText, told_text, told_in, newest_told, told_before}
use Rattle.ram_answers.specs.TextRuns.{TextBeginning, ToldSoFar}

-- how many lines were read, and how many of these were answered
pub record AreTallied (events : List AnsweredText) (tally : Tally) : Type 0 where
  pub lines : tally.lines ≡ length events
  pub answered : tally.answered ≡ told_in events

module _ {A R : Type 0} (these : Answerers A R) where
  -- where the bytes that are due are known, they are the answers so far and no more
  abbrev pub IsToldDue : {first : TextBeginning A} {now : A} → ToldSoFar these first now → Option (List ℕ) → Type 0
  IsToldDue {first} far due = IfSome due (λ text. text ≡ first.report ++ told_text far.events)

  -- the view is that of the lines so far
  pub record IsToldAt {first : TextBeginning A} {now : A} (far : ToldSoFar these first now) (view : View) : Type 0 where
    pub left_is : unread view ≡ Some far.rest
    pub taken_is : view.taken + length far.rest ≡ length first.script
    pub tallied : AreTallied far.events view.tally
    pub due_is : IsToldDue far view.due

  -- between two lines
  pub record BetweenTexts (first : TextBeginning A) (now : A) (view : View) : Type 0 where
    pub far : ToldSoFar these first now
    pub at : IsToldAt far view

  -- A line was taken: what is left follows it, and the rest is as before it.
  pub record TakesRaw {first : TextBeginning A} {now : A} (far : ToldSoFar these first now) (view : View) (raw : List ℕ) : Type 0 where
    pub comes : IsNextWithin first.script far.rest raw
    pub left_is : unread view ≡ Some comes.next.after
    pub taken_is : view.taken + length comes.next.after ≡ length first.script
    pub tallied : AreTallied far.events view.tally
    pub due_is : IsToldDue far view.due

  -- Where it is known what the sink refused last: it was offered all answers, but perhaps for an end of the newest one, of which it was
  -- offered a byte at least. So no line was answered after the call that failed.
  abbrev pub IsToldOffered : {first : TextBeginning A} {now : A} → ToldSoFar these first now → Option ℕ → Type 0
  IsToldOffered {first} far refused =
      IfSome refused (λ offered. length (first.report ++ told_text far.events) ≤ offered + (length (newest_told far.events) - 1))

  -- why the lines end between two of them
  abbrev pub EndsThere : {first : TextBeginning A} {now : A} → ToldSoFar these first now → View → Ending → Type 0
  EndsThere {first} far view (Ok done) = far.rest ≡ []
  EndsThere {first} far view (Err stopped.LineTooLong) = PassesLineLimit first.script far.rest
  EndsThere {first} far view (Err stopped.ScriptTooLong) = PassesScriptLimit first.script far.rest
  EndsThere {first} far view (Err stopped.SourceFault) = HasNoFeed view.buffered × (unread view ≡ Some far.rest)
  EndsThere {first} far view (Err stopped.SinkFault) = IsToldOffered far view.refused
  EndsThere {first} far view (Err why) = ⊥

  -- The lines end between two of them: the answers so far are due and counted.
  pub record EndsAfter {first : TextBeginning A} {now : A} (far : ToldSoFar these first now) (view : View) (ending : Ending) : Type 0 where
    pub due_is : IsToldDue far view.due
    pub tallied : AreTallied far.events view.tally
    pub there : EndsThere far view ending

  -- what the search for the next line makes of the lines so far
  abbrev pub NextRaw : {first : TextBeginning A} {now : A} → ToldSoFar these first now → View → List ℕ → Result Bool Stopped → Type 0
  NextRaw far view raw (Ok true) = TakesRaw far view raw
  NextRaw far view raw (Ok false) = EndsAfter far view (Ok tt)
  NextRaw far view raw (Err why) = EndsAfter far view (Err why)

  -- the lines end between two of them
  pub record EndsBetweenTexts (first : TextBeginning A) (now : A) (view : View) (ending : Ending) : Type 0 where
    pub far : ToldSoFar these first now
    pub ends : EndsAfter far view ending

  -- the sink failed: the beginning of the answers is due, with all that was due before the newest line, and they were offered to it
  pub record EndsInAnswer (first : TextBeginning A) (now : A) (view : View) : Type 0 where
    pub far : ToldSoFar these first now
    pub written : List ℕ
    pub more : List ℕ
    pub due_is : IfSome view.due (λ text. text ≡ written)
    pub prefix : written ++ more ≡ first.report ++ told_text far.events
    pub before : length (first.report ++ told_text (told_before far.events)) ≤ length written
    pub offered : IsToldOffered far view.refused

  -- the next line was not answered, and ends the run
  pub record EndsAtLine (first : TextBeginning A) (now : A) (view : View) (why : Stopped) : Type 0 where
    pub before : A
    pub far : ToldSoFar these first before
    pub due_is : IsToldDue far view.due
    pub tallied : AreTallied far.events view.tally
    pub raw : List ℕ
    pub comes : IsNextWithin first.script far.rest raw
    pub answered : these.answered before raw (Err why) now

  -- Why the lines end there, and what is due then.
  abbrev pub TextsEnd : TextBeginning A → A → View → Ending → Type 0
  TextsEnd first now view (Err stopped.SinkFault) = EndsInAnswer first now view
  TextsEnd first now view (Err stopped.NotInLanguage) = EndsAtLine first now view stopped.NotInLanguage
  TextsEnd first now view (Err stopped.NotADisc) = EndsAtLine first now view stopped.NotADisc
  TextsEnd first now view (Err stopped.ImageFault) = EndsAtLine first now view stopped.ImageFault
  TextsEnd first now view ending = EndsBetweenTexts first now view ending

  -- what one line makes of what stands between two lines
  abbrev pub TextTurns : TextBeginning A → A → View → Ending → Type 0
  TextTurns first now view (Ok done) = BetweenTexts first now view
  TextTurns first now view (Err why) = TextsEnd first now view (Err why)

-- a line that was found took bytes of the script, within its limit
abbrev pub TookSome : ℕ → ℕ → Result Bool Stopped → Type 0
TookSome taken taken' (Ok true) = (taken < taken') × (taken' ≤ SCRIPT_LIMIT)
TookSome taken taken' _ = Unit {0}

-- a line that was told counts, and one that ends the run does not
abbrev pub CountsLine : Tally → Tally → Result (Unit {0}) Stopped → Type 0
CountsLine old new (Ok done) = (new.lines ≡ old.lines + 1) × (new.answered ≤ old.answered + 1)
CountsLine old new (Err why) = new ≡ old

-- How the lines end between two of them, and what was asked for by then.
use Rattle.std.specs.Prelude.{◌≡◌, true, ℕ, ◌≤◌, Option, Some, None, IfSome, is_some, Err, List, [], ◌∷◌, ◌++◌, length}
use Rattle.std.proofs.Common.{arith, ap, ◌∙◌, append-nil, length-append}
use Rattle.ram_outside.specs.Conversation.{Asked, AsksOnly}
use Rattle.ram_outside.proofs.Additions.{added_then, added_mapped}
use Rattle.ram_text.specs.Lines.{IsOpenAsk}
use Rattle.ram_machine.specs.declared.stopped.Stopped.{Stopped}
use Rattle.ram_machine.specs.declared.stopped.Stopped.TheVariants as stopped
use Rattle.ram_script.specs.Progress.{View, unread}
use Rattle.ram_answers.specs.declared.answers.Answers.{Ghosts as Answerers}
use Rattle.ram_answers.specs.Texts.{AnsweredText, told_text, told_before}
use Rattle.ram_answers.specs.TextRuns.{TextBeginning, ToldSoFar}
use Rattle.ram_answers.specs.TextEnds.{IsToldAt, EndsAfter, TextsEnd}
use Rattle.ram_answers.specs.TextAsks.{IsToldBy}

-- what was due before the newest line is a part of what is due
pub before_within : (report : List ℕ) (events : List AnsweredText) → length (report ++ told_text (told_before events)) ≤ length (report ++ told_text events)
before_within report [] = omega arith
before_within report (event ∷ events) = omega (
  arith,
  length-append report (told_text events),
  length-append report (told_text (event ∷ events)),
  length-append (told_text events) event.text,
)

-- known bytes that are these
pub told_due : (due : Option (List ℕ)) (text : List ℕ) → is_some due ≡ true → IfSome due (λ bytes. bytes ≡ text) → due ≡ Some text
told_due None text known is = cc
told_due (Some bytes) text known is = ap Some is

module _ {A R : Type 0} (these : Answerers A R) (first : TextBeginning A) (now : A) (far : ToldSoFar these first now) (view : View) where
  pub ends_after : (why : Stopped) → EndsAfter these far view (Err why) → TextsEnd these first now view (Err why)
  ends_after stopped.SinkFault ends = record {
    far = far;
    written = first.report ++ told_text far.events;
    more = [];
    due_is = ends.due_is;
    prefix = append-nil (first.report ++ told_text far.events);
    before = before_within first.report far.events;
    offered = ends.there;
  }
  ends_after stopped.LineTooLong ends = record { far = far; ends = ends }
  ends_after stopped.ScriptTooLong ends = record { far = far; ends = ends }
  ends_after stopped.SourceFault ends = record { far = far; ends = ends }
  ends_after stopped.NotInLanguage ends = absurd ends.there
  ends_after stopped.NotADisc ends = absurd ends.there
  ends_after stopped.ImageFault ends = absurd ends.there

  module _ (at : IsToldAt these far view) (known : is_some view.due ≡ true) where
    -- what follows the lines so far was asked for, and their answers were written
    told_by : (ask : Asked) → IsOpenAsk (unread view) view.due ask → IsToldBy these first ask
    told_by ask shown = record {
      now = now;
      far = far;
      shown = record {
        written_is = shown.written_is ∙ told_due view.due (first.report ++ told_text far.events) known at.due_is;
        came = shown.came;
        clear = shown.clear;
        rest_is = shown.rest_is ∙ at.left_is;
      };
    }

    -- once the next line was looked for too
    pub asks_on : (a b c : Option (List Asked)) → AsksOnly (IsToldBy these first) a b → AsksOnly (IsOpenAsk (unread view) view.due) b c → AsksOnly (IsToldBy these first) a c
    asks_on a b c before asks = added_then (IsToldBy these first) a b c before (added_mapped (IsOpenAsk (unread view) view.due) (IsToldBy these first) told_by b c asks)

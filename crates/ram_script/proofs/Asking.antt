-- Whenever more of the script was asked for, the lines so far were answered.
use Rattle.std.specs.Prelude.{◌≡◌, true, Option, List, is_some}
use Rattle.std.proofs.Common.{◌∙◌}
use Rattle.ram_outside.specs.Conversation.{Asked, AsksOnly}
use Rattle.ram_outside.proofs.Additions.{added_then, added_mapped}
use Rattle.ram_text.specs.Lines.{IsOpenAsk}
use Rattle.ram_script.specs.Asking.{IsAnsweredBy}
use Rattle.ram_script.specs.Progress.{Beginning, SoFar, View, IsAt, unread}
use Rattle.ram_script.proofs.Finishes.{told}

module _ (first : Beginning) (far : SoFar first) (view : View) (at : IsAt far view) (known : is_some view.due ≡ true) where
  -- what follows the lines so far was asked for, and their answers were written
  answered_by : (ask : Asked) → IsOpenAsk (unread view) view.due ask → IsAnsweredBy first ask
  answered_by ask shown = record {
    far = far;
    shown = record { written_is = shown.written_is ∙ told far view.due known at.due_is; came = shown.came; clear = shown.clear; rest_is = shown.rest_is ∙ at.left_is };
  }

  -- once the next line was looked for too
  pub asks_on : (a b c : Option (List Asked)) → AsksOnly (IsAnsweredBy first) a b → AsksOnly (IsOpenAsk (unread view) view.due) b c → AsksOnly (IsAnsweredBy first) a c
  asks_on a b c before asks = added_then (IsAnsweredBy first) a b c before (added_mapped (IsOpenAsk (unread view) view.due) (IsAnsweredBy first) answered_by b c asks)

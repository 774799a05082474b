-- More is asked for only where no whole line has come.
use Rattle.std.proofs.Common.{◌≡◌, ℕ, Option, List}
use Rattle.std.specs.Io.KnownBytes.{prepend_known}
use Rattle.ram_outside.specs.Conversation.{Asked, AsksNow, AsksOnly, asked_with}
use Rattle.ram_outside.proofs.Additions.{added_once, added_then}
use Rattle.ram_text.specs.Lines.{HasNoFeed, IsOpenAsk}

-- once more in the search for a line, while what was buffered has no line feed
pub asks_open : (left written written' rest : Option (List ℕ)) (held : List ℕ) (a b c : Option (List Asked)) → AsksOnly (IsOpenAsk left written) a b
    → HasNoFeed held → prepend_known held rest ≡ left → written' ≡ written → AsksNow (asked_with rest written') b c → AsksOnly (IsOpenAsk left written) a c
asks_open left written written' rest held a b c before clear same_left same asks =
    added_then (IsOpenAsk left written) a b c before
    (added_once (IsOpenAsk left written) (asked_with rest written') b c asks (record { written_is = same; came = held; clear = clear; rest_is = same_left }))

-- What a user may rely on of a mirror, by its lines and their answers alone: each sector is a register, whose bytes a read shows, and which
-- has one of a few values once the power went off and on. (This project's own, as all here.)
use Rattle.std.specs.Prelude.{◌≡◌, ℕ, ◌*◌, ◌⊎◌, Bool, true, false, nat_lt, if◌then◌else◌, MatchBool, Option, None, Some, List, [], ◌∷◌, length}
use Rattle.std.specs.List.{Contains}
use Rattle.model_sectors.specs.Discs.{zeros}
use Rattle.model_sectors.specs.Requests.{block_with}
use Rattle.ram_report.specs.declared.printing.Event.TheVariants as events
use Rattle.ram_report.specs.declared.printing.MirrorEvent.{MirrorEvent}
use Rattle.ram_report.specs.declared.printing.MirrorEvent.TheVariants as mirrors
use Rattle.ram_text.specs.declared.mirror.MirrorLine.{MirrorLine}
use Rattle.ram_text.specs.declared.mirror.MirrorLine.TheVariants as lines
use Rattle.ram_machine.specs.Register.{Value, Bytes, MayHold}
use Rattle.ram_machine.specs.SectorBytes.{bytes_of_sector, is_sector_among}
use Rattle.ram_pair.specs.declared.told.Told.{Told}
use Rattle.ram_pair.specs.declared.told.Told.TheVariants as told
use Rattle.ram_pair.specs.PairStates.{TwoImages}

-- One sector. A read that is good shows the bytes that it has now; where it has none, no read of it is good. Once the power went off and on
-- it has one of the others. And whether it is known who leads: where it is not, the others are those of both sides.
pub record MirrorRegister : Type 0 where
  pub now : Option Value
  pub falls : List Value
  pub led : Bool

-- it has this, and no loss of power changes that
abbrev pub settled_at : MirrorRegister → Value → MirrorRegister
settled_at r value = record r { now = Some value; falls = value ∷ [] }

-- once the power went off and on it may have this too
abbrev pub or_later : MirrorRegister → Value → MirrorRegister
or_later r value = record r { falls = value ∷ r.falls }

-- it has nothing now
abbrev pub has_none : MirrorRegister → MirrorRegister
has_none r = record r { now = None }

-- it has nothing, now or later: no disc is formatted, or the disc has no such sector
abbrev pub emptied : MirrorRegister → MirrorRegister
emptied r = record r { now = None; falls = [] }

-- it is known who leads
abbrev pub led_on : MirrorRegister → MirrorRegister
led_on r = record r { led = true }

-- Who leads is told anew: nobody, or a side by hand. Where nobody led, the sector may have later what it might have before. Where a side
-- led, the other one may lead later, of which nothing is said.
abbrev pub LeadsAnew : MirrorRegister → (led : Bool) → MirrorRegister → Type 0
LeadsAnew r led after =
    MatchBool r.led ((after.now ≡ None) × (after.led ≡ led)) (after ≡ record { now = None; falls = r.falls; led = led })

-- A press leaves nothing, and nobody leads.
abbrev pub OnPress : MirrorRegister → MirrorEvent → MirrorRegister → Type 0
OnPress r (mirrors.OfDisc events.Pressed) after = after ≡ record { now = None; falls = []; led = false }
OnPress r (mirrors.OfDisc events.NotPressed) after = after ≡ r
OnPress r _ after = ⊥

-- The power went off, and on again. A disc that is ready tells how many sectors it has: each of them has one of the values that it might
-- have, and no other sector has any.
abbrev pub OnPower : (at : ℕ) → MirrorRegister → MirrorEvent → MirrorRegister → Type 0
OnPower at r (mirrors.OfDisc (events.Ready capacity)) after = MatchBool (nat_lt at capacity)
    ((value : Value) × Contains r.falls value × (after ≡ led_on (settled_at r value))) (after ≡ led_on (emptied r))
OnPower at r (mirrors.OfDisc events.NotFormatted) after = after ≡ led_on (emptied r)
OnPower at r mirrors.Unknown after = LeadsAnew r false after
OnPower at r (mirrors.OfDisc events.Cut) after = after ≡ has_none r
OnPower at r _ after = ⊥

-- What a call leaves that neither read nor wrote the sector to the end: what was there, and nothing now where the power was cut.
abbrev pub OnRefusal : MirrorRegister → MirrorEvent → MirrorRegister → Type 0
OnRefusal r (mirrors.OfDisc events.Cut) after = after ≡ has_none r
OnRefusal r (mirrors.OfDisc events.Off) after = after ≡ r
OnRefusal r (mirrors.OfDisc events.NotFormatted) after = after ≡ r
OnRefusal r (mirrors.Range capacity) after = after ≡ r
OnRefusal r _ after = ⊥

-- A read that is good gives as many sectors as it asks for, and of this one, if it is among them, the bytes that it has now.
pub record GivesSector (at : ℕ) (r : MirrorRegister) (lba n : ℕ) (bytes : List ℕ) : Type 0 where
  pub whole : length bytes ≡ 2048 * n
  pub shown : is_sector_among lba n at ≡ true → r.now ≡ Some (Bytes (bytes_of_sector lba bytes at))

abbrev pub OnRead : (at : ℕ) → MirrorRegister → (lba n : ℕ) → (bytes : List ℕ) → MirrorEvent → MirrorRegister → Type 0
OnRead at r lba n bytes (mirrors.Shows first) after = (first ≡ lba) × GivesSector at r lba n bytes × (after ≡ r)
OnRead at r lba n bytes (mirrors.Unread named) after = after ≡ r
OnRead at r lba n bytes event after = OnRefusal r event after

-- a refusal that names a sector came after all blocks before that one's were written
abbrev pub written_before : (named at : ℕ) → MirrorRegister → Value → MirrorRegister
written_before named at r value = if nat_lt at (16 * block_with named) then settled_at r value else r

-- A write of these bytes to the sector. Done, it has them. One that was cut, or that could update no list, may have written it or not.
abbrev pub OnWrite : (at : ℕ) → MirrorRegister → List ℕ → MirrorEvent → MirrorRegister → Type 0
OnWrite at r bytes mirrors.Good after = after ≡ settled_at r (Bytes bytes)
OnWrite at r bytes (mirrors.Unread named) after = after ≡ written_before named at r (Bytes bytes)
OnWrite at r bytes (mirrors.NoSpare named) after = after ≡ written_before named at r (Bytes bytes)
OnWrite at r bytes (mirrors.NoUpdate counter) after = (after ≡ r) ⊎ (after ≡ settled_at r (Bytes bytes))
OnWrite at r bytes (mirrors.OfDisc events.Cut) after = after ≡ has_none (or_later r (Bytes bytes))
OnWrite at r bytes event after = OnRefusal r event after

-- A write of other sectors.
abbrev pub OnOther : MirrorRegister → MirrorEvent → MirrorRegister → Type 0
OnOther r mirrors.Good after = after ≡ r
OnOther r (mirrors.Unread named) after = after ≡ r
OnOther r (mirrors.NoSpare named) after = after ≡ r
OnOther r (mirrors.NoUpdate counter) after = after ≡ r
OnOther r event after = OnRefusal r event after

-- A format. Done, the sector has zeros, or the disc has no such sector. One that failed may leave no disc, and one that was cut may have
-- come so far or not.
abbrev pub OnFormat : MirrorRegister → MirrorEvent → MirrorRegister → Type 0
OnFormat r mirrors.Good after = (after ≡ settled_at r (Bytes (zeros 2048))) ⊎ (after ≡ emptied r)
OnFormat r (mirrors.TooMany count) after = after ≡ emptied r
OnFormat r (mirrors.NoUpdate counter) after = (after ≡ r) ⊎ (after ≡ emptied r)
OnFormat r (mirrors.OfDisc events.Cut) after = after ≡ has_none (or_later r (Bytes (zeros 2048)))
OnFormat r (mirrors.OfDisc events.Off) after = after ≡ r
OnFormat r _ after = ⊥

-- A resynchronisation leaves the sector.
abbrev pub OnResync : MirrorRegister → MirrorEvent → MirrorRegister → Type 0
OnResync r (mirrors.Left count) after = after ≡ r
OnResync r event after = OnRefusal r event after

-- It is told who leads, if it is known.
abbrev pub OnLead : MirrorRegister → MirrorEvent → MirrorRegister → Type 0
OnLead r (mirrors.Leads on_a) after = (r.led ≡ true) × (after ≡ r)
OnLead r mirrors.Unknown after = (r.led ≡ false) × (after ≡ r)
OnLead r _ after = ⊥

-- The lead is given to a side by hand, or could not be. The power is off then.
abbrev pub OnGiven : MirrorRegister → (to_a : Bool) → MirrorEvent → MirrorRegister → Type 0
OnGiven r to_a (mirrors.Leads on_a) after = (on_a ≡ to_a) × LeadsAnew r true after
OnGiven r to_a (mirrors.NoUpdate counter) after = after ≡ has_none r
OnGiven r to_a (mirrors.OfDisc events.Cut) after = after ≡ has_none r
OnGiven r to_a (mirrors.OfDisc events.Off) after = after ≡ r
OnGiven r to_a _ after = ⊥

-- A line with an answer. One that makes a block of a side fail, wears it or arms a cut leaves the sector.
abbrev pub OnLine : (at : ℕ) → MirrorRegister → MirrorLine → (payload : List ℕ) → MirrorEvent → (bytes : List ℕ) → MirrorRegister → Type 0
OnLine at r lines.Empty payload event bytes after = ⊥
OnLine at r (lines.Press zones scale psa) payload event bytes after = OnPress r event after
OnLine at r lines.Power payload event bytes after = OnPower at r event after
OnLine at r (lines.Read lba n) payload event bytes after = OnRead at r lba n bytes event after
OnLine at r (lines.Write lba n) payload event bytes after = MatchBool (is_sector_among lba n at)
    (OnWrite at r (bytes_of_sector lba payload at) event after) (OnOther r event after)
OnLine at r lines.Format payload event bytes after = OnFormat r event after
OnLine at r lines.Resync payload event bytes after = OnResync r event after
OnLine at r lines.Lead payload event bytes after = OnLead r event after
OnLine at r (lines.GiveLead to_a) payload event bytes after = OnGiven r to_a event after
OnLine at r (lines.Fail on_a block) payload event bytes after = after ≡ r
OnLine at r (lines.Wear on_a block n) payload event bytes after = after ≡ r
OnLine at r (lines.Cut on_a n fate) payload event bytes after = after ≡ r

-- One line, with its data, what it was answered and the bytes that a read gave: from one register to the next. A line that says nothing
-- is not answered.
abbrev pub MirrorTurn : (at : ℕ) → MirrorRegister → MirrorLine → (payload : List ℕ) → Told → (bytes : List ℕ) → MirrorRegister → Type 0
MirrorTurn at r line payload told.Nothing bytes after = (line ≡ lines.Empty) × (after ≡ r)
MirrorTurn at r line payload (told.Event event) bytes after = OnLine at r line payload event bytes after

-- One line that was answered: its bytes; what they say, with their data; what it was answered, and the bytes that a read gave.
pub record MirrorAnswered : Type 0 where
  pub raw : List ℕ
  pub line : MirrorLine
  pub payload : List ℕ
  pub told : Told
  pub bytes : List ℕ

-- The lines, the newest first, take the first register to the last.
abbrev pub MirrorTurns : (at : ℕ) → MirrorRegister → List MirrorAnswered → MirrorRegister → Type 0
MirrorTurns at first [] last = last ≡ first
MirrorTurns at first (event ∷ events) last =
    (before : MirrorRegister) × MirrorTurns at first events before
    × MirrorTurn at before event.line event.payload event.told event.bytes last

-- What it is when images of these bytes were opened: the power is off, and nobody leads. A sector that is lost has no bytes that a read
-- shows.
pub record IsMirrorOpened (images : TwoImages) (at : ℕ) (r : MirrorRegister) : Type 0 where
  pub off : r.now ≡ None
  pub held : (value : Value) → Contains r.falls value → MayHold images.a at value ⊎ MayHold images.b at value
  pub unled : r.led ≡ false

-- The sector is a register over these lines, from images of these bytes on.
pub record IsMirrorRegister (images : TwoImages) (events : List MirrorAnswered) (at : ℕ) : Type 0 where
  pub first : MirrorRegister
  pub last : MirrorRegister
  pub opened : IsMirrorOpened images at first
  pub turns : MirrorTurns at first events last

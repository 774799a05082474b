-- Each call of a mirror that reads or writes, and the register of a sector.
use Rattle.std.specs.Prelude.{◌≡◌, ℕ, ◌*◌, Bool, true, false, MatchBool, List, length}
use Rattle.std.proofs.Common.{refl, sym, ◌∙◌, inl, inr, subst}
use Rattle.model_sectors.specs.declared.ReadOut.{ReadOut}
use Rattle.model_sectors.specs.declared.ReadOut.TheVariants as reads
use Rattle.model_drive.specs.declared.WriteOut.{WriteOut}
use Rattle.model_drive.specs.declared.WriteOut.TheVariants as writes
use Rattle.model_drive.specs.declared.FormatOut.{FormatOut}
use Rattle.model_drive.specs.declared.FormatOut.TheVariants as formats
use Rattle.model_drive.specs.Parts.{IsInRange}
use Rattle.model_mirror.specs.declared.Resync.{Resync}
use Rattle.model_mirror.specs.declared.Resync.TheVariants as resyncs
use Rattle.model_mirror.specs.Shown.{MirrorShown}
use Rattle.model_mirror.specs.Reads.{ReadsWithSides}
use Rattle.model_mirror.specs.Writes.{MirrorWriteCause, WritesWithSides, WritesLed, LeadWrites, write_is_stopped}
use Rattle.model_mirror.specs.Whole.{FormatsOn, ResyncsOn}
use Rattle.model_mirror.proofs.WriteSteps.{lies_in_range}
use Rattle.ram_report.specs.declared.printing.MirrorEvent.{MirrorEvent}
use Rattle.ram_machine.specs.SectorBytes.{bytes_of_sector, is_sector_among}
use Rattle.ram_pair.specs.Told.{read_told, write_told, format_told, resync_told}
use Rattle.ram_pair.specs.PairLines.{ReadCall, WriteCall, FormatCall, ResyncCall}
use Rattle.ram_mirrored.specs.MirrorRegister.{MirrorRegister, OnRead, OnWrite, OnOther, OnFormat, OnResync}
use Rattle.ram_mirrored.proofs.MirrorLeads.{read_known, write_known, format_known, resync_known}
use Rattle.ram_mirrored.proofs.MirrorSectors.{HeldBoth, NobodyHolds, HeldBy, MatchesMirror, Turned}
use Rattle.ram_mirrored.proofs.MirrorTurns.{when_off, unchanged, read_turn, resync_turn, format_turn, LiesFor, any_write}

-- ---- where a write went, the sectors are the disc's
module _ (old : MirrorShown) (lba n : ℕ) where
  abbrev Ranged : WriteOut → Type 0
  Ranged writes.NotFormatted = Unit {0}
  Ranged (writes.Range capacity) = Unit {0}
  Ranged writes.Off = Unit {0}
  Ranged _ = IsInRange old.lead lba n

  ranged : (out : WriteOut) → IsInRange old.lead lba n → Ranged out
  ranged writes.NotFormatted inside = tt
  ranged (writes.Range capacity) inside = tt
  ranged writes.Off inside = tt
  ranged _ inside = inside

  stopped_range : (mid : MirrorShown) (lost : WriteOut) → write_is_stopped lost ≡ true → LeadWrites old mid lba n lost → IsInRange old.lead lba n
  stopped_range mid writes.Cut is led = led.0.wrote.wrote.inside
  stopped_range mid writes.Fault is led = led.0.wrote.wrote.inside
  stopped_range mid writes.Good is led = absurd (let w = is in cc)
  stopped_range mid writes.NotFormatted is led = absurd (let w = is in cc)
  stopped_range mid (writes.Range capacity) is led = absurd (let w = is in cc)
  stopped_range mid (writes.Unread named block) is led = absurd (let w = is in cc)
  stopped_range mid (writes.NoSpare named) is led = absurd (let w = is in cc)
  stopped_range mid (writes.NoUpdate counter) is led = absurd (let w = is in cc)
  stopped_range mid writes.Off is led = absurd (let w = is in cc)

  led_range : (new : MirrorShown) (out : WriteOut) → WritesLed old new lba n out → Ranged out
  led_range new writes.Good led = led.lead.0.wrote.ends.wrote.inside
  led_range new writes.NotFormatted led = tt
  led_range new (writes.Range capacity) led = tt
  led_range new (writes.Unread named block) led = led.lead.0.wrote.ends.wrote.inside
  led_range new (writes.NoSpare named) led = led.lead.0.wrote.ends.wrote.inside
  led_range new (writes.NoUpdate counter) led = led.lead.0.wrote.ends.wrote.inside
  led_range new writes.Cut led = led.0.wrote.wrote.inside
  led_range new writes.Off led = tt
  led_range new writes.Fault led = led.0.wrote.wrote.inside

  with_sides : (new : MirrorShown) (out : WriteOut) → WritesWithSides old new lba n out → Ranged out
  with_sides new out (inl (on, led)) = led_range new out led
  with_sides new out (inr (inl other)) = ranged out (stopped_range other.mid other.lost other.stopped other.led)
  with_sides new out (inr (inr stopped)) = ranged out (stopped_range stopped.mid out stopped.stopped stopped.led)

  write_range : (new : MirrorShown) (out : WriteOut) → MirrorWriteCause old new lba n out → old.on ≡ true → Ranged out
  write_range new out cause on = go old.on on cause
    where
      go : (b : Bool) → b ≡ true → MatchBool b (WritesWithSides old new lba n out) ((out ≡ writes.Off) × (new ≡ old)) → Ranged out
      go true is p = with_sides new out p
      go false is p = absurd (let w = is in cc)

module _ (at : ℕ) (old new : MirrorShown) (r : MirrorRegister) (was : MatchesMirror at old r) where
  -- by whether it was known who leads
  pub by_known : (Rule : MirrorRegister → Type 0) → (old.who.known ≡ true → r.led ≡ true → HeldBoth at old r → Turned at new Rule)
      → (old.who.known ≡ false → r.led ≡ false → NobodyHolds at old r → Turned at new Rule) → Turned at new Rule
  by_known Rule some none = go old.who.known refl was.led was.held
    where
      go : (known : Bool) → old.who.known ≡ known → r.led ≡ known → HeldBy at old r known → Turned at new Rule
      go true is led held = some is led held
      go false is led held = none is led held

  -- a mirror that is off is not changed
  pub left_off : (Rule : MirrorRegister → Type 0) → Rule r → new ≡ old → Turned at new Rule
  left_off Rule rule same = record { after = r; rule = rule; matches = unchanged at old new r same was }

  pub read_called : (lba n : ℕ) (bytes : List ℕ) (told : MirrorEvent) → ReadCall old new lba n bytes told → Turned at new (λ after. OnRead at r lba n bytes told after)
  read_called lba n bytes told call =
      subst (λ (e : MirrorEvent). Turned at new (λ after. OnRead at r lba n bytes e after)) (sym call.told_is)
      (by_known (λ after. OnRead at r lba n bytes (read_told lba call.out) after)
      (λ known led held. read_turn at old new r led (read_known old new lba n call.out call.cause ∙ known) held lba n bytes call.out call.whole call.step)
      (λ known led none.
      let off = when_off at old new r (ReadsWithSides old new lba n call.out) ((call.out ≡ reads.Off) × (new ≡ old)) old.on none.off call.cause in
      left_off (λ after. OnRead at r lba n bytes (read_told lba call.out) after)
      (subst (λ (o : ReadOut). OnRead at r lba n bytes (read_told lba o) r) (sym off.0) refl) off.1))

  pub resync_called : (told : MirrorEvent) → ResyncCall old new told → Turned at new (λ after. OnResync r told after)
  resync_called told call =
      subst (λ (e : MirrorEvent). Turned at new (λ after. OnResync r e after)) (sym call.told_is)
      (by_known (λ after. OnResync r (resync_told call.out) after)
      (λ known led held. resync_turn at old new r led (resync_known old new call.out call.cause ∙ known) held call.out call.step)
      (λ known led none.
      let off = when_off at old new r (ResyncsOn old new call.out) ((call.out ≡ resyncs.Off) × (new ≡ old)) old.on none.off call.cause in
      left_off (λ after. OnResync r (resync_told call.out) after)
      (subst (λ (o : Resync). OnResync r (resync_told o) r) (sym off.0) refl) off.1))

  pub format_called : (told : MirrorEvent) → FormatCall old new told → Turned at new (λ after. OnFormat r told after)
  format_called told call =
      subst (λ (e : MirrorEvent). Turned at new (λ after. OnFormat r e after)) (sym call.told_is)
      (by_known (λ after. OnFormat r (format_told call.out) after)
      (λ known led held. format_turn at old new r led (format_known old new call.out call.cause ∙ known) held call.out call.step)
      (λ known led none.
      let off = when_off at old new r (FormatsOn old new call.out) ((call.out ≡ formats.Off) × (new ≡ old)) old.on none.off call.cause in
      left_off (λ after. OnFormat r (format_told call.out) after)
      (subst (λ (o : FormatOut). OnFormat r (format_told o) r) (sym off.0) refl) off.1))

  module _ (lba n : ℕ) (payload : List ℕ) (whole : length payload ≡ 2048 * n) where
    lies_for : (out : WriteOut) → MirrorWriteCause old new lba n out → LiesFor old lba n payload out
    lies_for writes.Good cause = λ disc may. lies_in_range old.lead disc lba n payload may.1 (write_range old lba n new writes.Good cause may.0) whole
    lies_for writes.NotFormatted cause = tt
    lies_for (writes.Range capacity) cause = tt
    lies_for (writes.Unread named block) cause = λ disc may. lies_in_range old.lead disc lba n payload may.1 (write_range old lba n new (writes.Unread named block) cause may.0) whole
    lies_for (writes.NoSpare named) cause = λ disc may. lies_in_range old.lead disc lba n payload may.1 (write_range old lba n new (writes.NoSpare named) cause may.0) whole
    lies_for (writes.NoUpdate counter) cause = λ disc may. lies_in_range old.lead disc lba n payload may.1 (write_range old lba n new (writes.NoUpdate counter) cause may.0) whole
    lies_for writes.Cut cause = λ disc may. lies_in_range old.lead disc lba n payload may.1 (write_range old lba n new writes.Cut cause may.0) whole
    lies_for writes.Off cause = tt
    lies_for writes.Fault cause = λ disc may. lies_in_range old.lead disc lba n payload may.1 (write_range old lba n new writes.Fault cause may.0) whole

    abbrev Wrote : MirrorEvent → MirrorRegister → Type 0
    Wrote told after = MatchBool (is_sector_among lba n at) (OnWrite at r (bytes_of_sector lba payload at) told after) (OnOther r told after)

    -- a write of a mirror that is off
    off_wrote : (b : Bool) → MatchBool b (OnWrite at r (bytes_of_sector lba payload at) (write_told writes.Off) r) (OnOther r (write_told writes.Off) r)
    off_wrote true = refl
    off_wrote false = refl

    pub write_called : (told : MirrorEvent) → WriteCall old new lba n payload told → Turned at new (λ after. Wrote told after)
    write_called told call =
        subst (λ (e : MirrorEvent). Turned at new (λ after. Wrote e after)) (sym call.told_is)
        (by_known (λ after. Wrote (write_told call.out) after)
        (λ known led held. any_write at old new r led (write_known old new lba n call.out call.cause ∙ known) held lba n payload call.out (lies_for call.out call.cause) call.step)
        (λ known led none.
        let off = when_off at old new r (WritesWithSides old new lba n call.out) ((call.out ≡ writes.Off) × (new ≡ old)) old.on none.off call.cause in
        left_off (λ after. Wrote (write_told call.out) after)
        (subst (λ (o : WriteOut). Wrote (write_told o) r) (sym off.0) (off_wrote (is_sector_among lba n at))) off.1))

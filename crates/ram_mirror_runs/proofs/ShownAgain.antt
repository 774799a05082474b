-- A sector that was written good is kept, and one that is kept is shown by each read that is answered with bytes.
use Rattle.std.specs.Prelude.{◌≡◌, ℕ, ◌+◌, ◌*◌, ◌<◌, ◌≤◌, MatchBool, Bool, true, false, Err, List, [], length, take}
use Rattle.std.proofs.Common.{arith, refl, sym, ap, ◌∙◌, inl, inr, subst}
use Rattle.std.proofs.Math.Seq.{drop-nil, take-nil}
use Rattle.model_sectors.specs.Discs.{Standing, On, Off, sectors_of}
use Rattle.model_sectors.specs.declared.ReadOut.{ReadOut}
use Rattle.model_sectors.specs.declared.ReadOut.TheVariants as reads
use Rattle.model_drive.specs.declared.WriteOut.{WriteOut}
use Rattle.model_drive.specs.declared.WriteOut.TheVariants as writes
use Rattle.model_drive.specs.Reads.{ReadStep}
use Rattle.model_drive.specs.Writes.{WriteStep}
use Rattle.model_mirror.specs.Shown.{MirrorShown}
use Rattle.model_mirror.specs.Reads.{MirrorReadCause, ReadsWithSides}
use Rattle.model_mirror.specs.Writes.{MirrorWriteCause}
use Rattle.model_mirror_laws.specs.Bytes.{ComesSo, HasSector, AllHave, IsKept}
use Rattle.model_mirror_laws.proofs.OverRuns.{write_begins}
use Rattle.ram_report.specs.declared.printing.MirrorEvent.{MirrorEvent}
use Rattle.ram_report.specs.declared.printing.MirrorEvent.TheVariants as mirrors
use Rattle.ram_text.specs.declared.mirror.MirrorLine.{MirrorLine}
use Rattle.ram_text.specs.declared.mirror.MirrorLine.TheVariants as lines
use Rattle.ram_machine.specs.declared.stopped.Stopped.TheVariants as stopped
use Rattle.ram_machine.specs.SectorBytes.{bytes_of_sector}
use Rattle.ram_answers.specs.Texts.{AnsweredText}
use Rattle.ram_pair.specs.Told.{answered, image_failed, read_told, write_told}
use Rattle.ram_pair.specs.PairStates.{TwoImages, PairState, Paired, Unpaired, Mirrored, IsFirstPair}
use Rattle.ram_pair.specs.PairSteps.{MirrorStep, OnMirror}
use Rattle.ram_pair.specs.PairTexts.{PairRun}
use Rattle.ram_mirrored.proofs.MirrorSectors.{is_among, sector_among}
use Rattle.ram_mirror_runs.specs.Histories.{History, GiveNoLead}
use Rattle.ram_mirror_runs.specs.Keeping.{KeepsOver, WritesSector, ShowsSector}
use Rattle.ram_mirror_runs.proofs.WellKept.{write_well}
use Rattle.ram_mirror_runs.proofs.Lying.{lie_again}
use Rattle.ram_mirror_runs.proofs.StaysKept.{write_whole, KeptPair, history_kept}
use Rattle.ram_mirror_runs.proofs.Upright.{StandingPair, first_stands, run_stands}

-- what was called is what was told
told_so : (s t : Mirrored) (line : MirrorLine) (payload gave : List ℕ) (event : MirrorEvent) (step : MirrorStep s t line payload (answered event) gave) → step.called ≡ event
told_so s t line payload gave event step = elim step.ends [
  | inl done ↦ (let same : answered event ≡ answered step.called = done.1 in cc)
  | inr failed ↦ absurd (let clash : answered event ≡ image_failed = failed.1 in cc)
]

-- without a mirror no line is answered
not_unpaired : (event : MirrorEvent) → answered event ≡ Err stopped.NotADisc → ⊥
not_unpaired event is = cc

good_write : (out : WriteOut) → write_told out ≡ mirrors.Good → out ≡ writes.Good
good_write writes.Good is = refl
good_write writes.NotFormatted is = absurd (let w = is in cc)
good_write (writes.Range capacity) is = absurd (let w = is in cc)
good_write (writes.Unread named block) is = absurd (let w = is in cc)
good_write (writes.NoSpare named) is = absurd (let w = is in cc)
good_write (writes.NoUpdate counter) is = absurd (let w = is in cc)
good_write writes.Cut is = absurd (let w = is in cc)
good_write writes.Off is = absurd (let w = is in cc)
good_write writes.Fault is = absurd (let w = is in cc)

good_read : (lba first : ℕ) (out : ReadOut) → read_told lba out ≡ mirrors.Shows first → out ≡ reads.Good
good_read lba first reads.Good is = refl
good_read lba first reads.NotFormatted is = absurd (let w = is in cc)
good_read lba first (reads.Range capacity) is = absurd (let w = is in cc)
good_read lba first (reads.Unread named block) is = absurd (let w = is in cc)
good_read lba first reads.Cut is = absurd (let w = is in cc)
good_read lba first reads.Off is = absurd (let w = is in cc)
good_read lba first reads.Fault is = absurd (let w = is in cc)

module _ (at : ℕ) where
  pub write_keeps : (bytes : List ℕ) (s t : PairState) → WritesSector at bytes s t → StandingPair s → KeptPair at bytes t
  write_keeps bytes s t wrote = go s t wrote.answers.step
    where
      go : (s t : PairState) → OnMirror s (lines.Write wrote.lba wrote.n) wrote.payload (answered mirrors.Good) wrote.gave t → StandingPair s → KeptPair at bytes t
      go (Unpaired images) t step was = absurd (not_unpaired mirrors.Good step.0)
      go (Paired s) (Unpaired images) step was = absurd step
      go (Paired s) (Paired t) step (shape, was) =
          let call = step.rule in
          let among = is_among wrote.lba wrote.n at wrote.among in
          let within : at < wrote.lba + wrote.n = among.1 in
          let good : call.out ≡ writes.Good = good_write call.out (sym call.told_is ∙ told_so s t _ wrote.payload wrote.gave mirrors.Good step) in
          let well = was.up.well in
          let kept = write_begins shape s.shown t.shown well.sides wrote.lba wrote.n wrote.payload (write_whole wrote.answers.raw wrote.lba wrote.n wrote.payload wrote.answers.reads) at among.0 (omega (arith, within))
          (subst (MirrorWriteCause s.shown t.shown wrote.lba wrote.n) good call.cause)
          (subst (λ (o : WriteOut). ComesSo s.shown t.shown (λ x y. WriteStep t.shown.lead (λ z. z ≡ y) x wrote.lba wrote.n wrote.payload o)) good call.step)
          well.knows was.may.standing was.may.stands in (
            shape,
            record {
              up = record { well = write_well shape s.shown t.shown well wrote.lba wrote.n call.out call.cause; lie = lie_again shape s t _ wrote.payload (answered mirrors.Good) wrote.gave step was.up.lie };
              kept = subst (λ (b : List ℕ). IsKept at b t.shown) (sym wrote.bytes_are) kept;
            },
          )

none_of : (lba n : ℕ) → sectors_of [] lba n ≡ []
unfolding sectors_of
none_of lba n = ap (take (2048 * n)) (drop-nil (2048 * lba)) ∙ take-nil (2048 * n)

-- a read of sectors among which it is
module _ (at : ℕ) (bytes : List ℕ) (lba n : ℕ) (shown : List ℕ) (whole : length shown ≡ 2048 * n) (from : lba ≤ at) (within : at < lba + n) where
  disc_shows : (disc : List ℕ) → HasSector at bytes disc → shown ≡ sectors_of disc lba n → bytes_of_sector lba shown at ≡ bytes
  disc_shows disc has is = elim has [
    | inl none ↦ absurd (
        let short : length shown ≡ 0 = ap length (is ∙ ap (λ (d : List ℕ). sectors_of d lba n) none ∙ none_of lba n) in
        omega (arith, whole, short, from, within))
    | inr held ↦ ap (λ (b : List ℕ). bytes_of_sector lba b at) is ∙ sector_among disc lba n at from within ∙ held
  ]

  step_shows : (s t : Standing) → AllHave at bytes s → ReadStep (λ x. x ≡ t) s lba n shown reads.Good → bytes_of_sector lba shown at ≡ bytes
  step_shows (On disc) t each step = disc_shows disc each.0 step.0
  step_shows (Off discs) t each step = absurd step

  call_shows : (old new : MirrorShown) → MirrorReadCause old new lba n reads.Good → ComesSo old new (λ s t. ReadStep (λ x. x ≡ t) s lba n shown reads.Good) → IsKept at bytes old → bytes_of_sector lba shown at ≡ bytes
  call_shows old new cause comes kept = go old.on refl cause
    where
      go : (b : Bool) → old.on ≡ b → MatchBool b (ReadsWithSides old new lba n reads.Good) ((reads.Good ≡ reads.Off) × (new ≡ old)) → bytes_of_sector lba shown at ≡ bytes
      go true on c =
          let shows = kept.1.shows on in
          let after = comes shows.standing shows.stands in
          step_shows shows.standing after.0 shows.each after.2
      go false on p = absurd (let w = p.0 in cc)

pub read_shows : (at : ℕ) (bytes found : List ℕ) (s t : PairState) → ShowsSector at found s t → KeptPair at bytes s → found ≡ bytes
read_shows at bytes found s t shows = go s t shows.answers.step
  where
    go : (s t : PairState) → OnMirror s (lines.Read shows.lba shows.n) shows.payload (answered (mirrors.Shows shows.first)) shows.shown t → KeptPair at bytes s → found ≡ bytes
    go (Unpaired images) t step kept = absurd kept
    go (Paired s) (Unpaired images) step kept = absurd step
    go (Paired s) (Paired t) step (shape, kept) =
        let call = step.rule in
        let among = is_among shows.lba shows.n at shows.among in
        let good : call.out ≡ reads.Good = good_read shows.lba shows.first call.out (sym call.told_is ∙ told_so s t _ shows.payload shows.shown (mirrors.Shows shows.first) step) in
        shows.bytes_are
        ∙ call_shows at bytes shows.lba shows.n shows.shown call.whole among.0 among.1 s.shown t.shown (subst (MirrorReadCause s.shown t.shown shows.lba shows.n) good call.cause)
        (subst (λ (o : ReadOut). ComesSo s.shown t.shown (λ x y. ReadStep (λ z. z ≡ y) x shows.lba shows.n shows.shown o)) good call.step) kept.kept

pub shown_over_runs : (images : TwoImages) (start : PairState) → IsFirstPair images start → (events : List AnsweredText) (before : PairState) → PairRun start events before → GiveNoLead events
    → (at : ℕ) (bytes : List ℕ) (after : PairState) → WritesSector at bytes before after → (steps : ℕ) (later : PairState) (history : History after later steps) → KeepsOver at after later steps history
    → (found : List ℕ) (last : PairState) → ShowsSector at found later last → found ≡ bytes
shown_over_runs images start begins events before run none at bytes after wrote steps later history keeps found last shows =
    let was = run_stands start before events run none (first_stands images start begins) in
    read_shows at bytes found later last shows (history_kept at bytes after later steps history keeps (write_keeps at bytes before after wrote was))

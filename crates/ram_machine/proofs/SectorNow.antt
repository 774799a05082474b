-- What a drive has in a sector now, and what calls that do not write it leave of that.
use Rattle.std.specs.Prelude.{◌≡◌, ℕ, ◌+◌, ◌*◌, ◌<◌, ◌≤◌, Bool, nat_lt, if◌then◌else◌, Option, None, Some, List, length}
use Rattle.std.proofs.Common.{arith, sym, ap, ◌∙◌, inl, inr, length-take}
use Rattle.std.proofs.lemmas.Bool.{cases_lt, lt-ltb, le-ltb}
use Rattle.model_sectors.specs.Discs.{sectors_of}
use Rattle.model_sectors.specs.declared.ReadOut.{ReadOut}
use Rattle.model_sectors.specs.declared.ReadOut.TheVariants as reads
use Rattle.model_drive.specs.declared.ExpandOut.{ExpandOut}
use Rattle.model_drive.specs.declared.ExpandOut.TheVariants as expands
use Rattle.model_drive.specs.Expands.{shortened}
use Rattle.model_cache.specs.declared.SyncOut.{SyncOut}
use Rattle.model_cache.specs.declared.SyncOut.TheVariants as syncs
use Rattle.model_cache.specs.declared.TickOut.{TickOut}
use Rattle.model_cache.specs.declared.TickOut.TheVariants as ticks
use Rattle.model_cache.specs.Values.{Contents, Has, MayHave, settled_values, settled_but}
use Rattle.model_cache.specs.Shown.{CacheShown}
use Rattle.model_cache.specs.Steps.{ReadContents, VerifyContents, ExpandContents, SyncContents, TickContents}
use Rattle.model_sense.specs.declared.answer.Answer.{Answer}
use Rattle.model_sense.specs.declared.answer.Answer.TheVariants as answers
use Rattle.model_target.specs.Steps.{read_answer, expand_answer, sync_answer}
use Rattle.ram_machine.proofs.Shortened.{front_sector}

-- the bytes of a sector of a disc, if it has the sector
abbrev pub now_of : (at : ℕ) → List ℕ → Option (List ℕ)
now_of at disc = if nat_lt (length disc) (2048 * (at + 1)) then None else Some (sectors_of disc at 1)

-- and of what a drive stands for: none with the power off
abbrev pub now_in : (at : ℕ) → Contents → Option (List ℕ)
now_in at (Has v) = now_of at v.disc
now_in at (MayHave all) = None

-- how a tick is answered, as a command would be
abbrev pub tick_answer : TickOut → Answer
tick_answer ticks.Idle = answers.Good
tick_answer (ticks.Written lba) = answers.Good
tick_answer (ticks.NoSpare lba) = answers.Good
tick_answer (ticks.NoUpdate counter) = answers.Good
tick_answer ticks.Cut = answers.Cut
tick_answer ticks.Off = answers.Off
tick_answer ticks.Fault = answers.Fault

module _ (at : ℕ) where
  pub now_there : (disc : List ℕ) → 2048 * (at + 1) ≤ length disc → now_of at disc ≡ Some (sectors_of disc at 1)
  now_there disc inside = ap (λ (b : Bool). if b then None else Some (sectors_of disc at 1)) (le-ltb (length disc) (2048 * (at + 1)) inside)

  pub now_gone : (disc : List ℕ) → length disc < 2048 * (at + 1) → now_of at disc ≡ None
  now_gone disc past = ap (λ (b : Bool). if b then None else Some (sectors_of disc at 1)) (lt-ltb (length disc) (2048 * (at + 1)) past)

  -- as long, with the same sector
  pub now_same : (disc other : List ℕ) → length other ≡ length disc → sectors_of other at 1 ≡ sectors_of disc at 1 → now_of at other ≡ now_of at disc
  now_same disc other long sector =
      ap (λ (l : ℕ). if nat_lt l (2048 * (at + 1)) then None else Some (sectors_of other at 1)) long
      ∙ ap (λ (s : List ℕ). if nat_lt (length disc) (2048 * (at + 1)) then None else Some s) sector

  -- where it has some, the disc has the sector
  pub some_inside : (disc bytes : List ℕ) → now_of at disc ≡ Some bytes → (2048 * (at + 1) ≤ length disc) × (sectors_of disc at 1 ≡ bytes)
  some_inside disc bytes is = elim (cases_lt (length disc) (2048 * (at + 1))) [
    | inl past ↦ absurd (none_some (now_gone disc past) is)
    | inr inside ↦ (inside, some_some (sym (now_there disc inside) ∙ is))
  ]
    where
      none_some : {o : Option (List ℕ)} → o ≡ None → o ≡ Some bytes → ⊥
      none_some none some = let clash : None ≡ Some bytes = sym none ∙ some in cc

      some_some : {a : List ℕ} → Some a ≡ Some bytes → a ≡ bytes
      some_some e = cc

  -- What an answer leaves of it: what was there, and none where the power was cut.
  abbrev pub Stays : Answer → Contents → Contents → Type 0
  Stays answers.Cut s t = now_in at t ≡ None
  Stays answers.Fault s t = Unit {0}
  Stays _ s t = now_in at t ≡ now_in at s

  -- these are what is there now
  pub here : (s t : Contents) → s ≡ t → now_in at t ≡ now_in at s
  here s t is = sym (ap (now_in at) is)

  pub read_stays : (s t : Contents) (lba n : ℕ) (into : List ℕ) (out : ReadOut) → ReadContents (λ x. x ≡ t) s lba n into out → Stays (read_answer out) s t
  read_stays (Has v) t lba n into reads.Good step = here (Has v) t step.1
  read_stays (Has v) t lba n into reads.NotFormatted step = here (Has v) t step.1
  read_stays (Has v) t lba n into (reads.Range known) step = here (Has v) t step
  read_stays (Has v) t lba n into (reads.Unread named block) step = here (Has v) t step
  read_stays (Has v) t lba n into reads.Cut step = sym (ap (now_in at) step)
  read_stays (Has v) t lba n into reads.Off step = absurd step
  read_stays (Has v) t lba n into reads.Fault step = tt
  read_stays (MayHave all) t lba n into reads.Off step = here (MayHave all) t step
  read_stays (MayHave all) t lba n into _ step = absurd step

  pub verify_stays : (s t : Contents) (out : ReadOut) → VerifyContents (λ x. x ≡ t) s out → Stays (read_answer out) s t
  verify_stays (Has v) t reads.Good step = here (Has v) t step
  verify_stays (Has v) t reads.NotFormatted step = here (Has v) t step
  verify_stays (Has v) t (reads.Range known) step = here (Has v) t step
  verify_stays (Has v) t (reads.Unread named block) step = here (Has v) t step
  verify_stays (Has v) t reads.Cut step = sym (ap (now_in at) step)
  verify_stays (Has v) t reads.Off step = absurd step
  verify_stays (Has v) t reads.Fault step = tt
  verify_stays (MayHave all) t reads.Off step = here (MayHave all) t step
  verify_stays (MayHave all) t _ step = absurd step

  pub sync_stays : (new : CacheShown) (s t : Contents) (out : SyncOut) → SyncContents new (λ x. x ≡ t) s out → Stays (sync_answer out) s t
  sync_stays new (Has v) t syncs.Good step = here (Has (settled_values v.disc)) t step
  sync_stays new (Has v) t syncs.NotFormatted step = here (Has v) t step.1
  sync_stays new (Has v) t (syncs.NoSpare lba) step = here (Has (settled_but new.pending v)) t step
  sync_stays new (Has v) t (syncs.NoUpdate counter) step = here (Has (settled_but new.pending v)) t step
  sync_stays new (Has v) t syncs.Cut step = sym (ap (now_in at) step)
  sync_stays new (Has v) t syncs.Off step = absurd step
  sync_stays new (Has v) t syncs.Fault step = tt
  sync_stays new (MayHave all) t syncs.Off step = here (MayHave all) t step
  sync_stays new (MayHave all) t _ step = absurd step

  pub tick_stays : (s t : Contents) (out : TickOut) → TickContents (λ x. x ≡ t) s out → Stays (tick_answer out) s t
  tick_stays (Has v) t ticks.Idle step = here (Has v) t step
  tick_stays (Has v) t (ticks.Written lba) step = here (Has v) t step
  tick_stays (Has v) t (ticks.NoSpare lba) step = here (Has v) t step
  tick_stays (Has v) t (ticks.NoUpdate counter) step = here (Has v) t step
  tick_stays (Has v) t ticks.Cut step = sym (ap (now_in at) step)
  tick_stays (Has v) t ticks.Off step = absurd step
  tick_stays (Has v) t ticks.Fault step = tt
  tick_stays (MayHave all) t ticks.Off step = here (MayHave all) t step
  tick_stays (MayHave all) t _ step = absurd step

  -- An expansion that is done leaves the sectors below the new capacity.
  abbrev pub Expanded : (sectors : ℕ) → Answer → Contents → Contents → Type 0
  Expanded sectors answers.Good s t = now_in at t ≡ (if nat_lt at sectors then now_in at s else None)
  Expanded sectors answer s t = Stays answer s t

  short_now : (disc : List ℕ) (sectors : ℕ) → now_of at (shortened sectors disc) ≡ (if nat_lt at sectors then now_of at disc else None)
  short_now disc sectors = elim (cases_lt at sectors) [
    | inl below ↦ below_now below ∙ sym (ap (λ (b : Bool). if b then now_of at disc else None) (lt-ltb at sectors below))
    | inr past ↦ now_gone (shortened sectors disc) (omega (arith, past, length-take (2048 * sectors) disc))
        ∙ sym (ap (λ (b : Bool). if b then now_of at disc else None) (le-ltb at sectors past))
  ]
    where
      below_now : at < sectors → now_of at (shortened sectors disc) ≡ now_of at disc
      below_now below = elim (cases_lt (length disc) (2048 * (at + 1))) [
        | inl out ↦ now_gone (shortened sectors disc) (omega (arith, out, length-take (2048 * sectors) disc)) ∙ sym (now_gone disc out)
        | inr inside ↦
            let still : 2048 * (at + 1) ≤ length (shortened sectors disc) = omega (arith, below, inside, length-take (2048 * sectors) disc) in
            now_there (shortened sectors disc) still ∙ ap Some (front_sector disc sectors at still) ∙ sym (now_there disc inside)
      ]

  pub expand_now : (s t : Contents) (sectors : ℕ) (out : ExpandOut) → ExpandContents (λ x. x ≡ t) s sectors out → Expanded sectors (expand_answer out) s t
  expand_now (Has v) t sectors expands.Good step = sym (ap (now_in at) step) ∙ short_now v.disc sectors
  expand_now (Has v) t sectors expands.NotFormatted step = here (Has v) t step.1
  expand_now (Has v) t sectors (expands.Refused known) step = here (Has v) t step
  expand_now (Has v) t sectors (expands.NoUpdate counter) step = here (Has v) t step
  expand_now (Has v) t sectors expands.Cut step = sym (ap (now_in at) step)
  expand_now (Has v) t sectors expands.Off step = absurd step
  expand_now (Has v) t sectors expands.Fault step = tt
  expand_now (MayHave all) t sectors expands.Off step = here (MayHave all) t step
  expand_now (MayHave all) t sectors _ step = absurd step

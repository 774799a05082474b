-- What holds of the numbers of all copies of the record of one side, as that is read and written.
use Rattle.std.specs.Prelude.{◌≡◌, ◌≢◌, ◌⊎◌, ℕ, ◌+◌, ◌<◌, ◌≤◌, MatchBool, Bool, true, false, nat_lt, List}
use Rattle.std.proofs.Common.{refl, sym, ap, ◌∙◌, inl, inr, subst, arith}
use Rattle.std.proofs.lemmas.Bool.{ltb-false, ltb-true}
use Rattle.model_geometry.specs.Geometry.{Shape, record_block}
use Rattle.model_lists.specs.Records.{LeadRecord, IsRecordText}
use Rattle.model_lists.proofs.RecordTexts.{one_value}
use Rattle.model_medium.specs.Cells.{Cell, Blank, Good, Torn, Dead, cell_at}
use Rattle.model_copies.specs.Copies.{IsArea, Holds, HoldsOrDead, MayHold, IsSeen}
use Rattle.model_drive.specs.declared.RecordOut.{RecordOut}
use Rattle.model_drive.specs.declared.RecordOut.TheVariants as records
use Rattle.model_drive.specs.Shown.{Shown, IsKnown, cells_in}
use Rattle.model_drive.specs.Records.{IsRecordOf, RecordIsExact, HasLostRecord, LeadFromCause, GenerationCause, LeavesMending, MendsRecord}
use Rattle.model_drive.specs.Parts.{AreSameOrDead}
use Rattle.model_drive.proofs.Kept.{lead_kept, generation_kept}
use Rattle.model_mirror.specs.declared.Waking.{Waking}
use Rattle.model_mirror.specs.Leading.{Noted, Raises, WritesNumber, WritesNoNumber, numbered, after_reading, last_number}
use Rattle.model_mirror.specs.Powers.{WakesSide}
use Rattle.model_mirror_laws.specs.Kept.{KeepsRecord}
use Rattle.model_mirror_laws.specs.Ahead.{HoldsOfCopies, KeepsACopy, IsNoted}
use Rattle.model_mirror_laws.proofs.SideRecords.{power_keeps}

-- a cell that holds two records holds one
one_record : (cell : Cell) (v w : LeadRecord) → Holds IsRecordText cell v → Holds IsRecordText cell w → v ≡ w
one_record Blank v w a b = absurd a
one_record (Good bytes) v w a b = one_value v w bytes a b
one_record Torn v w a b = absurd a
one_record Dead v w a b = absurd a

exact_record : (cell : Cell) (v w : LeadRecord) → HoldsOrDead IsRecordText cell v → Holds IsRecordText cell w → w ≡ v
exact_record Blank v w a b = absurd b
exact_record (Good bytes) v w a b = one_value w v bytes b a
exact_record Torn v w a b = absurd b
exact_record Dead v w a b = absurd b

not_held : (cell : Cell) (v : LeadRecord) → cell ≡ Dead → Holds IsRecordText cell v → ⊥
not_held cell v dead held = subst (λ (c : Cell). Holds IsRecordText c v) dead held

torn_held : (cell : Cell) (v : LeadRecord) → cell ≡ Torn → Holds IsRecordText cell v → ⊥
torn_held cell v torn held = subst (λ (c : Cell). Holds IsRecordText c v) torn held

module _ (P : ℕ → Type 0) where
  -- the copies of a record that is exact
  pub exact_copies : (shown : Shown) (value : LeadRecord) → RecordIsExact shown value → P value.generation → HoldsOfCopies P shown
  exact_copies shown value exact has v area copy =
      subst (λ (r : LeadRecord). P r.generation) (sym (exact_record (cell_at (cells_in shown) (record_block shown.shape area)) value v (exact area copy.is_area) copy.holds)) has

  pub lost_copies : (shown : Shown) → HasLostRecord shown → HoldsOfCopies P shown
  lost_copies shown lost v area copy = absurd (not_held _ v (lost area copy.is_area) copy.holds)

  -- copies that stay as they are
  pub kept_copies : (old new : Shown) → KeepsRecord old new → HoldsOfCopies P old → HoldsOfCopies P new
  kept_copies old new keeps holds v area copy = holds v area (record {
    is_area = copy.is_area;
    holds = subst (λ (c : Cell). Holds IsRecordText c v) (keeps.same_copies area)
        (subst (λ (s : Shape). Holds IsRecordText (cell_at (cells_in new) (record_block s area)) v) keeps.same_shape copy.holds);
  })

  module _ (old new : Shown) (same_shape : new.shape ≡ old.shape) (holds : HoldsOfCopies P old) where
    -- each cell that can be read now was so before, or holds a record of such a number
    by_cells : ((area : ℕ) → IsArea area → (v : LeadRecord) → Holds IsRecordText (cell_at (cells_in new) (record_block old.shape area)) v → P v.generation) → HoldsOfCopies P new
    by_cells each v area copy = each area copy.is_area v (subst (λ (s : Shape). Holds IsRecordText (cell_at (cells_in new) (record_block s area)) v) same_shape copy.holds)

    same_cell : (area : ℕ) → IsArea area → (v : LeadRecord) → cell_at (cells_in new) (record_block old.shape area) ≡ cell_at (cells_in old) (record_block old.shape area)
        → Holds IsRecordText (cell_at (cells_in new) (record_block old.shape area)) v → P v.generation
    same_cell area is_area v same held = holds v area (record { is_area = is_area; holds = subst (λ (c : Cell). Holds IsRecordText c v) same held })

    may_copies : (value : LeadRecord) → P value.generation
        → ((area : ℕ) → IsArea area → MayHold IsRecordText (cell_at (cells_in old) (record_block old.shape area)) value (cell_at (cells_in new) (record_block old.shape area)))
        → HoldsOfCopies P new
    may_copies value has may = by_cells each
      where
        go : (area : ℕ) → IsArea area → (v : LeadRecord) → Holds IsRecordText (cell_at (cells_in new) (record_block old.shape area)) v
            → MayHold IsRecordText (cell_at (cells_in old) (record_block old.shape area)) value (cell_at (cells_in new) (record_block old.shape area)) → P v.generation
        go area is_area v held (inl same) = same_cell area is_area v same held
        go area is_area v held (inr (inl now)) = subst (λ (r : LeadRecord). P r.generation) (one_record _ value v now held) has
        go area is_area v held (inr (inr (inl torn))) = absurd (torn_held _ v torn held)
        go area is_area v held (inr (inr (inr dead))) = absurd (not_held _ v dead held)

        each : (area : ℕ) → IsArea area → (v : LeadRecord) → Holds IsRecordText (cell_at (cells_in new) (record_block old.shape area)) v → P v.generation
        each area is_area v held = go area is_area v held (may area is_area)

    pub dying_copies : AreSameOrDead (cells_in old) (cells_in new) → HoldsOfCopies P new
    dying_copies die = by_cells each
      where
        each : (area : ℕ) → IsArea area → (v : LeadRecord) → Holds IsRecordText (cell_at (cells_in new) (record_block old.shape area)) v → P v.generation
        each area is_area v held = elim (die (record_block old.shape area)) [
          | inl same ↦ same_cell area is_area v same held
          | inr dead ↦ absurd (not_held _ v dead held)
        ]

    -- the record that is chosen has such a number, where 0 has it or a copy lasts
    chosen_has : (seen : List Cell) (value : LeadRecord) → IsSeen (record_block old.shape) (cells_in old) seen (cells_in new) → IsRecordOf old.shape seen value → P 0 ⊎ KeepsACopy old new → P value.generation
    chosen_has seen value sees (inl chosen) why = elim (sees chosen.0 chosen.1.copy.is_area) [
      | inl same ↦ holds value chosen.0 (record { is_area = chosen.1.copy.is_area; holds = subst (λ (c : Cell). Holds IsRecordText c value) same chosen.1.copy.holds })
      | inr dead ↦ absurd (not_held _ value dead.0 chosen.1.copy.holds)
    ]
    chosen_has seen value sees (inr none) (inl zero_has) = subst (λ (r : LeadRecord). P r.generation) (sym none.1) zero_has
    chosen_has seen value sees (inr none) (inr last) = elim (sees last.area last.copy.is_area) [
      | inl same ↦ absurd (none.0 last.value last.area (record { is_area = last.copy.is_area; holds = subst (λ (c : Cell). Holds IsRecordText c last.value) (sym same) last.copy.holds }) tt)
      | inr dead ↦ absurd (last.lives dead.1)
    ]

    module _ (known : IsKnown old) where
      mended_has : (value : LeadRecord) → MendsRecord old new value → P 0 ⊎ KeepsACopy old new → P value.generation
      mended_has value mends why = chosen_has mends.seen value (mends.sees known) (mends.chosen known) why

      -- the record was read
      pub generation_has : (value : LeadRecord) → GenerationCause old new value records.Good → P 0 ⊎ KeepsACopy old new → P value.generation
      generation_has value cause why = mended_has value cause.mends why

      stopped_copies : (left : AreSameOrDead (cells_in old) (cells_in new) ⊎ LeavesMending old new) → P 0 ⊎ KeepsACopy old new → HoldsOfCopies P new
      stopped_copies (inl die) why = dying_copies die
      stopped_copies (inr m) why = may_copies m.value (chosen_has m.seen m.value m.sees m.chosen why) m.leaves.may

      pub generation_copies : (value : LeadRecord) (out : RecordOut) → GenerationCause old new value out → P 0 ⊎ KeepsACopy old new → HoldsOfCopies P new
      generation_copies value records.Good cause why = exact_copies new value (cause.exact known) (generation_has value cause why)
      generation_copies value records.Lost cause why = lost_copies new (cause.lost known)
      generation_copies value records.Cut cause why = stopped_copies (cause.left known) why
      generation_copies value records.Off cause why = subst (HoldsOfCopies P) (sym cause.nothing) holds
      generation_copies value records.Fault cause why = stopped_copies (cause.left known) why

      -- and was written
      pub lead_copies : (value : LeadRecord) (out : RecordOut) → LeadFromCause old new value out → P value.generation → HoldsOfCopies P new
      lead_copies value records.Good cause has = exact_copies new value (cause.exact known) has
      lead_copies value records.Lost cause has = lost_copies new (cause.lost known)
      lead_copies value records.Cut cause has = may_copies value has (cause.left known).may
      lead_copies value records.Off cause has = subst (HoldsOfCopies P) (sym cause.nothing) holds
      lead_copies value records.Fault cause has = may_copies value has (cause.left known).may

  -- so that it is made one with a greater number
  module _ (old new : Shown) (holds : HoldsOfCopies P old) (known : IsKnown old) where
    pub raised_copies : (was now : Noted) (above : ℕ) (out : RecordOut) → Raises old new was now above out → (was.most ≤ above → P (above + 1)) → HoldsOfCopies P new
    raised_copies was now above out raises has = go (nat_lt above was.most) refl raises
      where
        same : WritesNoNumber old new was now → HoldsOfCopies P new
        same p = subst (HoldsOfCopies P) (sym p.same) holds

        inner : (b : Bool) → was.most ≤ above → MatchBool b (WritesNumber old new was now (above + 1) out) (WritesNoNumber old new was now × (out ≡ records.Lost)) → HoldsOfCopies P new
        inner true less wrote = lead_copies old new wrote.leaves.same_shape holds known (numbered was (above + 1)) out wrote.cause (has less)
        inner false less p = same p.0

        go : (b : Bool) → nat_lt above was.most ≡ b → MatchBool b (WritesNoNumber old new was now × (out ≡ records.Good)) (MatchBool (nat_lt above last_number) (WritesNumber old new was now (above + 1) out) (WritesNoNumber old new was now × (out ≡ records.Lost))) → HoldsOfCopies P new
        go true e p = same p.0
        go false e p = inner (nat_lt above last_number) (ltb-false above was.most e) p

-- A side woke: its power went on, and its record was read.
module _ (old new : Shown) (was now : Noted) (told : Waking) (wakes : WakesSide old new was now told) (known : IsKnown old) where
  mounted : KeepsRecord old wakes.mounted
  mounted = power_keeps old wakes.mounted wakes.mounts.same_shape told.power wakes.powers

  mounted_known : IsKnown wakes.mounted
  mounted_known = mounted.as_known ∙ known

  pub woke_known : IsKnown new
  woke_known = (generation_kept wakes.mounted new wakes.notes.value told.record wakes.notes.cause).as_known ∙ mounted_known

  -- a copy that lasts lasts from the mount on
  lasts_mounted : KeepsACopy old new → KeepsACopy wakes.mounted new
  lasts_mounted last = record {
    value = last.value;
    area = last.area;
    copy = record {
      is_area = last.copy.is_area;
      holds = subst (λ (s : Shape). Holds IsRecordText (cell_at (cells_in wakes.mounted) (record_block s last.area)) last.value) (sym wakes.mounts.same_shape)
          (subst (λ (c : Cell). Holds IsRecordText c last.value) (sym (mounted.same_copies last.area)) last.copy.holds);
    };
    lives = subst (λ (s : Shape). cell_at (cells_in new) (record_block s last.area) ≢ Dead) (sym wakes.mounts.same_shape) last.lives;
  }

  module _ (P : ℕ → Type 0) (holds : HoldsOfCopies P old) (why : P 0 ⊎ KeepsACopy old new) where
    woke_why : P 0 ⊎ KeepsACopy wakes.mounted new
    woke_why = elim why [ inl zero_has ↦ inl zero_has | inr last ↦ inr (lasts_mounted last) ]

    -- what held of all copies holds still
    pub woke_copies : HoldsOfCopies P new
    woke_copies = generation_copies P wakes.mounted new wakes.notes.leaves.same_shape (kept_copies P old wakes.mounted mounted holds) mounted_known wakes.notes.value told.record wakes.notes.cause woke_why

    -- and of what is noted, where the record was read
    pub woke_has : told.record ≡ records.Good → P now.most
    woke_has read =
        let cause : GenerationCause wakes.mounted new wakes.notes.value records.Good = subst (GenerationCause wakes.mounted new wakes.notes.value) read wakes.notes.cause in
        let most : now.most ≡ wakes.notes.value.generation = ap (λ (n : Noted). n.most) (wakes.notes.now_is ∙ ap (after_reading was wakes.notes.value) read) in
        subst P (sym most) (generation_has P wakes.mounted new wakes.notes.leaves.same_shape (kept_copies P old wakes.mounted mounted holds) mounted_known wakes.notes.value cause woke_why)

  -- a record that was read is exact, and seen
  pub woke_exact : told.record ≡ records.Good → HoldsOfCopies (λ number. number ≡ now.most) new
  woke_exact read =
      let cause : GenerationCause wakes.mounted new wakes.notes.value records.Good = subst (GenerationCause wakes.mounted new wakes.notes.value) read wakes.notes.cause in
      let most : now.most ≡ wakes.notes.value.generation = ap (λ (n : Noted). n.most) (wakes.notes.now_is ∙ ap (after_reading was wakes.notes.value) read) in
      exact_copies (λ number. number ≡ now.most) new wakes.notes.value (cause.exact mounted_known) (sym most)

  pub woke_seen : told.record ≡ records.Good → now.seen ≡ true
  woke_seen read = ap (λ (n : Noted). n.seen) (wakes.notes.now_is ∙ ap (after_reading was wakes.notes.value) read)

  -- what is noted is true still
  pub woke_noted : IsNoted was old → IsNoted now new
  woke_noted noted seen = go told.record refl
    where
      same : (out : RecordOut) → told.record ≡ out → after_reading was wakes.notes.value out ≡ record was { held = wakes.notes.value } → HoldsOfCopies (λ number. number ≤ now.most) new
      same out e is =
          let now_is : now ≡ record was { held = wakes.notes.value } = wakes.notes.now_is ∙ ap (after_reading was wakes.notes.value) e ∙ is in
          let most : now.most ≡ was.most = ap (λ (n : Noted). n.most) now_is in
          let was_seen : was.seen ≡ true = sym (ap (λ (n : Noted). n.seen) now_is) ∙ seen in
          subst (λ (m : ℕ). HoldsOfCopies (λ number. number ≤ m) new) (sym most) (woke_copies (λ number. number ≤ was.most) (noted was_seen) (inl (omega arith)))

      go : (out : RecordOut) → told.record ≡ out → HoldsOfCopies (λ number. number ≤ now.most) new
      go records.Good e = λ v area copy. let is = woke_exact e v area copy in omega (arith, is)
      go records.Lost e = lost_copies (λ number. number ≤ now.most) new ((subst (GenerationCause wakes.mounted new wakes.notes.value) e wakes.notes.cause).lost mounted_known)
      go records.Cut e = same records.Cut e refl
      go records.Off e = same records.Off e refl
      go records.Fault e = same records.Fault e refl

-- A record was made one with a greater number.
module _ (old new : Shown) (was now : Noted) (above : ℕ) (known : IsKnown old) where
  pub raised_known : (out : RecordOut) → Raises old new was now above out → IsKnown new
  raised_known out raises = go (nat_lt above was.most) raises
    where
      same : WritesNoNumber old new was now → IsKnown new
      same p = subst IsKnown (sym p.same) known

      inner : (b : Bool) → MatchBool b (WritesNumber old new was now (above + 1) out) (WritesNoNumber old new was now × (out ≡ records.Lost)) → IsKnown new
      inner true wrote = (lead_kept old new (numbered was (above + 1)) out wrote.cause).as_known ∙ known
      inner false p = same p.0

      go : (b : Bool) → MatchBool b (WritesNoNumber old new was now × (out ≡ records.Good)) (MatchBool (nat_lt above last_number) (WritesNumber old new was now (above + 1) out) (WritesNoNumber old new was now × (out ≡ records.Lost))) → IsKnown new
      go true p = same p.0
      go false p = inner (nat_lt above last_number) p

  -- one that had no greater number is written
  pub raised_new : Raises old new was now above records.Good → was.most ≤ above → HoldsOfCopies (λ number. number ≡ now.most) new × (above < now.most)
  raised_new raises few = go (nat_lt above was.most) refl raises
    where
      inner : (b : Bool) → MatchBool b (WritesNumber old new was now (above + 1) records.Good) (WritesNoNumber old new was now × (records.Good ≡ records.Lost)) → HoldsOfCopies (λ number. number ≡ now.most) new × (above < now.most)
      inner true w =
          let most : now.most ≡ above + 1 = ap (λ (n : Noted). n.most) w.now_is in
          (exact_copies (λ number. number ≡ now.most) new (numbered was (above + 1)) (w.cause.exact known) (sym most), omega (arith, most))
      inner false p = absurd (let w = p.1 in cc)

      go : (b : Bool) → nat_lt above was.most ≡ b → MatchBool b (WritesNoNumber old new was now × (records.Good ≡ records.Good)) (MatchBool (nat_lt above last_number) (WritesNumber old new was now (above + 1) records.Good) (WritesNoNumber old new was now × (records.Good ≡ records.Lost)))
          → HoldsOfCopies (λ number. number ≡ now.most) new × (above < now.most)
      go true e p = let less = ltb-true above was.most e in omega (arith, less, few)
      go false e p = inner (nat_lt above last_number) p

  -- and where it went well it is exact, and its number the greater
  pub raised_exact : Raises old new was now above records.Good → HoldsOfCopies (λ number. number ≡ was.most) old → HoldsOfCopies (λ number. number ≡ now.most) new × (above < now.most)
  raised_exact raises exact = go (nat_lt above was.most) refl raises
    where
      go : (b : Bool) → nat_lt above was.most ≡ b → MatchBool b (WritesNoNumber old new was now × (records.Good ≡ records.Good)) (MatchBool (nat_lt above last_number) (WritesNumber old new was now (above + 1) records.Good) (WritesNoNumber old new was now × (records.Good ≡ records.Lost)))
          → HoldsOfCopies (λ number. number ≡ now.most) new × (above < now.most)
      go true e p =
          let less = ltb-true above was.most e in
          let same = ap (λ (n : Noted). n.most) p.0.now_is in
          (subst (λ (n : Noted). HoldsOfCopies (λ number. number ≡ n.most) new) (sym p.0.now_is) (subst (HoldsOfCopies (λ number. number ≡ was.most)) (sym p.0.same) exact), omega (arith, less, same))
      go false e p = raised_new raises (ltb-false above was.most e)

module _ (old new : Shown) (was now : Noted) (above : ℕ) (known : IsKnown old) where
  -- what is noted then is true, where it was
  pub raised_noted : (out : RecordOut) → Raises old new was now above out → HoldsOfCopies (λ number. number ≤ was.most) old → HoldsOfCopies (λ number. number ≤ now.most) new
  raised_noted out raises noted = go (nat_lt above was.most) refl raises
    where
      same : WritesNoNumber old new was now → HoldsOfCopies (λ number. number ≤ now.most) new
      same p = subst (λ (n : Noted). HoldsOfCopies (λ number. number ≤ n.most) new) (sym p.now_is) (subst (HoldsOfCopies (λ number. number ≤ was.most)) (sym p.same) noted)

      fewer : was.most ≤ above → HoldsOfCopies (λ number. number ≤ above + 1) old
      fewer less v area copy = let few = noted v area copy in omega (arith, few, less)

      with_most : now.most ≡ above + 1 → HoldsOfCopies (λ number. number ≤ above + 1) new → HoldsOfCopies (λ number. number ≤ now.most) new
      with_most e has = subst (λ (m : ℕ). HoldsOfCopies (λ number. number ≤ m) new) (sym e) has

      wrote_so : (out : RecordOut) → was.most ≤ above → WritesNumber old new was now (above + 1) out → HoldsOfCopies (λ number. number ≤ now.most) new
      wrote_so records.Good less w = with_most (ap (λ (n : Noted). n.most) w.now_is) (lead_copies (λ number. number ≤ above + 1) old new w.leaves.same_shape (fewer less) known (numbered was (above + 1)) records.Good w.cause (omega arith))
      wrote_so records.Lost less w = lost_copies (λ number. number ≤ now.most) new (w.cause.lost known)
      wrote_so records.Cut less w = with_most (ap (λ (n : Noted). n.most) w.now_is) (lead_copies (λ number. number ≤ above + 1) old new w.leaves.same_shape (fewer less) known (numbered was (above + 1)) records.Cut w.cause (omega arith))
      wrote_so records.Off less w = with_most (ap (λ (n : Noted). n.most) w.now_is) (lead_copies (λ number. number ≤ above + 1) old new w.leaves.same_shape (fewer less) known (numbered was (above + 1)) records.Off w.cause (omega arith))
      wrote_so records.Fault less w = with_most (ap (λ (n : Noted). n.most) w.now_is) (lead_copies (λ number. number ≤ above + 1) old new w.leaves.same_shape (fewer less) known (numbered was (above + 1)) records.Fault w.cause (omega arith))

      inner : (b : Bool) → was.most ≤ above → MatchBool b (WritesNumber old new was now (above + 1) out) (WritesNoNumber old new was now × (out ≡ records.Lost)) → HoldsOfCopies (λ number. number ≤ now.most) new
      inner true less wrote = wrote_so out less wrote
      inner false less p = same p.0

      go : (b : Bool) → nat_lt above was.most ≡ b → MatchBool b (WritesNoNumber old new was now × (out ≡ records.Good)) (MatchBool (nat_lt above last_number) (WritesNumber old new was now (above + 1) out) (WritesNoNumber old new was now × (out ≡ records.Lost))) → HoldsOfCopies (λ number. number ≤ now.most) new
      go true e p = same p.0
      go false e p = inner (nat_lt above last_number) (ltb-false above was.most e) p

module _ (old new : Shown) (was now : Noted) (above : ℕ) where
  -- it stays seen
  pub raised_seen : (out : RecordOut) → Raises old new was now above out → was.seen ≡ true → now.seen ≡ true
  raised_seen out raises seen = go (nat_lt above was.most) raises
    where
      same : WritesNoNumber old new was now → now.seen ≡ true
      same p = ap (λ (n : Noted). n.seen) p.now_is ∙ seen

      wrote_so : (out : RecordOut) → WritesNumber old new was now (above + 1) out → now.seen ≡ true
      wrote_so records.Good w = ap (λ (n : Noted). n.seen) w.now_is
      wrote_so records.Lost w = ap (λ (n : Noted). n.seen) w.now_is
      wrote_so records.Cut w = ap (λ (n : Noted). n.seen) w.now_is
      wrote_so records.Off w = ap (λ (n : Noted). n.seen) w.now_is
      wrote_so records.Fault w = ap (λ (n : Noted). n.seen) w.now_is

      inner : (b : Bool) → MatchBool b (WritesNumber old new was now (above + 1) out) (WritesNoNumber old new was now × (out ≡ records.Lost)) → now.seen ≡ true
      inner true wrote = wrote_so out wrote
      inner false p = same p.0

      go : (b : Bool) → MatchBool b (WritesNoNumber old new was now × (out ≡ records.Good)) (MatchBool (nat_lt above last_number) (WritesNumber old new was now (above + 1) out) (WritesNoNumber old new was now × (out ≡ records.Lost))) → now.seen ≡ true
      go true p = same p.0
      go false p = inner (nat_lt above last_number) p

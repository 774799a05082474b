-- What a format and the copying of one block make of what a mirror stands for.
use Rattle.std.proofs.Common.{◌≡◌, ℕ, ◌+◌, ◌*◌, ◌≤◌, Bool, true, false, List, length, refl, sym, ap, ◌∙◌, subst, arith}
use Rattle.std.proofs.lemmas.Bool.{eqb-true}
use Rattle.std.proofs.lemmas.List.{length-replicate}
use Rattle.model_sectors.specs.Discs.{Standing, On, Off, replaced, sectors_of, zeros}
use Rattle.model_sectors.specs.Requests.{block_with, blocks_covered, NamesBlock}
use Rattle.model_sectors.proofs.Covering.{covers_some}
use Rattle.model_sectors.proofs.Pieces.{replaced_none}
use Rattle.model_sectors.proofs.Fitting.{length-zeros}
use Rattle.model_drive.specs.declared.WriteOut.{WriteOut}
use Rattle.model_drive.specs.declared.WriteOut.TheVariants as writes
use Rattle.model_drive.specs.declared.FormatOut.{FormatOut}
use Rattle.model_drive.specs.declared.FormatOut.TheVariants as formats
use Rattle.model_drive.specs.declared.Kind.TheVariants as kinds
use Rattle.model_formats.specs.Stopped.{zero_disc}
use Rattle.model_drive.specs.Shown.{StandsFor, block_count}
use Rattle.model_drive.specs.Formats.{FormatStep}
use Rattle.model_drive.specs.Writes.{WriteCause, WriteStep}
use Rattle.model_cache.specs.Falling.{LiesIn}
use Rattle.model_mirror.specs.Shown.{MirrorShown}
use Rattle.model_mirror.specs.Standing.{AgreesBut, HasCopy, IsFollowed, MirrorStands}
use Rattle.model_mirror.specs.Whole.{none_apart, up_after_format, CopyEnds}
use Rattle.model_mirror.proofs.Alike.{agrees_itself, lies_in_copy}
use Rattle.model_mirror.proofs.Writes.{block_copied}
use Rattle.model_mirror.proofs.Somehow.{led_off, write_somehow, format_somehow}
use Rattle.model_mirror.proofs.WriteSteps.{long_as_counted, named_block}

-- zeros of one length are the same
same_zeros : (a b : ℕ) → length (zeros a) ≡ length (zeros b) → zeros a ≡ zeros b
same_zeros a b e = ap zeros (sym (length-zeros a) ∙ e ∙ length-zeros b)

-- Both sides were formatted: they have zeros.
module _ (old mid new : MirrorShown) (lead lead' other other' : Standing → Type 0) (to_lead : (s : Standing) → lead' s → StandsFor new.lead s) (to_other : (s : Standing) → other' s → StandsFor new.other s)
    (on : old.on ≡ true) (same_on : new.on ≡ old.on) (table : new.table ≡ none_apart new.lead) where
  -- where both are formatted with equal capacities, both discs are the same zeros
  zeros_copy : (disc copy : List ℕ) (a b : ℕ) → lead' (On disc) → other' (On copy) → disc ≡ zeros a → copy ≡ zeros b → block_count new.lead ≡ block_count new.other → HasCopy other' new.table disc
  zeros_copy disc copy a b so so' is is' equal = record {
    copy = copy;
    stands = so';
    agrees = subst (λ (x : List ℕ). AgreesBut new.table disc x) same (agrees_itself disc new.table (subst (λ (t : List Bool). length disc ≤ 32768 * length t) (sym table)
        (omega (arith, long, length-replicate (block_count new.lead) false))));
  }
    where
      long : length disc ≡ 32768 * block_count new.lead
      long = long_as_counted new.lead disc (to_lead (On disc) so)

      same : disc ≡ copy
      same = is ∙ same_zeros a b (ap length (sym is) ∙ long ∙ ap (λ (k : ℕ). 32768 * k) equal ∙ sym (long_as_counted new.other copy (to_other (On copy) so')) ∙ ap length is') ∙ sym is'

  pub good_format : (told : FormatOut) → new.up ≡ up_after_format formats.Good told (block_count new.lead) (block_count new.other)
      → ((s : Standing) → lead s → FormatStep old.lead new.lead lead' s (kinds.Full true) formats.Good) → ((s : Standing) → other s → FormatStep mid.other new.other other' s (kinds.Full true) told)
      → (s : Standing) → MirrorStands old lead other s → FormatStep old.lead new.lead (MirrorStands new lead' other') s (kinds.Full true) formats.Good
  good_format told up lead_step step (On disc) (_, so, followed) = (
    same_on ∙ on,
    lead_step (On disc) so,
    record {
      some = format_somehow other' mid.other new.other followed.some.standing told (step followed.some.standing followed.some.stands);
      copy = λ is. go told followed.some.standing (step followed.some.standing followed.some.stands) (sym up ∙ is);
    },
  )
    where
      go : (told : FormatOut) (t : Standing) → FormatStep mid.other new.other other' t (kinds.Full true) told → up_after_format formats.Good told (block_count new.lead) (block_count new.other) ≡ true
          → HasCopy other' new.table (zero_disc old.lead.shape)
      go formats.Good (On copy) stepped is = zeros_copy (zero_disc old.lead.shape) (zero_disc mid.other.shape) _ _ (lead_step (On disc) so) stepped refl refl (eqb-true (block_count new.lead) (block_count new.other) is)
      go formats.Good (Off copies) stepped is = absurd stepped
      go (formats.TooMany found) t stepped is = absurd (let w = is in cc)
      go (formats.NoUpdate counter) t stepped is = absurd (let w = is in cc)
      go formats.Cut t stepped is = absurd (let w = is in cc)
      go formats.Off t stepped is = absurd (let w = is in cc)
      go formats.Fault t stepped is = absurd (let w = is in cc)
  good_format told up lead_step step (Off discs) stood = lead_step (Off discs) (led_off old on lead other discs stood)

-- the one block of a whole block's request
whole_with : (i : ℕ) → block_with (16 * i) ≡ i
whole_with i = omega arith

whole_covers : (i : ℕ) → blocks_covered (16 * i) 16 ≡ 1
whole_covers i = let e = covers_some (16 * i) 16 (omega arith) in omega arith

none_before : (copy bytes : List ℕ) (i b : ℕ) → b ≡ i → replaced copy (16 * i) bytes b ≡ copy
none_before copy bytes i b e = replaced_none copy (16 * i) bytes b (omega arith)

-- One block was read from the lead, whole, and written to the other side, which answered so.
pub copied_followed : (mid new : MirrorShown) (i : ℕ) (bytes : List ℕ) (other other' : Standing → Type 0) (disc : List ℕ) → IsFollowed mid other disc → mid.up ≡ true
    → bytes ≡ sectors_of disc (16 * i) 16 → LiesIn disc (16 * i) 16 bytes → (told : WriteOut) → WriteCause mid.other new.other (16 * i) 16 told
    → ((s : Standing) → other s → WriteStep new.other other' s (16 * i) 16 bytes told) → CopyEnds mid new i told → IsFollowed new other' disc
copied_followed mid new i bytes other other' disc followed up taken lies told cause step ends = record {
  some = write_somehow other' new.other followed.some.standing (16 * i) 16 bytes told (step followed.some.standing followed.some.stands);
  copy = λ still. go told cause (step (On held.copy) held.stands) ends still;
}
  where
    held : HasCopy other mid.table disc
    held = followed.copy up

    is_down : new ≡ record mid { other = new.other; up = false } → new.up ≡ true → ⊥
    is_down is still = let e : false ≡ true = sym (ap (λ (s : MirrorShown). s.up) is) ∙ still in cc

    -- nothing was replaced, and no mark changed
    as_before : (b : ℕ) → b ≡ i → other' (On (replaced held.copy (16 * i) bytes b)) → new ≡ record mid { other = new.other } → HasCopy other' new.table disc
    as_before b e so is = record {
      copy = held.copy;
      stands = subst (λ (d : List ℕ). other' (On d)) (none_before held.copy bytes i b e) so;
      agrees = subst (λ (t : List Bool). AgreesBut t disc held.copy) (sym (ap (λ (s : MirrorShown). s.table) is)) held.agrees;
    }

    first : (named k : ℕ) → NamesBlock (16 * i) 16 named k → block_with named ≡ i
    first named k names = let covered = names.covered in omega (arith, named_block (16 * i) 16 named k names, whole_with i, whole_covers i)

    go : (told : WriteOut) → WriteCause mid.other new.other (16 * i) 16 told → WriteStep new.other other' (On held.copy) (16 * i) 16 bytes told → CopyEnds mid new i told → new.up ≡ true
        → HasCopy other' new.table disc
    go writes.Good cause step ends still =
        let end : block_with (16 * i) + blocks_covered (16 * i) 16 ≡ i + 1 = omega (arith, whole_with i, whole_covers i) in
        record {
          copy = replaced held.copy (16 * i) bytes (i + 1);
          stands = subst (λ (b : ℕ). other' (On (replaced held.copy (16 * i) bytes b))) end step;
          agrees = block_copied mid.table new.table disc held.copy i bytes held.agrees taken (lies_in_copy disc held.copy (16 * i) 16 bytes held.agrees.as_long lies) ends.1;
        }
    go writes.NotFormatted cause step ends still = absurd (is_down ends still)
    go (writes.Range known) cause step ends still = absurd (is_down ends still)
    go (writes.Unread named block) cause step ends still = as_before (block_with named) (first named (length cause.course) cause.is_named) step ends
    go (writes.NoSpare named) cause step ends still = as_before (block_with named) (first named (length cause.course) cause.is_named) step ends
    go (writes.NoUpdate counter) cause step ends still =
        let covered = step.covered in
        as_before (block_with (16 * i) + step.block) (omega (arith, whole_with i, whole_covers i)) step.before ends
    go writes.Cut cause step ends still = absurd (is_down ends still)
    go writes.Off cause step ends still = absurd (is_down ends still)
    go writes.Fault cause step ends still = absurd (is_down ends still)

-- The blocks of a write come into the cache: the rest of one, one after another, and all at once.
use Rattle.std.proofs.Common.{◌≡◌, ℕ, ◌+◌, ◌-◌, ◌*◌, ◌<◌, inl, inr, Bool, true, false, List, [], ◌∷◌, Option, Some, Result, length, refl, sym, ap, ◌∙◌, subst, arith}
use Rattle.std.specs.Prelude.{IsOk}
use Rattle.std.proofs.lemmas.Bool.{cases_Bool, false≢true}
use Rattle.model_buffer.specs.Buffer.{bytes_at}
use Rattle.model_sectors.specs.Discs.{Standing, On, block_of}
use Rattle.model_sectors.specs.Requests.{block_with, is_partly, merged_in, IsCovered}
use Rattle.model_sectors.specs.declared.ReadOut.{ReadOut}
use Rattle.model_sectors.specs.declared.ReadOut.TheVariants as reads
use Rattle.model_sectors.proofs.Pieces.{length_block}
use Rattle.model_sectors.proofs.Covering.{covered_inside}
use Rattle.model_sectors.proofs.Merges.{merged_whole}
use Rattle.model_drive.specs.declared.WriteOut.{WriteOut}
use Rattle.model_drive.specs.Shown.{Shown, StandsFor, block_count, cells_in}
use Rattle.model_drive.specs.Parts.{IsInRange}
use Rattle.model_drive.specs.Reads.{ReadCause, ReadStep}
use Rattle.model_cache.specs.Values.{Values, Has, IsPending, IsUnder, StandsCached}
use Rattle.model_cache.specs.Shown.{CacheShown}
use Rattle.model_cache.specs.Causes.{ReadsRest, leaves_after_read}
use Rattle.model_cache.proofs.ReplacedBlocks.{as_sectors}
use Rattle.ram_cache.specs.Staging.{IsNextStaged, IsStaged, RestContents, rest_out}
use Rattle.ram_cache.proofs.Entering.{long_by}

-- ---- the rest of one block

pub ok_good : (out : ReadOut) (lba : ℕ) (result : Result (Unit {0}) WriteOut) → result ≡ rest_out out lba → IsOk result → out ≡ reads.Good
ok_good reads.Good lba result is ok = refl
ok_good reads.NotFormatted lba result is ok = absurd (false≢true (subst IsOk is ok))
ok_good (reads.Range known) lba result is ok = absurd (false≢true (subst IsOk is ok))
ok_good (reads.Unread named home) lba result is ok = absurd (false≢true (subst IsOk is ok))
ok_good reads.Cut lba result is ok = absurd (false≢true (subst IsOk is ok))
ok_good reads.Off lba result is ok = absurd (false≢true (subst IsOk is ok))
ok_good reads.Fault lba result is ok = absurd (false≢true (subst IsOk is ok))

module _ (old new : Shown) (before after : Standing → Type 0) (p : List (ℕ × List ℕ)) (lba n i at : ℕ) (range : IsInRange old lba n) (room room' : List ℕ) (v : Values)
    (not_pending : ¬ IsPending p i) where
  rest_by : (left : List (ℕ × List ℕ)) (out : ReadOut) → left ≡ leaves_after_read out p → ReadCause old new (16 * i) 16 out → ((t : Standing) → before t → ReadStep after t (16 * i) 16 room out)
      → (out ≡ reads.Good → room' ≡ room) → StandsCached before p (Has v) → RestContents (StandsCached after left) v lba n i room' (rest_out out at)
  rest_by left reads.Good same cause step kept (d, so, under) =
      let gives = step (On d) so in (
        (d, gives.1, subst (λ (l : List (ℕ × List ℕ)). IsUnder l d v) (sym same) under),
        λ partly. kept refl ∙ gives.0 ∙ as_sectors d i ∙ sym (under.others i not_pending),
      )
  rest_by left reads.NotFormatted same cause step kept (d, so, under) = absurd (cause.unformatted range.formatted)
  rest_by left (reads.Range known) same cause step kept (d, so, under) = (d, step (On d) so, subst (λ (l : List (ℕ × List ℕ)). IsUnder l d v) (sym same) under)
  rest_by left (reads.Unread named home) same cause step kept (d, so, under) = (d, step (On d) so, subst (λ (l : List (ℕ × List ℕ)). IsUnder l d v) (sym same) under)
  rest_by left reads.Cut same cause step kept (d, so, under) = (d ∷ [], step (On d) so, (under.taken, refl))
  rest_by left reads.Off same cause step kept (d, so, under) = absurd (cause.off range.on)
  rest_by left reads.Fault same cause step kept (d, so, under) = (d ∷ [], step (On d) so, (under.taken, refl))

  pub rest_contents : (left : List (ℕ × List ℕ)) (out : ReadOut) (result : Result (Unit {0}) WriteOut) → result ≡ rest_out out at → left ≡ leaves_after_read out p → ReadCause old new (16 * i) 16 out
      → ((t : Standing) → before t → ReadStep after t (16 * i) 16 room out) → (out ≡ reads.Good → room' ≡ room) → StandsCached before p (Has v)
      → RestContents (StandsCached after left) v lba n i room' result
  rest_contents left out result is same cause step kept so =
      subst (λ (r : Result (Unit {0}) WriteOut). RestContents (StandsCached after left) v lba n i room' r) (sym is) (rest_by left out same cause step kept so)

-- the bytes of the request over the room are those over the block
pub right_bytes : (drive : Shown) (before : Standing → Type 0) (p : List (ℕ × List ℕ)) → ((s : Standing) → before s → StandsFor drive s) → (lba n i : ℕ) (bytes room : List ℕ) (v : Values)
    → IsInRange drive lba n → IsCovered lba n i → length bytes ≡ 2048 * n → length room ≡ 32768 → StandsCached before p (Has v) → (is_partly lba n i ≡ true → room ≡ block_of v.disc i)
    → merged_in lba n bytes i room ≡ merged_in lba n bytes i (block_of v.disc i)
right_bytes drive before p shown lba n i bytes room v range covered whole long (d, so, under) rest = elim (cases_Bool (is_partly lba n i)) [
  | inl partly ↦ ap (merged_in lba n bytes i) (rest partly)
  | inr wholly ↦ merged_whole lba n bytes i room (block_of v.disc i) (λ partly. false≢true (sym wholly ∙ partly)) whole long
      (length_block v.disc (block_count drive) i (inside covered)
      (under.taken.as_long ∙ long_by drive.shape (cells_in drive) drive.lists drive.buffer d ((shown (On d) so).2)))
]
  where
    inside : IsCovered lba n i → i < block_count drive
    inside covered =
        let low = covered.0 in
        let high = covered.1 in
        let within = range.inside in
        let k : ℕ = i - block_with lba in
        let at : block_with lba + k ≡ i = omega (arith, low) in
        subst (λ (m : ℕ). m < block_count drive) at (covered_inside lba n k (block_count drive) (omega (arith, within)) (omega (arith, low, high)))

-- a block that is pending needs nothing
pub staged_already : (shown : CacheShown) (lba n i : ℕ) (bytes held : List ℕ) (list : List (ℕ × List ℕ)) (staged : ℕ) → bytes_at i shown.pending ≡ Some held
    → IsStaged shown shown lba n i bytes list list staged staged
staged_already shown lba n i bytes held list staged is = record {
  rest = subst (λ (o : Option (List ℕ)). ReadsRest shown shown i (is_partly lba n i) o) (sym is) (none_needed (is_partly lba n i));
  same_pending = refl;
  fresh = subst (λ (o : Option (List ℕ)). IsNextStaged lba n bytes i o list list staged staged) (sym is) (refl, refl);
}
  where
    none_needed : (partly : Bool) → ReadsRest shown shown i partly (Some held)
    none_needed true = refl
    none_needed false = refl

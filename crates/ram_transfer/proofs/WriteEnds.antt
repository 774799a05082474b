-- How the write of all parts of a request goes on, and how it ends, by what the write of a part did.
use Rattle.std.proofs.Common.{◌≡◌, ℕ, ◌+◌, ◌*◌, ◌<◌, ◌≤◌, Option, List, length, inl, inr, refl, sym, ap, ◌∙◌, subst, arith}
use Rattle.model_geometry.specs.Geometry.{Shape}
use Rattle.model_medium.specs.World.{World, Span}
use Rattle.model_medium.specs.Machine.{Machine}
use Rattle.model_medium.specs.Exact.{Event}
use Rattle.model_medium.specs.declared.WornBlock.{WornBlock}
use Rattle.model_medium.specs.declared.ArmedCut.{ArmedCut}
use Rattle.model_sectors.specs.Discs.{On, Off}
use Rattle.model_sectors.specs.Requests.{block_with, blocks_covered}
use Rattle.model_sectors.proofs.Covering.{covered_inside}
use Rattle.model_stops.specs.declared.Stop.{Stop}
use Rattle.model_places.specs.Places.{Lists, logical_count, capacity_of}
use Rattle.model_places.specs.Valid.{AreValid}
use Rattle.model_drive.specs.declared.WriteOut.{WriteOut}
use Rattle.model_drive.specs.declared.WriteOut.TheVariants as outs
use Rattle.model_drive.specs.Shown.{Shown, StandsFor}
use Rattle.model_drive.specs.Writes.{disc_after}
use Rattle.model_drive.proofs.Courses.{after_total}
use Rattle.model_drive.proofs.WriteTurns.{writes_all}
use Rattle.ram_medium.specs.Laws.{MediumLaws, ControlLaws, machine_shown}
use Rattle.ram_transfer.specs.Writing.{WritesPart, PartStops, EndsParts, StopsParts, WriteSteps}
use Rattle.ram_transfer.specs.Shown.{shown_under}
use Rattle.ram_transfer.proofs.WriteTurns.{WroteSome, wrote_block, rest_stopped, block_stopped, meets_unread, meets_no_spare, meets_no_copy}

module _ {M : Type 0} (world : M → World) (block_count : M → ℕ) (reaches : M → M → Span → Type 0) (takes : M → M → Event → Type 0) (arms : M → List WornBlock) (armed_cut : M → Option ArmedCut)
    (rules : MediumLaws world block_count reaches) (laws : ControlLaws world reaches takes arms armed_cut) (shape : Shape) where
  abbrev machine : M → Machine
  machine m = machine_shown world arms armed_cut m

  module _ (old mid : M) (lists reached : Lists) (held held_mid : List (ℕ × List ℕ)) (lba n : ℕ) (bytes : List ℕ) (k : ℕ)
      (did : WroteSome shape (machine old) (machine mid) lists reached held held_mid lba n bytes k) where
    abbrev before : Shown
    before = shown_under shape (machine old) lists held

    abbrev now : Shown
    now = shown_under shape (machine mid) reached held_mid

    -- all were written
    pub wrote_all : AreValid shape reached → k ≡ blocks_covered lba n → EndsParts shape (machine old) (machine mid) lists held lba n bytes reached held_mid outs.Good
    wrote_all valid all = record {
      cause = writes_all before now lba n did.course lists reached (did.as_many ∙ all) did.blocks.wrote did.blocks.has_copy;
      steps = steps;
      is_on = did.blocks.wrote.ends.is_on;
      settled = did.blocks.settled;
      same_dds = did.blocks.same_dds;
    }
      where
        steps : WriteSteps before now lba n bytes outs.Good
        steps (On disc) stood =
            subst (λ (m : ℕ). StandsFor now (On (disc_after disc lba n bytes m))) (did.as_many ∙ all) (
              did.blocks.wrote.ends.reach.lasts.as_known ∙ stood.0,
              did.blocks.wrote.ends.is_on,
              record {
                valid = valid;
                settled = did.blocks.settled;
                fits = did.blocks.makes disc stood;
                holds = did.blocks.holds disc stood;
              },
            )
        steps (Off discs) stood = absurd (stood.1 did.blocks.wrote.wrote.inside.on)

    module _ (valid : AreValid shape lists) (inside : lba + n ≤ capacity_of shape lists) (whole : length bytes ≡ 2048 * n) (covered : k < blocks_covered lba n) (new : M) where
      few : length did.course < blocks_covered lba n
      few = let many = did.as_many in omega (arith, many, covered)

      -- what is so of the next block is so of the one after the course
      next : (P : ℕ → Type 0) → P (block_with lba + k) → P (block_with lba + length did.course)
      next P p = subst (λ (m : ℕ). P (block_with lba + m)) (sym did.as_many) p

      -- the next block is the disc's
      pub part_within : block_with lba + k < logical_count shape reached
      part_within =
          let more = covered_inside lba n k (logical_count shape lists) (omega (arith, inside)) covered in
          let same = ap (logical_count shape) did.blocks.wrote.wrote.reached_are ∙ after_total shape lists (block_with lba) valid did.course in
          omega (arith, more, same)

      -- the write of the next part was stopped
      pub part_stopped : (stop : Stop) → PartStops world reaches shape mid new reached held_mid lba n (block_with lba + k) bytes stop → StopsParts shape (machine old) (machine new) lists held lba n bytes stop
      part_stopped stop halted = by_part (next (λ i. PartStops world reaches shape mid new reached held_mid lba n i bytes stop) halted)
        where
          by_part : PartStops world reaches shape mid new reached held_mid lba n (block_with lba + length did.course) bytes stop → StopsParts shape (machine old) (machine new) lists held lba n bytes stop
          by_part (inl rest) = rest_stopped world block_count reaches takes arms armed_cut rules laws shape old mid lists reached held held_mid lba n bytes did.course did.blocks valid inside whole few new stop rest
          by_part (inr part) = block_stopped world block_count reaches takes arms armed_cut rules laws shape old mid lists reached held held_mid lba n bytes did.course did.blocks valid inside whole few
              part.mid part.rest part.held_mid part.has part.full new stop part.then_did

      module _ (lists' : Lists) (held' : List (ℕ × List ℕ)) where
        -- what the write of the next part did, by its answer
        abbrev DoesNext : (i : ℕ) → WriteOut → Type 0
        DoesNext i out = WritesPart world reaches shape mid new reached lists' held_mid held' lba n i bytes out

        -- it was written
        pub wrote_one_more : DoesNext (block_with lba + k) outs.Good → WroteSome shape (machine old) (machine new) lists lists' held held' lba n bytes (k + 1)
        wrote_one_more did_it =
            let part = next (λ i. DoesNext i outs.Good) did_it in
            record {
              course = _;
              as_many = (let many = did.as_many in omega (arith, many));
              blocks = wrote_block world block_count reaches takes arms armed_cut rules laws shape old mid lists reached held held_mid lba n bytes did.course did.blocks valid inside whole few
                  part.mid part.rest part.held_mid part.has part.full new lists' held' part.then_did.puts part.then_did.back part.then_did.buffer_is part.then_did.as_put;
            }

        -- It was refused: its rest cannot be read, no spare is left for it, or the secondary list could not be updated for it.
        pub part_refused : (out : WriteOut) → ¬ (out ≡ outs.Good) → DoesNext (block_with lba + k) out → EndsParts shape (machine old) (machine new) lists held lba n bytes lists' held' out
        part_refused out bad did_it = by_answer out bad (next (λ i. DoesNext i out) did_it)
          where
            by_answer : (out : WriteOut) → ¬ (out ≡ outs.Good) → DoesNext (block_with lba + length did.course) out → EndsParts shape (machine old) (machine new) lists held lba n bytes lists' held' out
            by_answer outs.Good bad part = absurd (bad refl)
            by_answer outs.NotFormatted bad part = absurd part
            by_answer (outs.Range capacity) bad part = absurd part
            by_answer (outs.Unread named home) bad part =
                meets_unread world block_count reaches takes arms armed_cut rules laws shape old mid lists reached held held_mid lba n bytes did.course did.blocks valid inside whole few
                new part.rest held' part.lacks named part.named_is home part.home_is lists' part.same
            by_answer (outs.NoSpare named) bad part =
                meets_no_spare world block_count reaches takes arms armed_cut rules laws shape old mid lists reached held held_mid lba n bytes did.course did.blocks valid inside whole few
                part.mid part.rest part.held_mid part.has part.full new lists' held' part.then_did.buffer_is part.then_did.finds named part.then_did.named_is
            by_answer (outs.NoUpdate counter) bad part =
                meets_no_copy world block_count reaches takes arms armed_cut rules laws shape old mid lists reached held held_mid lba n bytes did.course did.blocks valid inside whole few
                part.mid part.rest part.held_mid part.has part.full new lists' held' part.then_did.buffer_is counter part.then_did.finds
            by_answer outs.Cut bad part = absurd part
            by_answer outs.Off bad part = absurd part
            by_answer outs.Fault bad part = absurd part

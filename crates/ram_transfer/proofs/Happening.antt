-- Nothing but events happened to the medium in a transfer, whatever it came to.
use Rattle.std.specs.Prelude.{ℕ, IsTrue, Option, Some, None, Ok, List}
use Rattle.std.proofs.Common.{inl, inr, sym, subst}
use Rattle.model_geometry.specs.Geometry.{Shape}
use Rattle.model_medium.specs.World.{World, Span}
use Rattle.model_medium.specs.Exact.{Event}
use Rattle.model_medium.specs.Happened.{Happened}
use Rattle.model_medium.proofs.Happening.{happened_then}
use Rattle.model_stops.specs.declared.Stop.{Stop}
use Rattle.model_places.specs.Places.{Lists}
use Rattle.model_drive.specs.declared.WriteOut.{WriteOut}
use Rattle.model_drive.specs.declared.WriteOut.TheVariants as outs
use Rattle.ram_medium.proofs.Parts.{nothing_happened, part_happened, stop_happened}
use Rattle.ram_transfer.specs.Reading.{PartsEnd}
use Rattle.ram_transfer.specs.Verifying.{HomesEnd}
use Rattle.ram_transfer.specs.Writing.{HasRest, WritesPart, PartStops}

module _ {M : Type 0} (world : M → World) (reaches : M → M → Span → Type 0) (takes : M → M → Event → Type 0) (happens : (a b : M) (span : Span) → reaches a b span → Happened takes a b) where
  module _ (old new : M) (shape : Shape) (lists : Lists) (lba n : ℕ) where
    -- the parts of a read, or the homes of a verification, up to where it ended
    pub read_happened : (held held' : List (ℕ × List ℕ)) (into : List ℕ) (met : Option ℕ) → PartsEnd world reaches old new held shape lists lba n held' into (Ok met) → Happened takes old new
    read_happened held held' into None did = part_happened world reaches takes happens old new _ did.all.continues
    read_happened held held' into (Some before) did = part_happened world reaches takes happens old new _ did.continues

    pub verify_happened : (met : Option ℕ) → HomesEnd world reaches old new shape lists lba n (Ok met) → Happened takes old new
    verify_happened None did = part_happened world reaches takes happens old new _ did.continues
    verify_happened (Some before) did = part_happened world reaches takes happens old new _ did.continues

  -- the rest of a block was in hand, or was read
  rest_happened : (old mid : M) (held : List (ℕ × List ℕ)) (lba n i home : ℕ) (rest : List ℕ) (held_mid : List (ℕ × List ℕ)) → HasRest world reaches old held lba n i home mid rest held_mid → IsTrue (world old).power
      → Happened takes old mid × IsTrue (world mid).power
  rest_happened old mid held lba n i home rest held_mid (inl needs) on = (nothing_happened world reaches takes happens old mid needs.unused, subst (λ (m : M). IsTrue (world m).power) (sym needs.unused) on)
  rest_happened old mid held lba n i home rest held_mid (inr has) on = elim has.fetched.came [
    | inl there ↦ (nothing_happened world reaches takes happens old mid there.unused, subst (λ (m : M). IsTrue (world m).power) (sym there.unused) on)
    | inr home ↦ (part_happened world reaches takes happens old mid 1 home.continues, home.continues.is_on)
  ]

  module _ (shape : Shape) (old new : M) (lists : Lists) (held : List (ℕ × List ℕ)) (lba n i : ℕ) (bytes : List ℕ) (on : IsTrue (world old).power) where
    -- a part of a write was done, was refused, or was stopped
    pub wrote_happened : (lists' : Lists) (held' : List (ℕ × List ℕ)) (out : WriteOut) → WritesPart world reaches shape old new lists lists' held held' lba n i bytes out → Happened takes old new
    wrote_happened lists' held' outs.Good did = happened_then takes old did.mid new (rest_happened old did.mid held lba n i _ did.rest did.held_mid did.has on).0 (part_happened world reaches takes happens did.mid new _ did.then_did.puts.continues)
    wrote_happened lists' held' outs.NotFormatted did = absurd did
    wrote_happened lists' held' (outs.Range capacity) did = absurd did
    wrote_happened lists' held' (outs.Unread named home) did = part_happened world reaches takes happens old new 1 did.lacks.unread.continues
    wrote_happened lists' held' (outs.NoSpare named) did = happened_then takes old did.mid new (rest_happened old did.mid held lba n i _ did.rest did.held_mid did.has on).0 (part_happened world reaches takes happens did.mid new _ did.then_did.finds.leaves.continues)
    wrote_happened lists' held' (outs.NoUpdate counter) did = happened_then takes old did.mid new (rest_happened old did.mid held lba n i _ did.rest did.held_mid did.has on).0 (part_happened world reaches takes happens did.mid new _ did.then_did.finds.leaves.continues)
    wrote_happened lists' held' outs.Cut did = absurd did
    wrote_happened lists' held' outs.Off did = absurd did
    wrote_happened lists' held' outs.Fault did = absurd did

    pub write_stop_happened : (stop : Stop) → PartStops world reaches shape old new lists held lba n i bytes stop → Happened takes old new
    write_stop_happened stop (inl rest) = stop_happened world reaches takes happens old new 1 stop on rest.stopped.stops
    write_stop_happened stop (inr did) =
        let before = rest_happened old did.mid held lba n i _ did.rest did.held_mid did.has on in
        happened_then takes old did.mid new before.0 (stop_happened world reaches takes happens did.mid new _ stop before.1 did.then_did.stops)

-- That a call of a drive costs one cell at most, by the cause of each answer.
use Rattle.std.specs.Prelude.{◌≡◌, ◌≢◌, ℕ, false, Bool, IsTrue, Option, Some, None, List}
use Rattle.std.proofs.Common.{sym, inl, inr, subst}
use Rattle.model_medium.specs.Cells.{Cell, Blank, Good, Torn, Dead, IsGood, IsGoodOrDead, cell_at}
use Rattle.model_medium.specs.World.{World}
use Rattle.model_medium.specs.Machine.{Machine}
use Rattle.model_medium.specs.Reach.{Reach, ReachBy}
use Rattle.model_stops.specs.Stops.{Stops, FailsInUse}
use Rattle.model_stops.specs.declared.Stop.{Stop}
use Rattle.model_stops.specs.declared.Stop.TheVariants as stops
use Rattle.model_sectors.specs.declared.ReadOut.{ReadOut}
use Rattle.model_sectors.specs.declared.ReadOut.TheVariants as reads
use Rattle.model_sectors.specs.declared.PowerOut.{PowerOut}
use Rattle.model_sectors.specs.declared.PowerOut.TheVariants as powers
use Rattle.model_places.specs.Places.{Lists}
use Rattle.model_drive.specs.declared.WriteOut.{WriteOut}
use Rattle.model_drive.specs.declared.WriteOut.TheVariants as writes
use Rattle.model_drive.specs.declared.ExpandOut.{ExpandOut}
use Rattle.model_drive.specs.declared.ExpandOut.TheVariants as expands
use Rattle.model_drive.specs.declared.FormatOut.{FormatOut}
use Rattle.model_drive.specs.declared.FormatOut.TheVariants as formats
use Rattle.model_drive.specs.declared.Kind.{Kind}
use Rattle.model_drive.specs.declared.Kind.TheVariants as kinds
use Rattle.model_drive.specs.Shown.{Shown, cells_in}
use Rattle.model_drive.specs.Power.{PowerCause}
use Rattle.model_drive.specs.Reads.{ReadCause, VerifyCause}
use Rattle.model_drive.specs.Writes.{WriteCause}
use Rattle.model_drive.specs.Expands.{ExpandCause}
use Rattle.model_drive.specs.FullFormats.{FullCause}
use Rattle.model_drive.specs.Rewriting.{RewriteCause}
use Rattle.model_drive.specs.Formats.{FormatCauseBy, FormatCause}
use Rattle.model_costs.specs.Costs.{CostsOneCell}
use Rattle.model_costs.proofs.GoodStay.{GoodStay}

pub good_or_dead : (cell : Cell) → IsGood cell → IsGoodOrDead cell
good_or_dead Blank good = absurd good
good_or_dead (Good bytes) good = good
good_or_dead Torn good = absurd good
good_or_dead Dead good = absurd good

-- no cell is lost
none_lost : (old new : List Cell) → GoodStay old new → CostsOneCell old new
none_lost old new stay = record { at = 0; others = λ block other good. stay block good }

reach_one : (old new : Machine) (k : ℕ) → Reach old new k → CostsOneCell old.world.cells new.world.cells
reach_one old new k reach = elim reach.ends [
  | inl none ↦ none_lost old.world.cells new.world.cells none.0.stays_good
  | inr cut ↦ record { at = cut.0.torn; others = cut.0.others_stay_good }
]

-- of a use that failed no other cell changed
fails_on : (mid new : World) (at : ℕ) → FailsInUse mid new at → IsTrue mid.power
fails_on mid new at (inl read) = read.2.one.was_on
fails_on mid new at (inr write) = write.1.one.was_on

fails_others : (mid new : World) (at : ℕ) → FailsInUse mid new at → (block : ℕ) → block ≢ at → cell_at new.cells block ≡ cell_at mid.cells block
fails_others mid new at (inl read) = read.2.one.others
fails_others mid new at (inr write) = write.1.one.others

-- before a use that failed no cut came
reach_on : (old mid : Machine) (k : ℕ) → Reach old mid k → IsTrue mid.world.power → GoodStay old.world.cells mid.world.cells
reach_on old mid k reach is_on = elim reach.ends [
  | inl none ↦ none.0.stays_good
  | inr cut ↦ absurd (cut.0.turns_off is_on)
]

stop_one : (old new : Machine) (most : ℕ) (stop : Stop) → Stops (λ (m : Machine). m.world) ReachBy old new most stop → CostsOneCell old.world.cells new.world.cells
stop_one old new most stops.Cut stopped = reach_one old new stopped.uses stopped.reach
stop_one old new most stops.Off stopped = none_lost old.world.cells new.world.cells (λ block good.
    subst (λ (w : World). IsGoodOrDead (cell_at w.cells block)) (sym stopped.nothing) (good_or_dead (cell_at old.world.cells block) good))
stop_one old new most stops.Fault stopped = record {
  at = stopped.block;
  others = λ block other good. subst IsGoodOrDead (sym (fails_others stopped.mid.world new.world stopped.block stopped.fails block other))
      (reach_on old stopped.mid stopped.before stopped.reach (fails_on stopped.mid.world new.world stopped.block stopped.fails) block good);
}

module _ (old new : Shown) where
  nothing_lost : new ≡ old → CostsOneCell (cells_in old) (cells_in new)
  nothing_lost is = none_lost (cells_in old) (cells_in new) (λ block good.
      subst (λ (s : Shown). IsGoodOrDead (cell_at (cells_in s) block)) (sym is) (good_or_dead (cell_at (cells_in old) block) good))

  ends_one : (k : ℕ) → Reach old.medium new.medium k → CostsOneCell (cells_in old) (cells_in new)
  ends_one k reach = reach_one old.medium new.medium k reach

  stops_one : (most : ℕ) (stop : Stop) → Stops (λ (m : Machine). m.world) ReachBy old.medium new.medium most stop → CostsOneCell (cells_in old) (cells_in new)
  stops_one most stop stopped = stop_one old.medium new.medium most stop stopped

  pub power_one : (out : PowerOut) → PowerCause old new out → CostsOneCell (cells_in old) (cells_in new)
  power_one (powers.Ready known) cause = reach_one _ _ _ cause.ends.reach
  power_one powers.NotFormatted cause = reach_one _ _ _ cause.ends.reach
  power_one powers.Cut cause = stop_one _ _ _ stops.Cut cause.stopped.stops
  power_one powers.Fault cause = stop_one _ _ _ stops.Fault cause.stopped.stops

  pub read_one : (lba n : ℕ) (out : ReadOut) → ReadCause old new lba n out → CostsOneCell (cells_in old) (cells_in new)
  read_one lba n reads.Good cause = ends_one _ cause.ends.reach
  read_one lba n reads.NotFormatted cause = nothing_lost cause.nothing
  read_one lba n (reads.Range known) cause = nothing_lost cause.nothing
  read_one lba n (reads.Unread named block) cause = ends_one _ cause.ends.reach
  read_one lba n reads.Cut cause = stops_one _ stops.Cut cause.stopped.stops
  read_one lba n reads.Off cause = nothing_lost cause.nothing
  read_one lba n reads.Fault cause = stops_one _ stops.Fault cause.stopped.stops

  pub verify_one : (lba n : ℕ) (out : ReadOut) → VerifyCause old new lba n out → CostsOneCell (cells_in old) (cells_in new)
  verify_one lba n reads.Good cause = ends_one _ cause.ends.reach
  verify_one lba n reads.NotFormatted cause = nothing_lost cause.nothing
  verify_one lba n (reads.Range known) cause = nothing_lost cause.nothing
  verify_one lba n (reads.Unread named block) cause = ends_one _ cause.ends.reach
  verify_one lba n reads.Cut cause = stops_one _ stops.Cut cause.stopped.stops
  verify_one lba n reads.Off cause = nothing_lost cause.nothing
  verify_one lba n reads.Fault cause = stops_one _ stops.Fault cause.stopped.stops

  pub write_one : (lba n : ℕ) (out : WriteOut) → WriteCause old new lba n out → CostsOneCell (cells_in old) (cells_in new)
  write_one lba n writes.Good cause = ends_one _ cause.ends.ends.reach
  write_one lba n writes.NotFormatted cause = nothing_lost cause.nothing
  write_one lba n (writes.Range known) cause = nothing_lost cause.nothing
  write_one lba n (writes.Unread named block) cause = ends_one _ cause.ends.ends.reach
  write_one lba n (writes.NoSpare named) cause = ends_one _ cause.ends.ends.reach
  write_one lba n (writes.NoUpdate counter) cause = ends_one _ cause.ends.ends.reach
  write_one lba n writes.Cut cause = stops_one _ stops.Cut cause.stopped.stops
  write_one lba n writes.Off cause = nothing_lost cause.nothing
  write_one lba n writes.Fault cause = stops_one _ stops.Fault cause.stopped.stops

  pub expand_one : (sectors : ℕ) (out : ExpandOut) → ExpandCause old new sectors out → CostsOneCell (cells_in old) (cells_in new)
  expand_one sectors expands.Good (inl stays) = ends_one _ stays.ends.reach
  expand_one sectors expands.Good (inr grows) = ends_one _ grows.ends.reach
  expand_one sectors expands.NotFormatted cause = nothing_lost cause.nothing
  expand_one sectors (expands.Refused known) cause = nothing_lost cause.nothing
  expand_one sectors (expands.NoUpdate counter) cause = ends_one _ cause.ends.reach
  expand_one sectors expands.Cut cause = stops_one _ stops.Cut cause.stopped.stops
  expand_one sectors expands.Off cause = nothing_lost cause.nothing
  expand_one sectors expands.Fault cause = stops_one _ stops.Fault cause.stopped.stops

  full_one : (drop_sdl : Bool) (out : FormatOut) → FullCause old new drop_sdl out → CostsOneCell (cells_in old) (cells_in new)
  full_one drop_sdl formats.Good cause = ends_one _ cause.any.ends.reach
  full_one drop_sdl (formats.TooMany found) cause = ends_one _ cause.any.ends.reach
  full_one drop_sdl (formats.NoUpdate counter) (inl lacks) = nothing_lost lacks.nothing
  full_one drop_sdl (formats.NoUpdate counter) (inr (inl loses)) = ends_one _ loses.any.ends.reach
  full_one drop_sdl (formats.NoUpdate counter) (inr (inr (inl loses))) = ends_one _ loses.any.ends.reach
  full_one drop_sdl (formats.NoUpdate counter) (inr (inr (inr loses))) = ends_one _ loses.any.ends.reach
  full_one drop_sdl formats.Cut cause = stops_one _ stops.Cut cause.stopped.stops
  full_one drop_sdl formats.Off cause = nothing_lost cause.nothing
  full_one drop_sdl formats.Fault cause = stops_one _ stops.Fault cause.stopped.stops

  rewrite_one : (lists : Lists) (out : FormatOut) → RewriteCause old new lists out → CostsOneCell (cells_in old) (cells_in new)
  rewrite_one lists formats.Good cause = ends_one _ cause.both.ends.reach
  rewrite_one lists (formats.TooMany found) cause = absurd cause
  rewrite_one lists (formats.NoUpdate counter) cause = ends_one _ cause.both.ends.reach
  rewrite_one lists formats.Cut cause = stops_one _ stops.Cut cause.stopped.stops
  rewrite_one lists formats.Off cause = nothing_lost cause.nothing
  rewrite_one lists formats.Fault cause = stops_one _ stops.Fault cause.stopped.stops

  by_kind : (lists : Option Lists) (kind : Kind) (out : FormatOut) → FormatCauseBy old new lists kind out → CostsOneCell (cells_in old) (cells_in new)
  by_kind None (kinds.Full drop_sdl) out cause = full_one drop_sdl out cause
  by_kind (Some lists) (kinds.Full drop_sdl) out cause = full_one drop_sdl out cause
  by_kind None kinds.Rewrite out cause = full_one false out cause
  by_kind (Some lists) kinds.Rewrite out cause = rewrite_one lists out cause

  pub format_one : (kind : Kind) (out : FormatOut) → FormatCause old new kind out → CostsOneCell (cells_in old) (cells_in new)
  format_one kind out cause = by_kind old.lists kind out cause

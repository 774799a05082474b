-- That dead cells stay dead over each call of a drive.
use Rattle.std.specs.Prelude.{◌≡◌, ℕ, false, Bool, Option, Some, None}
use Rattle.std.proofs.Common.{ap, ◌∙◌, inl, inr}
use Rattle.model_medium.specs.Cells.{cell_at}
use Rattle.model_stops.specs.declared.Stop.TheVariants as stops
use Rattle.model_sectors.specs.declared.ReadOut.{ReadOut}
use Rattle.model_sectors.specs.declared.ReadOut.TheVariants as reads
use Rattle.model_sectors.specs.declared.PowerOut.{PowerOut}
use Rattle.model_sectors.specs.declared.PowerOut.TheVariants as powers
use Rattle.model_places.specs.Places.{Lists}
use Rattle.model_drive.specs.declared.WriteOut.{WriteOut}
use Rattle.model_drive.specs.declared.WriteOut.TheVariants as writes
use Rattle.model_drive.specs.declared.ExpandOut.{ExpandOut}
use Rattle.model_drive.specs.declared.ExpandOut.TheVariants as expands
use Rattle.model_drive.specs.declared.FormatOut.{FormatOut}
use Rattle.model_drive.specs.declared.FormatOut.TheVariants as formats
use Rattle.model_drive.specs.declared.Kind.{Kind}
use Rattle.model_drive.specs.declared.Kind.TheVariants as kinds
use Rattle.model_drive.specs.Shown.{Shown, cells_in}
use Rattle.model_drive.specs.Power.{PowerCause}
use Rattle.model_drive.specs.Reads.{ReadCause, VerifyCause}
use Rattle.model_drive.specs.Writes.{WriteCause}
use Rattle.model_drive.specs.Expands.{ExpandCause}
use Rattle.model_drive.specs.FullFormats.{FullCause}
use Rattle.model_drive.specs.Rewriting.{RewriteCause}
use Rattle.model_drive.specs.Formats.{FormatCauseBy, FormatCause}
use Rattle.model_lasting.specs.Lasting.{DeadStay}
use Rattle.model_fairness.proofs.Calls.{stop_dead}

module _ (old new : Shown) where
  nothing_dead : new ≡ old → DeadStay old new
  nothing_dead is block dead = ap (λ (s : Shown). cell_at (cells_in s) block) is ∙ dead

  pub power_dead : (out : PowerOut) → PowerCause old new out → DeadStay old new
  power_dead (powers.Ready known) cause = cause.ends.reach.lasts.stays_dead
  power_dead powers.NotFormatted cause = cause.ends.reach.lasts.stays_dead
  power_dead powers.Cut cause = stop_dead _ _ _ stops.Cut cause.stopped.stops
  power_dead powers.Fault cause = stop_dead _ _ _ stops.Fault cause.stopped.stops

  pub read_dead : (lba n : ℕ) (out : ReadOut) → ReadCause old new lba n out → DeadStay old new
  read_dead lba n reads.Good cause = cause.ends.reach.lasts.stays_dead
  read_dead lba n reads.NotFormatted cause = nothing_dead cause.nothing
  read_dead lba n (reads.Range known) cause = nothing_dead cause.nothing
  read_dead lba n (reads.Unread named block) cause = cause.ends.reach.lasts.stays_dead
  read_dead lba n reads.Cut cause = stop_dead old.medium new.medium _ stops.Cut cause.stopped.stops
  read_dead lba n reads.Off cause = nothing_dead cause.nothing
  read_dead lba n reads.Fault cause = stop_dead old.medium new.medium _ stops.Fault cause.stopped.stops

  pub verify_dead : (lba n : ℕ) (out : ReadOut) → VerifyCause old new lba n out → DeadStay old new
  verify_dead lba n reads.Good cause = cause.ends.reach.lasts.stays_dead
  verify_dead lba n reads.NotFormatted cause = nothing_dead cause.nothing
  verify_dead lba n (reads.Range known) cause = nothing_dead cause.nothing
  verify_dead lba n (reads.Unread named block) cause = cause.ends.reach.lasts.stays_dead
  verify_dead lba n reads.Cut cause = stop_dead old.medium new.medium _ stops.Cut cause.stopped.stops
  verify_dead lba n reads.Off cause = nothing_dead cause.nothing
  verify_dead lba n reads.Fault cause = stop_dead old.medium new.medium _ stops.Fault cause.stopped.stops

  pub write_dead : (lba n : ℕ) (out : WriteOut) → WriteCause old new lba n out → DeadStay old new
  write_dead lba n writes.Good cause = cause.ends.ends.reach.lasts.stays_dead
  write_dead lba n writes.NotFormatted cause = nothing_dead cause.nothing
  write_dead lba n (writes.Range known) cause = nothing_dead cause.nothing
  write_dead lba n (writes.Unread named block) cause = cause.ends.ends.reach.lasts.stays_dead
  write_dead lba n (writes.NoSpare named) cause = cause.ends.ends.reach.lasts.stays_dead
  write_dead lba n (writes.NoUpdate counter) cause = cause.ends.ends.reach.lasts.stays_dead
  write_dead lba n writes.Cut cause = stop_dead old.medium new.medium _ stops.Cut cause.stopped.stops
  write_dead lba n writes.Off cause = nothing_dead cause.nothing
  write_dead lba n writes.Fault cause = stop_dead old.medium new.medium _ stops.Fault cause.stopped.stops

  pub expand_dead : (sectors : ℕ) (out : ExpandOut) → ExpandCause old new sectors out → DeadStay old new
  expand_dead sectors expands.Good (inl stays) = stays.ends.reach.lasts.stays_dead
  expand_dead sectors expands.Good (inr grows) = grows.ends.reach.lasts.stays_dead
  expand_dead sectors expands.NotFormatted cause = nothing_dead cause.nothing
  expand_dead sectors (expands.Refused known) cause = nothing_dead cause.nothing
  expand_dead sectors (expands.NoUpdate counter) cause = cause.ends.reach.lasts.stays_dead
  expand_dead sectors expands.Cut cause = stop_dead old.medium new.medium _ stops.Cut cause.stopped.stops
  expand_dead sectors expands.Off cause = nothing_dead cause.nothing
  expand_dead sectors expands.Fault cause = stop_dead old.medium new.medium _ stops.Fault cause.stopped.stops

  full_dead : (drop_sdl : Bool) (out : FormatOut) → FullCause old new drop_sdl out → DeadStay old new
  full_dead drop_sdl formats.Good cause = cause.any.ends.reach.lasts.stays_dead
  full_dead drop_sdl (formats.TooMany found) cause = cause.any.ends.reach.lasts.stays_dead
  full_dead drop_sdl (formats.NoUpdate counter) (inl lacks) = nothing_dead lacks.nothing
  full_dead drop_sdl (formats.NoUpdate counter) (inr (inl loses)) = loses.any.ends.reach.lasts.stays_dead
  full_dead drop_sdl (formats.NoUpdate counter) (inr (inr (inl loses))) = loses.any.ends.reach.lasts.stays_dead
  full_dead drop_sdl (formats.NoUpdate counter) (inr (inr (inr loses))) = loses.any.ends.reach.lasts.stays_dead
  full_dead drop_sdl formats.Cut cause = stop_dead old.medium new.medium _ stops.Cut cause.stopped.stops
  full_dead drop_sdl formats.Off cause = nothing_dead cause.nothing
  full_dead drop_sdl formats.Fault cause = stop_dead old.medium new.medium _ stops.Fault cause.stopped.stops

  rewrite_dead : (lists : Lists) (out : FormatOut) → RewriteCause old new lists out → DeadStay old new
  rewrite_dead lists formats.Good cause = cause.both.ends.reach.lasts.stays_dead
  rewrite_dead lists (formats.TooMany found) cause = absurd cause
  rewrite_dead lists (formats.NoUpdate counter) cause = cause.both.ends.reach.lasts.stays_dead
  rewrite_dead lists formats.Cut cause = stop_dead old.medium new.medium _ stops.Cut cause.stopped.stops
  rewrite_dead lists formats.Off cause = nothing_dead cause.nothing
  rewrite_dead lists formats.Fault cause = stop_dead old.medium new.medium _ stops.Fault cause.stopped.stops

  by_kind : (lists : Option Lists) (kind : Kind) (out : FormatOut) → FormatCauseBy old new lists kind out → DeadStay old new
  by_kind None (kinds.Full drop_sdl) out cause = full_dead drop_sdl out cause
  by_kind (Some lists) (kinds.Full drop_sdl) out cause = full_dead drop_sdl out cause
  by_kind None kinds.Rewrite out cause = full_dead false out cause
  by_kind (Some lists) kinds.Rewrite out cause = rewrite_dead lists out cause

  pub format_dead : (kind : Kind) (out : FormatOut) → FormatCause old new kind out → DeadStay old new
  format_dead kind out cause = by_kind old.lists kind out cause

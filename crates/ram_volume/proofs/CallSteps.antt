-- What each call does in a state that refuses it, and what a drive stands for after it was turned off and on again.
use Rattle.std.proofs.Common.{◌≡◌, ℕ, Option, Some, None, List, sym, subst}
use Rattle.model_sectors.specs.Discs.{Standing, On, Off, candidates}
use Rattle.model_sectors.specs.declared.ReadOut.TheVariants as reads
use Rattle.model_sectors.specs.declared.PowerOut.{PowerOut}
use Rattle.model_sectors.specs.declared.PowerOut.TheVariants as powers
use Rattle.model_drive.specs.declared.WriteOut.TheVariants as writes
use Rattle.model_drive.specs.declared.Kind.{Kind}
use Rattle.model_drive.specs.declared.FormatOut.{FormatOut}
use Rattle.model_drive.specs.declared.FormatOut.TheVariants as formats
use Rattle.model_drive.specs.Shown.{Shown, IsOn, StandsFor}
use Rattle.model_drive.specs.Reads.{ReadStep}
use Rattle.model_drive.specs.Writes.{WriteStep}
use Rattle.model_drive.specs.Formats.{FormatStep}
use Rattle.model_geometry.specs.Geometry.{dds_block}
use Rattle.model_lists.specs.Values.{Dds, Sdl}
use Rattle.model_lists.specs.Texts.{IsDdsText}
use Rattle.model_drive.specs.Repairs.{RepairsList, RepairsSdl}
use Rattle.model_drive.specs.Power.{RepairsChosenDds, PowerCause, PowerStep}
use Rattle.ram_states.specs.Powers.{turned_off, PowerSteps}
use Rattle.ram_states.specs.Formats.{FormatSteps}

-- with the power off
module _ (old new : Shown) (same : old ≡ new) (off : ¬ IsOn new) where
  read_off : (s : Standing) → StandsFor new s → (lba n : ℕ) (into : List ℕ) → ReadStep (StandsFor new) s lba n into reads.Off
  read_off (On disc) stands lba n into = absurd (off stands.1)
  read_off (Off discs) stands lba n into = stands

  pub read_steps_off : (s : Standing) → StandsFor old s → (lba n : ℕ) (into : List ℕ) → ReadStep (StandsFor new) s lba n into reads.Off
  read_steps_off s stands = read_off s (subst (λ (x : Shown). StandsFor x s) same stands)

  write_off : (s : Standing) → StandsFor new s → (lba n : ℕ) (from : List ℕ) → WriteStep new (StandsFor new) s lba n from writes.Off
  write_off (On disc) stands lba n from = absurd (off stands.1)
  write_off (Off discs) stands lba n from = stands

  pub write_steps_off : (s : Standing) → StandsFor old s → (lba n : ℕ) (from : List ℕ) → WriteStep new (StandsFor new) s lba n from writes.Off
  write_steps_off s stands = write_off s (subst (λ (x : Shown). StandsFor x s) same stands)

  format_off : (s : Standing) → StandsFor new s → (kind : Kind) → FormatStep old new (StandsFor new) s kind formats.Off
  format_off (On disc) stands kind = absurd (off stands.1)
  format_off (Off discs) stands kind = stands

  pub format_steps_off : (s : Standing) → StandsFor old s → (kind : Kind) → FormatStep old new (StandsFor new) s kind formats.Off
  format_steps_off s stands = format_off s (subst (λ (x : Shown). StandsFor x s) same stands)

-- The turning off and on of the power: what comes after is said of the drive as it was before.
repairs_again : {V : Type 0} (text : V → List ℕ → Type 0) (place : ℕ → ℕ) (old new : Shown) (value : V) (uses : ℕ)
    → RepairsList text place (turned_off old) new value uses → RepairsList text place old new value uses
repairs_again text place old new value uses repairs =
    record { rewritten = repairs.rewritten; few = repairs.few; uses_are = repairs.uses_are; rewrites = repairs.rewrites }

parts_again : (old new : Shown) (sdl : Sdl) (uses : ℕ) → RepairsSdl (turned_off old) new sdl uses → RepairsSdl old new sdl uses
parts_again old new sdl uses repairs = record {
  firsts = repairs.firsts;
  seconds = repairs.seconds;
  few = repairs.few;
  few' = repairs.few';
  none = repairs.none;
  uses_are = repairs.uses_are;
  of_firsts = repairs.of_firsts;
  of_seconds = repairs.of_seconds;
}

chosen_again : (old new : Shown) (chosen : Option Dds) (uses : ℕ) → RepairsChosenDds (turned_off old) new chosen uses → RepairsChosenDds old new chosen uses
chosen_again old new None uses none = none
chosen_again old new (Some dds) uses repairs = (repairs_again IsDdsText (dds_block old.shape) old new dds uses repairs.0, repairs.1)

power_again : (old new : Shown) (out : PowerOut) → PowerCause (turned_off old) new out → PowerCause old new out
power_again old new (powers.Ready known) cause = record {
  any = record { only = cause.any.only; given = cause.any.given; unbuffered = cause.any.unbuffered };
  lists = cause.lists;
  in_use = cause.in_use;
  mark_is = cause.mark_is;
  known_is = cause.known_is;
  seen = cause.seen;
  sees = cause.sees;
  chosen = cause.chosen;
  dds_uses = cause.dds_uses;
  dds = repairs_again IsDdsText (dds_block old.shape) old new cause.lists.dds cause.dds_uses cause.dds;
  sdl_uses = cause.sdl_uses;
  sdl = parts_again old new cause.lists.sdl cause.sdl_uses cause.sdl;
  mores = cause.mores;
  few = cause.few;
  mores_are = cause.mores_are;
  ends = cause.ends;
}
power_again old new powers.NotFormatted cause = record {
  any = record { only = cause.any.only; given = cause.any.given; unbuffered = cause.any.unbuffered };
  no_lists = cause.no_lists;
  seen = cause.seen;
  sees = cause.sees;
  mark_is = cause.mark_is;
  chosen = cause.chosen;
  lacks = cause.lacks;
  uses = cause.uses;
  repaired = chosen_again old new cause.chosen cause.uses cause.repaired;
  dies = cause.dies;
  mores = cause.mores;
  few = cause.few;
  mores_are = cause.mores_are;
  ends = cause.ends;
}
power_again old new powers.Cut cause = record {
  any = record { only = cause.any.only; given = cause.any.given; unbuffered = cause.any.unbuffered };
  stopped = record { stops = cause.stopped.stops; no_lists = cause.stopped.no_lists; no_mark = cause.stopped.no_mark; no_buffer = cause.stopped.no_buffer };
  left = cause.left;
}
power_again old new powers.Fault cause = record {
  any = record { only = cause.any.only; given = cause.any.given; unbuffered = cause.any.unbuffered };
  stopped = record { stops = cause.stopped.stops; no_lists = cause.stopped.no_lists; no_mark = cause.stopped.no_mark; no_buffer = cause.stopped.no_buffer };
  left = cause.left;
}

pub power_cause_again : (old on off new : Shown) (out : PowerOut) → old ≡ on → off ≡ turned_off on → PowerCause off new out → PowerCause old new out
power_cause_again old on off new out same turned cause =
    subst (λ (x : Shown). PowerCause x new out) (sym same) (power_again on new out (subst (λ (x : Shown). PowerCause x new out) turned cause))

power_steps_of : (new : Shown) (s : Standing) (out : PowerOut) → PowerStep new (StandsFor new) (Off (candidates s)) out → PowerStep new (StandsFor new) s out
power_steps_of new s (powers.Ready known) step = step
power_steps_of new s powers.NotFormatted step = step
power_steps_of new s powers.Cut step = step
power_steps_of new s powers.Fault step = step

pub power_steps_again : (old on off new : Shown) (out : PowerOut) → old ≡ on
    → ((s : Standing) → StandsFor on s → StandsFor off (Off (candidates s))) → PowerSteps off new out → PowerSteps old new out
power_steps_again old on off new out same turned steps s stands =
    power_steps_of new s out (steps (Off (candidates s)) (turned s (subst (λ (x : Shown). StandsFor x s) same stands)))

-- the same of a drive that was off already
pub power_steps_as : (old begun new : Shown) (out : PowerOut) → old ≡ begun → PowerSteps begun new out → PowerSteps old new out
power_steps_as old begun new out same steps s stands = steps s (subst (λ (x : Shown). StandsFor x s) same stands)

-- a format that began in this state did so in what the state shows
pub format_steps_of : (old begun new : Shown) → old ≡ begun → (kind : Kind) (out : FormatOut) → FormatSteps begun new kind out
    → FormatSteps old new kind out
format_steps_of old begun new same kind out steps =
    subst (λ (x : Shown). FormatSteps x new kind out) (sym same) steps

-- No line changes the label of the medium, nor the geometry: an image keeps the geometry that it was pressed with.
use Rattle.std.specs.Prelude.{◌&&◌, not, ◌≡◌, ℕ, ◌==◌, Bool, true, false, Result, Ok, Err, List}
use Rattle.std.specs.Bool.{MatchBool}
use Rattle.std.proofs.Common.{subst, refl, sym, ap, ◌∙◌, inl, inr}
use Rattle.model_geometry.specs.Geometry.{label_of}
use Rattle.model_medium.specs.Machine.{Machine}
use Rattle.model_medium.specs.declared.WornBlock.{WornBlock}
use Rattle.model_drive.specs.Shown.{Shown}
use Rattle.model_drive.proofs.Kept.{read_kept, verify_kept, write_kept, power_kept, expand_kept, format_kept}
use Rattle.model_drive.specs.declared.WriteOut.{WriteOut}
use Rattle.model_cache.specs.Values.{Contents}
use Rattle.model_cache.specs.Shown.{CacheShown}
use Rattle.model_cache.proofs.Chained.{HoldsOfChains, of_read, of_write, of_through, of_sync, of_tick}
use Rattle.model_scrub.proofs.Chained.{of_step, of_pass}
use Rattle.model_sense.specs.declared.sense.Sense.{Sense}
use Rattle.model_sense.specs.declared.answer.Answer.{Answer}
use Rattle.model_cdb.specs.declared.commands.Command.{Command}
use Rattle.model_cdb.specs.declared.commands.Command.TheVariants as commands
use Rattle.model_target.specs.declared.host.Host.{Host}
use Rattle.model_target.specs.Steps.{WrittenCause, Untouched, TellsStructure, TellsSpares, IsDone, IsAnsweredBy, IsStep}
use Rattle.ram_medium.specs.Control.{WearRule}
use Rattle.ram_medium.specs.declared.control.FailEnd.{FailEnd}
use Rattle.ram_medium.specs.declared.control.FailEnd.TheVariants as fails
use Rattle.ram_medium.specs.declared.control.Arm.{Arm}
use Rattle.ram_medium.specs.declared.control.Arm.TheVariants as arming
use Rattle.ram_states.specs.Control.{FailOnDrive}
use Rattle.ram_text.specs.declared.script.Line.{Line}
use Rattle.ram_text.specs.declared.script.Line.TheVariants as lines
use Rattle.model_modes.specs.ParameterLists.{caches_after}
use Rattle.model_target.proofs.Settling.{Settles, started, selected}
use Rattle.ram_machine.specs.Replies.{Outcome}
use Rattle.ram_machine.specs.States.{IsLabelled}
use Rattle.ram_machine.specs.LineSteps.{DiscRule}
use Rattle.ram_machine.proofs.Scrubbed.{AtMostDies, at_most_dies}

module _ (old new : Shown) where
  abbrev SameLabel : Type 0
  SameLabel = new.medium.world.label ≡ old.medium.world.label

  fail_label : (block : ℕ) (end : FailEnd) → FailOnDrive old new block end → SameLabel
  fail_label block fails.Done p = ap (λ (m : Machine). m.world.label) p.0.1
  fail_label block (fails.NoBlock blocks) p = ap (λ (m : Machine). m.world.label) p.0.2
  fail_label block fails.Failed p = p.0.1.same_label

  wear_label : (total : ℕ) (worn : WornBlock) (end : Arm) → WearRule total old.medium new.medium worn end → SameLabel
  wear_label total worn arming.Set p = ap (λ (m : Machine). m.world.label) p.2
  wear_label total worn (arming.NoBlock blocks) p = ap (λ (m : Machine). m.world.label) p.2
  wear_label total worn arming.Full p = ap (λ (m : Machine). m.world.label) p.2

-- over calls of the disc, one after another
label_holds : HoldsOfChains (λ faulted old new. SameLabel old new)
label_holds = record {
  none = λ s. refl;
  join = λ faulted a b c is then. then ∙ is;
  read = λ a b lba n out leaves cause. (read_kept a b lba n out cause).same_label;
  write = λ a b lba n out leaves cause. (write_kept a b lba n out cause).same_label;
}

module _ (old new : CacheShown) (before after : Contents → Type 0) where
  untouched_label : Untouched old new before after → SameLabel old.drive new.drive
  untouched_label p = ap (λ (s : CacheShown). s.drive.medium.world.label) p.same

  told_label : (structure : Bool) (alloc : ℕ) (answer : Answer) (data_in : List ℕ)
      → MatchBool structure (TellsStructure old new before after alloc answer data_in) (TellsSpares old new before after alloc answer data_in) → SameLabel old.drive new.drive
  told_label true alloc answer data_in p = untouched_label p.is_answered.untouched
  told_label false alloc answer data_in p = untouched_label p.untouched

  written_label : (lba n : ℕ) (payload : List ℕ) (fua : Bool) (out : WriteOut) → WrittenCause old new lba n payload fua out → SameLabel old.drive new.drive
  written_label lba n payload true out cause = of_through (λ faulted a b. SameLabel a b) label_holds lba n old new out cause
  written_label lba n payload false out cause = of_write (λ faulted a b. SameLabel a b) label_holds lba n payload old new out cause

  settles_label : (answer : Answer) (data_in : List ℕ) → Settles old new before after answer data_in → SameLabel old.drive new.drive
  settles_label answer data_in p = subst (SameLabel old.drive) (sym p.same_drive) (of_sync (λ faulted a b. SameLabel a b) label_holds old p.mid p.out p.cause)

  done_label : (host : Host) (payload : List ℕ) (command : Command) (answer : Answer) (data_in : List ℕ) → IsDone old new before after host payload command answer data_in → SameLabel old.drive new.drive
  done_label host payload commands.TestUnitReady answer data_in p = untouched_label p.untouched
  done_label host payload (commands.RequestSense alloc) answer data_in p = untouched_label p.untouched
  done_label host payload (commands.Format kind) answer data_in p = (format_kept old.drive new.drive kind p.out p.cause.0).same_label
  done_label host payload (commands.Expand sectors) answer data_in p = (expand_kept old.drive new.drive sectors p.out p.cause.0).same_label
  done_label host payload (commands.Inquiry vital alloc) answer data_in p = untouched_label p.untouched
  done_label host payload (commands.StartStop start eject) answer data_in p =
      elim (started old new before after (eject && not start) answer data_in p) [ inl settles ↦ settles_label answer data_in settles | inr q ↦ untouched_label q.untouched ]
  done_label host payload (commands.Prevent on) answer data_in p = untouched_label p.untouched
  done_label host payload (commands.FormatCapacities alloc) answer data_in p = untouched_label p.untouched
  done_label host payload commands.ReadCapacity answer data_in p = untouched_label p.untouched
  done_label host payload (commands.Read lba n) answer data_in p = of_read (λ faulted a b. SameLabel a b) label_holds lba n old new p.out p.cause
  done_label host payload (commands.Write lba n fua) answer data_in p = written_label lba n payload fua p.out p.cause
  done_label host payload (commands.Verify lba n) answer data_in p = (verify_kept old.drive new.drive lba n p.out p.cause.0).same_label
  done_label host payload commands.Synchronize answer data_in p = of_sync (λ faulted a b. SameLabel a b) label_holds old new p.out p.cause
  done_label host payload (commands.Configuration rt start alloc) answer data_in p = untouched_label p.untouched
  done_label host payload (commands.Events media alloc) answer data_in p = untouched_label p.untouched
  done_label host payload (commands.DiscInformation alloc) answer data_in p = untouched_label p.untouched
  done_label host payload commands.ModeSelect answer data_in p =
      elim (selected old new before after (old.caches && not (caches_after payload old.caches)) payload answer data_in p) [
        | inl settles ↦ settles_label answer data_in settles
        | inr q ↦ ap (λ (s : CacheShown). s.drive.medium.world.label) q.mode
      ]
  done_label host payload (commands.ModeSense short control page alloc) answer data_in p = untouched_label p.untouched
  done_label host payload (commands.Structure format alloc) answer data_in p = told_label (format == 0x08) alloc answer data_in p
  done_label host payload commands.Streaming answer data_in p = untouched_label p.untouched

  by_label : (host : Host) (payload : List ℕ) (judged : Result Command Sense) (answer : Answer) (data_in : List ℕ) → IsAnsweredBy old new before after host payload judged answer data_in → SameLabel old.drive new.drive
  by_label host payload (Err why) answer data_in p = untouched_label p.untouched
  by_label host payload (Ok command) answer data_in p = done_label host payload command answer data_in p

  step_label : (host later : Host) (cdb payload : List ℕ) (answer : Answer) (data_in : List ℕ) → IsStep old new before after host later cdb payload answer data_in → SameLabel old.drive new.drive
  step_label host later cdb payload answer data_in (inl off) = untouched_label off.1.is_answered.untouched
  step_label host later cdb payload answer data_in (inr on) = by_label host payload on.1.judged answer data_in on.1.is_answered

  rule_label : (host later : Host) (line : Line) (payload : List ℕ) (outcome : Outcome) (data_in : List ℕ) → DiscRule old new before after host later line payload outcome data_in → SameLabel old.drive new.drive
  rule_label host later lines.Power payload outcome data_in p = (power_kept old.drive new.drive p.0.out p.0.powered.cause.0).same_label
  rule_label host later (lines.Fail block) payload outcome data_in p = fail_label old.drive new.drive block p.0.end p.0.rule
  rule_label host later (lines.Wear block n) payload outcome data_in p = wear_label old.drive new.drive _ (record { block = block; left = n }) p.0.end p.0.rule
  rule_label host later (lines.Cut n fate) payload outcome data_in p = ap (λ (m : Machine). m.world.label) p.0.armed
  rule_label host later lines.Tick payload outcome data_in p = of_tick (λ faulted a b. SameLabel a b) label_holds old new p.0.out p.0.cause
  rule_label host later (lines.Scrub false) payload outcome data_in p = (of_step (λ faulted a b. AtMostDies a.drive b.drive) at_most_dies old new p.from p.to p.end p.rule).same_label
  rule_label host later (lines.Scrub true) payload outcome data_in p = (of_pass (λ faulted a b. AtMostDies a.drive b.drive) at_most_dies old new p.from p.to p.end p.rule).same_label
  rule_label host later (lines.Command cdb) payload outcome data_in p = step_label host later cdb payload p.answer data_in p.step
  rule_label host later _ payload outcome data_in p = absurd p

  -- a drive whose label is that of its geometry still is so after a line
  pub stays_labelled : (host later : Host) (line : Line) (payload : List ℕ) (outcome : Outcome) (data_in : List ℕ) → DiscRule old new before after host later line payload outcome data_in
      → new.drive.shape ≡ old.drive.shape → IsLabelled old.drive → IsLabelled new.drive
  stays_labelled host later line payload outcome data_in rule same_shape labelled =
      rule_label host later line payload outcome data_in rule ∙ labelled ∙ sym (ap label_of same_shape)

use Rattle.std.proofs.Common.{refl, ap, ◌≡◌, List, ℕ, []}
use Rattle.std.specs.Prelude.{true, false}
use Rattle.ram_scrub.specs.Scrub.{scrubber_of}
use Rattle.ram_text.specs.declared.script.Line.TheVariants as lines
use Rattle.ram_machine.specs.Replies.{data_told}
use Rattle.ram_machine.proofs.InsertedSteps.{fail_shape, inserted_told, told_by, power_told, fail_told, wear_told, tick_told, step_told, command_told}
use Rattle.ram_machine.proofs.LineCounts.{rule_counts}
use Rattle.ram_machine.proofs.Printing.{prints}
use Rattle.ram_machine.proofs.inserted.Inserted.answer.Goals as goal

pub returns-in-Disc-Power-clause-step : goal.returns-in-Disc-Power-clause-step
returns-in-Disc-Power-clause-step g c = rw (c.in-Disc-Power.is-0, c.in-Disc-Power.is-1)
    (inserted_told g.D.Caching g.D.Drive.lies_in g.D.Image.Image g.met.D.Caching.laws g.met.D.Drive.drive_laws c.in-Disc-Power.target c.power.new.self c.in-Disc-Power.scrub c.restart.new.self lines.Power c.args.payload.now c.power_outcome.result c.clear_before.new.data_in.items
    (record { out = c.power.result; powered = c.power.ensures.rule; outcome_is = c.power_outcome.ensures }, (rw c.in-Disc-Power.is-1 at c.clear_before.ensures.items)) c.power.ensures.same_shape
    (g.met.D.Drive.drive_laws.by_events c.in-Disc-Power.target.disc c.power.new.self.disc c.power.ensures.underwent) c.restart.ensures _ c.clear_before.new.data_in.items _ (told_by _ _ c.power_outcome.result _ c.power_outcome.ensures (power_told _ _ c.power.result)))

pub returns-in-Disc-Fail-clause-step : goal.returns-in-Disc-Fail-clause-step
returns-in-Disc-Fail-clause-step g c = rw (c.in-Disc-Fail.is-0, c.in-Disc-Fail.is-1)
    (inserted_told g.D.Caching g.D.Drive.lies_in g.D.Image.Image g.met.D.Caching.laws g.met.D.Drive.drive_laws c.in-Disc-Fail.target (record { disc = c.fail.new.self; host = c.in-Disc-Fail.target.host; block = c.in-Disc-Fail.target.block }) c.in-Disc-Fail.field-2-0 c.in-Disc-Fail.field-2-0 (lines.Fail c.in-Disc-Fail.block) c.args.payload.now c.fail_outcome.result c.clear_before.new.data_in.items
    (record { end = c.fail.result; rule = c.fail.ensures.rule; cache = c.fail.ensures.cache; stands = c.fail.ensures.stands; same_host = refl; outcome_is = c.fail_outcome.ensures }, (rw c.in-Disc-Fail.is-1 at c.clear_before.ensures.items)) (fail_shape _ _ c.in-Disc-Fail.block c.fail.result c.fail.ensures.rule) (c.fail.result, c.fail_outcome.ensures, c.fail.ensures.bytes) refl _ c.clear_before.new.data_in.items _ (told_by _ _ c.fail_outcome.result _ c.fail_outcome.ensures (fail_told _ _ c.fail.result)))

pub returns-in-Disc-Wear-clause-step : goal.returns-in-Disc-Wear-clause-step
returns-in-Disc-Wear-clause-step g c = rw (c.in-Disc-Wear.is-0, c.in-Disc-Wear.is-1)
    (inserted_told g.D.Caching g.D.Drive.lies_in g.D.Image.Image g.met.D.Caching.laws g.met.D.Drive.drive_laws c.in-Disc-Wear.target (record { disc = c.wear.new.self; host = c.in-Disc-Wear.target.host; block = c.in-Disc-Wear.target.block }) c.in-Disc-Wear.field-2-0 c.in-Disc-Wear.field-2-0 (lines.Wear c.in-Disc-Wear.block c.in-Disc-Wear.n) c.args.payload.now c.wear_outcome.result c.clear_before.new.data_in.items
    (record { end = c.wear.result; rule = c.wear.ensures.rule; keeps = record { memory = c.wear.ensures.keeps; cache = c.wear.ensures.cache; stands = c.wear.ensures.stands; same_host = refl }; outcome_is = c.wear_outcome.ensures }, (rw c.in-Disc-Wear.is-1 at c.clear_before.ensures.items)) c.wear.ensures.keeps.same_shape c.wear.ensures.bytes refl _ c.clear_before.new.data_in.items _ (told_by _ _ c.wear_outcome.result _ c.wear_outcome.ensures (wear_told _ _ c.wear.result)))

pub returns-in-Disc-Cut-clause-step : goal.returns-in-Disc-Cut-clause-step
returns-in-Disc-Cut-clause-step g c = rw (c.in-Disc-Cut.is-0, c.in-Disc-Cut.is-1)
    (inserted_told g.D.Caching g.D.Drive.lies_in g.D.Image.Image g.met.D.Caching.laws g.met.D.Drive.drive_laws c.in-Disc-Cut.target (record { disc = c.arm_cut.new.self; host = c.in-Disc-Cut.target.host; block = c.in-Disc-Cut.target.block }) c.in-Disc-Cut.field-2-0 c.in-Disc-Cut.field-2-0 (lines.Cut c.in-Disc-Cut.n c.in-Disc-Cut.fate) c.args.payload.now _ c.clear_before.new.data_in.items
    (record { armed = c.arm_cut.ensures.rule; keeps = record { memory = c.arm_cut.ensures.keeps; cache = c.arm_cut.ensures.cache; stands = c.arm_cut.ensures.stands; same_host = refl }; outcome_is = refl }, (rw c.in-Disc-Cut.is-1 at c.clear_before.ensures.items)) c.arm_cut.ensures.keeps.same_shape c.arm_cut.ensures.bytes refl _ c.clear_before.new.data_in.items (scrubber_of c.in-Disc-Cut.field-2-0).found refl)

pub returns-in-Disc-Tick-clause-step : goal.returns-in-Disc-Tick-clause-step
returns-in-Disc-Tick-clause-step g c = rw (c.in-Disc-Tick.is-0, c.in-Disc-Tick.is-1)
    (inserted_told g.D.Caching g.D.Drive.lies_in g.D.Image.Image g.met.D.Caching.laws g.met.D.Drive.drive_laws c.in-Disc-Tick.target (record { disc = c.tick.new.self; host = c.in-Disc-Tick.target.host; block = c.in-Disc-Tick.target.block }) c.in-Disc-Tick.field-2-0 c.in-Disc-Tick.field-2-0 lines.Tick c.args.payload.now c.tick_outcome.result c.clear_before.new.data_in.items
    (record { out = c.tick.result; cause = c.tick.ensures.cause; step = c.tick.ensures.step; same_host = refl; outcome_is = c.tick_outcome.ensures }, (rw c.in-Disc-Tick.is-1 at c.clear_before.ensures.items)) c.tick.ensures.same_shape
    (g.met.D.Drive.drive_laws.by_events c.in-Disc-Tick.target.disc c.tick.new.self c.tick.ensures.underwent) refl _ c.clear_before.new.data_in.items _ (told_by _ _ c.tick_outcome.result _ c.tick_outcome.ensures (tick_told _ _ c.tick.result)))

pub returns-in-Disc-Tick-clause-count : goal.returns-in-Disc-Tick-clause-count
returns-in-Disc-Tick-clause-count g c = rw c.in-Disc-Tick.is-0
    (rule_counts (g.D.Caching.shows c.in-Disc-Tick.target.disc) (g.D.Caching.shows c.tick.new.self) (g.D.Caching.stands c.in-Disc-Tick.target.disc) (g.D.Caching.stands c.tick.new.self)
    c.in-Disc-Tick.target.host c.in-Disc-Tick.target.host lines.Tick c.args.payload.now c.tick_outcome.result c.clear_before.new.data_in.items
    (record { out = c.tick.result; cause = c.tick.ensures.cause; step = c.tick.ensures.step; same_host = refl; outcome_is = c.tick_outcome.ensures }, (rw c.in-Disc-Tick.is-1 at c.clear_before.ensures.items)))

pub returns-in-Disc-Command-clause-step : goal.returns-in-Disc-Command-clause-step
returns-in-Disc-Command-clause-step g c = rw (c.in-Disc-Command.is-0, c.in-Disc-Command.is-1)
    (inserted_told g.D.Caching g.D.Drive.lies_in g.D.Image.Image g.met.D.Caching.laws g.met.D.Drive.drive_laws c.in-Disc-Command.target c.execute-answer.new.self c.in-Disc-Command.field-2-0 c.in-Disc-Command.field-2-0 (lines.Command c.in-Disc-Command.cdb) c.args.payload.now c.command_outcome.result c.execute-answer.new.data_in.items
    (record { answer = c.execute-answer.result; step = c.execute-answer.ensures.step; outcome_is = c.command_outcome.ensures }) c.execute-answer.ensures.same_shape
    (g.met.D.Drive.drive_laws.by_events c.in-Disc-Command.target.disc c.execute-answer.new.self.disc c.execute-answer.ensures.underwent) refl _ c.execute-answer.new.data_in.items _ (told_by _ _ c.command_outcome.result _ c.command_outcome.ensures (command_told _ _ c.in-Disc-Command.cdb c.execute-answer.result)))

pub returns-in-Disc-Command-clause-printable : goal.returns-in-Disc-Command-clause-printable
returns-in-Disc-Command-clause-printable g c = rw c.command_outcome.ensures
    (prints (g.D.Caching.shows c.in-Disc-Command.target.disc) (g.D.Caching.shows c.execute-answer.new.self.disc) (g.D.Caching.stands c.in-Disc-Command.target.disc) (g.D.Caching.stands c.execute-answer.new.self.disc)
    c.in-Disc-Command.target.host c.execute-answer.new.self.host c.in-Disc-Command.cdb c.args.payload.now c.execute-answer.new.data_in.items c.execute-answer.result c.execute-answer.ensures.step)

pub returns-in-Disc-Command-clause-count : goal.returns-in-Disc-Command-clause-count
returns-in-Disc-Command-clause-count g c = rw c.in-Disc-Command.is-0
    (rule_counts (g.D.Caching.shows c.in-Disc-Command.target.disc) (g.D.Caching.shows c.execute-answer.new.self.disc) (g.D.Caching.stands c.in-Disc-Command.target.disc) (g.D.Caching.stands c.execute-answer.new.self.disc)
    c.in-Disc-Command.target.host c.execute-answer.new.self.host (lines.Command c.in-Disc-Command.cdb) c.args.payload.now c.command_outcome.result c.execute-answer.new.data_in.items
    (record { answer = c.execute-answer.result; step = c.execute-answer.ensures.step; outcome_is = c.command_outcome.ensures }))

pub returns-then-all-clause-step : goal.returns-then-all-clause-step
returns-then-all-clause-step g c =
    let line : c.args.line ≡ lines.Scrub true = rw c.if-all.true at c.in-Disc-Scrub.is-1 in
    let none : c.clear_before.new.data_in.items ≡ [] = rw line at c.clear_before.ensures.items in
    let outcome = rw c.found.ensures at c.pass_outcome.ensures in
    let found : List ℕ = (scrubber_of c.pass-end.new.self).found in
    rw (c.in-Disc-Scrub.is-0, line)
    (inserted_told g.D.Caching g.D.Drive.lies_in g.D.Image.Image g.met.D.Caching.laws g.met.D.Drive.drive_laws c.in-Disc-Scrub.target (record { disc = c.pass-end.new.disc; host = c.in-Disc-Scrub.target.host; block = c.in-Disc-Scrub.target.block }) c.in-Disc-Scrub.scrub c.pass-end.new.self (lines.Scrub true) c.args.payload.now c.pass_outcome.result (data_told c.pass_outcome.result c.clear_before.new.data_in.items found)
    (record { end = c.pass-end.result; from = scrubber_of c.in-Disc-Scrub.scrub; to = scrubber_of c.pass-end.new.self; rule = c.pass-end.ensures.rule; step = c.pass-end.ensures.step; same_host = refl; outcome_is = outcome }) c.pass-end.ensures.same_shape
    (g.met.D.Drive.drive_laws.by_events c.in-Disc-Scrub.target.disc c.pass-end.new.disc c.pass-end.ensures.underwent)
    (c.pass-end.result, c.pass-end.ensures.rule, outcome, ap (λ (bytes : List ℕ). data_told c.pass_outcome.result bytes found) none) _ c.clear_before.new.data_in.items found refl)

pub returns-then-all-clause-count : goal.returns-then-all-clause-count
returns-then-all-clause-count g c = rw c.in-Disc-Scrub.is-0
    (rule_counts (g.D.Caching.shows c.in-Disc-Scrub.target.disc) (g.D.Caching.shows c.pass-end.new.disc) (g.D.Caching.stands c.in-Disc-Scrub.target.disc) (g.D.Caching.stands c.pass-end.new.disc)
    c.in-Disc-Scrub.target.host c.in-Disc-Scrub.target.host (lines.Scrub true) c.args.payload.now c.pass_outcome.result c.clear_before.new.data_in.items
    (record { end = c.pass-end.result; from = scrubber_of c.in-Disc-Scrub.scrub; to = scrubber_of c.pass-end.new.self; rule = c.pass-end.ensures.rule; step = c.pass-end.ensures.step; same_host = refl; outcome_is = rw c.found.ensures at c.pass_outcome.ensures }))

pub returns-else-all-clause-step : goal.returns-else-all-clause-step
returns-else-all-clause-step g c =
    let line : c.args.line ≡ lines.Scrub false = rw c.if-all.false at c.in-Disc-Scrub.is-1 in
    let none : c.clear_before.new.data_in.items ≡ [] = rw line at c.clear_before.ensures.items in
    rw (c.in-Disc-Scrub.is-0, line)
    (inserted_told g.D.Caching g.D.Drive.lies_in g.D.Image.Image g.met.D.Caching.laws g.met.D.Drive.drive_laws c.in-Disc-Scrub.target (record { disc = c.step.new.disc; host = c.in-Disc-Scrub.target.host; block = c.in-Disc-Scrub.target.block }) c.in-Disc-Scrub.scrub c.step.new.self (lines.Scrub false) c.args.payload.now c.step_outcome.result c.clear_before.new.data_in.items
    (record { end = c.step.result; from = scrubber_of c.in-Disc-Scrub.scrub; to = scrubber_of c.step.new.self; rule = c.step.ensures.rule; step = c.step.ensures.step; same_host = refl; outcome_is = c.step_outcome.ensures }) c.step.ensures.same_shape
    (g.met.D.Drive.drive_laws.by_events c.in-Disc-Scrub.target.disc c.step.new.disc c.step.ensures.underwent)
    (c.step.result, c.step.ensures.rule, c.step_outcome.ensures, none) _ c.clear_before.new.data_in.items _ (told_by _ _ c.step_outcome.result _ c.step_outcome.ensures (step_told _ _ c.step.result)))

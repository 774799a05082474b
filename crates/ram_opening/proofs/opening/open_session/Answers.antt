use Rattle.std.proofs.Common.{◌∙◌, [], map, sym}
use Rattle.ram_machine.specs.Inserted.{Stands}
use Rattle.ram_session.specs.Opening.{without_data}
use Rattle.ram_opening.specs.Exports.{told_export}
use Rattle.ram_opening.proofs.Openings.{no_disc, begun, open_ended, opened_whole, after_power}
use Rattle.ram_opening.proofs.opening.open_session.Goals as goal

pub returns-then-not-holds_disc-clause-rule : goal.returns-then-not-holds_disc-clause-rule
returns-then-not-holds_disc-clause-rule g c = λ first faults are start starts kind_is stands.
    no_disc first faults (Stands g.D.Caching g.D.Drive.lies_in g.D.Image.Image c.args.inserted.now) start starts kind_is stands
    (sym c.if-not-holds_disc.true ∙ c.holds_disc.ensures start stands)

pub returns-in-Err-clause-rule : goal.returns-in-Err-clause-rule
returns-in-Err-clause-rule g c = λ first faults are start starts kind_is stands.
    let none = begun first faults (Stands g.D.Caching g.D.Drive.lies_in g.D.Image.Image c.args.inserted.now) start starts kind_is stands
    (sym c.if-not-holds_disc.false ∙ c.holds_disc.ensures start stands) in
    open_ended first faults (Stands g.D.Caching g.D.Drive.lies_in g.D.Image.Image c.turn_on.new.inserted) told_export (after_power faults) c.in-Err.status
    (c.in-Err.ensures.rule first faults (after_power faults) none)

pub returns-in-Err-prepare-clause-rule : goal.returns-in-Err-prepare-clause-rule
returns-in-Err-prepare-clause-rule g c = λ first faults are start starts kind_is stands.
    let none = begun first faults (Stands g.D.Caching g.D.Drive.lies_in g.D.Image.Image c.args.inserted.now) start starts kind_is stands
    (sym c.if-not-holds_disc.false ∙ c.holds_disc.ensures start stands) in
    let on = c.in-Ok.ensures.rule first faults (after_power faults) none in
    open_ended first faults (Stands g.D.Caching g.D.Drive.lies_in g.D.Image.Image c.prepare.new.inserted) (λ (done : Unit {0}). told_export c.in-Ok.export)
    (map without_data faults) c.in-Err-prepare.status
    (c.in-Err-prepare.ensures.rule first faults (told_export c.in-Ok.export) (map without_data faults) on)

pub returns-in-Ok-make_faults-clause-rule : goal.returns-in-Ok-make_faults-clause-rule
returns-in-Ok-make_faults-clause-rule g c = λ first faults are start starts kind_is stands.
    let none = begun first faults (Stands g.D.Caching g.D.Drive.lies_in g.D.Image.Image c.args.inserted.now) start starts kind_is stands
    (sym c.if-not-holds_disc.false ∙ c.holds_disc.ensures start stands) in
    let on = c.in-Ok.ensures.rule first faults (after_power faults) none in
    let ready = c.in-Ok-prepare.ensures.rule first faults (told_export c.in-Ok.export) (map without_data faults) on in
    opened_whole first faults (Stands g.D.Caching g.D.Drive.lies_in g.D.Image.Image c.make_faults.new.inserted) c.in-Ok.export
    (c.in-Ok-make_faults.ensures.rule first faults are (told_export c.in-Ok.export) ready)

pub returns-in-Err-make_faults-clause-rule : goal.returns-in-Err-make_faults-clause-rule
returns-in-Err-make_faults-clause-rule g c = λ first faults are start starts kind_is stands.
    let none = begun first faults (Stands g.D.Caching g.D.Drive.lies_in g.D.Image.Image c.args.inserted.now) start starts kind_is stands
    (sym c.if-not-holds_disc.false ∙ c.holds_disc.ensures start stands) in
    let on = c.in-Ok.ensures.rule first faults (after_power faults) none in
    let ready = c.in-Ok-prepare.ensures.rule first faults (told_export c.in-Ok.export) (map without_data faults) on in
    open_ended first faults (Stands g.D.Caching g.D.Drive.lies_in g.D.Image.Image c.make_faults.new.inserted) (λ (done : Unit {0}). told_export c.in-Ok.export) []
    c.in-Err-make_faults.status (c.in-Err-make_faults.ensures.rule first faults are (told_export c.in-Ok.export) ready)

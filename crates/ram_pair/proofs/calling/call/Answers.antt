use Rattle.std.specs.Prelude.{true}
use Rattle.std.proofs.Common.{refl, ◌≡◌}
use Rattle.model_drive.specs.declared.Kind.TheVariants as kinds
use Rattle.model_drive.specs.Formats.{FormatStep}
use Rattle.model_drive.specs.Writes.{WriteStep}
use Rattle.model_drive.proofs.Found.{write_found, format_found}
use Rattle.model_mirror.specs.Steps.{ResyncStep}
use Rattle.model_mirror.proofs.Mapping.{resync_found}
use Rattle.ram_mirror.specs.Mirrors.{mirror_shows, mirror_stands}
use Rattle.ram_pair.proofs.Calls.{both_underwent, both_tracked, same_shapes, leads_on, power_called, give_called}
use Rattle.ram_pair.proofs.calling.call.Goals as goal

pub returns-in-Power-clause-called : goal.returns-in-Power-clause-called
returns-in-Power-clause-called g c =
    let old = c.args.mirror.now in
    let new = c.power.new.self in
    rw (c.in-Power.is, c.power_told.ensures) (record {
      rule = power_called g.S.Sectors g.met.S.Sectors.laws old new c.power.result c.power.ensures.cause c.power.ensures.step;
      images = both_underwent g.S.Sectors g.S.Side.lies_in g.S.Side.has_failed g.met.S.Side.side_laws old new c.power.ensures.underwent;
      tracks = both_tracked g.S.Sectors g.S.Side.lies_in g.S.Side.has_failed g.met.S.Side.side_laws old new c.power.ensures.underwent;
      lost = λ lost. absurd lost;
      shapes = same_shapes g.S.Sectors g.S.Side.lies_in g.S.Side.has_failed g.met.S.Side.side_laws old new c.power.ensures.underwent;
    })

pub returns-in-Format-clause-called : goal.returns-in-Format-clause-called
returns-in-Format-clause-called g c =
    let old = c.args.mirror.now in
    let new = c.format.new.self in
    let before = (mirror_shows g.S.Sectors g.S.Sectors old).lead in
    let after = (mirror_shows g.S.Sectors g.S.Sectors new).lead in
    rw (c.in-Format.is, c.format_told.ensures) (record {
      rule = record {
        out = c.format.result;
        cause = c.format.ensures.cause;
        step = leads_on g.S.Sectors g.met.S.Sectors.laws old new (λ s t. FormatStep before after (λ x. x ≡ t) s (kinds.Full true) c.format.result)
            (λ s is. format_found (mirror_stands g.S.Sectors g.S.Sectors new) before after s (kinds.Full true) c.format.result (c.format.ensures.step s is));
        told_is = refl;
      };
      images = both_underwent g.S.Sectors g.S.Side.lies_in g.S.Side.has_failed g.met.S.Side.side_laws old new c.format.ensures.underwent;
      tracks = both_tracked g.S.Sectors g.S.Side.lies_in g.S.Side.has_failed g.met.S.Side.side_laws old new c.format.ensures.underwent;
      lost = λ lost. absurd lost;
      shapes = same_shapes g.S.Sectors g.S.Side.lies_in g.S.Side.has_failed g.met.S.Side.side_laws old new c.format.ensures.underwent;
    })

pub returns-in-Resync-clause-called : goal.returns-in-Resync-clause-called
returns-in-Resync-clause-called g c =
    let old = c.args.mirror.now in
    let new = c.resync.new.self in
    rw (c.in-Resync.is, c.resync_told.ensures) (record {
      rule = record {
        out = c.resync.result;
        cause = c.resync.ensures.cause;
        step = leads_on g.S.Sectors g.met.S.Sectors.laws old new (λ s t. ResyncStep (λ x. x ≡ t) s c.resync.result)
            (λ s is. resync_found (mirror_stands g.S.Sectors g.S.Sectors new) (mirror_stands g.S.Sectors g.S.Sectors new) (λ t at. at) s c.resync.result (c.resync.ensures.step s is));
        told_is = refl;
      };
      images = both_underwent g.S.Sectors g.S.Side.lies_in g.S.Side.has_failed g.met.S.Side.side_laws old new c.resync.ensures.underwent;
      tracks = both_tracked g.S.Sectors g.S.Side.lies_in g.S.Side.has_failed g.met.S.Side.side_laws old new c.resync.ensures.underwent;
      lost = λ lost. absurd lost;
      shapes = same_shapes g.S.Sectors g.S.Side.lies_in g.S.Side.has_failed g.met.S.Side.side_laws old new c.resync.ensures.underwent;
    })

pub returns-in-GiveLead-clause-called : goal.returns-in-GiveLead-clause-called
returns-in-GiveLead-clause-called g c =
    let old = c.args.mirror.now in
    let new = c.give_lead.new.self in
    rw (c.in-GiveLead.is, c.give_told.ensures) (record {
      rule = give_called g.S.Sectors g.met.S.Sectors.laws old new c.in-GiveLead.on_a c.give_lead.result c.give_lead.ensures.cause c.give_lead.ensures.step_a c.give_lead.ensures.step_b;
      images = both_underwent g.S.Sectors g.S.Side.lies_in g.S.Side.has_failed g.met.S.Side.side_laws old new c.give_lead.ensures.underwent;
      tracks = both_tracked g.S.Sectors g.S.Side.lies_in g.S.Side.has_failed g.met.S.Side.side_laws old new c.give_lead.ensures.underwent;
      lost = λ lost. absurd lost;
      shapes = same_shapes g.S.Sectors g.S.Side.lies_in g.S.Side.has_failed g.met.S.Side.side_laws old new c.give_lead.ensures.underwent;
    })

pub returns-in-Read-clause-called : goal.returns-in-Read-clause-called
returns-in-Read-clause-called g c =
    let old = c.args.mirror.now in
    let new = c.read.new.mirror in
    rw c.in-Read.is (record {
      rule = c.read.ensures.call;
      images = both_underwent g.S.Sectors g.S.Side.lies_in g.S.Side.has_failed g.met.S.Side.side_laws old new c.read.ensures.underwent;
      tracks = both_tracked g.S.Sectors g.S.Side.lies_in g.S.Side.has_failed g.met.S.Side.side_laws old new c.read.ensures.underwent;
      lost = λ lost. absurd lost;
      shapes = same_shapes g.S.Sectors g.S.Side.lies_in g.S.Side.has_failed g.met.S.Side.side_laws old new c.read.ensures.underwent;
    })

pub returns-in-Write-clause-called : goal.returns-in-Write-clause-called
returns-in-Write-clause-called g c =
    let old = c.args.mirror.now in
    let new = c.write.new.self in
    let after = (mirror_shows g.S.Sectors g.S.Sectors new).lead in
    rw (c.in-Write.is, c.write_told.ensures) (record {
      rule = record {
        out = c.write.result;
        cause = c.write.ensures.cause;
        step = leads_on g.S.Sectors g.met.S.Sectors.laws old new (λ s t. WriteStep after (λ x. x ≡ t) s c.in-Write.lba c.in-Write.n c.args.payload.now c.write.result)
            (λ s is. write_found (mirror_stands g.S.Sectors g.S.Sectors new) after s c.in-Write.lba c.in-Write.n c.args.payload.now c.write.result (c.write.ensures.step s is));
        told_is = refl;
      };
      images = both_underwent g.S.Sectors g.S.Side.lies_in g.S.Side.has_failed g.met.S.Side.side_laws old new c.write.ensures.underwent;
      tracks = both_tracked g.S.Sectors g.S.Side.lies_in g.S.Side.has_failed g.met.S.Side.side_laws old new c.write.ensures.underwent;
      lost = λ lost. absurd lost;
      shapes = same_shapes g.S.Sectors g.S.Side.lies_in g.S.Side.has_failed g.met.S.Side.side_laws old new c.write.ensures.underwent;
    })

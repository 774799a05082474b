use Rattle.ram_mirror.specs.Notes.{noted_of}
use Rattle.ram_mirror.specs.Powering.{once_asked}
use Rattle.ram_mirror.proofs.Woken.{since_asked, disc_asked, power_map, asked_step}
use Rattle.ram_mirror.proofs.power.wake.Goals as goal

pub returns : goal.returns
returns g c = record {
  wakes = record {
    cause = record { mounted = g.D.Sectors.shows c.power-power.new.self; powers = c.power-power.ensures.cause; mounts = record { same_shape = c.power-power.ensures.same_shape; sound = g.met.D.Sectors.laws.sound c.power-power.new.self }; notes = c.read_record-record.ensures.notes };
    since = since_asked (g.D.Sectors.shows c.power-power.new.self) (g.D.Sectors.shows c.read_record-record.new.side) (noted_of c.args.noted.now) (noted_of c.read_record-record.new.noted) c.read_record-record.result c.read_record-record.ensures.notes c.read_record-record.ensures.same_shape;
    disc = disc_asked (g.D.Sectors.shows c.args.side.now) (g.D.Sectors.shows c.power-power.new.self) (g.D.Sectors.shows c.read_record-record.new.side) c.power-power.result c.power-power.ensures.cause (noted_of c.args.noted.now) (noted_of c.read_record-record.new.noted) c.read_record-record.result c.read_record-record.ensures.notes c.read_record-record.ensures.same_shape;
    step = λ s so. power_map (g.D.Sectors.shows c.power-power.new.self) (g.D.Sectors.stands c.power-power.new.self) (once_asked c.read_record-record.result (g.D.Sectors.stands c.read_record-record.new.side))
        (λ t to. asked_step (g.D.Sectors.stands c.read_record-record.new.side) t c.read_record-record.result (c.read_record-record.ensures.step t to)) s c.power-power.result (c.power-power.ensures.step s so);
  };
  underwent = g.met.D.Sectors.underwent_laws.adds_up c.args.side.now c.power-power.new.self c.read_record-record.new.side
      c.power-power.ensures.underwent c.read_record-record.ensures.underwent;
}

use Rattle.std.proofs.Common.{sym, ap}
use Rattle.model_mirror.specs.Leading.{after_reading}
use Rattle.ram_record.specs.Record.{record_of}
use Rattle.ram_mirror.specs.Notes.{noted_of}
use Rattle.ram_mirror.proofs.noted.read_record.Goals as goal

pub returns-in-Good-clause-notes : goal.returns-in-Good-clause-notes
returns-in-Good-clause-notes g c = record {
  value = record_of c.generation-out.new.best;
  cause = c.generation-out.ensures.cause;
  leaves = record { same_shape = c.generation-out.ensures.same_shape; sound = g.met.D.Sectors.laws.sound c.generation-out.new.self };
  now_is = sym (ap (after_reading (noted_of c.args.noted.now) (record_of c.generation-out.new.best)) c.in-Good.is);
}

pub returns-in-Lost-clause-notes : goal.returns-in-Lost-clause-notes
returns-in-Lost-clause-notes g c = record {
  value = record_of c.generation-out.new.best;
  cause = c.generation-out.ensures.cause;
  leaves = record { same_shape = c.generation-out.ensures.same_shape; sound = g.met.D.Sectors.laws.sound c.generation-out.new.self };
  now_is = sym (ap (after_reading (noted_of c.args.noted.now) (record_of c.generation-out.new.best)) c.in-Lost.is);
}

pub returns-in-Cut-clause-notes : goal.returns-in-Cut-clause-notes
returns-in-Cut-clause-notes g c = record {
  value = record_of c.generation-out.new.best;
  cause = c.generation-out.ensures.cause;
  leaves = record { same_shape = c.generation-out.ensures.same_shape; sound = g.met.D.Sectors.laws.sound c.generation-out.new.self };
  now_is = sym (ap (after_reading (noted_of c.args.noted.now) (record_of c.generation-out.new.best)) c.in-Cut.is);
}

pub returns-in-Off-clause-notes : goal.returns-in-Off-clause-notes
returns-in-Off-clause-notes g c = record {
  value = record_of c.generation-out.new.best;
  cause = c.generation-out.ensures.cause;
  leaves = record { same_shape = c.generation-out.ensures.same_shape; sound = g.met.D.Sectors.laws.sound c.generation-out.new.self };
  now_is = sym (ap (after_reading (noted_of c.args.noted.now) (record_of c.generation-out.new.best)) c.in-Off.is);
}

pub returns-in-Fault-clause-notes : goal.returns-in-Fault-clause-notes
returns-in-Fault-clause-notes g c = record {
  value = record_of c.generation-out.new.best;
  cause = c.generation-out.ensures.cause;
  leaves = record { same_shape = c.generation-out.ensures.same_shape; sound = g.met.D.Sectors.laws.sound c.generation-out.new.self };
  now_is = sym (ap (after_reading (noted_of c.args.noted.now) (record_of c.generation-out.new.best)) c.in-Fault.is);
}

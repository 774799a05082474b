use Rattle.ram_cache.proofs.pending.read_whole.Goals as goal

pub returns-clause-cause : goal.returns-clause-cause
returns-clause-cause g c = record {
  cause = c.read-out.ensures.cause;
  quiet = c.read-out.ensures.quiet;
  leaves = record { same_shape = c.read-out.ensures.same_shape; sound = g.met.D.Sectors.laws.sound c.read-out.new.self };
}

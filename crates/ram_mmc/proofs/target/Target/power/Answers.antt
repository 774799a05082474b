use Rattle.ram_mmc.proofs.target.Target.power.Goals as goal

pub returns-clause-underwent : goal.returns-clause-underwent
returns-clause-underwent g c =
    g.met.D.Caching.underwent_laws.adds_up c.args.self.now.disc c.write_cache.new.self c.power.new.self c.write_cache.ensures.underwent c.power.ensures.underwent

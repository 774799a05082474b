use Rattle.ram_dds.specs.Dds.{dds_of}
use Rattle.ram_slip.proofs.Spares.{slipped_no_turn, outside_no_turn}
use Rattle.ram_slip.proofs.slip.spare_turn.Goals as goal

pub returns-in-Outside : goal.returns-in-Outside
returns-in-Outside c = outside_no_turn c.args.geometry.now (dds_of c.args.dds.now) c.args.ssa c.args.block c.in-Outside.ensures

pub returns-in-Slipped : goal.returns-in-Slipped
returns-in-Slipped c = slipped_no_turn c.args.geometry.now (dds_of c.args.dds.now) c.args.ssa c.args.block c.in-Slipped.ensures

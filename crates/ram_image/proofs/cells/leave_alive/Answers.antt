use Rattle.std.proofs.Common.{refl}
use Rattle.ram_image.proofs.Leaving.{left_new, left_torn}
use Rattle.ram_image.proofs.ByteSteps.{bytes_old, bytes_new, bytes_torn}
use Rattle.ram_image.proofs.CellMoments.{torn_passes}
use Rattle.ram_image.proofs.cells.leave_alive.Goals as goal

pub returns-in-New-clause-rule : goal.returns-in-New-clause-rule
returns-in-New-clause-rule g c = left_new c.args.total c.args.block c.requires.inside c.args.from.now _ _ _ _ _ _ (record { same = refl; count = refl }) c.requires.alive c.args.fate c.in-New.is c.write_cell.result c.write_cell.ensures.rule

pub returns-in-Torn-clause-rule : goal.returns-in-Torn-clause-rule
returns-in-Torn-clause-rule g c = left_torn c.args.total c.args.block c.requires.inside c.args.from.now _ _ _ _ _ _ (record { same = refl; count = refl }) c.requires.alive c.args.fate c.in-Torn.is c.tear_cell.result c.tear_cell.ensures.rule

pub returns-in-Old-clause-bytes : goal.returns-in-Old-clause-bytes
returns-in-Old-clause-bytes g c = bytes_old c.args.total c.args.block c.args.from.now c.args.fate c.in-Old.is _ _ c.requires.alive refl

pub returns-in-New-clause-bytes : goal.returns-in-New-clause-bytes
returns-in-New-clause-bytes g c = bytes_new c.args.total c.args.block c.args.from.now c.args.fate c.in-New.is _ _ _ c.requires.alive refl c.write_cell.result c.write_cell.ensures.bytes

pub returns-in-Torn-clause-bytes : goal.returns-in-Torn-clause-bytes
returns-in-Torn-clause-bytes g c = bytes_torn c.args.total c.args.block c.args.from.now c.args.fate c.requires.inside c.in-Torn.is _ _ _ c.requires.whole c.requires.alive refl c.tear_cell.result c.tear_cell.ensures.bytes

pub returns-in-Torn-clause-past : goal.returns-in-Torn-clause-past
returns-in-Torn-clause-past g c =
    torn_passes c.args.total c.args.block c.args.from.now c.args.fate (g.I.Image.bytes c.args.image.now) c.requires.alive (g.I.Image.past c.args.image.now) (g.I.Image.past c.tear_cell.new.image) c.requires.inside c.requires.whole c.in-Torn.is c.tear_cell.ensures.past

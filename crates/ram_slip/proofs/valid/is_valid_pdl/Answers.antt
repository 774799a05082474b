use Rattle.std.proofs.Common.{◌∙◌}
use Rattle.ram_dds.specs.Dds.{dds_of}
use Rattle.ram_slip.proofs.Validity.{valid_if_data}
use Rattle.ram_slip.proofs.valid.is_valid_pdl.Goals as goal

pub returns : goal.returns
returns c =
    valid_if_data c.args.geometry.now (dds_of c.args.dds.now) c.as_slice-entries.result.now c.psa.result c.are_data.result c.as_slice-entries.ensures (c.is_same.ensures.0 c.if-not-is_same.false ∙ c.layout.ensures)
    c.if-dds-psa.false c.psa.ensures.spares (c.slips_few.ensures.0 c.if-not-slips_few.false) (c.rise.ensures.0 c.if-not-rise.false) c.are_data.ensures

use Rattle.std.proofs.Common.{inl, inr, arith, ap, subst}
use Rattle.std.specs.List.{Contains}
use Rattle.model_geometry.specs.Geometry.{Shape, data_blocks}
use Rattle.model_geometry.proofs.DataBlocks.{Contains-slice_get}
use Rattle.ram_layout.specs.Slipping.{SlipTable}
use Rattle.ram_layout.proofs.SlipPools.{neither_by, spare_by, logical_by}
use Rattle.ram_layout.proofs.slip_layout.SlipLayoutLayout.role.Goals as goal

pub returns-in-Some-data_index : goal.returns-in-Some-data_index
returns-in-Some-data_index c = (
  subst (λ (s : Shape). Contains (data_blocks s) c.args.block) (ap (λ (t : SlipTable). t.shape) c.self.view_is)
      (Contains-slice_get (data_blocks c.self.inside.geometry) c.in-Some-data_index.field-0 c.args.block c.in-Some-data_index.ensures),
  neither_by c.self.inside c.args.self.now c.self.view_is c.self.invariant c.as_slice.result.now c.as_slice.ensures.value c.args.block c.in_default.ensures,
)

pub returns-in-None : goal.returns-in-None
returns-in-None c =
    subst (λ (s : Shape). ¬ Contains (data_blocks s) c.args.block) (ap (λ (t : SlipTable). t.shape) c.self.view_is) c.in-None.ensures

pub returns-then-n-self : goal.returns-then-n-self
returns-then-n-self c = spare_by c.self.inside c.args.self.now c.self.view_is c.self.invariant c.as_slice.result.now c.as_slice.ensures.value c.args.block c.in-Some.n c.in-Some.ensures (inl c.if-n-self.true)

pub returns-then-i-self : goal.returns-then-i-self
returns-then-i-self c = logical_by c.self.inside c.args.self.now c.self.view_is c.self.invariant c.as_slice.result.now c.as_slice.ensures.value c.args.block c.in-Some.n c.in-Some.ensures c.if-n-self.false c.if-i-self.true

pub returns : goal.returns
returns c = spare_by c.self.inside c.args.self.now c.self.view_is c.self.invariant c.as_slice.result.now c.as_slice.ensures.value c.args.block c.in-Some.n c.in-Some.ensures (inr (omega (arith, c.if-n-self.false, c.if-i-self.false)))

use Rattle.std.proofs.Common.{◌≤◌, ℕ, inl, inr, sym, subst, arith}
use Rattle.std.proofs.lemmas.Bool.{cases_eq}
use Rattle.std.proofs.lemmas.List.{length-map}
use Rattle.model_lists.specs.declared.dds.PdlEntry.{PdlEntry}
use Rattle.model_lists.specs.Values.{pdl_blocks}
use Rattle.ram_format.specs.TooMany.{both_in}
use Rattle.ram_format.proofs.ZoneCounts.{slipped_most}
use Rattle.ram_format.proofs.too_many.first_zone_over.Goals as goal

pub overflow_add-many : goal.overflow_add-many
overflow_add-many c =
    omega (
      arith,
      c.requires.few,
      c.slipped_in.ensures,
      c.found_in.ensures,
      length-map c.args.kept.now (λ (e : PdlEntry). e.block),
      slipped_most c.args.geometry.now (pdl_blocks c.args.kept.now) c.loop-zone.zone,
      slipped_most c.args.geometry.now c.args.found.now c.loop-zone.zone,
    )

pub overflow_cast-result : goal.overflow_cast-result
overflow_cast-result c =
    omega (
      arith,
      c.requires.few,
      c.slipped_in.ensures,
      c.found_in.ensures,
      length-map c.args.kept.now (λ (e : PdlEntry). e.block),
      slipped_most c.args.geometry.now (pdl_blocks c.args.kept.now) c.loop-zone.zone,
      slipped_most c.args.geometry.now c.args.found.now c.loop-zone.zone,
    )

pub loop-zone-preserved : goal.loop-zone-preserved
loop-zone-preserved c = λ zone within. elim (cases_eq zone c.loop-zone.zone) [
  | inl last ↦ (let here : both_in c.args.geometry.now c.args.kept.now c.args.found.now c.loop-zone.zone ≤ c.args.geometry.now.psa = omega (arith, c.slipped_in.ensures, c.found_in.ensures, c.psa-most.ensures.spares, c.if-most-many.false) in
      subst (λ (z : ℕ). both_in c.args.geometry.now c.args.kept.now c.args.found.now z ≤ c.args.geometry.now.psa) (sym last) here)
  | inr earlier ↦ c.loop-zone.invariant zone (omega (arith, within, earlier))
]

pub returns-then-most-many : goal.returns-then-most-many
returns-then-most-many c = (
  c.loop-zone.zone,
  record { inside = omega (arith, c.loop-zone-test.true, c.zones-zone-end.ensures); over = omega (arith, c.slipped_in.ensures, c.found_in.ensures, c.psa-most.ensures.spares, c.if-most-many.true); first = c.loop-zone.invariant },
  omega (arith, c.slipped_in.ensures, c.found_in.ensures),
)

pub returns : goal.returns
returns c = λ zone within. c.loop-zone.invariant zone (omega (arith, within, c.loop-zone-test.false, c.zones-zone-end.ensures))

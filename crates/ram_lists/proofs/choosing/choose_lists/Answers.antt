use Rattle.std.proofs.Common.{◌≡◌, ℕ, Option, ◌⊎◌, inl, inr, max, ap, refl, subst, arith}
use Rattle.std.proofs.lemmas.Bool.{cases_lt}
use Rattle.std.proofs.lemmas.Result.{err_from_is_err_and}
use Rattle.ram_dds.specs.Dds.{dds_of}
use Rattle.ram_sdl.specs.Sdl.{sdl_of}
use Rattle.ram_zones.specs.declared.list_kind.ListKind.TheVariants as kinds
use Rattle.ram_copies.specs.Values.{DdsValue, SdlValue}
use Rattle.ram_copies.specs.Choices.{best_in}
use Rattle.ram_copies.specs.Chooses.{HasChosen, FindsBest}
use Rattle.ram_copies.proofs.ReadingAlone.{read_then}
use Rattle.ram_lists.specs.Lists.{AcceptsDds}
use Rattle.ram_lists.proofs.MountSteps.{first_stops, second_stops}
use Rattle.ram_lists.proofs.choosing.choose_lists.Goals as goal

-- the greater one of two numbers is one of them
is_one : (a b high : ℕ) → high ≡ max a b → (high ≡ a) ⊎ (high ≡ b)
is_one a b high is = elim (cases_lt a b) [ inl less ↦ inr (omega (arith, is, less)) | inr more ↦ inl (omega (arith, is, more)) ]

pub returns-in_err-area-clause-rule : goal.returns-in_err-area-clause-rule
returns-in_err-area-clause-rule g c =
    let p = err_from_is_err_and c.from_residual.result c.from_residual.ensures.1 in
    rw (p.1, p.2) (first_stops g.M.Medium.world g.M.Medium.block_count g.M.Medium.reaches g.met.M.Medium.laws c.args.geometry.now c.args.medium.now c.look_at_copies.new.medium _ c.in_err-area.ensures.rule)

pub returns-in_err-last-clause-rule : goal.returns-in_err-last-clause-rule
returns-in_err-last-clause-rule g c =
    let p = err_from_is_err_and c.from_residual-in_err-last.result c.from_residual-in_err-last.ensures.1 in
    rw (p.1, p.2) (second_stops g.M.Medium.world g.M.Medium.block_count g.M.Medium.reaches g.met.M.Medium.laws c.args.geometry.now c.args.medium.now c.look_at_copies.new.medium
    (AcceptsDds c.args.geometry.now) (best_in c.in_ok-area.field-0.area (DdsValue (dds_of c.look_at_copies.new.best))) c.in_ok-area.field-0.mark c.in_ok-area.ensures.rule c.look_at_copies-in_default.new.medium _ c.in_err-last.ensures.rule)

pub returns-in_err-last-clause-reads : goal.returns-in_err-last-clause-reads
returns-in_err-last-clause-reads g c = read_then g.M.Medium.takes c.args.medium.now c.look_at_copies.new.medium c.look_at_copies-in_default.new.medium c.look_at_copies.ensures.reads c.look_at_copies-in_default.ensures.reads

pub returns-in_default-clause-reads : goal.returns-in_default-clause-reads
returns-in_default-clause-reads g c = read_then g.M.Medium.takes c.args.medium.now c.look_at_copies.new.medium c.look_at_copies-in_default.new.medium c.look_at_copies.ensures.reads c.look_at_copies-in_default.ensures.reads

pub returns-in_err-last-2-clause-reads : goal.returns-in_err-last-2-clause-reads
returns-in_err-last-2-clause-reads g c = read_then g.M.Medium.takes c.args.medium.now c.look_at_copies.new.medium c.choose_under.new.medium c.look_at_copies.ensures.reads c.choose_under.ensures.reads

pub returns-clause-reads : goal.returns-clause-reads
returns-clause-reads g c = read_then g.M.Medium.takes c.args.medium.now c.look_at_copies.new.medium c.choose_under.new.medium c.look_at_copies.ensures.reads c.choose_under.ensures.reads

pub returns-in_err-last-2-clause-rule : goal.returns-in_err-last-2-clause-rule
returns-in_err-last-2-clause-rule g c =
    let p = err_from_is_err_and c.from_residual-in_err-last-2.result c.from_residual-in_err-last-2.ensures.1 in
    rw (p.1, p.2) (second_stops g.M.Medium.world g.M.Medium.block_count g.M.Medium.reaches g.met.M.Medium.laws c.args.geometry.now c.args.medium.now c.look_at_copies.new.medium
    (AcceptsDds c.args.geometry.now) (best_in c.in_ok-area.field-0.area (DdsValue (dds_of c.look_at_copies.new.best))) c.in_ok-area.field-0.mark c.in_ok-area.ensures.rule c.choose_under.new.medium _ c.in_err-last-2.ensures.rule)

pub returns-in_default-clause-rule : goal.returns-in_default-clause-rule
returns-in_default-clause-rule g c = record {
  mid = c.look_at_copies.new.medium;
  dds_mark = c.in_ok-area.field-0.mark;
  dds = subst (λ (a : Option ℕ). HasChosen {M = g.row.M.Denot} g.M.Medium.world g.M.Medium.reaches kinds.Dds c.args.geometry.now c.args.medium.now c.look_at_copies.new.medium (AcceptsDds c.args.geometry.now)
      (best_in a (DdsValue (dds_of c.look_at_copies.new.best))) c.in_ok-area.field-0.mark) c.in_default.is c.in_ok-area.ensures.rule;
  sdl_mark = c.in_ok-last.last.mark;
  sdl = c.in_ok-last.ensures.rule;
  no_less = omega (arith, c.max.ensures);
  no_less' = omega (arith, c.max.ensures);
  one_of_both = is_one _ _ _ c.max.ensures;
}

pub returns-clause-rule : goal.returns-clause-rule
returns-clause-rule g c = record {
  mid = c.look_at_copies.new.medium;
  dds_mark = c.in_ok-area.field-0.mark;
  dds = subst (λ (a : Option ℕ). HasChosen {M = g.row.M.Denot} g.M.Medium.world g.M.Medium.reaches kinds.Dds c.args.geometry.now c.args.medium.now c.look_at_copies.new.medium (AcceptsDds c.args.geometry.now)
      (best_in a (DdsValue (dds_of c.look_at_copies.new.best))) c.in_ok-area.field-0.mark) c.in-Some.is c.in_ok-area.ensures.rule;
  sdl_mark = c.in_ok-last-2.last.mark;
  sdl = c.in_ok-last-2.ensures.rule;
  no_less = omega (arith, c.max-mark.ensures);
  no_less' = omega (arith, c.max-mark.ensures);
  one_of_both = is_one _ _ _ c.max-mark.ensures;
}

pub choose_under-requires-clause-valid : goal.choose_under-requires-clause-valid
choose_under-requires-clause-valid g c =
    (subst (FindsBest {M = g.row.M.Denot} g.M.Medium.world g.M.Medium.reaches kinds.Dds c.args.geometry.now c.args.medium.now c.look_at_copies.new.medium (AcceptsDds c.args.geometry.now))
    (ap (λ (a : Option ℕ). best_in a (DdsValue (dds_of c.look_at_copies.new.best))) c.in-Some.is) c.in_ok-area.ensures.rule.best_is).fits

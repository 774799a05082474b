use Rattle.std.specs.Prelude.{◌≡◌, ℕ, List, ◌+◌}
use Rattle.std.proofs.Common.{subst, arith}
use Rattle.model_audit.specs.Certificate.{ListPart, area_cells}
use Rattle.ram_image.specs.Medium.{bytes_in}
use Rattle.ram_lists.specs.Lists.{lists_of}
use Rattle.ram_audit.specs.Telling.{AddsCopies}
use Rattle.ram_audit.proofs.CellsUpTo.{cells_upto}
use Rattle.ram_audit.proofs.Leaving.{looks_then}
use Rattle.ram_audit.proofs.Adding.{copies_later, one_area, all_areas}
use Rattle.ram_audit.proofs.copies.tell_copies.Goals as goal

pub loop-k-preserved : goal.loop-k-preserved
loop-k-preserved g c = record {
  looks = looks_then c.args.medium.now c.loop-k.medium c.tell_area.new.medium c.loop-k.invariant.looks c.in_ok-tell_area.ensures.rule.0;
  adds = subst (AddsCopies c.args.lines.now c.tell_area.new.lines c.args.geometry.now (bytes_in c.args.medium.now) (lists_of c.args.lists.now)) (one_area c.args.geometry.now c.args.lists.now.sdl.version c.loop-k.k)
      (copies_later c.args.geometry.now (lists_of c.args.lists.now) c.args.lines.now c.loop-k.lines c.tell_area.new.lines c.args.medium.now c.loop-k.medium (cells_upto c.args.geometry.now c.args.lists.now.sdl.version c.loop-k.k)
      (area_cells c.args.geometry.now c.args.lists.now.sdl.version (c.loop-k.k + 1)) c.loop-k.invariant.looks.left c.loop-k.invariant.adds c.in_ok-tell_area.ensures.rule.1);
  len = omega (arith, c.loop-k.invariant.len, c.tell_area.ensures.len);
}

pub returns-clause-rule : goal.returns-clause-rule
returns-clause-rule g c =
    let last : c.loop-k.k ≡ 4 = omega (arith, c.loop-k-test.false, c.loop-k.auto.k-end) in (
      c.loop-k.invariant.looks,
      subst (AddsCopies c.args.lines.now c.loop-k.lines c.args.geometry.now (bytes_in c.args.medium.now) (lists_of c.args.lists.now)) (all_areas c.args.geometry.now c.args.lists.now.sdl.version)
          (subst (λ (n : ℕ). AddsCopies c.args.lines.now c.loop-k.lines c.args.geometry.now (bytes_in c.args.medium.now) (lists_of c.args.lists.now) (cells_upto c.args.geometry.now c.args.lists.now.sdl.version n)) last c.loop-k.invariant.adds),
    )

use Rattle.std.specs.Prelude.{Option, List, ℕ}
use Rattle.std.proofs.Common.{arith, sym, ap, ◌∙◌, subst}
use Rattle.model_audit.specs.Certificate.{list_cells}
use Rattle.model_places.specs.Places.{logical_count}
use Rattle.ram_groups.proofs.Layouts.{pools_of_layout}
use Rattle.ram_image.specs.Medium.{bytes_in}
use Rattle.ram_lists.specs.Lists.{lists_of}
use Rattle.ram_audit.specs.Telling.{AddsLost}
use Rattle.ram_audit.proofs.Leaving.{looks_then}
use Rattle.ram_audit.proofs.Written.{none_fits}
use Rattle.ram_audit.proofs.Certifying.{all_told}
use Rattle.ram_audit.proofs.certificate.tell_lists.Goals as goal

pub tell_head-requires : goal.tell_head-requires
tell_head-requires g c = record { fits = let room = none_fits c.args.lines.now c.requires.none in omega (arith, room) }

pub tell_entries-requires-clause-fits : goal.tell_entries-requires-clause-fits
tell_entries-requires-clause-fits g c = let room = none_fits c.args.lines.now c.requires.none in omega (arith, room, c.tell_head.ensures.len)

pub tell_copies-requires-clause-fits : goal.tell_copies-requires-clause-fits
tell_copies-requires-clause-fits g c = let room = none_fits c.args.lines.now c.requires.none in omega (arith, room, c.tell_head.ensures.len, c.tell_entries.ensures.len)

pub tell_homes-requires-clause-fits : goal.tell_homes-requires-clause-fits
tell_homes-requires-clause-fits g c =
    let room = none_fits c.args.lines.now c.requires.none in omega (arith, room, c.tell_head.ensures.len, c.tell_entries.ensures.len, c.tell_copies.ensures.len)

pub tell_homes-requires-clause-pools : goal.tell_homes-requires-clause-pools
tell_homes-requires-clause-pools g c =
    let valid = c.requires.found.valid in
    pools_of_layout c.args.geometry.now (lists_of c.args.lists.now).dds (lists_of c.args.lists.now).sdl.ssa c.rebuild.new.self valid.primary ((lists_of c.args.lists.now).sdl.version, valid.together.secondary.area) c.rebuild.ensures

pub close-requires : goal.close-requires
close-requires g c =
    let room = none_fits c.args.lines.now c.requires.none in omega (arith, room, c.tell_head.ensures.len, c.tell_entries.ensures.len, c.tell_copies.ensures.len, c.tell_homes.ensures.len)

pub returns : goal.returns
returns g c = (
  looks_then c.args.medium.now c.tell_copies.new.medium c.tell_homes.new.medium c.in_ok-tell_copies.ensures.rule.0 c.in_ok-tell_homes.ensures.rule.0,
  all_told c.args.geometry.now (bytes_in c.args.medium.now) (lists_of c.args.lists.now) c.args.areas.dds c.args.areas.sdl c.args.lines.now c.tell_head.new.lines c.tell_entries.new.lines c.tell_copies.new.lines c.tell_homes.new.lines c.close.new.self
      c.requires.none c.requires.found c.tell_head.ensures.lines c.tell_entries.ensures.lines c.in_ok-tell_copies.ensures.rule.1
      (subst (λ (o : Option (List ℕ)). AddsLost c.tell_copies.new.lines c.tell_homes.new.lines c.args.geometry.now o (lists_of c.args.lists.now) (logical_count c.args.geometry.now (lists_of c.args.lists.now))) c.in_ok-tell_copies.ensures.rule.0.left.same_bytes
      c.in_ok-tell_homes.ensures.rule.1)
      c.close.ensures,
)

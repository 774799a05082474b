use Rattle.ram_lists.specs.Lists.{lists_of}
use Rattle.ram_audit.proofs.Leaving.{looks_then, fails_then}
use Rattle.ram_audit.proofs.Adding.{by_cases, area_of_one, area_of_two}
use Rattle.ram_audit.proofs.copies.tell_area.Goals as goal

pub returns-in-One-clause-rule : goal.returns-in-One-clause-rule
returns-in-One-clause-rule g c =
    area_of_one c.args.geometry.now (lists_of c.args.lists.now) c.args.area c.args.lines.now c.tell_part.new.lines c.tell_part-2.new.lines c.args.medium.now c.tell_part.new.medium c.tell_part-2.new.medium c.args.lists.now.sdl.version c.in-One.is
    c.in_ok-tell_part.ensures.rule c.in_ok-tell_part-2.ensures.rule

pub returns-in-Two-clause-rule : goal.returns-in-Two-clause-rule
returns-in-Two-clause-rule g c =
    by_cases c.tell_part-in-Two.result
    (λ done did. area_of_two c.args.geometry.now (lists_of c.args.lists.now) c.args.area c.args.lines.now c.tell_part.new.lines c.tell_part-2.new.lines c.tell_part-in-Two.new.lines c.args.medium.now c.tell_part.new.medium c.tell_part-2.new.medium c.tell_part-in-Two.new.medium
    c.args.lists.now.sdl.version c.in-Two.is c.in_ok-tell_part.ensures.rule c.in_ok-tell_part-2.ensures.rule did)
    (λ failed did. fails_then c.args.medium.now c.tell_part-2.new.medium c.tell_part-in-Two.new.medium (looks_then c.args.medium.now c.tell_part.new.medium c.tell_part-2.new.medium c.in_ok-tell_part.ensures.rule.0 c.in_ok-tell_part-2.ensures.rule.0) did)
    c.tell_part-in-Two.ensures.rule

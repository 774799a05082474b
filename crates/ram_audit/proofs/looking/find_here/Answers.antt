use Rattle.ram_lists.specs.Lists.{lists_of}
use Rattle.ram_audit.proofs.Finding.{found_here, failed_here}
use Rattle.ram_audit.proofs.looking.find_here.Goals as goal

pub returns-in-Ok : goal.returns-in-Ok
returns-in-Ok g c =
    found_here c.args.medium.now c.find_lists.new.medium c.args.geometry.now c.requires.unarmed c.requires.on c.find_lists.ensures.reads (lists_of c.find_lists.new.lists) c.in-Ok.found c.requires.size
    c.in-Ok.ensures.counts c.in-Ok.ensures.rule

pub returns-in-Err : goal.returns-in-Err
returns-in-Err g c =
    failed_here c.args.medium.now c.find_lists.new.medium c.args.geometry.now c.requires.unarmed c.requires.on c.find_lists.ensures.reads c.in-Err.field-0 c.in-Err.ensures.rule.counts

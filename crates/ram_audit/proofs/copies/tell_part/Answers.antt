use Rattle.ram_image.specs.Medium.{shape_of_medium, bytes_in}
use Rattle.ram_lists.specs.Lists.{lists_of}
use Rattle.ram_audit.specs.Telling.{list_part_of}
use Rattle.ram_audit.proofs.Adding.{by_cases, copy_told}
use Rattle.ram_audit.proofs.copies.tell_part.Goals as goal

pub returns-clause-rule : goal.returns-clause-rule
returns-clause-rule g c = rw (← c.kind_of-kind.ensures, ← c.list_block-block.ensures.block)
    (by_cases c.tell_copy.result
    (λ done did. (
      did.0,
      copy_told c.args.lines.now c.tell_copy.new.lines (shape_of_medium c.args.medium.now) c.args.geometry.now (bytes_in c.args.medium.now) (lists_of c.args.lists.now) c.list_block-block.result (list_part_of c.args.part) c.encode_part.new.into
          c.requires.size c.encode_part.ensures did.1,
    ))
    (λ failed did. did) c.tell_copy.ensures.rule)

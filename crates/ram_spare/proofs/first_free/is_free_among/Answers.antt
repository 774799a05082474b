use Rattle.std.proofs.Common.{◌||◌, not, sym, ap, ◌∙◌}
use Rattle.model_lists.specs.Values.{defectives}
use Rattle.model_pools.specs.Listed.{is_listed, replacements}
use Rattle.ram_spare.proofs.FirstFree.{sorted_tell}
use Rattle.ram_spare.proofs.Naming.{listed_by}
use Rattle.ram_spare.proofs.first_free.is_free_among.Goals as goal
use Rattle.ram_spare.proofs.first_free.is_free_among.Goals.{then-is_defective, else-is_defective}

pub returns : goal.returns
returns c =
    let entries = c.args.sdl.now.entries in
    let named = listed_by (defectives entries) c.args.block c.is_defective.result c.is_defective.ensures in
    elim c.if-is_defective.branch [
      | then-is_defective w ↦ ap not (w.result-is ∙ w.if-is_defective.true ∙ ap (λ t. t || is_listed (replacements entries) c.args.block) (sym w.if-is_defective.true ∙ named))
      | else-is_defective w ↦
          ap not (w.result-is ∙ w.is_among.ensures ∙ sorted_tell entries c.args.replaced.now c.args.block c.requires.sorted ∙ ap (λ t. t || is_listed (replacements entries) c.args.block) (sym w.if-is_defective.false ∙ named))
    ]

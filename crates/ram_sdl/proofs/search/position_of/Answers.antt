-- The first of the others names a higher block.
use Rattle.std.proofs.Common.{◌<◌, None, length, sym, ◌∙◌, arith}
use Rattle.model_lists.specs.declared.sdl.SdlEntry.{SdlEntry}
use Rattle.ram_sdl.proofs.Gaps.{defective_at, gap_before}
use Rattle.ram_sdl.proofs.search.position_of.Goals as goal

pub returns-then-entries-index : goal.returns-then-entries-index
returns-then-entries-index c =
    let entries = c.args.entries.now in
    let index = c.lower_count-index.result in
    let inside : index < length entries = omega (arith, c.lower_count-index.ensures.within, c.if-index-entries.false) in
    let other : SdlEntry = record { defective = 0; replacement = None } in
    gap_before entries c.args.defective index c.requires c.lower_count-index.ensures inside (λ same. c.if-entries-index.true (sym (defective_at entries index other inside) ∙ same))

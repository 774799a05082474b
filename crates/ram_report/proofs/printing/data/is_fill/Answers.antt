use Rattle.std.proofs.Common.{rules, ◌≡◌, ◌∙◌, ap, ℕ, bit_or, bit_xor, nat_eq, slice_index}
use Rattle.std.specs.List.{fold}
use Rattle.ram_report.proofs.OneByte.{none_found}
use Rattle.ram_report.proofs.printing.data.is_fill.Goals as goal

pub returns : goal.returns
returns c =
    let first = slice_index c.args.sector.now 0 in
    let found : c.fold-differences.result ≡ fold (λ (n byte : ℕ). bit_or n (bit_xor byte first)) 0 c.args.sector.now = search rules in
    ap (λ (n : ℕ). nat_eq n 0) found ∙ none_found first c.args.sector.now 0

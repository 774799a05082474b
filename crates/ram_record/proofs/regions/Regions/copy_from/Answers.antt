-- The bytes are bytes.
use Rattle.std.proofs.Common.{◌≡◌, ℕ, ◌<◌, List, All, get_or, arith, sym, subst}
use Rattle.std.proofs.lemmas.List.Elements.{All-from_get_or}
use Rattle.ram_record.proofs.regions.Regions.copy_from.Goals as goal

pub returns-clause-fit : goal.returns-clause-fit
returns-clause-fit c =
    let P : List ℕ → Type 0 = All (λ byte. byte < 256) in
    subst P (sym c.copy_from_slice.ensures.items) (All-from_get_or (λ byte. byte < 256) c.args.bytes.now 0 (λ k less. omega (arith, c.type_inv.bytes k)))

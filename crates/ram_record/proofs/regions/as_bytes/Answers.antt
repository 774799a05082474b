-- By the type of the bytes.
use Rattle.std.proofs.Common.{◌<◌, arith}
use Rattle.std.proofs.lemmas.List.Elements.{All-from_get_or}
use Rattle.ram_record.proofs.regions.as_bytes.Goals as goal

pub returns-clause-fit : goal.returns-clause-fit
returns-clause-fit c = All-from_get_or (λ byte. byte < 256) c.args.bytes.now 0 (λ k less. omega (arith, c.type_inv.bytes k))

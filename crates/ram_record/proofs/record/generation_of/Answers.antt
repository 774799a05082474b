use Rattle.std.proofs.Common.{ℕ, ap, sym, ◌∙◌, arith}
use Rattle.byteorder.specs.Endian.{big_bytes}
use Rattle.model_lists.proofs.Numbers.{bytes_are_4}
use Rattle.ram_record.proofs.record.generation_of.Goals as goal

pub returns : goal.returns
returns c = bytes_are_4 4 c.args.bytes.now (omega (arith, c.requires)) (λ k. omega (arith, c.type_inv.bytes k)) ∙ ap (λ (k : ℕ). big_bytes 4 k) (sym c.get_u32.ensures)

-- The numbers are those that the bytes spell.
use Rattle.std.proofs.Common.{arith}
use Rattle.ram_nbd.proofs.Parsed.{option_parsed}
use Rattle.ram_nbd.proofs.handshake.parse_option_head.Goals as goal

pub returns-clause-some : goal.returns-clause-some
returns-clause-some c =
    option_parsed c.args.bytes.now c.get_u32.result c.get_u32-else-get_u32-ne1229472086.result c.get_u32-2.result c.get_u32-3.result
    c.requires (λ k. omega (arith, c.type_inv.bytes k)) c.get_u32.ensures (omega (arith, c.if-get_u32-ne1229472086.false))
    c.get_u32-else-get_u32-ne1229472086.ensures (omega (arith, c.if-get_u32-ne1162825812.false)) c.get_u32-2.ensures c.get_u32-3.ensures

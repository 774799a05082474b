-- The bytes are written in place of the first 2 from `at` on.
use Rattle.std.proofs.Common.{refl, arith}
use Rattle.byteorder.specs.Endian.{big_bytes}
use Rattle.ram_bytes.proofs.Writes.{put_mid-put_at}
use Rattle.ram_bytes.proofs.number.put_u16.Goals as goal

pub returns : goal.returns
returns c =
    put_mid-put_at c.args.at 2 c.args.bytes.now (big_bytes 2 c.args.value) c.write_u16.new.buf refl (omega arith) c.write_u16.ensures

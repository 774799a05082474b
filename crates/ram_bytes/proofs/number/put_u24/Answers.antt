-- The bytes are written in place of the first 3 from `at` on.
use Rattle.std.proofs.Common.{refl, arith}
use Rattle.byteorder.specs.Endian.{big_bytes}
use Rattle.ram_bytes.proofs.Writes.{put_mid-put_at}
use Rattle.ram_bytes.proofs.number.put_u24.Goals as goal

pub returns : goal.returns
returns c =
    put_mid-put_at c.args.at 3 c.args.bytes.now (big_bytes 3 c.args.value) c.write_u24.new.buf refl (omega arith) c.write_u24.ensures

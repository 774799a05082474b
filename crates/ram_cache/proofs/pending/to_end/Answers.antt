use Rattle.std.proofs.Common.{arith, []}
use Rattle.std.proofs.lemmas.Slice.{put_mid-rotated}
use Rattle.ram_cache.proofs.pending.to_end.Goals as goal

pub returns : goal.returns
returns c = put_mid-rotated c.args.k _ c.args.rooms.now c.rotate_left.new.self (0, []) c.requires (omega arith) c.rotate_left.ensures.after

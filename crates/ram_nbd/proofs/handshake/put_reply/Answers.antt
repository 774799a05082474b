use Rattle.ram_nbd.proofs.Puts.{put_headed}
use Rattle.ram_nbd.proofs.handshake.put_reply.Goals as goal

pub returns-clause-bytes : goal.returns-clause-bytes
returns-clause-bytes c = put_headed _ _ _ _ _ _ c.option_head-head.ensures c.put.ensures.bytes c.put-2.ensures.bytes

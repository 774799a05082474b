use Rattle.ram_nbd.proofs.Puts.{put_facts}
use Rattle.ram_nbd.proofs.handshake.put_info.Goals as goal

pub returns-clause-bytes : goal.returns-clause-bytes
returns-clause-bytes c =
    put_facts c.args.number c.args.reply.now.items c.export_fact-export.result _ c.block_sizes-sizes.result _
    c.put_reply.new.reply.items c.put_reply-2.new.reply.items c.put_reply-3.new.reply.items c.export_fact-export.ensures c.block_sizes-sizes.ensures
    c.put_reply.ensures.bytes c.put_reply-2.ensures.bytes c.put_reply-3.ensures.bytes

use Rattle.ram_copies.proofs.Decoding.{record_reads, record_in_grammar}
use Rattle.ram_copies.proofs.lists.LeadRecordListBlock.decode.Goals as goal

pub returns-in-None-clause-says : goal.returns-in-None-clause-says
returns-in-None-clause-says c = rw c.in-None.is (record_reads c.decode.result c.decode.new.self c.args.first.now c.decode.ensures)

pub returns-in-None-clause-in_grammar : goal.returns-in-None-clause-in_grammar
returns-in-None-clause-in_grammar c = record_in_grammar c.decode.result c.decode.new.self c.args.first.now c.decode.ensures

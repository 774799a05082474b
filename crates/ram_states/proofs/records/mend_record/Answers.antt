use Rattle.ram_record.specs.Record.{record_of}
use Rattle.ram_states.proofs.RecordCauses.{mended_result}
use Rattle.ram_states.proofs.records.mend_record.Goals as goal

pub returns-clause-rule : goal.returns-clause-rule
returns-clause-rule g c =
    mended_result g.M.Medium.world g.M.Medium.reaches c.args.geometry.now c.args.medium.now c.look_at_copies.new.medium c.put_copies.new.medium (record_of c.mend_none.new.best) (record {
      area = c.in_ok-choice.choice.area;
      held = record_of c.look_at_copies.new.best;
      mark = c.in_ok-choice.choice.mark;
      looked = c.in_ok-choice.ensures.rule;
      mended = c.mend_none.ensures;
    }) c.put_copies.result c.put_copies.ensures.rule

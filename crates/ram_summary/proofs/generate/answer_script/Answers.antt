use Rattle.std.proofs.Common.{ap, sym, ◌∙◌, Some}
use Rattle.ram_summary.proofs.Generated.{end_count}
use Rattle.ram_summary.proofs.generate.answer_script.Goals as goal

pub returns-clause-ends : goal.returns-clause-ends
returns-clause-ends g c first kind_is script_is image_is =
    c.answer_lines-image.ensures.leaves first (kind_is ∙ sym c.requires.ready.kind_is) (record {
      left_is = rw (c.new-dialogue.ensures.talk_is, c.new-talk.ensures.script) (ap Some (c.new.ensures ∙ sym script_is));
      written_is = tt;
      image_is = image_is;
    })

pub returns-clause-count : goal.returns-clause-count
returns-clause-count g c = end_count (g.I.Image.faults c.args.image) (g.I.Image.faults c.answer_lines-image.result.0) c.answer_lines-image.result.1 c.answer_lines-image.ensures.counts

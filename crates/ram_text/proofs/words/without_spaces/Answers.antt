-- One more space is passed.
use Rattle.ram_text.proofs.WordSteps.{words_behind}
use Rattle.ram_text.proofs.words.without_spaces.Goals as goal

pub loop-offset-preserved : goal.loop-offset-preserved
loop-offset-preserved c =
    words_behind c.args.line.now c.loop-offset.offset c.loop-offset-test.true c.if-byte-ne32.false c.loop-offset.invariant

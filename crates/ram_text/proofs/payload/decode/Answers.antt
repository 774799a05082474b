-- One pair more is decoded, or is none; at the end all are.
use Rattle.std.proofs.Common.{arith}
use Rattle.ram_text.proofs.HexPairs.{pair_decoded, none_so_far, odd_spells_none, all_looked_at}
use Rattle.ram_text.proofs.payload.decode.Goals as goal

pub returns-then-digits-ne0 : goal.returns-then-digits-ne0
returns-then-digits-ne0 c = odd_spells_none c.args.digits.now (omega (arith, c.if-digits-ne0.true))

pub pairs-preserved : goal.pairs-preserved
pairs-preserved c = record {
  good = λ lt. pair_decoded c.args.digits.now c.pairs.into c.pairs.at c.digit-high.result c.digit-low.result (omega (arith, c.requires)) (omega (arith, c.pairs.auto.into)) c.digit-high.ensures c.digit-low.ensures (omega (arith, lt, c.max.ensures, c.max-most.ensures)) (omega (arith, lt, c.max.ensures, c.max-most.ensures)) (c.pairs.invariant.good (omega (arith, lt, c.max.ensures, c.max-most.ensures)));
  bad = λ ge. none_so_far c.args.digits.now c.pairs.into c.pairs.at c.pairs.most c.digit-high.result c.digit-low.result (omega (arith, c.requires)) c.digit-high.ensures c.digit-low.ensures (omega (arith, ge, c.max.ensures, c.max-most.ensures)) c.pairs.invariant.good c.pairs.invariant.bad;
}

pub returns : goal.returns
returns c =
    all_looked_at c.args.digits.now c.pairs.into c.pairs.most c.pairs.at c.if-digits-ne0.false (omega (arith, c.pairs.auto.into)) (omega (arith, c.requires, c.if-digits-ne0.false)) c.pairs.invariant.good c.pairs.invariant.bad

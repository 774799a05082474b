use Rattle.std.proofs.Common.{subst}
use Rattle.std.specs.Prelude.{ℕ}
use Rattle.ram_lists.specs.Lists.{lists_of}
use Rattle.ram_transfer.proofs.Fetches.{home_below}
use Rattle.ram_transfer.specs.Writing.{HasRest}
use Rattle.ram_transfer.proofs.writing.write_part.Goals as goal

pub fetch_rest-requires : goal.fetch_rest-requires
fetch_rest-requires g c = record {
  inside = home_below c.args.geometry.now (lists_of c.args.lists.now) c.args.part.block c.home-home.result (g.M.Medium.block_count c.args.medium.now) c.requires.fit.valid c.requires.inside c.home-home.ensures c.requires.fit.size;
}

pub returns-in-Done-clause-rule : goal.returns-in-Done-clause-rule
returns-in-Done-clause-rule g c = record {
  mid = c.fetch_rest.new.medium;
  rest = c.fetch_rest.new.block;
  held_mid = c.fetch_rest.new.buffer;
  has = subst (λ (home : ℕ). HasRest g.M.Medium.world g.M.Medium.reaches c.args.medium.now c.args.workspace.now.buffer c.args.part.request.lba c.args.part.request.n c.args.part.block home
      c.fetch_rest.new.medium c.fetch_rest.new.block c.fetch_rest.new.buffer) c.home-home.ensures (rw c.if-not-branch.false at c.in_ok-fetch_rest.ensures.rule);
  full = c.merged-bytes.ensures.len;
  then_did = record {
    puts = (rw (c.in-Done.is, c.merged-bytes.ensures.merged) at c.in_ok-placed.ensures.rule).puts;
    back = c.place_block.new.back;
    buffer_is = c.put.ensures;
    as_put = rw (c.in-Done.is, c.merged-bytes.ensures.merged) at c.in_ok-placed.ensures.back;
  };
}

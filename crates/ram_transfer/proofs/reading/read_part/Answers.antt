use Rattle.std.specs.Prelude.{◌≡◌, ℕ, Bool, true, false, if◌then◌else◌, List}
use Rattle.std.proofs.Common.{refl, sym, ap, ◌∙◌, inl, subst}
use Rattle.std.proofs.lemmas.Result.{err_from_is_err_and}
use Rattle.model_buffer.specs.Buffer.{with_newest}
use Rattle.model_places.specs.Places.{home_of}
use Rattle.ram_lists.specs.Lists.{lists_of}
use Rattle.ram_transfer.specs.Blocks.{IsFetched, CannotBeRead, FetchStopped}
use Rattle.ram_transfer.proofs.Fetches.{home_below, read_in, unread, halted}
use Rattle.ram_transfer.proofs.reading.read_part.Goals as goal

pub read_whole-requires : goal.read_whole-requires
read_whole-requires g c =
    home_below c.args.geometry.now (lists_of c.args.lists.now) c.args.part.block c.home-home.result (g.M.Medium.block_count c.args.medium.now) c.requires.valid c.requires.inside c.home-home.ensures c.requires.size

pub read_past-requires-clause-inside : goal.read_past-requires-clause-inside
read_past-requires-clause-inside g c =
    home_below c.args.geometry.now (lists_of c.args.lists.now) c.args.part.block c.home-home.result (g.M.Medium.block_count c.args.medium.now) c.requires.valid c.requires.inside c.home-home.ensures c.requires.size

pub returns-in_err-read_whole-clause-rule : goal.returns-in_err-read_whole-clause-rule
returns-in_err-read_whole-clause-rule g c =
    let p = err_from_is_err_and c.from_residual.result c.from_residual.ensures.1 in
    rw (p.1, p.2)
    (subst (λ (home : ℕ). FetchStopped {M = g.row.M.Denot} g.M.Medium.world g.M.Medium.reaches c.args.medium.now c.read_whole.new.medium c.args.buffer.now c.args.part.block home c.in_err-read_whole.field-0.0) c.home-home.ensures
    (halted g.M.Medium.world g.M.Medium.reaches c.args.medium.now c.read_whole.new.medium c.args.buffer.now c.args.part.block c.home-home.result c.if-lookup.ensures.few c.if-lookup.ensures.found.0
    _ _ c.in_err-read_whole.field-0.0 c.in_err-read_whole.ensures.rule c.in_err-read_whole.ensures.continues))

pub returns-then-not-branch-clause-rule : goal.returns-then-not-branch-clause-rule
returns-then-not-branch-clause-rule g c = record {
  unread = subst (λ (held' : List (ℕ × List ℕ)). CannotBeRead {M = g.row.M.Denot} g.M.Medium.world g.M.Medium.reaches c.args.medium.now c.read_whole.new.medium c.args.buffer.now c.args.part.block
      (home_of c.args.geometry.now (lists_of c.args.lists.now) c.args.part.block) held') (sym c.if-lookup.ensures.found.1)
      (subst (λ (home : ℕ). CannotBeRead {M = g.row.M.Denot} g.M.Medium.world g.M.Medium.reaches c.args.medium.now c.read_whole.new.medium c.args.buffer.now c.args.part.block home c.args.buffer.now) c.home-home.ensures
      (unread g.M.Medium.world g.M.Medium.reaches c.args.medium.now c.read_whole.new.medium c.args.buffer.now c.args.part.block c.home-home.result c.if-lookup.ensures.few c.if-lookup.ensures.found.0
      _ c.read_whole.new.into c.in_ok-read_whole.field-0 c.if-not-branch.true c.in_ok-read_whole.ensures.rule c.in_ok-read_whole.ensures.continues));
  before = refl;
}

-- the block is buffered, where it did not go past the buffer
put_there : (past : Bool) (held due : List (ℕ × List ℕ)) → past ≡ false → due ≡ (if past then held else due)
put_there true held due goes = absurd (let e : true ≡ false = goes in cc)
put_there false held due goes = refl

pub returns-clause-rule : goal.returns-clause-rule
returns-clause-rule g c = record {
  due = c.put.new.self;
  copied = record {
    bytes = c.read_whole.new.into;
    fetched = subst (λ (home : ℕ). IsFetched {M = g.row.M.Denot} g.M.Medium.world g.M.Medium.reaches c.args.medium.now c.read_whole.new.medium c.args.buffer.now c.args.part.block home c.read_whole.new.into c.put.new.self) c.home-home.ensures
        (read_in g.M.Medium.world g.M.Medium.reaches c.args.medium.now c.read_whole.new.medium c.args.buffer.now c.args.part.block c.home-home.result c.if-lookup.ensures.few c.if-lookup.ensures.found.0
        _ c.read_whole.new.into c.in_ok-read_whole.field-0 c.if-not-branch.false c.in_ok-read_whole.ensures.rule c.in_ok-read_whole.ensures.continues
        c.put.new.self (c.put.ensures ∙ ap (with_newest c.args.part.block c.read_whole.new.into) c.if-lookup.ensures.found.1));
    copied = c.copy_out-2.ensures;
  };
  kept = put_there c.args.past c.args.buffer.now c.put.new.self c.if-past.false;
}

pub returns-then-lookup-clause-rule : goal.returns-then-lookup-clause-rule
returns-then-lookup-clause-rule g c = record {
  due = c.lookup.new.self;
  copied = record {
    bytes = c.lookup.new.into;
    fetched = record { buffer_is = c.if-lookup.ensures.found.1; came = inl (record { unused = refl; was_there = c.if-lookup.ensures.found.0 }); few = c.if-lookup.ensures.few };
    copied = c.copy_out.ensures;
  };
  kept = put_there c.args.past c.args.buffer.now c.lookup.new.self c.if-past.false;
}

use Rattle.std.proofs.Common.{ℕ, List, [], subst, sym, ap, ◌∙◌, refl, arith}
use Rattle.ram_text.specs.Lines.{Reading, HasNoFeed, IsFirstFeed}
use Rattle.ram_text.specs.Steps.{without_line}
use Rattle.ram_text.proofs.Fills.{kept_through, refilled, still_clear}
use Rattle.ram_text.proofs.lines.LineReader.fill.Goals as goal

pub returns-in-Got-clause-rule : goal.returns-in-Got-clause-rule
returns-in-Got-clause-rule g c =
    refilled c.self.inside.bytes.items c.make_room-self-inside.new.bytes.items c.read_piece.new.bytes.items c.self.inside.start c.self.inside.end c.make_room-self-inside.result c.in-Got.count 65536 _ _ _ _ _ _
    c.make_room-self-inside.ensures.kept c.read_piece.ensures.before (omega (arith, c.read_piece.new.bytes.ok.0)) c.in-Got.ensures.rule (sym (ap (λ (r : Reading). r.buffered) c.self.view_is)) refl (ap (λ (r : Reading). r.taken) c.self.view_is)

pub first_feed-self-inside-requires-clause-clear : goal.first_feed-self-inside-requires-clause-clear
first_feed-self-inside-requires-clause-clear g c =
    rw c.deref.ensures.value (still_clear c.self.inside.bytes.items c.make_room-self-inside.new.bytes.items c.read_piece.new.bytes.items c.self.inside.start c.self.inside.end c.make_room-self-inside.result c.in-Got.count
    c.make_room-self-inside.ensures.kept c.read_piece.ensures.before (subst (λ (r : Reading). HasNoFeed r.buffered) (sym c.self.view_is) c.requires.clear))

pub invariant_of-self-in-End : goal.invariant_of-self-in-End
invariant_of-self-in-End g c =
    let kept = kept_through c.self.inside.bytes.items c.make_room-self-inside.new.bytes.items c.read_piece.new.bytes.items c.self.inside.start c.self.inside.end c.make_room-self-inside.result c.make_room-self-inside.ensures.kept c.read_piece.ensures.before in
    record {
      room = c.read_piece.ensures.whole;
      line_ordered = omega arith;
      line_inside = omega arith;
      ordered = omega arith;
      inside = omega arith;
      searched = subst (λ (xs : List ℕ). IsFirstFeed xs c.self.inside.feed) (sym kept) c.self.invariant.searched;
      within = c.self.invariant.within;
    }

pub invariant_of-self-in-Failed : goal.invariant_of-self-in-Failed
invariant_of-self-in-Failed g c =
    let kept = kept_through c.self.inside.bytes.items c.make_room-self-inside.new.bytes.items c.read_piece.new.bytes.items c.self.inside.start c.self.inside.end c.make_room-self-inside.result c.make_room-self-inside.ensures.kept c.read_piece.ensures.before in
    record {
      room = c.read_piece.ensures.whole;
      line_ordered = omega arith;
      line_inside = omega arith;
      ordered = omega arith;
      inside = omega arith;
      searched = subst (λ (xs : List ℕ). IsFirstFeed xs c.self.inside.feed) (sym kept) c.self.invariant.searched;
      within = c.self.invariant.within;
    }

pub returns-in-End-clause-rule : goal.returns-in-End-clause-rule
returns-in-End-clause-rule g c =
    let kept = kept_through c.self.inside.bytes.items c.make_room-self-inside.new.bytes.items c.read_piece.new.bytes.items c.self.inside.start c.self.inside.end c.make_room-self-inside.result c.make_room-self-inside.ensures.kept c.read_piece.ensures.before in
    let ends = c.in-End.ensures.rule in
    (ap (λ (xs : List ℕ). without_line (record { line = []; buffered = xs; taken = c.self.inside.taken })) kept ∙ ap without_line c.self.view_is, ends.ended, ends.same, ends.count)

pub returns-in-Failed-clause-rule : goal.returns-in-Failed-clause-rule
returns-in-Failed-clause-rule g c =
    let kept = kept_through c.self.inside.bytes.items c.make_room-self-inside.new.bytes.items c.read_piece.new.bytes.items c.self.inside.start c.self.inside.end c.make_room-self-inside.result c.make_room-self-inside.ensures.kept c.read_piece.ensures.before in
    let fails = c.in-Failed.ensures.rule in
    (ap (λ (xs : List ℕ). without_line (record { line = []; buffered = xs; taken = c.self.inside.taken })) kept ∙ ap without_line c.self.view_is, fails.same, fails.count)

-- The lines so far are a run, at each turn.
use Rattle.std.proofs.Common.{rules, arith, refl, ap, ◌∙◌, Option, List, ℕ, is_some}
use Rattle.ram_outside.proofs.Additions.{added_none}
use Rattle.ram_text.specs.Lines.{Reading}
use Rattle.ram_text.specs.Dialogue.{reader_of, talk_of}
use Rattle.ram_script.specs.RunCounts.{counts_with}
use Rattle.ram_script.specs.Progress.{run_view}
use Rattle.ram_script.proofs.CountsRise.{none_rose, why_counts}
use Rattle.ram_answers.specs.TextAsks.{IsToldBy}
use Rattle.ram_answers.proofs.Endings.{ends_after, asks_on}
use Rattle.ram_answers.proofs.FewLines.{few_more, few_still}
use Rattle.ram_answers.proofs.serving.answer_all.Goals as goal

pub loop-stopped-init : goal.loop-stopped-init
loop-stopped-init g c = record {
  same = search rules;
  between = λ first b. b;
  counts = search rules;
  asks = λ first b known. added_none (IsToldBy g.A.Answers first) (g.T.Conversation.asked (talk_of c.args.dialogue.now));
  known = refl;
  few = search rules;
  within = search rules;
}

pub returns-in-Err-clause-ends : goal.returns-in-Err-clause-ends
returns-in-Err-clause-ends g c first b =
    let now = c.loop-stopped.invariant.between first b in
    ends_after g.A.Answers first c.loop-stopped.answers now.far (run_view g.T.Conversation g.T.Sink.Sink c.take_raw.new.dialogue c.loop-stopped.tally) c.in-Err.stopped
    (c.in-Err.ensures.next first c.loop-stopped.answers now.far now.at)

pub returns-in-Err-clause-counts : goal.returns-in-Err-clause-counts
returns-in-Err-clause-counts g c =
    why_counts (counts_with g.T.Conversation g.T.Sink.Sink c.args.dialogue.now (g.A.Answers.faults c.args.answers.now)) (counts_with g.T.Conversation g.T.Sink.Sink c.loop-stopped.dialogue (g.A.Answers.faults c.loop-stopped.answers)) (counts_with g.T.Conversation g.T.Sink.Sink c.take_raw.new.dialogue (g.A.Answers.faults c.loop-stopped.answers))
    c.in-Err.stopped c.loop-stopped.invariant.counts (c.in-Err.ensures.counts (g.A.Answers.faults c.loop-stopped.answers))

pub returns-in-Err-clause-asks : goal.returns-in-Err-clause-asks
returns-in-Err-clause-asks g c first b known =
    let now = c.loop-stopped.invariant.between first b in
    asks_on g.A.Answers first c.loop-stopped.answers now.far (run_view g.T.Conversation g.T.Sink.Sink c.loop-stopped.dialogue c.loop-stopped.tally) now.at (c.loop-stopped.invariant.known ∙ known) _ _ _ (c.loop-stopped.invariant.asks first b known) c.take_raw.ensures.asks

pub returns-in-Err-clause-known : goal.returns-in-Err-clause-known
returns-in-Err-clause-known g c = ap (λ (o : Option (List ℕ)). is_some o) c.take_raw.ensures.same_due ∙ c.loop-stopped.invariant.known

pub loop-stopped-preserved : goal.loop-stopped-preserved
loop-stopped-preserved g c =
    let takes = rw (c.in-Ok-true.is, c.in-Ok-true.field-0-test) at c.take_raw.ensures.takes in
    let reader = ap (λ (r : Reading). r.taken) c.answer_raw.ensures.same_reading in
    record {
      same = record {
        talk = c.answer_raw.ensures.ends.talk ∙ c.take_raw.ensures.ends.talk ∙ c.loop-stopped.invariant.same.talk;
        room = c.answer_raw.ensures.ends.room ∙ c.take_raw.ensures.ends.room ∙ c.loop-stopped.invariant.same.room;
      };
      between = λ first b. let now = c.loop-stopped.invariant.between first b in c.in-Ok.ensures.turn first now.far (rw (c.in-Ok-true.is, c.in-Ok-true.field-0-test) at (c.take_raw.ensures.next first c.loop-stopped.answers now.far now.at));
      counts = none_rose (counts_with g.T.Conversation g.T.Sink.Sink c.args.dialogue.now (g.A.Answers.faults c.args.answers.now)) (counts_with g.T.Conversation g.T.Sink.Sink c.take_raw.new.dialogue (g.A.Answers.faults c.loop-stopped.answers)) (counts_with g.T.Conversation g.T.Sink.Sink c.answer_raw.new.dialogue (g.A.Answers.faults c.answer_raw.new.answers))
          (none_rose (counts_with g.T.Conversation g.T.Sink.Sink c.args.dialogue.now (g.A.Answers.faults c.args.answers.now)) (counts_with g.T.Conversation g.T.Sink.Sink c.loop-stopped.dialogue (g.A.Answers.faults c.loop-stopped.answers)) (counts_with g.T.Conversation g.T.Sink.Sink c.take_raw.new.dialogue (g.A.Answers.faults c.loop-stopped.answers))
          c.loop-stopped.invariant.counts (rw c.in-Ok-true.is at (c.take_raw.ensures.counts (g.A.Answers.faults c.loop-stopped.answers)))) c.in-Ok.ensures.counts;
      asks = λ first b known.
          let now = c.loop-stopped.invariant.between first b in
          rw c.answer_raw.ensures.same_asked (asks_on g.A.Answers first c.loop-stopped.answers now.far (run_view g.T.Conversation g.T.Sink.Sink c.loop-stopped.dialogue c.loop-stopped.tally) now.at (c.loop-stopped.invariant.known ∙ known) _ _ _ (c.loop-stopped.invariant.asks first b known) c.take_raw.ensures.asks);
      known = c.answer_raw.ensures.known ∙ ap (λ (o : Option (List ℕ)). is_some o) c.take_raw.ensures.same_due ∙ c.loop-stopped.invariant.known;
      few = few_more c.loop-stopped.tally c.answer_raw.new.tally (reader_of c.loop-stopped.dialogue).taken (reader_of c.take_raw.new.dialogue).taken (reader_of c.answer_raw.new.dialogue).taken
          c.loop-stopped.invariant.few takes.0 reader c.in-Ok.ensures.tally;
      within = omega (arith, takes.1, reader);
    }

pub returns-in-Err-answer_raw-clause-ends : goal.returns-in-Err-answer_raw-clause-ends
returns-in-Err-answer_raw-clause-ends g c first b =
    let now = c.loop-stopped.invariant.between first b in c.in-Err-answer_raw.ensures.turn first now.far (rw (c.in-Ok-true.is, c.in-Ok-true.field-0-test) at (c.take_raw.ensures.next first c.loop-stopped.answers now.far now.at))

pub returns-in-Err-answer_raw-clause-counts : goal.returns-in-Err-answer_raw-clause-counts
returns-in-Err-answer_raw-clause-counts g c =
    why_counts (counts_with g.T.Conversation g.T.Sink.Sink c.args.dialogue.now (g.A.Answers.faults c.args.answers.now)) (counts_with g.T.Conversation g.T.Sink.Sink c.take_raw.new.dialogue (g.A.Answers.faults c.loop-stopped.answers)) (counts_with g.T.Conversation g.T.Sink.Sink c.answer_raw.new.dialogue (g.A.Answers.faults c.answer_raw.new.answers))
    c.in-Err-answer_raw.stopped (none_rose (counts_with g.T.Conversation g.T.Sink.Sink c.args.dialogue.now (g.A.Answers.faults c.args.answers.now)) (counts_with g.T.Conversation g.T.Sink.Sink c.loop-stopped.dialogue (g.A.Answers.faults c.loop-stopped.answers)) (counts_with g.T.Conversation g.T.Sink.Sink c.take_raw.new.dialogue (g.A.Answers.faults c.loop-stopped.answers))
    c.loop-stopped.invariant.counts (rw c.in-Ok-true.is at (c.take_raw.ensures.counts (g.A.Answers.faults c.loop-stopped.answers)))) c.in-Err-answer_raw.ensures.counts

pub returns-in-Err-answer_raw-clause-asks : goal.returns-in-Err-answer_raw-clause-asks
returns-in-Err-answer_raw-clause-asks g c first b known =
    let now = c.loop-stopped.invariant.between first b in
    rw c.answer_raw.ensures.same_asked (asks_on g.A.Answers first c.loop-stopped.answers now.far (run_view g.T.Conversation g.T.Sink.Sink c.loop-stopped.dialogue c.loop-stopped.tally) now.at (c.loop-stopped.invariant.known ∙ known) _ _ _ (c.loop-stopped.invariant.asks first b known) c.take_raw.ensures.asks)

pub returns-in-Err-answer_raw-clause-known : goal.returns-in-Err-answer_raw-clause-known
returns-in-Err-answer_raw-clause-known g c = c.answer_raw.ensures.known ∙ ap (λ (o : Option (List ℕ)). is_some o) c.take_raw.ensures.same_due ∙ c.loop-stopped.invariant.known

pub returns-in-Err-answer_raw-clause-few : goal.returns-in-Err-answer_raw-clause-few
returns-in-Err-answer_raw-clause-few g c =
    few_still c.loop-stopped.tally c.answer_raw.new.tally (reader_of c.loop-stopped.dialogue).taken c.loop-stopped.invariant.few c.loop-stopped.invariant.within c.in-Err-answer_raw.ensures.tally

pub returns-in-Ok-false-clause-ends : goal.returns-in-Ok-false-clause-ends
returns-in-Ok-false-clause-ends g c first b =
    let now = c.loop-stopped.invariant.between first b in
    record { far = now.far; ends = rw (c.in-Ok-false.is, c.in-Ok-false.field-0-test) at (c.take_raw.ensures.next first c.loop-stopped.answers now.far now.at) }

pub returns-in-Ok-false-clause-counts : goal.returns-in-Ok-false-clause-counts
returns-in-Ok-false-clause-counts g c =
    none_rose (counts_with g.T.Conversation g.T.Sink.Sink c.args.dialogue.now (g.A.Answers.faults c.args.answers.now)) (counts_with g.T.Conversation g.T.Sink.Sink c.loop-stopped.dialogue (g.A.Answers.faults c.loop-stopped.answers)) (counts_with g.T.Conversation g.T.Sink.Sink c.take_raw.new.dialogue (g.A.Answers.faults c.loop-stopped.answers))
    c.loop-stopped.invariant.counts (rw c.in-Ok-false.is at (c.take_raw.ensures.counts (g.A.Answers.faults c.loop-stopped.answers)))

pub returns-in-Ok-false-clause-asks : goal.returns-in-Ok-false-clause-asks
returns-in-Ok-false-clause-asks g c first b known =
    let now = c.loop-stopped.invariant.between first b in
    asks_on g.A.Answers first c.loop-stopped.answers now.far (run_view g.T.Conversation g.T.Sink.Sink c.loop-stopped.dialogue c.loop-stopped.tally) now.at (c.loop-stopped.invariant.known ∙ known) _ _ _ (c.loop-stopped.invariant.asks first b known) c.take_raw.ensures.asks

pub returns-in-Ok-false-clause-known : goal.returns-in-Ok-false-clause-known
returns-in-Ok-false-clause-known g c = ap (λ (o : Option (List ℕ)). is_some o) c.take_raw.ensures.same_due ∙ c.loop-stopped.invariant.known

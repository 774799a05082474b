use Rattle.std.proofs.Common.{rules, arith, refl, ap, ◌∙◌, Option, List, ℕ, is_some}
use Rattle.ram_outside.proofs.Additions.{added_none}
use Rattle.ram_script.specs.Asking.{IsAnsweredBy}
use Rattle.ram_text.specs.Lines.{Reading}
use Rattle.ram_text.specs.Dialogue.{reader_of, talk_of}
use Rattle.ram_machine.specs.Inserted.{Stands, faults_of}
use Rattle.ram_script.specs.RunCounts.{counts_with}
use Rattle.ram_script.specs.Progress.{run_view}
use Rattle.ram_script.proofs.CountsRise.{none_rose, why_counts}
use Rattle.ram_script.proofs.Asking.{asks_on}
use Rattle.ram_script.proofs.FewLines.{few_more, few_still}
use Rattle.ram_script.proofs.Turns.{ends_between}
use Rattle.ram_script.proofs.serve.serve_lines.Goals as goal

pub returns-in-Err-clause-ends : goal.returns-in-Err-clause-ends
returns-in-Err-clause-ends g c first b =
    let now = c.loop-stopped.invariant.between first b in
    let stops = c.in-Err.ensures.next first now.far now.at in
    ends_between first (Stands g.D.Caching g.D.Drive.lies_in g.D.Image.Image c.loop-stopped.inserted) now.far (run_view g.T.Conversation g.T.Sink.Sink c.take_line.new.dialogue c.take_line.new.state.tally) c.in-Err.stopped now.stands_now stops.0 stops.1

pub returns-in-Err-clause-counts : goal.returns-in-Err-clause-counts
returns-in-Err-clause-counts g c =
    why_counts (counts_with g.T.Conversation g.T.Sink.Sink c.args.dialogue.now (faults_of g.D.Caching g.D.Image.Image c.args.inserted)) (counts_with g.T.Conversation g.T.Sink.Sink c.loop-stopped.dialogue (faults_of g.D.Caching g.D.Image.Image c.loop-stopped.inserted))
    (counts_with g.T.Conversation g.T.Sink.Sink c.take_line.new.dialogue (faults_of g.D.Caching g.D.Image.Image c.loop-stopped.inserted))
    c.in-Err.stopped c.loop-stopped.invariant.counts (c.in-Err.ensures.counts (faults_of g.D.Caching g.D.Image.Image c.loop-stopped.inserted))

pub returns-in-Ok-None-clause-ends : goal.returns-in-Ok-None-clause-ends
returns-in-Ok-None-clause-ends g c first b =
    let now = c.loop-stopped.invariant.between first b in record { far = now.far; stands_now = now.stands_now; stopped_at = rw (c.in-Ok-None.is, c.in-Ok-None.field-0-is) at (c.take_line.ensures.next first now.far now.at) }

pub returns-in-Ok-None-clause-counts : goal.returns-in-Ok-None-clause-counts
returns-in-Ok-None-clause-counts g c =
    none_rose (counts_with g.T.Conversation g.T.Sink.Sink c.args.dialogue.now (faults_of g.D.Caching g.D.Image.Image c.args.inserted)) (counts_with g.T.Conversation g.T.Sink.Sink c.loop-stopped.dialogue (faults_of g.D.Caching g.D.Image.Image c.loop-stopped.inserted))
    (counts_with g.T.Conversation g.T.Sink.Sink c.take_line.new.dialogue (faults_of g.D.Caching g.D.Image.Image c.loop-stopped.inserted))
    c.loop-stopped.invariant.counts (rw c.in-Ok-None.is at (c.take_line.ensures.counts (faults_of g.D.Caching g.D.Image.Image c.loop-stopped.inserted)))

pub loop-stopped-preserved : goal.loop-stopped-preserved
loop-stopped-preserved g c =
    let takes = rw (c.in-Ok-Some.is, c.in-Ok-Some.field-0-is) at c.take_line.ensures.takes in
    let more = c.in-Ok.ensures.tally in
    let reader = ap (λ (r : Reading). r.taken) c.answer_line.ensures.same_reading in
    let tally = c.take_line.ensures.same_tally in
    record {
      same = record {
        talk = c.answer_line.ensures.ends.talk ∙ c.take_line.ensures.ends.talk ∙ c.loop-stopped.invariant.same.talk;
        room = c.answer_line.ensures.ends.room ∙ c.take_line.ensures.ends.room ∙ c.loop-stopped.invariant.same.room;
      };
      between = λ first b. let now = c.loop-stopped.invariant.between first b in c.in-Ok.ensures.turn first now.far now.stands_now (rw (c.in-Ok-Some.is, c.in-Ok-Some.field-0-is) at (c.take_line.ensures.next first now.far now.at));
      counts = none_rose (counts_with g.T.Conversation g.T.Sink.Sink c.args.dialogue.now (faults_of g.D.Caching g.D.Image.Image c.args.inserted)) (counts_with g.T.Conversation g.T.Sink.Sink c.take_line.new.dialogue (faults_of g.D.Caching g.D.Image.Image c.loop-stopped.inserted))
          (counts_with g.T.Conversation g.T.Sink.Sink c.answer_line.new.dialogue (faults_of g.D.Caching g.D.Image.Image c.answer_line.new.inserted))
          (none_rose (counts_with g.T.Conversation g.T.Sink.Sink c.args.dialogue.now (faults_of g.D.Caching g.D.Image.Image c.args.inserted)) (counts_with g.T.Conversation g.T.Sink.Sink c.loop-stopped.dialogue (faults_of g.D.Caching g.D.Image.Image c.loop-stopped.inserted))
          (counts_with g.T.Conversation g.T.Sink.Sink c.take_line.new.dialogue (faults_of g.D.Caching g.D.Image.Image c.loop-stopped.inserted))
          c.loop-stopped.invariant.counts (rw c.in-Ok-Some.is at (c.take_line.ensures.counts (faults_of g.D.Caching g.D.Image.Image c.loop-stopped.inserted)))) c.in-Ok.ensures.counts;
      asks = λ first b known.
          let now = c.loop-stopped.invariant.between first b in
          rw c.answer_line.ensures.same_asked
          (asks_on first now.far (run_view g.T.Conversation g.T.Sink.Sink c.loop-stopped.dialogue c.loop-stopped.state.tally) now.at (c.loop-stopped.invariant.known ∙ known) _ _ _ (c.loop-stopped.invariant.asks first b known) c.take_line.ensures.asks);
      known = c.answer_line.ensures.known ∙ ap (λ (o : Option (List ℕ)). is_some o) c.take_line.ensures.same_due ∙ c.loop-stopped.invariant.known;
      room = c.answer_line.ensures.room;
      few = few_more c.loop-stopped.state.tally c.take_line.new.state.tally c.answer_line.new.state.tally (reader_of c.loop-stopped.dialogue).taken (reader_of c.take_line.new.dialogue).taken (reader_of c.answer_line.new.dialogue).taken c.loop-stopped.invariant.few takes.0 reader tally more;
      within = omega (arith, takes.1, reader);
    }

pub returns-in-Err-answer_line-clause-ends : goal.returns-in-Err-answer_line-clause-ends
returns-in-Err-answer_line-clause-ends g c first b =
    let now = c.loop-stopped.invariant.between first b in
    c.in-Err-answer_line.ensures.turn first now.far now.stands_now (rw (c.in-Ok-Some.is, c.in-Ok-Some.field-0-is) at (c.take_line.ensures.next first now.far now.at))

pub returns-in-Err-answer_line-clause-counts : goal.returns-in-Err-answer_line-clause-counts
returns-in-Err-answer_line-clause-counts g c =
    why_counts (counts_with g.T.Conversation g.T.Sink.Sink c.args.dialogue.now (faults_of g.D.Caching g.D.Image.Image c.args.inserted)) (counts_with g.T.Conversation g.T.Sink.Sink c.take_line.new.dialogue (faults_of g.D.Caching g.D.Image.Image c.loop-stopped.inserted))
    (counts_with g.T.Conversation g.T.Sink.Sink c.answer_line.new.dialogue (faults_of g.D.Caching g.D.Image.Image c.answer_line.new.inserted))
    c.in-Err-answer_line.stopped
    (none_rose (counts_with g.T.Conversation g.T.Sink.Sink c.args.dialogue.now (faults_of g.D.Caching g.D.Image.Image c.args.inserted)) (counts_with g.T.Conversation g.T.Sink.Sink c.loop-stopped.dialogue (faults_of g.D.Caching g.D.Image.Image c.loop-stopped.inserted))
    (counts_with g.T.Conversation g.T.Sink.Sink c.take_line.new.dialogue (faults_of g.D.Caching g.D.Image.Image c.loop-stopped.inserted))
    c.loop-stopped.invariant.counts (rw c.in-Ok-Some.is at (c.take_line.ensures.counts (faults_of g.D.Caching g.D.Image.Image c.loop-stopped.inserted)))) c.in-Err-answer_line.ensures.counts

pub returns-in-Err-answer_line-clause-few : goal.returns-in-Err-answer_line-clause-few
returns-in-Err-answer_line-clause-few g c =
    few_still c.loop-stopped.state.tally c.take_line.new.state.tally c.answer_line.new.state.tally (reader_of c.loop-stopped.dialogue).taken c.loop-stopped.invariant.few c.loop-stopped.invariant.within c.take_line.ensures.same_tally c.in-Err-answer_line.ensures.tally

pub returns-in-Err-clause-known : goal.returns-in-Err-clause-known
returns-in-Err-clause-known g c = ap (λ (o : Option (List ℕ)). is_some o) c.take_line.ensures.same_due ∙ c.loop-stopped.invariant.known

pub returns-in-Ok-None-clause-known : goal.returns-in-Ok-None-clause-known
returns-in-Ok-None-clause-known g c = ap (λ (o : Option (List ℕ)). is_some o) c.take_line.ensures.same_due ∙ c.loop-stopped.invariant.known

pub returns-in-Err-answer_line-clause-known : goal.returns-in-Err-answer_line-clause-known
returns-in-Err-answer_line-clause-known g c = c.answer_line.ensures.known ∙ ap (λ (o : Option (List ℕ)). is_some o) c.take_line.ensures.same_due ∙ c.loop-stopped.invariant.known

pub loop-stopped-init : goal.loop-stopped-init
loop-stopped-init g c = record {
  same = search rules;
  between = λ first b. b;
  asks = λ first b known. added_none (IsAnsweredBy first) (g.T.Conversation.asked (talk_of c.args.dialogue.now));
  counts = search rules;
  known = refl;
  room = c.requires.room;
  few = search rules;
  within = search rules;
}

pub returns-in-Err-clause-asks : goal.returns-in-Err-clause-asks
returns-in-Err-clause-asks g c first b known =
    let now = c.loop-stopped.invariant.between first b in
    asks_on first now.far (run_view g.T.Conversation g.T.Sink.Sink c.loop-stopped.dialogue c.loop-stopped.state.tally) now.at (c.loop-stopped.invariant.known ∙ known) _ _ _ (c.loop-stopped.invariant.asks first b known) c.take_line.ensures.asks

pub returns-in-Ok-None-clause-asks : goal.returns-in-Ok-None-clause-asks
returns-in-Ok-None-clause-asks g c first b known =
    let now = c.loop-stopped.invariant.between first b in
    asks_on first now.far (run_view g.T.Conversation g.T.Sink.Sink c.loop-stopped.dialogue c.loop-stopped.state.tally) now.at (c.loop-stopped.invariant.known ∙ known) _ _ _ (c.loop-stopped.invariant.asks first b known) c.take_line.ensures.asks

pub returns-in-Err-answer_line-clause-asks : goal.returns-in-Err-answer_line-clause-asks
returns-in-Err-answer_line-clause-asks g c first b known =
    let now = c.loop-stopped.invariant.between first b in
    rw c.answer_line.ensures.same_asked
    (asks_on first now.far (run_view g.T.Conversation g.T.Sink.Sink c.loop-stopped.dialogue c.loop-stopped.state.tally) now.at (c.loop-stopped.invariant.known ∙ known) _ _ _ (c.loop-stopped.invariant.asks first b known) c.take_line.ensures.asks)

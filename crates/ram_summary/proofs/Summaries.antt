-- The summary of lines, from what was counted of them.
use Rattle.std.specs.Prelude.{◌≡◌, ℕ, ◌==◌, not, cond, if◌then◌else◌, Bool, true, false, List, [], ◌∷◌, ◌++◌, length, map, filter, codes}
use Rattle.std.specs.List.{flat_map}
use Rattle.std.proofs.Common.{refl, sym, ap, ◌∙◌}
use Rattle.model_sense.specs.declared.sense.Sense.{Sense}
use Rattle.model_target.specs.Senses.{senses}
use Rattle.ram_script.specs.declared.counts.AnswerCounts.{AnswerCounts}
use Rattle.ram_script.specs.declared.state.Tally.{Tally}
use Rattle.ram_script.specs.Counting.{is_told_good, is_cut, is_off, is_check, times, sense_count_of, counts_in}
use Rattle.ram_script.specs.Progress.{Beginning, SoFar, IsTallied}
use Rattle.ram_script.specs.Answered.{AnsweredLine}
use Rattle.ram_summary.specs.Summary.{count_text, check_text, came_in, summary_text, row_text, tally_text}

-- a sense that came so often has a line, or none where it did not come
one_row : (sense : Sense) (n : ℕ) (text : Sense → List ℕ) (of : List Sense) (none : Bool) → text sense ≡ check_text sense n
    → (if none then [] else check_text sense n) ++ flat_map text of ≡ flat_map text (cond (not none) (sense ∷ of) of)
one_row sense n text of true is = refl
one_row sense n text of false is = ap (λ (l : List ℕ). l ++ flat_map text of) (sym is)

-- the lines of the senses that came
rows_text : (events : List AnsweredLine) (of : List Sense)
    → flat_map row_text (map (sense_count_of events) of) ≡ flat_map (λ sense. check_text sense (times (is_check sense) events)) (filter (came_in events) of)
rows_text events [] = refl
rows_text events (sense ∷ of) =
    ap (λ (l : List ℕ). row_text (sense_count_of events sense) ++ l) (rows_text events of)
    ∙ one_row sense (times (is_check sense) events) (λ sense. check_text sense (times (is_check sense) events)) (filter (came_in events) of) (times (is_check sense) events == 0) refl

-- the summary of the lines that were counted
pub tally_is_summary : (seed : ℕ) (first : Beginning) (far : SoFar first) (tally : Tally) → IsTallied far tally → tally_text seed tally ≡ summary_text seed far.events
tally_is_summary seed first far tally tallied =
    ap (λ (counts : AnswerCounts). tally_text seed (record { lines = tally.lines; answered = tally.answered; counts = counts })) tallied.counts
    ∙ ap (λ (n : ℕ). tally_text seed (record { lines = n; answered = tally.answered; counts = counts_in far.events })) tallied.lines
    ∙ ap (λ (rows : List ℕ). before (rows ++ count_text (codes "end ") (length far.events))) (rows_text far.events senses)
  where
    before : List ℕ → List ℕ
    before text =
        count_text (codes "generated ") seed
        ++ (count_text (codes "good ") (times is_told_good far.events)
        ++ (count_text (codes "cut ") (times is_cut far.events)
        ++ (count_text (codes "off ") (times is_off far.events) ++ text)))

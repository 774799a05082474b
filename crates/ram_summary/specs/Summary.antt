-- The summary of a script that was drawn from a number. For the program's form that runs such a script.
use Rattle.std.specs.Prelude.{ℕ, ◌==◌, not, if◌then◌else◌, Bool, List, [], ◌++◌, length, filter, codes, decimal}
use Rattle.std.specs.List.{flat_map}
use Rattle.model_sense.specs.declared.sense.Sense.{Sense}
use Rattle.model_target.specs.Senses.{senses}
use Rattle.ram_report.specs.ReportLines.{sense_code}
use Rattle.ram_script.specs.declared.counts.SenseCount.{SenseCount}
use Rattle.ram_script.specs.declared.state.Tally.{Tally}
use Rattle.ram_script.specs.Counting.{is_told_good, is_cut, is_off, is_check, times}
use Rattle.ram_script.specs.Answered.{AnsweredLine}

-- these words, a number, and the end of the line (this project's own, as all here)
abbrev pub count_text : List ℕ → ℕ → List ℕ
count_text words n = words ++ (decimal n ++ codes "\n")

-- how often this sense came
abbrev pub check_text : Sense → ℕ → List ℕ
check_text sense n = codes "check " ++ (sense_code sense ++ count_text (codes " ") n)

-- whether this sense came
abbrev pub came_in : List AnsweredLine → Sense → Bool
came_in events sense = not (times (is_check sense) events == 0)

-- The summary of these lines: the number, how often commands were answered good, cut and off, how often with each sense
-- that came, and how many lines there were.
abbrev pub summary_text : (seed : ℕ) → List AnsweredLine → List ℕ
summary_text seed events =
    count_text (codes "generated ") seed
    ++ (count_text (codes "good ") (times is_told_good events)
    ++ (count_text (codes "cut ") (times is_cut events)
    ++ (count_text (codes "off ") (times is_off events)
    ++ (flat_map (λ sense. check_text sense (times (is_check sense) events)) (filter (came_in events) senses)
    ++ count_text (codes "end ") (length events)))))

-- the line of a sense, where it came
abbrev pub row_text : SenseCount → List ℕ
row_text row = if row.times == 0 then [] else check_text row.sense row.times

-- the same text, of what was counted
abbrev pub tally_text : (seed : ℕ) → Tally → List ℕ
tally_text seed tally =
    count_text (codes "generated ") seed
    ++ (count_text (codes "good ") tally.counts.good
    ++ (count_text (codes "cut ") tally.counts.cut
    ++ (count_text (codes "off ") tally.counts.off
    ++ (flat_map row_text tally.counts.checks
    ++ count_text (codes "end ") tally.lines))))

-- Answers that are counted one after another.
use Rattle.std.specs.Prelude.{◌≡◌, ℕ, zero, suc, ◌+◌, ◌-◌, ◌<◌, ◌≤◌, ◌^◌, Bool, true, false, if◌then◌else◌, List, [], ◌∷◌, length, map, get_or, All}
use Rattle.std.proofs.Common.{arith, refl, sym, ap, ◌∙◌, subst, set}
use Rattle.std.proofs.lemmas.List.{length-map, get_or-map}
use Rattle.model_sense.specs.declared.sense.Sense.{Sense}
use Rattle.model_sense.specs.declared.answer.Answer.TheVariants as answers
use Rattle.model_target.specs.Senses.{senses}
use Rattle.ram_script.specs.declared.counts.AnswerCounts.{AnswerCounts}
use Rattle.ram_script.specs.declared.counts.SenseCount.{SenseCount}
use Rattle.ram_machine.specs.declared.reply.Reply.{Reply}
use Rattle.ram_machine.specs.declared.reply.Reply.TheVariants as replies
use Rattle.ram_script.specs.Counting.{is_same_sense, is_told_good, is_cut, is_off, is_check, times, sense_count_of, counts_in, raised_by, with_reply, AreAtMost}
use Rattle.ram_script.specs.Answered.{AnsweredLine}

-- one more where it is so
abbrev one_if : Bool → ℕ → ℕ
one_if is_so n = if is_so then n + 1 else n

-- the count of a sense, one more where it came
abbrev row_after : Reply → List AnsweredLine → Sense → SenseCount
row_after reply events sense = record { sense = sense; times = one_if (is_check sense reply) (times (is_check sense) events) }

-- the counts of these lines and one more with this reply
abbrev counts_after : Reply → List AnsweredLine → AnswerCounts
counts_after reply events = record {
  good = one_if (is_told_good reply) (times is_told_good events);
  cut = one_if (is_cut reply) (times is_cut events);
  off = one_if (is_off reply) (times is_off events);
  checks = map (row_after reply events) senses;
}

abbrev row_of : Sense → ℕ → SenseCount
row_of sense n = record { sense = sense; times = n }

row_raised : (sense : Sense) (n : ℕ) (same : Bool) → (if same then row_of sense (n + 1) else row_of sense n) ≡ row_of sense (one_if same n)
row_raised sense n true = refl
row_raised sense n false = refl

-- the counts of all senses after this one came
rows_raised : (cdb : List ℕ) (given : Sense) (events : List AnsweredLine) (of : List Sense)
    → map (raised_by given) (map (sense_count_of events) of) ≡ map (row_after (replies.Command cdb (answers.Check given)) events) of
rows_raised cdb given events [] = refl
rows_raised cdb given events (sense ∷ of) =
    ap (λ (row : SenseCount). row ∷ map (raised_by given) (map (sense_count_of events) of)) (row_raised sense (times (is_check sense) events) (is_same_sense sense given))
    ∙ ap (λ (rows : List SenseCount). row_after (replies.Command cdb (answers.Check given)) events sense ∷ rows) (rows_raised cdb given events of)

-- the counts of these lines, but with other counts of senses
abbrev with_checks : List AnsweredLine → List SenseCount → AnswerCounts
with_checks events rows = record { good = times is_told_good events; cut = times is_cut events; off = times is_off events; checks = rows }

by_reply : (reply : Reply) (events : List AnsweredLine) → with_reply (counts_in events) reply ≡ counts_after reply events
by_reply replies.Nothing events = refl
by_reply (replies.Event event) events = refl
by_reply (replies.Command cdb answers.Good) events = refl
by_reply (replies.Command cdb answers.Cut) events = refl
by_reply (replies.Command cdb answers.Off) events = refl
by_reply (replies.Command cdb answers.Fault) events = refl
by_reply (replies.Command cdb (answers.Check given)) events =
    ap (λ (rows : List SenseCount). with_checks events rows) (rows_raised cdb given events senses)

-- one line more
pub one_counted : (event : AnsweredLine) (events : List AnsweredLine) → with_reply (counts_in events) event.step.reply ≡ counts_in (event ∷ events)
one_counted event events = by_reply event.step.reply events

-- nothing is above a higher bound
pub at_most_still : (counts : AnswerCounts) (n m : ℕ) → AreAtMost counts n → n ≤ m → AreAtMost counts m
at_most_still counts n m few higher = record {
  good = omega (arith, few.good, higher);
  cut = omega (arith, few.cut, higher);
  off = omega (arith, few.off, higher);
  checks = λ k d below. let row = few.checks k d below in omega (arith, row, higher);
}

raised_at_most : (given : Sense) (row : SenseCount) (n : ℕ) → row.times ≤ n → (same : Bool) → (if same then record row { times = row.times + 1 } else row).times ≤ n + 1
raised_at_most given row n few true = omega (arith, few)
raised_at_most given row n few false = omega (arith, few)

-- no count is above the number of lines after one line more
pub at_most_more : (counts : AnswerCounts) (reply : Reply) (n : ℕ) → AreAtMost counts n → AreAtMost (with_reply counts reply) (n + 1)
at_most_more counts replies.Nothing n few = at_most_still counts n (n + 1) few (omega arith)
at_most_more counts (replies.Event event) n few = at_most_still counts n (n + 1) few (omega arith)
at_most_more counts (replies.Command cdb answers.Good) n few = let more = at_most_still counts n (n + 1) few (omega arith) in
    record { good = omega (arith, few.good); cut = more.cut; off = more.off; checks = more.checks }
at_most_more counts (replies.Command cdb answers.Cut) n few = let more = at_most_still counts n (n + 1) few (omega arith) in
    record { good = more.good; cut = omega (arith, few.cut); off = more.off; checks = more.checks }
at_most_more counts (replies.Command cdb answers.Off) n few = let more = at_most_still counts n (n + 1) few (omega arith) in
    record { good = more.good; cut = more.cut; off = omega (arith, few.off); checks = more.checks }
at_most_more counts (replies.Command cdb answers.Fault) n few = at_most_still counts n (n + 1) few (omega arith)
at_most_more counts (replies.Command cdb (answers.Check given)) n few = let more = at_most_still counts n (n + 1) few (omega arith) in
    record {
      good = more.good;
      cut = more.cut;
      off = more.off;
      checks = λ k d below.
          let inside : k < length counts.checks = omega (arith, below, length-map counts.checks (raised_by given)) in
          subst (λ (row : SenseCount). row.times ≤ n + 1) (sym (get_or-map (raised_by given) counts.checks k d d inside))
          (raised_at_most given (get_or counts.checks k d) n (few.checks k d inside) (is_same_sense (get_or counts.checks k d).sense given));
    }

-- a list of which the first ones are mapped
abbrev pub mapped_to : {X : Type 0} → (X → X) → ℕ → List X → List X
mapped_to f zero xs = xs
mapped_to f (suc k) [] = []
mapped_to f (suc k) (x ∷ xs) = f x ∷ mapped_to f k xs

mapped_next : {X : Type 0} (f : X → X) (xs : List X) (k : ℕ) (d : X) → k < length xs → set (mapped_to f k xs) k (f (get_or xs k d)) ≡ mapped_to f (suc k) xs
mapped_next f [] k d below = absurd (omega (arith, below))
mapped_next f (x ∷ xs) zero d below = refl
mapped_next {X = X} f (x ∷ xs) (suc k) d below = ap (λ (l : List X). f x ∷ l) (mapped_next f xs k d (omega (arith, below)))

mapped_behind : {X : Type 0} (f : X → X) (xs : List X) (k : ℕ) (d : X) → get_or (mapped_to f k xs) k d ≡ get_or xs k d
mapped_behind f xs zero d = refl
mapped_behind f [] (suc k) d = refl
mapped_behind f (x ∷ xs) (suc k) d = mapped_behind f xs k d

mapped_all : {X : Type 0} (f : X → X) (xs : List X) (k : ℕ) → length xs ≤ k → mapped_to f k xs ≡ map f xs
mapped_all f [] zero all = refl
mapped_all f [] (suc k) all = refl
mapped_all f (x ∷ xs) zero all = absurd (omega (arith, all))
mapped_all {X = X} f (x ∷ xs) (suc k) all = ap (λ (l : List X). f x ∷ l) (mapped_all f xs k (omega (arith, all)))

-- The counts of the senses so far are raised, and the others are as they were.
module _ (given : Sense) (rows now : List SenseCount) (k : ℕ) (is : now ≡ mapped_to (raised_by given) k rows) where
  same_row : (d : SenseCount) → get_or now k d ≡ get_or rows k d
  same_row d = ap (λ (l : List SenseCount). get_or l k d) is ∙ mapped_behind (raised_by given) rows k d

  -- the next one can be raised
  pub row_fits : (d : SenseCount) → k < length rows → All (λ (row : SenseCount). row.times < 2 ^ 64 - 1) rows → (get_or now k d).times < 2 ^ 64 - 1
  row_fits d below fit =
      subst (λ (row : SenseCount). row.times < 2 ^ 64 - 1) (sym (same_row d)) (fit k d below)

  -- it is raised
  pub one_raised : (d row : SenseCount) → k < length rows → row ≡ raised_by given (get_or now k d) → set now k row ≡ mapped_to (raised_by given) (k + 1) rows
  one_raised d row below raised =
      let next : suc k ≡ k + 1 = omega arith in
      ap (λ (x : SenseCount). set now k x) (raised ∙ ap (raised_by given) (same_row d))
      ∙ ap (λ (l : List SenseCount). set l k (raised_by given (get_or rows k d))) is
      ∙ mapped_next (raised_by given) rows k d below
      ∙ ap (λ (n : ℕ). mapped_to (raised_by given) n rows) next

  -- all are
  pub all_raised : length rows ≤ k → now ≡ map (raised_by given) rows
  all_raised all = is ∙ mapped_all (raised_by given) rows k all

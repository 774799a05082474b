-- By the number of the words, the first of them, and whether the others differ.
use Rattle.std.specs.Borrow.{Bor}
use Rattle.std.proofs.Common.{rules, ◌∙◌, ap, arith, sym, ℕ, List, ◌∷◌, [], get_or, not}
use Rattle.std.proofs.lemmas.Bool.{false≢true, not-false}
use Rattle.std.proofs.lemmas.Slice.Eq.{bytes_eq-Decides}
use Rattle.ram_run.proofs.Few.{map_of_three}
use Rattle.ram_run.proofs.Sessions.{pair_words}
use Rattle.ram_run.proofs.form.mirror_of.Goals.{in_default-via-then-words-lt3, in_default-via-in-len3+then-eq+else-ne, in_default-via-in-len3+else-eq, in_default-via-else-words-lt3+else-words-lt4}
use Rattle.ram_run.proofs.form.mirror_of.Goals as goal

abbrev nothing : Bor (List ℕ)
nothing = record { ref_ptr = (0, 0); now = [] }

pub returns-in-len3 : goal.returns-in-len3
returns-in-len3 c =
    let first : List ℕ = (get_or c.args.words.now 0 nothing).now in
    let second : List ℕ = (get_or c.args.words.now 1 nothing).now in
    let third : List ℕ = (get_or c.args.words.now 2 nothing).now in (
      map_of_three (λ (word : Bor (List ℕ)). word.now) c.args.words.now nothing (omega (arith, c.in-len3.len_at_least, c.in-len3.len_below))
          ∙ ap (λ (head : List ℕ). head ∷ second ∷ third ∷ []) ((bytes_eq-Decides first (109 ∷ 105 ∷ 114 ∷ 114 ∷ 111 ∷ 114 ∷ [])).0 (sym c.eq.ensures ∙ c.if-eq.true)),
      λ same. false≢true (sym (ap not ((bytes_eq-Decides second third).1 same)) ∙ sym c.ne.ensures ∙ c.if-ne.true),
    )

pub returns-in_default : goal.returns-in_default
returns-in_default c = λ is.
    let pair = pair_words c.args.words.now nothing is in
    let first : List ℕ = (get_or c.args.words.now 0 nothing).now in
    let second : List ℕ = (get_or c.args.words.now 1 nothing).now in
    let third : List ℕ = (get_or c.args.words.now 2 nothing).now in
    elim c.in_default.branch [
      | in_default-via-then-words-lt3 w ↦ (let three = pair.three in search rules)
      | in_default-via-in-len3+then-eq+else-ne w ↦
          pair.differ ((bytes_eq-Decides second third).0 (not-false _ (sym w.ne.ensures ∙ w.if-ne.false)))
      | in_default-via-in-len3+else-eq w ↦
          false≢true (sym w.if-eq.false ∙ w.eq.ensures ∙ (bytes_eq-Decides first (109 ∷ 105 ∷ 114 ∷ 114 ∷ 111 ∷ 114 ∷ [])).1 pair.named)
      | in_default-via-else-words-lt3+else-words-lt4 w ↦ (let three = pair.three in search rules)
    ]

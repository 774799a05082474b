use Rattle.std.proofs.Common.{rules, ◌∙◌, ap, arith, refl, sym, List, ℕ, ◌∷◌, [], get_or}
use Rattle.std.specs.Borrow.{Bor}
use Rattle.std.proofs.lemmas.Bool.{false≢true}
use Rattle.std.proofs.lemmas.Slice.Eq.{bytes_eq-Decides}
use Rattle.ram_run.specs.Words.{seed_of}
use Rattle.ram_run.proofs.Few.{map_of_one, map_of_two, map_of_three, by_number, not_served}
use Rattle.ram_run.proofs.Sessions.{longer_form}
use Rattle.ram_run.proofs.form.form_of.Goals.{in_default-via-then-words-lt1, in_default-via-in-len1-2+else-eq-2, in_default-via-in-len2-4+else-eq-6, in_default-via-in-len3+else-eq-7, in_default-via-else-words-lt1+else-words-lt2+else-words-lt3+else-words-lt4}
use Rattle.ram_run.proofs.form.form_of.Goals as goal

pub returns-in-len1 : goal.returns-in-len1
returns-in-len1 c =
    let none : Bor (List ℕ) = record { ref_ptr = (0, 0); now = [] } in
    map_of_one (λ (word : Bor (List ℕ)). word.now) c.args.words.now none (omega (arith, c.in-len1.len_at_least, c.in-len1.len_below))
    ∙ ap (λ (word : List ℕ). word ∷ []) ((bytes_eq-Decides (get_or c.args.words.now 0 none).now (45 ∷ 45 ∷ 104 ∷ 101 ∷ 108 ∷ 112 ∷ [])).0 (sym c.eq.ensures ∙ c.if-eq.true))

pub returns-in-len1-2 : goal.returns-in-len1-2
returns-in-len1-2 c =
    let none : Bor (List ℕ) = record { ref_ptr = (0, 0); now = [] } in
    map_of_one (λ (word : Bor (List ℕ)). word.now) c.args.words.now none (omega (arith, c.in-len1.len_at_least, c.in-len1.len_below))
    ∙ ap (λ (word : List ℕ). word ∷ []) ((bytes_eq-Decides (get_or c.args.words.now 0 none).now (45 ∷ 45 ∷ 118 ∷ 101 ∷ 114 ∷ 115 ∷ 105 ∷ 111 ∷ 110 ∷ [])).0 (sym c.eq-then-words-lt2.ensures ∙ c.if-eq-2.true))

pub returns-in-len2 : goal.returns-in-len2
returns-in-len2 c =
    let none : Bor (List ℕ) = record { ref_ptr = (0, 0); now = [] } in
    map_of_two (λ (word : Bor (List ℕ)). word.now) c.args.words.now none (omega (arith, c.in-len2.len_at_least, c.in-len2.len_below))
    ∙ ap (λ (first : List ℕ). first ∷ (get_or c.args.words.now 1 none).now ∷ []) ((bytes_eq-Decides (get_or c.args.words.now 0 none).now (114 ∷ 117 ∷ 110 ∷ [])).0 (sym c.eq-then-words-lt3.ensures ∙ c.if-eq-3.true))

pub returns-in-len2-2 : goal.returns-in-len2-2
returns-in-len2-2 c =
    let none : Bor (List ℕ) = record { ref_ptr = (0, 0); now = [] } in
    map_of_two (λ (word : Bor (List ℕ)). word.now) c.args.words.now none (omega (arith, c.in-len2.len_at_least, c.in-len2.len_below))
    ∙ ap (λ (first : List ℕ). first ∷ (get_or c.args.words.now 1 none).now ∷ []) ((bytes_eq-Decides (get_or c.args.words.now 0 none).now (103 ∷ 114 ∷ 111 ∷ 117 ∷ 112 ∷ 115 ∷ [])).0 (sym c.eq-then-words-lt3-2.ensures ∙ c.if-eq-4.true))

pub returns-in-len2-3 : goal.returns-in-len2-3
returns-in-len2-3 c =
    let none : Bor (List ℕ) = record { ref_ptr = (0, 0); now = [] } in
    map_of_two (λ (word : Bor (List ℕ)). word.now) c.args.words.now none (omega (arith, c.in-len2.len_at_least, c.in-len2.len_below))
    ∙ ap (λ (first : List ℕ). first ∷ (get_or c.args.words.now 1 none).now ∷ []) ((bytes_eq-Decides (get_or c.args.words.now 0 none).now (97 ∷ 117 ∷ 100 ∷ 105 ∷ 116 ∷ [])).0 (sym c.eq-then-words-lt3-3.ensures ∙ c.if-eq-5.true))

pub returns-in-len2-4 : goal.returns-in-len2-4
returns-in-len2-4 c =
    let none : Bor (List ℕ) = record { ref_ptr = (0, 0); now = [] } in
    map_of_two (λ (word : Bor (List ℕ)). word.now) c.args.words.now none (omega (arith, c.in-len2.len_at_least, c.in-len2.len_below))
    ∙ ap (λ (first : List ℕ). first ∷ (get_or c.args.words.now 1 none).now ∷ []) ((bytes_eq-Decides (get_or c.args.words.now 0 none).now (99 ∷ 104 ∷ 101 ∷ 99 ∷ 107 ∷ [])).0 (sym c.eq-then-words-lt3-4.ensures ∙ c.if-eq-6.true))

pub returns-in-Some : goal.returns-in-Some
returns-in-Some c =
    let none : Bor (List ℕ) = record { ref_ptr = (0, 0); now = [] } in (
      (get_or c.args.words.now 2 none).now,
      map_of_three (λ (word : Bor (List ℕ)). word.now) c.args.words.now none (omega (arith, c.in-len3.len_at_least, c.in-len3.len_below))
          ∙ ap (λ (first : List ℕ). first ∷ (get_or c.args.words.now 1 none).now ∷ (get_or c.args.words.now 2 none).now ∷ []) ((bytes_eq-Decides (get_or c.args.words.now 0 none).now (103 ∷ 101 ∷ 110 ∷ 101 ∷ 114 ∷ 97 ∷ 116 ∷ 101 ∷ [])).0 (sym c.eq-then-words-lt4.ensures ∙ c.if-eq-7.true)),
      ap seed_of (sym c.as_bytes.ensures.value) ∙ sym c.seed_of.ensures ∙ c.in-Some.is,
    )

abbrev nothing : Bor (List ℕ)
nothing = record { ref_ptr = (0, 0); now = [] }

pub returns-in_default : goal.returns-in_default
returns-in_default c =
    let head : List ℕ = (get_or c.args.words.now 0 nothing).now in
    longer_form _ c.longer_form_of.result c.longer_form_of.ensures (elim c.in_default.branch [
      | in_default-via-then-words-lt1 w ↦ λ nbd mirror form. by_number c.args.words.now nothing refl form (λ kind n is. search rules) (λ n is. search rules) (λ n is. search rules) (λ n is. search rules) (λ n is. search rules) (λ n is. search rules) nbd mirror
      | in_default-via-in-len1-2+else-eq-2 w ↦ λ nbd mirror form. by_number c.args.words.now nothing refl form (λ kind n is. absurd (omega (arith, n, w.in-len1.len_below))) (λ n is. absurd (omega (arith, n, w.in-len1.len_below)))
          (λ n is. false≢true (sym w.if-eq.false ∙ w.eq.ensures ∙ (bytes_eq-Decides head (45 ∷ 45 ∷ 104 ∷ 101 ∷ 108 ∷ 112 ∷ [])).1 is))
          (λ n is. false≢true (sym w.if-eq-2.false ∙ w.eq-then-words-lt2.ensures ∙ (bytes_eq-Decides head (45 ∷ 45 ∷ 118 ∷ 101 ∷ 114 ∷ 115 ∷ 105 ∷ 111 ∷ 110 ∷ [])).1 is))
          (λ n is. absurd (omega (arith, n, w.in-len1.len_below))) (λ n is. absurd (omega (arith, n, w.in-len1.len_below))) nbd mirror
      | in_default-via-in-len2-4+else-eq-6 w ↦ λ nbd mirror form. by_number c.args.words.now nothing refl form (λ kind n is. not_served head (λ e. false≢true (sym w.if-eq-3.false ∙ w.eq-then-words-lt3.ensures ∙ (bytes_eq-Decides head (114 ∷ 117 ∷ 110 ∷ [])).1 e))
          (λ e. false≢true (sym w.if-eq-4.false ∙ w.eq-then-words-lt3-2.ensures ∙ (bytes_eq-Decides head (103 ∷ 114 ∷ 111 ∷ 117 ∷ 112 ∷ 115 ∷ [])).1 e)) kind is)
          (λ n is. absurd (omega (arith, n, w.in-len2.len_below))) (λ n is. absurd (omega (arith, n, w.in-len2.len_at_least))) (λ n is. absurd (omega (arith, n, w.in-len2.len_at_least)))
          (λ n is. false≢true (sym w.if-eq-5.false ∙ w.eq-then-words-lt3-3.ensures ∙ (bytes_eq-Decides head (97 ∷ 117 ∷ 100 ∷ 105 ∷ 116 ∷ [])).1 is))
          (λ n is. false≢true (sym w.if-eq-6.false ∙ w.eq-then-words-lt3-4.ensures ∙ (bytes_eq-Decides head (99 ∷ 104 ∷ 101 ∷ 99 ∷ 107 ∷ [])).1 is)) nbd mirror
      | in_default-via-in-len3+else-eq-7 w ↦ λ nbd mirror form. by_number c.args.words.now nothing refl form (λ kind n is. absurd (omega (arith, n, w.in-len3.len_at_least)))
          (λ n is. false≢true (sym w.if-eq-7.false ∙ w.eq-then-words-lt4.ensures ∙ (bytes_eq-Decides head (103 ∷ 101 ∷ 110 ∷ 101 ∷ 114 ∷ 97 ∷ 116 ∷ 101 ∷ [])).1 is))
          (λ n is. absurd (omega (arith, n, w.in-len3.len_at_least))) (λ n is. absurd (omega (arith, n, w.in-len3.len_at_least))) (λ n is. absurd (omega (arith, n, w.in-len3.len_at_least))) (λ n is. absurd (omega (arith, n, w.in-len3.len_at_least))) nbd mirror
      | in_default-via-else-words-lt1+else-words-lt2+else-words-lt3+else-words-lt4 w ↦ λ nbd mirror form. by_number c.args.words.now nothing refl form (λ kind n is. search rules) (λ n is. search rules) (λ n is. search rules) (λ n is. search rules) (λ n is. search rules) (λ n is. search rules) nbd mirror
    ])

-- By the number of the words, the first of them, and the faults behind the name.
use Rattle.std.specs.Borrow.{Bor}
use Rattle.std.proofs.Common.{rules, ◌∙◌, sym, ℕ, List, ◌∷◌, [], get_or}
use Rattle.std.proofs.lemmas.Bool.{false≢true}
use Rattle.std.proofs.lemmas.Slice.Eq.{bytes_eq-Decides}
use Rattle.ram_run.proofs.Sessions.{asks_for_session, session_words}
use Rattle.ram_run.proofs.form.session_of.Goals.{in_default-via-then-words-lt2, in_default-via-in-len2-up+then-eq+else-are_faults, in_default-via-in-len2-up+else-eq}
use Rattle.ram_run.proofs.form.session_of.Goals as goal

abbrev nothing : Bor (List ℕ)
nothing = record { ref_ptr = (0, 0); now = [] }

pub returns-in-len2-up : goal.returns-in-len2-up
returns-in-len2-up c =
    asks_for_session c.args.words.now nothing c.in-len2-up.len_at_least
    ((bytes_eq-Decides (get_or c.args.words.now 0 nothing).now (110 ∷ 98 ∷ 100 ∷ [])).0 (sym c.eq.ensures ∙ c.if-eq.true))
    (sym c.are_faults.ensures ∙ c.if-are_faults.true)

pub returns-in_default : goal.returns-in_default
returns-in_default c = λ is.
    let session = session_words c.args.words.now nothing is in
    elim c.in_default.branch [
      | in_default-via-then-words-lt2 w ↦ (let two = session.two in search rules)
      | in_default-via-in-len2-up+then-eq+else-are_faults w ↦
          false≢true (sym w.if-are_faults.false ∙ w.are_faults.ensures ∙ session.all)
      | in_default-via-in-len2-up+else-eq w ↦
          false≢true (sym w.if-eq.false ∙ w.eq.ensures ∙ (bytes_eq-Decides (get_or c.args.words.now 0 nothing).now (110 ∷ 98 ∷ 100 ∷ [])).1 session.named)
    ]

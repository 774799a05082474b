use Rattle.std.specs.Prelude.{◌≡◌, ℕ, List, ◌++◌, length, take, drop}
use Rattle.std.proofs.Common.{rules, sym, ap, ◌∙◌}
use Rattle.std.proofs.Math.Seq.{take-append_seam}
use Rattle.ram_mmc.proofs.transfers.read.Goals as goal
use Rattle.ram_mmc.proofs.transfers.read.Goals.{in-Good, in_default, then-not-matches, else-not-matches}

-- what was read into a whole list is what it has
read_back : (bytes held : List ℕ) (n : ℕ) → length bytes ≡ n → take n (bytes ++ drop (length bytes) held) ≡ bytes
read_back bytes held n whole =
    ap (λ (m : ℕ). take m (bytes ++ drop (length bytes) held)) (sym whole) ∙ take-append_seam bytes (drop (length bytes) held)

pub returns-clause-rule : goal.returns-clause-rule
returns-clause-rule g c = record {
  out = c.read-out.result;
  bytes = c.read-out.new.into;
  cause = c.read-out.ensures.cause;
  step = c.read-out.ensures.step;
  answer_is = c.read_answer.ensures;
  data_is = elim c.if-not-matches.branch [
    | then-not-matches w ↦ elim c.match-matches.branch [ in-Good m ↦ search rules | in_default m ↦ search rules ]
    | else-not-matches w ↦ elim c.match-matches.branch [
      | in-Good m ↦ rw (m.in-Good.is, w.data_in-is) (read_back c.read-out.new.into c.resize.new.self.items c.resize.new.self.len (c.read-out.auto.into ∙ c.deref_mut.ensures.len))
      | in_default m ↦ search rules
    ]
  ];
}

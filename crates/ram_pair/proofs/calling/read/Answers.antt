use Rattle.std.specs.Prelude.{◌≡◌, ℕ, List, ◌++◌, length, take, drop}
use Rattle.std.proofs.Common.{rules, sym, ap, ◌∙◌}
use Rattle.std.proofs.Math.Seq.{take-append_seam}
use Rattle.model_drive.specs.Reads.{ReadStep}
use Rattle.model_drive.proofs.Found.{read_found}
use Rattle.ram_mirror.specs.Mirrors.{mirror_stands}
use Rattle.ram_pair.proofs.Calls.{leads_on}
use Rattle.ram_pair.proofs.calling.read.Goals as goal

-- what was read into a whole list is what it has
read_back : (bytes held : List ℕ) (n : ℕ) → length bytes ≡ n → take n (bytes ++ drop (length bytes) held) ≡ bytes
read_back bytes held n whole =
    ap (λ (m : ℕ). take m (bytes ++ drop (length bytes) held)) (sym whole) ∙ take-append_seam bytes (drop (length bytes) held)

pub returns-clause-call : goal.returns-clause-call
returns-clause-call g c =
    let whole : length c.read.new.into ≡ c.resize.new.self.len = c.read.auto.into ∙ c.deref_mut.ensures.len in
    rw (read_back c.read.new.into c.resize.new.self.items c.resize.new.self.len whole) (record {
      out = c.read.result;
      cause = c.read.ensures.cause;
      step = leads_on g.S.Sectors g.met.S.Sectors.laws c.args.mirror.now c.read.new.self (λ s t. ReadStep (λ x. x ≡ t) s c.args.lba c.args.n c.read.new.into c.read.result)
          (λ s is. read_found (mirror_stands g.S.Sectors g.S.Sectors c.read.new.self) s c.args.lba c.args.n c.read.new.into c.read.result (c.read.ensures.step s is));
      whole = whole ∙ (search rules);
      told_is = c.read_told.ensures;
    })

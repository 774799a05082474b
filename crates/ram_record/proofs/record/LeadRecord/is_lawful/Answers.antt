use Rattle.std.proofs.Common.{ℕ, ◌≡◌, ◌<◌, List, All, length, subst}
use Rattle.model_lists.specs.declared.records.TheConstants.{REGIONS}
use Rattle.ram_record.proofs.record.LeadRecord.is_lawful.Goals as goal

pub returns : goal.returns
returns c =
    let P : List ℕ → Type 0 = λ l. length l ≡ REGIONS in
    let Q : List ℕ → Type 0 = All (λ byte. byte < 256) in
    record {
      numbered = c.has_four_bytes.ensures;
      regions = subst P c.bytes-bytes.ensures.same c.bytes-bytes.ensures.len;
      bytes = subst Q c.bytes-bytes.ensures.same c.bytes-bytes.ensures.fit;
    }

use Rattle.std.proofs.Common.{ℕ, List, false, ap}
use Rattle.model_lists.specs.Records.{LeadRecord}
use Rattle.ram_record.proofs.record.LeadRecord.clear.Goals as goal

pub returns : goal.returns
returns c = let make : List ℕ → LeadRecord = λ d. record { generation = 0; together = false; dirty = d } in ap make c.fill.ensures

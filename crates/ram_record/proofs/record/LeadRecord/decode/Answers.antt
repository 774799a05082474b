-- The parts, read one after another.
use Rattle.std.proofs.Common.{◌≡◌, ℕ, ◌-◌, ◌<◌, List, length, take, drop, get_or, refl, sym, ◌∙◌, ap, subst, arith, length-drop}
use Rattle.std.proofs.lemmas.List.{length-take-le}
use Rattle.std.proofs.lemmas.Bool.{false≢true}
use Rattle.model_lists.specs.declared.records.TheConstants.{REGIONS}
use Rattle.model_lists.specs.Records.{LeadRecord, IsRecordText}
use Rattle.model_lists.proofs.Spelled.{rest_of}
use Rattle.model_lists.proofs.RecordTexts.{text_read, no_gap, no_begin}
use Rattle.ram_record.specs.Record.{record_of}
use Rattle.ram_record.proofs.record.LeadRecord.decode.Goals as goal

pub returns-then-not-is_zero : goal.returns-then-not-is_zero
returns-then-not-is_zero c =
    let bytes = c.bytes-bytes.result.now in
    let R : List ℕ → Type 0 = λ block. (value : LeadRecord) → IsRecordText value block → ⊥ in
    subst R c.bytes-bytes.ensures.same (no_gap bytes (take (length bytes - 2304) (drop 2304 bytes)) (rest_of 2304 bytes) (λ zero. false≢true (c.if-not-is_zero.ensures.1 zero)))

pub returns : goal.returns
returns c =
    let bytes = c.bytes-bytes.result.now in
    let value : LeadRecord = record { generation = c.generation_of-self.result; together = c.in-Some.together; dirty = c.copy_from.new.self } in
    let R : List ℕ → Type 0 = IsRecordText value in
    let P : List ℕ → Type 0 = λ l. length l ≡ REGIONS in
    let long : length (take REGIONS (drop 8 bytes)) ≡ REGIONS = length-take-le REGIONS (drop 8 bytes) (omega (arith, length-drop 8 bytes, c.bytes-bytes.ensures.len)) in
    subst R c.bytes-bytes.ensures.same (text_read value bytes (take (length bytes - 2304) (drop 2304 bytes))
    record { numbered = c.generation_of-self.type_inv; regions = subst P (sym c.copy_from.ensures.same) long; bytes = c.copy_from.ensures.fit }
    c.bytes-bytes.ensures.len c.in-Some.ensures c.generation_of-self.ensures c.copy_from.ensures.same (rest_of 2304 bytes) (c.if-not-is_zero.ensures.0 refl))

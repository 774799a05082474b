-- The parts, one after another, are the text.
use Rattle.std.proofs.Common.{◌≡◌, ℕ, ◌+◌, ◌<◌, List, All, length, get_or, sym, ◌∙◌, ap, subst, arith}
use Rattle.model_lists.specs.declared.records.TheConstants.{REGIONS}
use Rattle.model_lists.proofs.RecordTexts.{text_written}
use Rattle.ram_record.specs.Record.{record_of}
use Rattle.ram_record.proofs.record.LeadRecord.encode.Goals as goal

pub returns : goal.returns
returns c =
    let long : length c.args.into.now ≡ 32768 = sym (ap length c.bytes_mut.ensures.same) ∙ c.bytes_mut.ensures.len in
    let P : List ℕ → Type 0 = λ l. length l ≡ REGIONS in
    let Q : List ℕ → Type 0 = All (λ byte. byte < 256) in
    let gap : length c.split_at_mut-regions.result.1.now + REGIONS ≡ 32760 =
    omega (arith, c.split_at_mut-regions.ensures.back_len, c.split_at_mut-begin.ensures.back_len, c.bytes_mut.ensures.len) in
    text_written (record_of c.args.self.now) c.args.into.now c.copy_from_slice.new.self c.copy_from_slice-2.new.self c.fill.new.self (length c.split_at_mut-regions.result.1.now)
    record { numbered = c.begin_bytes.ensures.fits; regions = subst P c.bytes.ensures.same c.bytes.ensures.len; bytes = subst Q c.bytes.ensures.same c.bytes.ensures.fit } long (c.copy_from_slice.ensures.after ∙ c.begin_bytes.ensures.bytes) (c.copy_from_slice-2.ensures.after ∙ c.bytes.ensures.same) gap (c.fill.ensures.after (λ y same. same))

use Rattle.std.specs.Prelude.{◌≡◌, ℕ, List, length}
use Rattle.std.proofs.Common.{ap, ◌∙◌, inl, inr, subst}
use Rattle.model_buffer.specs.Buffer.{with_newest}
use Rattle.model_sectors.specs.Requests.{merged_in}
use Rattle.ram_transfer.proofs.reading.put_part.Goals as goal

pub returns-then-not-lookup : goal.returns-then-not-lookup
returns-then-not-lookup c = record {
  bytes = c.merge.new.block;
  buffer_is = c.put.ensures ∙ ap (with_newest c.args.part.block c.merge.new.block) c.if-not-lookup.ensures.found.1;
  came = inr (
    c.if-not-lookup.ensures.found.0,
    subst (λ (room : List ℕ). length room ≡ 32768) c.if-not-lookup.ensures.found.2 c.merge.ensures.len,
    c.merge.ensures.merged ∙ ap (merged_in c.args.part.request.lba c.args.part.request.n c.args.into.now c.args.part.block) c.if-not-lookup.ensures.found.2,
  );
}

pub returns-else-not-lookup : goal.returns-else-not-lookup
returns-else-not-lookup c = record { bytes = c.lookup.new.into; buffer_is = c.if-not-lookup.ensures.found.1; came = inl c.if-not-lookup.ensures.found.0 }

-- What is so of a part is so of the block after k others of its request.
use Rattle.std.specs.Prelude.{◌≡◌, ℕ, ◌+◌}
use Rattle.std.proofs.Common.{subst}
use Rattle.model_sectors.specs.Requests.{block_with}
use Rattle.ram_requests.specs.declared.requests.Request.{Request}
use Rattle.ram_requests.specs.declared.parts.Part.{Part}

pub in_block : (P : (lba n block : ℕ) → Type 0) (part : Part) (request : Request) (k : ℕ) → part.request ≡ request → part.block ≡ block_with request.lba + k
    → P part.request.lba part.request.n part.block → P request.lba request.n (block_with request.lba + k)
in_block P part request k of_request after_k p =
    subst (λ (block : ℕ). P request.lba request.n block) after_k (subst (λ (q : Request). P q.lba q.n part.block) of_request p)

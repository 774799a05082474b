-- An image of another length than its header asks for is no disc's.
use Rattle.std.specs.Prelude.{◌≡◌, ◌≢◌, ℕ, ◌<◌, ◌⊎◌, Option, Some, None, IfSome, List, length}
use Rattle.std.proofs.Common.{ap, ◌∙◌, inl, inr, arith}
use Rattle.model_geometry.specs.Geometry.{Shape, total}
use Rattle.model_image.specs.Cells.{image_len}
use Rattle.model_image.specs.Image.{HasHeader}
use Rattle.model_image.proofs.Headers.{total_by_header}
use Rattle.ram_audit.specs.Discs.{IsNoDisc}
use Rattle.ram_audit.proofs.Adding.{if_some}

no_disc : (len : ℕ) (held : List ℕ) → (len ≡ length held) × ((len < 16) ⊎ ((shape : Shape) × HasHeader shape held × (len ≢ image_len (total shape)))) → IsNoDisc held
no_disc len held (long, inl short) = λ shape one disc. absurd (omega (arith, long, short, disc.as_long))
no_disc len held (long, inr (z, header, other)) = λ shape one disc. other (long ∙ disc.as_long ∙ ap image_len (total_by_header shape z held disc.has_header header))

pub no_disc_by_length : (len : ℕ) (bytes : Option (List ℕ)) → IfSome bytes (λ held. (len ≡ length held) × ((len < 16) ⊎ ((shape : Shape) × HasHeader shape held × (len ≢ image_len (total shape))))) → IfSome bytes IsNoDisc
no_disc_by_length len bytes bad = if_some bytes (no_disc len) bad

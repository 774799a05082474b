-- The last of the three writes of a block's cell, and what all three then did.
use Rattle.std.specs.Prelude.{◌≡◌, ℕ, ◌<◌, Option, List, [], ◌∷◌, length}
use Rattle.std.specs.Option.{option_map, ForSome}
use Rattle.std.proofs.Common.{◌∙◌, arith}
use Rattle.model_bytes.specs.Bytes.{put_at}
use Rattle.model_image.specs.Cells.{state_offset, data_offset, image_len}
use Rattle.model_image.proofs.CellWrites.{known-written, known-stopped_third}
use Rattle.ram_outside.specs.Image.{WriteAtRule}
use Rattle.ram_outside.specs.declared.image.Moved.{Moved}
use Rattle.ram_outside.specs.declared.image.Moved.TheVariants as moves
use Rattle.ram_image.specs.CellCalls.{call_between, WriteCellRule}

pub last_write : (total block : ℕ) → block < total → (before b1 b2 after : Option (List ℕ)) (from : List ℕ) → ForSome before (λ held. length held ≡ image_len total) → length from ≡ 32768
    → b1 ≡ option_map (put_at (state_offset block) (2 ∷ [])) before → b2 ≡ option_map (put_at (data_offset total block) from) b1 → (f f2 f3 : ℕ) → f2 ≡ f → (r : Moved)
    → WriteAtRule b2 after f2 f3 (state_offset block) (1 ∷ []) r → WriteCellRule (call_between total block before after f f3) from r
last_write total block inside before b1 b2 after from whole long e1 e2 f f2 f3 later moves.Done rule =
    (known-written total block inside before from whole long b1 b2 after e1 e2 rule.changed, rule.count ∙ later)
last_write total block inside before b1 b2 after from whole long e1 e2 f f2 f3 later moves.Failed rule =
    (known-stopped_third total block inside before from whole long b1 b2 after e1 e2 rule.1, omega (arith, later, rule.0))

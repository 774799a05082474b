-- What is served, as the code has it.
use Rattle.std.specs.Prelude.{ℕ, Option, Some, None, List}
use Rattle.model_nbd.specs.Handshake.{Export, Serving, Nothing}

-- a disc of this many bytes; or none, and why not (this project's own)
abbrev pub export_of : Option ℕ → List ℕ → Export
export_of (Some size) why = Serving size
export_of None why = Nothing why

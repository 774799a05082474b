-- When each reason to refuse a command is the answer: for the law that says so.
use Rattle.std.specs.Prelude.{ℕ, IsTrue, List, length}
use Rattle.std.specs.Bool.{IsFalse}
use Rattle.model_commands.specs.declared.Operation.{Operation}
use Rattle.model_cdb.specs.Decoding.{has_bad_field, asks_for_saved_values, has_wrong_length, has_refused_parameters}

-- the command block is too short, or a field has a value that is not taken (this project's own, as all here)
abbrev pub HasBadField : Operation → (cdb : List ℕ) → Type 0
HasBadField operation cdb = IsTrue (has_bad_field operation cdb)

-- it is not so
abbrev pub HasGoodFields : Operation → (cdb : List ℕ) → Type 0
HasGoodFields operation cdb = IsFalse (has_bad_field operation cdb)

-- the fields are taken, and saved values are asked for
abbrev pub AsksForSaved : Operation → (cdb : List ℕ) → Type 0
AsksForSaved operation cdb = HasGoodFields operation cdb × IsTrue (asks_for_saved_values operation cdb)

-- the command block is taken
abbrev pub HasGoodBlock : Operation → (cdb : List ℕ) → Type 0
HasGoodBlock operation cdb = HasGoodFields operation cdb × IsFalse (asks_for_saved_values operation cdb)

-- the command block is taken, and the data have another length
abbrev pub HasBadLength : Operation → (cdb payload : List ℕ) → Type 0
HasBadLength operation cdb payload = HasGoodBlock operation cdb
    × IsTrue (has_wrong_length operation cdb (length payload))

-- the command block and the length of the data are taken
abbrev pub HasGoodLength : Operation → (cdb payload : List ℕ) → Type 0
HasGoodLength operation cdb payload =
    HasGoodBlock operation cdb × IsFalse (has_wrong_length operation cdb (length payload))

-- they are, and the parameter list is not
abbrev pub HasBadList : Operation → (cdb payload : List ℕ) → Type 0
HasBadList operation cdb payload =
    HasGoodLength operation cdb payload × IsTrue (has_refused_parameters operation payload)

-- all is taken
abbrev pub IsAccepted : Operation → (cdb payload : List ℕ) → Type 0
IsAccepted operation cdb payload =
    HasGoodLength operation cdb payload × IsFalse (has_refused_parameters operation payload)

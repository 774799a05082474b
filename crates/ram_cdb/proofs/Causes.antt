-- The first of four reasons that applies, by cases on each.
use Rattle.std.proofs.Common.{rules, ◌≡◌, ◌↔◌, ℕ, Bool, true, false, IsTrue, Option, Some, None, Result, Err, List, [], ◌∷◌, refl, ◌||◌, nat_lt, length}
use Rattle.std.specs.Bool.{IsFalse}
use Rattle.std.specs.List.{find}
use Rattle.model_commands.specs.declared.Operation.{Operation}
use Rattle.model_commands.specs.Commands.{command}
use Rattle.model_sense.specs.Sense.{sense}
use Rattle.model_sense.specs.declared.sense.Sense.{Sense}
use Rattle.model_cdb.specs.declared.commands.Command.{Command}
use Rattle.model_cdb.specs.Decoding.{refusal, unless, decoded_by, has_refused_field, asks_for_saved_values, has_wrong_length, has_refused_parameters, meaning}

-- the answer by four tests
abbrev pub answer : (field saved length list : Bool) → Command → Result Command Sense
answer field saved length list asked =
    unless (find (λ r. r.applies) (refusal field (sense 0x5 0x24 0x00) ∷ refusal saved (sense 0x5 0x39 0x00) ∷ refusal length (sense 0x5 0x1a 0x00) ∷ refusal list (sense 0x5 0x26 0x00) ∷ [])) asked

pub field_cause : (a b c d : Bool) (m : Command) → (answer a b c d m ≡ Err (sense 0x5 0x24 0x00)) ↔ IsTrue a
field_cause true b c d m = (λ is. refl, λ is. refl)
field_cause false true c d m = (λ is. search (rules, is), λ is. search (rules, is))
field_cause false false true d m = (λ is. search (rules, is), λ is. search (rules, is))
field_cause false false false true m = (λ is. search (rules, is), λ is. search (rules, is))
field_cause false false false false m = (λ is. search (rules, is), λ is. search (rules, is))

pub list_cause : (a b c d : Bool) (m : Command) → (answer a b c d m ≡ Err (sense 0x5 0x26 0x00)) ↔ (((IsFalse a × IsFalse b) × IsFalse c) × IsTrue d)
list_cause true b c d m = (λ is. search (rules, is), λ is. search (rules, is.0.0.0))
list_cause false true c d m = (λ is. search (rules, is), λ is. search (rules, is.0.0.1))
list_cause false false true d m = (λ is. search (rules, is), λ is. search (rules, is.0.1))
list_cause false false false true m = (λ is. search rules, λ is. refl)
list_cause false false false false m = (λ is. search (rules, is), λ is. search (rules, is.1))

-- none of the four reasons is an unknown code
other_causes : (a b c d : Bool) (m : Command) → answer a b c d m ≡ Err (sense 0x5 0x20 0x00) → ⊥
other_causes true b c d m is = search (rules, is)
other_causes false true c d m is = search (rules, is)
other_causes false false true d m is = search (rules, is)
other_causes false false false true m is = search (rules, is)
other_causes false false false false m is = search (rules, is)

pub unknown_cause : (operation : Option Operation) (cdb payload : List ℕ)
    → (decoded_by operation cdb payload ≡ Err (sense 0x5 0x20 0x00)) ↔ (operation ≡ None)
unknown_cause None cdb payload = (λ is. refl, λ is. refl)
unknown_cause (Some operation) cdb payload =
    (λ is. absurd (other_causes (nat_lt (length cdb) (command operation).bytes || has_refused_field operation cdb) (asks_for_saved_values operation cdb) (has_wrong_length operation cdb (length payload)) (has_refused_parameters operation payload) (meaning operation cdb payload) is), λ is. search (rules, is))

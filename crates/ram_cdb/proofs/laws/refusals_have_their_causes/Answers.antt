-- By the lemmas on four reasons.
use Rattle.std.proofs.Common.{◌||◌, nat_lt, length}
use Rattle.model_commands.specs.Commands.{command, operation_of}
use Rattle.model_cdb.specs.Decoding.{has_refused_field, asks_for_saved_values, has_wrong_length, has_refused_parameters, meaning}
use Rattle.ram_cdb.proofs.Causes.{field_cause, list_cause, unknown_cause}
use Rattle.ram_cdb.proofs.laws.refusals_have_their_causes.Goals as goal

pub returns-clause-unknown : goal.returns-clause-unknown
returns-clause-unknown c = λ cdb payload. unknown_cause (operation_of cdb) cdb payload

pub returns-clause-field : goal.returns-clause-field
returns-clause-field c =
    λ operation cdb payload. field_cause (nat_lt (length cdb) (command operation).bytes || has_refused_field operation cdb) (asks_for_saved_values operation cdb) (has_wrong_length operation cdb (length payload)) (has_refused_parameters operation payload) (meaning operation cdb payload)

pub returns-clause-parameters : goal.returns-clause-parameters
returns-clause-parameters c =
    λ operation cdb payload. list_cause (nat_lt (length cdb) (command operation).bytes || has_refused_field operation cdb) (asks_for_saved_values operation cdb) (has_wrong_length operation cdb (length payload)) (has_refused_parameters operation payload) (meaning operation cdb payload)

-- By the lemma on each operation.
use Rattle.std.proofs.Common.{length, sym, ◌∙◌}
use Rattle.std.proofs.Math.Facts.{Fits-lt-pow}
use Rattle.model_commands.specs.Commands.{command}
use Rattle.ram_cdb.proofs.Limits.{not_short, within_limits}
use Rattle.ram_cdb.proofs.decoding.decode_as.Goals as goal

pub returns-clause-limits : goal.returns-clause-limits
returns-clause-limits c =
    rw c.meaning.ensures (within_limits c.args.operation c.args.cdb.now c.args.payload.now (λ i. Fits-lt-pow (c.type_inv.cdb i))
    (not_short (length c.args.cdb.now) c.command_bytes.result (command c.args.operation).bytes c.command_bytes.ensures c.if-cdb-command_bytes.false)
    (sym c.has_refused_field.ensures ∙ c.if-has_refused_field.false)
    (sym c.asks_for_saved_values.ensures ∙ c.if-asks_for_saved_values.false)
    (sym c.has_wrong_length.ensures.exact ∙ c.if-has_wrong_length.false))

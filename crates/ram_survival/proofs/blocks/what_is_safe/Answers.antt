use Rattle.ram_survival.proofs.DrainedBlocks.{left_by_refusal}
use Rattle.ram_survival.proofs.SafeBlocks.{written_safe, synced_safe, ticked_safe}
use Rattle.ram_survival.proofs.SettledBlocks.{ejected_safe, turned_off_safe}
use Rattle.ram_survival.proofs.blocks.what_is_safe.Goals as goal

pub returns-clause-written : goal.returns-clause-written
returns-clause-written c = written_safe

pub returns-clause-synchronised : goal.returns-clause-synchronised
returns-clause-synchronised c = synced_safe

pub returns-clause-ejected : goal.returns-clause-ejected
returns-clause-ejected c = ejected_safe

pub returns-clause-turned_off : goal.returns-clause-turned_off
returns-clause-turned_off c = turned_off_safe

pub returns-clause-ticked : goal.returns-clause-ticked
returns-clause-ticked c = ticked_safe

pub returns-clause-refused : goal.returns-clause-refused
returns-clause-refused c = left_by_refusal

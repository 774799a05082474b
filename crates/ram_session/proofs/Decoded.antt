-- The command blocks of requests ask the drive for what the requests ask.
use Rattle.std.proofs.Common.{rules, ◌≡◌, ℕ, ◌*◌, ◌<◌, ◌≤◌, ◌^◌, Bool, Ok, List, [], length}
use Rattle.model_cdb.specs.Decoding.{decoded}
use Rattle.model_cdb.specs.declared.commands.Command.TheVariants as commands
use Rattle.model_nbd.specs.Commands.{Sectors, read_cdb, write_cdb}

pub write_decoded : (part : Sectors) (fua : Bool) (bytes : List ℕ) → part.lba < 2 ^ 32 → part.n ≤ 1024
    → length bytes ≡ 2048 * part.n → decoded (write_cdb fua part) bytes ≡ Ok (commands.Write part.lba part.n fua)
write_decoded part fua bytes small few long = search rules

pub read_decoded : (part : Sectors) → part.lba < 2 ^ 32 → part.n ≤ 1024 → decoded (read_cdb part) [] ≡ Ok (commands.Read part.lba part.n)
read_decoded part small few = search rules

-- Each digit, in its place.
use Rattle.std.proofs.Common.{refl}
use Rattle.hex.specs.Hex.{encode_with}
use Rattle.ram_report.proofs.printing.commands.digits_of.Goals as goal

pub returns : goal.returns
unfolding encode_with
returns c =
    rw (c.digit_of.ensures, c.digit_of-2.ensures, c.digit_of-3.ensures, c.digit_of-4.ensures, c.digit_of-5.ensures) refl

-- The senses that a command may be answered with, apart from their information. For the law that there are no others, and for
-- counting answers by their sense.
use Rattle.std.specs.Prelude.{None, List, [], ◌∷◌}
use Rattle.std.specs.List.{Contains}
use Rattle.model_sense.specs.declared.sense.Sense.{Sense}
use Rattle.model_sense.specs.Sense.{sense}

-- they rise by key, code and qualifier (after INCITS MMC)
abbrev pub senses : List Sense
senses =
    sense 0x2 0x3a 0x00
    ∷ sense 0x3 0x11 0x00
    ∷ sense 0x3 0x31 0x00
    ∷ sense 0x3 0x31 0x01
    ∷ sense 0x3 0x32 0x00
    ∷ sense 0x3 0x32 0x01
    ∷ sense 0x5 0x1a 0x00
    ∷ sense 0x5 0x20 0x00
    ∷ sense 0x5 0x21 0x00
    ∷ sense 0x5 0x24 0x00
    ∷ sense 0x5 0x26 0x00
    ∷ sense 0x5 0x39 0x00
    ∷ sense 0x5 0x53 0x02
    ∷ sense 0x6 0x29 0x00
    ∷ []

-- apart from its information, it is one of these (this project's own)
abbrev pub IsKnownSense : Sense → Type 0
IsKnownSense why = Contains senses (record why { info = None })

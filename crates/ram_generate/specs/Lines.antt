-- The lines of a script that is drawn. (This project's own, as all here.)
use Rattle.std.specs.Prelude.{ℕ, ◌==◌, if◌then◌else◌, List, [], ◌∷◌, ◌++◌, codes, decimal}
use Rattle.byteorder.specs.Endian.{big_bytes}
use Rattle.hex.specs.Hex.{encode_lower}

-- the command block of a READ(10) or a WRITE(10)
abbrev pub transfer_block : (code lba n : ℕ) → List ℕ
transfer_block code lba n = code ∷ 0 ∷ big_bytes 4 lba ++ 0 ∷ big_bytes 2 n ++ 0 ∷ []

-- its line, with its data
abbrev pub transfer_text : (code lba n : ℕ) → List ℕ → List ℕ
transfer_text code lba n data' = codes "cdb " ++ (encode_lower (transfer_block code lba n) ++ data')

-- a write of n sectors, the first filled with this byte and each other with a byte one greater
abbrev pub write_text : (lba n first : ℕ) → List ℕ
write_text lba n first = transfer_text 0x2a lba n (codes " count " ++ (encode_lower (first ∷ []) ++ codes "\n"))

-- a read of n sectors
abbrev pub read_text : (lba n : ℕ) → List ℕ
read_text lba n = transfer_text 0x28 lba n (codes "\n")

-- this block dies
abbrev pub fail_text : (block : ℕ) → List ℕ
fail_text block = codes "fail " ++ (decimal block ++ codes "\n")

-- this block dies at its n-th use
abbrev pub wear_text : (block n : ℕ) → List ℕ
wear_text block n = codes "wear " ++ (decimal block ++ (codes " " ++ (decimal n ++ codes "\n")))

-- what a cut leaves, by its number
abbrev pub fate_text : ℕ → List ℕ
fate_text fate = if fate == 0 then codes " old\n" else if fate == 1 then codes " new\n" else codes " torn\n"

-- the power is cut at the n-th use, with the fate of this number
abbrev pub cut_text : (n fate : ℕ) → List ℕ
cut_text n fate = codes "cut " ++ (decimal n ++ fate_text fate)

-- the power goes off and on again, and a first command is told of it
abbrev pub power_text : List ℕ
power_text = codes "power\ncdb 000000000000\n"

-- a disc of 1,440 sectors is pressed and formatted
abbrev pub head_text : List ℕ
head_text = codes "press 2 2 8\npower\ncdb 000000000000\ncdb 041100000000 hex 00000008000005a000000800\n"

-- The mode pages of the drive, and what MODE SENSE replies: for giving pages, and for reading command blocks.
use Rattle.std.specs.Prelude.{ℕ, ◌+◌, Bool, ◌&&◌, ◌||◌, nat_lt, ◌==◌, if◌then◌else◌, Option, Some, None, List, [], ◌∷◌, ◌++◌, length, replicate}
use Rattle.std.specs.List.{filter, flat_map}
use Rattle.byteorder.specs.Endian.{big_bytes}
use Rattle.model_modes.specs.declared.Page.{Page}
use Rattle.model_modes.specs.declared.Page.TheVariants.{ErrorRecovery, Caching}

-- the code of a page, in bits 0 to 5 of its first byte (after INCITS MMC and SPC)
abbrev pub code : Page → ℕ
code ErrorRecovery = 0x01
code Caching = 0x08

-- the pages of the drive that a list may set, in the order of their codes (this project's own)
abbrev pub pages : List Page
pages = ErrorRecovery ∷ Caching ∷ []

-- the code that asks for all pages (after INCITS SPC)
abbrev pub all_pages : ℕ
all_pages = 0x3f

-- the code of the page of capabilities, which is told alone, and which no list sets (after INCITS MMC)
abbrev pub capabilities_code : ℕ
capabilities_code = 0x2a

-- of the pages that a list may set those that this code asks for: the page that has it, or all of them; none where it is
-- the code of neither
abbrev pub pages_with : ℕ → List Page
pages_with wanted = if wanted == all_pages then pages else filter (λ page. code page == wanted) pages

-- the page with this code
abbrev pub page_with : ℕ → Option Page
page_with wanted =
    if wanted == code ErrorRecovery then Some ErrorRecovery
    else if wanted == code Caching then Some Caching else None

-- whether this code asks for the page of capabilities: by its own code, or with all pages
abbrev pub asks_for_capabilities : ℕ → Bool
asks_for_capabilities wanted = wanted == capabilities_code || wanted == all_pages

-- whether this code asks for a page
abbrev pub is_page_code : ℕ → Bool
is_page_code wanted = nat_lt 0 (length (pages_with wanted)) || asks_for_capabilities wanted

-- A page with the values in force, where the write cache is on or off: its code, the number 10 of the bytes that follow, and
-- these. Bit 7 of byte 2 of the error recovery page is AWRE: a block that cannot be written is replaced. Bit 2 of byte 2 of
-- the caching page is WCE: the write cache is on. All else is zero. (After INCITS MMC; the values are this project's own.)
abbrev pub current_page : (caches : Bool) → Page → List ℕ
current_page caches ErrorRecovery = 0x01 ∷ 0x0a ∷ 0x80 ∷ replicate 9 0
current_page caches Caching = 0x08 ∷ 0x0a ∷ (if caches then 0x04 else 0) ∷ replicate 9 0

-- The bits of a page that MODE SELECT may change, as ones behind the code and the number: WCE alone may be changed. (This
-- project's own.)
abbrev pub changeable_page : Page → List ℕ
changeable_page ErrorRecovery = 0x01 ∷ 0x0a ∷ replicate 10 0
changeable_page Caching = 0x08 ∷ 0x0a ∷ 0x04 ∷ replicate 9 0

-- A page as this page control asks for it: 1 asks for what may be changed, 0 for the values in force, 2 for the default
-- ones, of which the cache is off. (After INCITS SPC; the default values are this project's own.)
abbrev pub page_by : (control : ℕ) (caches : Bool) → Page → List ℕ
page_by control caches page =
    if control == 1 then changeable_page page else current_page (control == 0 && caches) page

-- What the drive can do, with its removal prevented or not: it reads DVD-ROM (08) and DVD-RAM (20), writes DVD-RAM (20), and has
-- a tray (20) that ejects (08) and can be locked (01), and is locked (02) while removal is prevented; it buffers 256 KB. It
-- claims no speed, and nothing else. (After INCITS MMC; the values are this project's own.)
abbrev pub current_capabilities : (locked : Bool) → List ℕ
current_capabilities locked =
    0x2a ∷ 0x1e ∷ 0x28 ∷ 0x20 ∷ 0 ∷ 0 ∷ (if locked then 0x2b else 0x29) ∷ replicate 5 0 ++ 0x01 ∷ replicate 19 0

-- The same as this page control asks for it: nothing of it may be changed, and by default removal is allowed. (After INCITS SPC;
-- the default values are this project's own.)
abbrev pub capabilities_by : (control : ℕ) (locked : Bool) → List ℕ
capabilities_by control locked =
    if control == 1 then 0x2a ∷ 0x1e ∷ replicate 30 0 else current_capabilities (control == 0 && locked)

-- the pages that this code asks for, one after another, the page of capabilities behind the others
abbrev pub pages_by : (control : ℕ) (caches locked : Bool) (wanted : ℕ) → List ℕ
pages_by control caches locked wanted =
    flat_map (page_by control caches) (pages_with wanted)
    ++ (if asks_for_capabilities wanted then capabilities_by control locked else [])

-- The header before n bytes of pages. It begins with how many bytes follow that number, which has one byte in the short
-- header of MODE SENSE(6), of four bytes, and two in that of MODE SENSE(10), of eight. The others are zero, since there are no
-- block descriptors. (After INCITS SPC.)
abbrev pub mode_header : (short : Bool) (bytes : ℕ) → List ℕ
mode_header short bytes =
    if short then big_bytes 1 (3 + bytes) ++ replicate 3 0 else big_bytes 2 (6 + bytes) ++ replicate 6 0

-- the data of MODE SENSE: the header, and the pages (after INCITS SPC)
abbrev pub mode_data : (short : Bool) (control : ℕ) (caches locked : Bool) (wanted : ℕ) → List ℕ
mode_data short control caches locked wanted =
    mode_header short (length (pages_by control caches locked wanted)) ++ pages_by control caches locked wanted

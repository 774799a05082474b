-- The bytes that a target replies, before they are cut to the allocation length.
use Rattle.std.specs.Prelude.{ℕ, ◌+◌, ◌-◌, Bool, true, false, ◌&&◌, ◌||◌, not, nat_le, ◌==◌, if◌then◌else◌, List, [], ◌∷◌, ◌++◌, length, take, replicate, codes}
use Rattle.std.specs.List.{filter, flat_map}
use Rattle.byteorder.specs.Endian.{big_bytes}
use Rattle.model_sense.specs.Sense.{sense_data}
use Rattle.model_target.specs.declared.host.Host.{Host}
use Rattle.model_target.specs.Host.{sense_told}

-- REQUEST SENSE: the sense that is told, in 18 bytes (after INCITS SPC)
abbrev pub sense_reply : Host → List ℕ
sense_reply host = sense_data (sense_told host)

-- a text, filled with spaces to n bytes
abbrev pub padded : ℕ → List ℕ → List ℕ
padded size text = text ++ replicate (size - length text) 0x20

-- INQUIRY: a removable optical disc drive, its version, 31 more bytes, and three texts. (After INCITS SPC; the version and
-- the texts are this project's own.)
abbrev pub inquiry_reply : List ℕ
inquiry_reply =
    0x05 ∷ 0x80 ∷ 0x00 ∷ 0x02 ∷ 0x1f ∷ 0 ∷ 0 ∷ 0 ∷ []
    ++ padded 8 (codes "DVDRAM") ++ padded 16 (codes "SECTOR DRIVE") ++ codes "1.00"

-- READ CAPACITY: the last sector, and how many bytes a sector has (after INCITS MMC)
abbrev pub capacity_reply : (capacity : ℕ) → List ℕ
capacity_reply capacity = big_bytes 4 (capacity - 1) ++ big_bytes 4 2048

-- INQUIRY of vital product data: the list of the pages, of which there is none but this one. Behind the kind of device and the
-- code of the page come how many bytes follow, and the codes of the pages. (After INCITS SPC.)
abbrev pub vital_pages_reply : List ℕ
vital_pages_reply = 0x05 ∷ 0x00 ∷ 0x00 ∷ 0x01 ∷ 0x00 ∷ []

-- the data of INQUIRY, of vital product data or not (after INCITS SPC)
abbrev pub inquiry_by : (vital : Bool) → List ℕ
inquiry_by vital = if vital then vital_pages_reply else inquiry_reply

-- the profile of DVD-RAM, which is the current one while the disc is in (after INCITS MMC)
abbrev pub profile : (out : Bool) → ℕ
profile out = if out then 0x0000 else 0x0012

-- A feature of the drive: its code, its flags but for the lowest, which are its version in the bits from the third on and whether
-- it is always there in the second, whether it is current, which is the lowest, and what it says. (After INCITS MMC.)
pub record Feature : Type 0 where
  pub code : ℕ
  pub flags : ℕ
  pub current : Bool
  pub says : List ℕ

-- the feature of these four (this project's own)
abbrev pub feature : (code flags : ℕ) → (current : Bool) → List ℕ → Feature
feature code flags current says = record { code = code; flags = flags; current = current; says = says }

-- what a feature of sectors says of them: how many bytes each has, 16 of them in a block, and that there is a page on errors (after
-- INCITS MMC)
abbrev pub sectors_said : List ℕ
sectors_said = big_bytes 4 2048 ++ big_bytes 2 16 ++ 0x01 ∷ 0x00 ∷ []

-- The features of the drive, by whether its disc is in and formatted, and by how many sectors it has: the list of profiles, of which
-- DVD-RAM is the only one; the core, of the family of SCSI; that events are told; the medium, in a tray (20) that ejects (08) and can
-- be locked (01); that sectors are read, and DVD; that they are written, up to the last one; that the disc can be formatted; and
-- that defects are managed, with supplementary spares (80). None of them is ever missing. (After INCITS MMC; which there
-- are, and that the last sector is 0 without a formatted disc, is this project's own.)
abbrev pub features : (inside formatted : Bool) (capacity : ℕ) → List Feature
features inside formatted capacity =
    feature 0x0000 2 true (0x00 ∷ 0x12 ∷ (if inside then 1 else 0) ∷ 0x00 ∷ [])
    ∷ feature 0x0001 2 true (big_bytes 4 1)
    ∷ feature 0x0002 2 true (replicate 4 0)
    ∷ feature 0x0003 2 true (0x29 ∷ replicate 3 0)
    ∷ feature 0x0010 0 (inside && formatted) sectors_said
    ∷ feature 0x001f 0 (inside && formatted) []
    ∷ feature 0x0020 4 (inside && formatted) (big_bytes 4 (if inside && formatted then capacity - 1 else 0) ++ sectors_said)
    ∷ feature 0x0023 0 inside []
    ∷ feature 0x0024 4 inside (0x80 ∷ replicate 3 0)
    ∷ []

-- Whether a feature is asked for: by kind 0 each from the first one on, by kind 1 those of them that are current, and by kind 2 the
-- first one alone. (After INCITS MMC.)
abbrev pub is_asked : (kind first : ℕ) → Feature → Bool
is_asked kind first one =
    if kind == 2 then one.code == first else nat_le first one.code && (kind == 0 || one.current)

-- the bytes of a feature: its code, its flags, how many more bytes follow, and these (after INCITS MMC)
abbrev pub feature_bytes : Feature → List ℕ
feature_bytes one =
    big_bytes 2 one.code ++ (one.flags + (if one.current then 1 else 0)) ∷ length one.says ∷ [] ++ one.says

-- the bytes of those features that are asked for
abbrev pub features_asked : (kind first : ℕ) → List Feature → List ℕ
features_asked kind first all = flat_map feature_bytes (filter (is_asked kind first) all)

-- GET CONFIGURATION: how many bytes follow the first four, the current profile, and the features that are asked for. (After
-- INCITS MMC.)
abbrev pub configuration_reply : (kind first : ℕ) (out formatted : Bool) (capacity : ℕ) → List ℕ
configuration_reply kind first out formatted capacity =
    big_bytes 4 (4 + length (features_asked kind first (features (not out) formatted capacity)))
    ++ 0 ∷ 0 ∷ [] ++ big_bytes 2 (profile out)
    ++ features_asked kind first (features (not out) formatted capacity)

-- GET EVENT STATUS NOTIFICATION: how many bytes follow the first two, and of which class of events. Of the medium (04) it is told
-- that there is no event, and whether the disc is in (02) or the tray open (01). Where other classes are asked for there are none
-- (80). Those of the medium (10) are the only ones of the drive. (After INCITS MMC.)
abbrev pub events_reply : (media out : Bool) → List ℕ
events_reply true out = 0x00 ∷ 0x06 ∷ 0x04 ∷ 0x10 ∷ 0x00 ∷ (if out then 0x01 else 0x02) ∷ 0x00 ∷ 0x00 ∷ []
events_reply false out = 0x00 ∷ 0x02 ∷ 0x80 ∷ 0x10 ∷ []

-- READ DISC INFORMATION: how many bytes follow the first two; that the disc is erasable (10), and, where it is formatted, of
-- another kind (03) than those that are filled from the front, with its last session complete (0c); the numbers of the first track,
-- the sessions, and the first and the last track of the last one; and that its use is unrestricted (20). (After INCITS MMC.)
abbrev pub disc_reply : (formatted : Bool) → List ℕ
disc_reply formatted =
    0x00 ∷ 0x20 ∷ (if formatted then 0x1f else 0x10) ∷ 0x01 ∷ 0x01 ∷ 0x01 ∷ 0x01 ∷ 0x20 ∷ replicate 26 0

-- a number of sectors, what it is the number of, and how many bytes a sector has (after INCITS MMC)
abbrev pub capacity_descriptor : (sectors kind : ℕ) → List ℕ
capacity_descriptor sectors kind = big_bytes 4 sectors ++ kind ∷ [] ++ big_bytes 3 2048

-- The first descriptor is of what the disc has, if it is formatted, and else, also without a disc, of what a format gives. (After
-- INCITS MMC; the number without a disc is this project's own.)
abbrev pub present_capacity : (out formatted : Bool) (capacity formattable : ℕ) → List ℕ
present_capacity true formatted capacity formattable = capacity_descriptor formattable 3
present_capacity false true capacity formattable = capacity_descriptor capacity 2
present_capacity false false capacity formattable = capacity_descriptor formattable 1

-- with a disc comes a second one, of what a format gives, by the type of format that gives it (after INCITS MMC)
abbrev pub formats_offered : (out : Bool) (formattable : ℕ) → List ℕ
formats_offered true formattable = []
formats_offered false formattable = capacity_descriptor formattable 0

-- READ FORMAT CAPACITIES: how many bytes follow, and the descriptors (after INCITS MMC)
abbrev pub format_capacities_reply : (out formatted : Bool) (capacity formattable : ℕ) → List ℕ
format_capacities_reply out formatted capacity formattable =
    big_bytes 4 (8 + length (formats_offered out formattable))
    ++ present_capacity out formatted capacity formattable ++ formats_offered out formattable

-- READ DVD STRUCTURE of format 08h: how many bytes follow its first two, and the first sector of the structure's text. (After
-- INCITS MMC; what follows is this project's own.)
abbrev pub structure_reply : (text : List ℕ) → List ℕ
structure_reply text = 0x08 ∷ 0x02 ∷ 0 ∷ 0 ∷ [] ++ take 2048 text

-- READ DVD STRUCTURE of format 0Ah: how many bytes follow its first two, how many primary spares are free, how many
-- supplementary ones, and how many of these there are. (After INCITS MMC; what follows is this project's own.)
abbrev pub spares_reply : (primary supplementary ssa : ℕ) → List ℕ
spares_reply primary supplementary ssa =
    0x00 ∷ 0x0e ∷ 0 ∷ 0 ∷ [] ++ big_bytes 4 primary ++ big_bytes 4 supplementary ++ big_bytes 4 ssa

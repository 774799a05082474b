-- Each secondary defect list has just one text, of one block or two, and each text is that of at most one.
use Rattle.std.proofs.Common.{◌≡◌, ◌⊎◌, inl, inr, ℕ, min, ◌-◌, ◌*◌, ◌<◌, ◌≤◌, ◌^◌, List, ◌∷◌, ◌++◌, length, get_or, take, drop, All, refl, sym, ◌∙◌, ap, ap₂, subst, arith, length-append, length-drop, length-take}
use Rattle.std.specs.List.{flat_map}
use Rattle.std.proofs.lemmas.List.{take-append-drop, take_at, drop_at, drop-drop, take_all}
use Rattle.std.proofs.lemmas.List.Elements.{All-take, All-drop}
use Rattle.byteorder.specs.Endian.{big_bytes}
use Rattle.model_lists.specs.declared.sdl.SdlEntry.{SdlEntry}
use Rattle.model_lists.specs.declared.versions.Version.{Version}
use Rattle.model_lists.specs.declared.versions.Version.TheVariants.{One, Two}
use Rattle.model_lists.specs.Values.{Sdl, IsLawfulSdl, IsWithinSdlLimits, HasNumbers, part_entries, most_of}
use Rattle.model_lists.specs.Texts.{zero_bytes, version_byte, part_byte, sdl_entry_bytes, Spells, IsSdlHeader, first_entries, IsSdlText, IsTwo, IsSdlSecond, IsSdlTexts, NamesCounter}
use Rattle.model_lists.proofs.Spelled.{agree_more, length-zero_bytes, length-spelled, same_entries}
use Rattle.model_lists.proofs.Numbers.{big_bytes-injective, version_byte-injective, sdl_entry_bytes-injective, length-sdl_entry_bytes}

-- ---- sizes

pub part_is : part_entries ≡ 4092
unfolding part_entries
part_is = refl

pub most_is : (v : Version) → most_of v ≤ 8184
most_is One = omega arith
most_is Two = omega arith

-- the version is one of two
pub version_cases : (v : Version) → (v ≡ One) ⊎ (v ≡ Two)
version_cases One = inl refl
version_cases Two = inr refl

pub one_no_two : (v : Version) → v ≡ One → v ≡ Two → ⊥
one_no_two v one two = (let h : One ≡ Two = sym one ∙ two in cc)

-- the first part has no more entries than fit
pub first_few : (v : Version) (entries : List SdlEntry) → length entries ≤ most_of v → length (first_entries v entries) ≤ 4092
first_few One entries few = few
first_few Two entries few = omega (arith, length-take part_entries entries, part_is)

pub second_few : (entries : List SdlEntry) → length entries ≤ 8184 → length (drop part_entries entries) ≤ 4092
second_few entries few = omega (arith, length-drop part_entries entries, part_is, few)

-- where all entries fit into the first part, it has all
pub first_whole : (v : Version) (entries : List SdlEntry) → length entries ≤ part_entries → first_entries v entries ≡ entries
first_whole One entries few = refl
first_whole Two entries few = take_all part_entries entries few

-- ---- what a block says of the value

module _ (e e' : Version) (k k' c c' d d' s s' n n' : ℕ) (x : List ℕ) (of_v : IsSdlHeader e k c d s n x) (of_w : IsSdlHeader e' k' c' d' s' n' x) where
  pub header_version : e ≡ e'
  header_version = version_byte-injective e e' (ap (λ (l : List ℕ). get_or l 2 0) (sym of_v.begins ∙ of_w.begins))

  pub header_counter : c < 2 ^ 32 → c' < 2 ^ 32 → c ≡ c'
  header_counter small small' = big_bytes-injective 4 c c' (omega (arith, small)) (omega (arith, small')) (sym of_v.counted ∙ of_w.counted)

  pub header_dds : d < 2 ^ 32 → d' < 2 ^ 32 → d ≡ d'
  header_dds small small' = big_bytes-injective 4 d d' (omega (arith, small)) (omega (arith, small')) (sym of_v.dds_counted ∙ of_w.dds_counted)

  pub header_ssa : s ≤ 8184 → s' ≤ 8184 → s ≡ s'
  header_ssa small small' = big_bytes-injective 2 s s' (omega (arith, small)) (omega (arith, small')) (sym of_v.spares ∙ of_w.spares)

  -- the number of entries in the header
  pub header_count : n ≤ 8184 → n' ≤ 8184 → n ≡ n'
  header_count small small' = big_bytes-injective 2 n n' (omega (arith, small)) (omega (arith, small')) (sym of_v.list_counted ∙ of_w.list_counted)

-- the fields that two values must share
record SameFields (v w : Sdl) : Type 0 where
  versions : v.version ≡ w.version
  counters : v.counter ≡ w.counter
  dds_counters : v.dds_counter ≡ w.dds_counter
  ssas : v.ssa ≡ w.ssa
  lists : v.entries ≡ w.entries

same_value : (v w : Sdl) → SameFields v w → v ≡ w
same_value v w same =
    let make : Version → ℕ → ℕ → ℕ → List SdlEntry → Sdl = λ r c d s e. record { version = r; counter = c; dds_counter = d; ssa = s; entries = e } in
    ap (λ (r : Version). make r v.counter v.dds_counter v.ssa v.entries) same.versions
    ∙ ap (λ (c : ℕ). make w.version c v.dds_counter v.ssa v.entries) same.counters
    ∙ ap (λ (d : ℕ). make w.version w.counter d v.ssa v.entries) same.dds_counters
    ∙ ap (λ (s : ℕ). make w.version w.counter w.dds_counter s v.entries) same.ssas
    ∙ ap (λ (e : List SdlEntry). make w.version w.counter w.dds_counter w.ssa e) same.lists

few_of : (v : Sdl) → IsLawfulSdl v → length v.entries ≤ 8184
few_of v lawful = omega (arith, lawful.limits.few, most_is v.version)

ssa_few : (v : Sdl) → IsLawfulSdl v → v.ssa ≤ 8184
ssa_few v lawful = omega (arith, lawful.limits.most, most_is v.version)

-- as many entries of one part, with the same bytes, are the same
pub same_part : (xs ys : List SdlEntry) (bytes : List ℕ) → length xs ≡ length ys → All HasNumbers xs → All HasNumbers ys → Spells sdl_entry_bytes 8 xs bytes → Spells sdl_entry_bytes 8 ys bytes → xs ≡ ys
same_part xs ys bytes long all all' of_xs of_ys =
    same_entries sdl_entry_bytes 8 length-sdl_entry_bytes HasNumbers sdl_entry_bytes-injective xs ys (zero_bytes (length bytes - 8 * length xs)) (zero_bytes (length bytes - 8 * length ys)) long all all' (sym of_xs ∙ of_ys)

first_numbers : (e : Version) (xs : List SdlEntry) → All HasNumbers xs → All HasNumbers (first_entries e xs)
first_numbers One xs all = all
first_numbers Two xs all = All-take HasNumbers part_entries xs all

first_long : (e : Version) (xs ys : List SdlEntry) → length xs ≡ length ys → length (first_entries e xs) ≡ length (first_entries e ys)
first_long One xs ys long = long
first_long Two xs ys long = length-take part_entries xs ∙ ap (λ (k : ℕ). min part_entries k) long ∙ sym (length-take part_entries ys)

-- what two values share of which a block is the first part
module _ (v w : Sdl) (x : List ℕ) (of_v : IsSdlText v x) (of_w : IsSdlText w x) where
  pub first_version : v.version ≡ w.version
  first_version = header_version v.version w.version 1 1 v.counter w.counter v.dds_counter w.dds_counter v.ssa w.ssa (length v.entries) (length w.entries) x of_v.header of_w.header

  pub first_counter : v.counter ≡ w.counter
  first_counter = header_counter v.version w.version 1 1 v.counter w.counter v.dds_counter w.dds_counter v.ssa w.ssa (length v.entries) (length w.entries) x of_v.header of_w.header of_v.lawful.counted of_w.lawful.counted

  pub first_dds : v.dds_counter ≡ w.dds_counter
  first_dds = header_dds v.version w.version 1 1 v.counter w.counter v.dds_counter w.dds_counter v.ssa w.ssa (length v.entries) (length w.entries) x of_v.header of_w.header of_v.lawful.dds_counted of_w.lawful.dds_counted

  first_ssa : v.ssa ≡ w.ssa
  first_ssa = header_ssa v.version w.version 1 1 v.counter w.counter v.dds_counter w.dds_counter v.ssa w.ssa (length v.entries) (length w.entries) x of_v.header of_w.header (ssa_few v of_v.lawful) (ssa_few w of_w.lawful)

  first_count : length v.entries ≡ length w.entries
  first_count = header_count v.version w.version 1 1 v.counter w.counter v.dds_counter w.dds_counter v.ssa w.ssa (length v.entries) (length w.entries) x of_v.header of_w.header (few_of v of_v.lawful) (few_of w of_w.lawful)

  -- their first entries
  first_same : first_entries v.version v.entries ≡ first_entries v.version w.entries
  first_same = same_part (first_entries v.version v.entries) (first_entries v.version w.entries) (drop 32 x)
      (first_long v.version v.entries w.entries first_count)
      (first_numbers v.version v.entries of_v.lawful.list.numbers)
      (first_numbers v.version w.entries of_w.lawful.list.numbers)
      of_v.list
      (subst (λ (e : Version). Spells sdl_entry_bytes 8 (first_entries e w.entries) (drop 32 x)) (sym first_version) of_w.list)

  -- with the same entries they are the same
  first_value : v.entries ≡ w.entries → v ≡ w
  first_value same = same_value v w (record { versions = first_version; counters = first_counter; dds_counters = first_dds; ssas = first_ssa; lists = same })

  -- where the first part has all entries, it tells the value
  pub first_tells : length v.entries ≤ part_entries → v ≡ w
  first_tells few = first_value (sym (first_whole v.version v.entries few) ∙ first_same ∙ first_whole v.version w.entries (omega (arith, few, first_count)))

-- a list of one block is told by that block
pub one_tells : (v w : Sdl) (x : List ℕ) → v.version ≡ One → IsSdlText v x → IsSdlText w x → v ≡ w
one_tells v w x one of_v of_w = first_tells v w x of_v of_w (let few = of_v.lawful.limits.few in omega (arith, few, ap most_of one, part_is))

-- what two values share of which a block is the second part
pub second_counters : (v w : Sdl) (y : List ℕ) → IsSdlSecond v y → IsSdlSecond w y → (v.counter ≡ w.counter) × (v.dds_counter ≡ w.dds_counter)
second_counters v w y of_v of_w = (
  header_counter Two Two 2 2 v.counter w.counter v.dds_counter w.dds_counter v.ssa w.ssa (length v.entries) (length w.entries) y of_v.header of_w.header of_v.lawful.counted of_w.lawful.counted,
  header_dds Two Two 2 2 v.counter w.counter v.dds_counter w.dds_counter v.ssa w.ssa (length v.entries) (length w.entries) y of_v.header of_w.header of_v.lawful.dds_counted of_w.lawful.dds_counted,
)

-- ---- a text belongs to at most one value

two_entries : (v w : Sdl) (x y : List ℕ) → IsSdlText v x → IsSdlText w x → IsSdlSecond v y → IsSdlSecond w y → v.entries ≡ w.entries
two_entries v w x y of_v of_w of_v' of_w' =
    let long = first_count v w x of_v of_w in
    let front : take part_entries v.entries ≡ take part_entries w.entries = subst (λ (e : Version). first_entries e v.entries ≡ first_entries e w.entries) of_v'.two (first_same v w x of_v of_w) in
    let behind : drop part_entries v.entries ≡ drop part_entries w.entries = same_part (drop part_entries v.entries) (drop part_entries w.entries) (drop 32 y)
    (length-drop part_entries v.entries ∙ ap (λ (k : ℕ). k - part_entries) long ∙ sym (length-drop part_entries w.entries))
    (All-drop HasNumbers part_entries v.entries of_v'.lawful.list.numbers) (All-drop HasNumbers part_entries w.entries of_w'.lawful.list.numbers) of_v'.list of_w'.list in
    sym (take-append-drop part_entries v.entries) ∙ ap₂ (λ (xs ys : List SdlEntry). xs ++ ys) front behind ∙ take-append-drop part_entries w.entries

-- two blocks are the text of at most one value, and one block that of at most one with one block
pub one_value : (v w : Sdl) (x y : List ℕ) → IsSdlTexts v x y → IsSdlTexts w x y → v ≡ w
one_value v w x y of_v of_w = elim (version_cases v.version) [
  | inl one ↦ first_value v w x of_v.first_is of_w.first_is
      (subst (λ (e : Version). first_entries e v.entries ≡ first_entries e w.entries) one (first_same v w x of_v.first_is of_w.first_is))
  | inr two ↦ first_value v w x of_v.first_is of_w.first_is
      (two_entries v w x y of_v.first_is of_w.first_is (of_v.second_is two) (of_w.second_is (sym (first_version v w x of_v.first_is of_w.first_is) ∙ two)))
]

-- ---- a value has just one text

headers_agree : (e : Version) (k c d s n : ℕ) (x y : List ℕ) → IsSdlHeader e k c d s n x → IsSdlHeader e k c d s n y → take 32 x ≡ take 32 y
headers_agree e k c d s n x y of_x of_y =
    let begin : take 4 x ≡ take 4 y = of_x.begins ∙ sym of_y.begins in
    let counted : take 8 x ≡ take 8 y = agree_more 4 4 x y begin (of_x.counted ∙ sym of_y.counted) in
    let dds_counted : take 12 x ≡ take 12 y = agree_more 8 4 x y counted (of_x.dds_counted ∙ sym of_y.dds_counted) in
    let spares : take 14 x ≡ take 14 y = agree_more 12 2 x y dds_counted (of_x.spares ∙ sym of_y.spares) in
    let list_counted : take 16 x ≡ take 16 y = agree_more 14 2 x y spares (of_x.list_counted ∙ sym of_y.list_counted) in
    agree_more 16 16 x y list_counted (of_x.gap ∙ sym of_y.gap)

-- a header and entries are one block at most
one_block : (e : Version) (k c d s n : ℕ) (entries : List SdlEntry) (x y : List ℕ) → IsSdlHeader e k c d s n x → IsSdlHeader e k c d s n y → length x ≡ 32768 → length y ≡ 32768
    → Spells sdl_entry_bytes 8 entries (drop 32 x) → Spells sdl_entry_bytes 8 entries (drop 32 y) → x ≡ y
one_block e k c d s n entries x y of_x of_y whole whole' list_x list_y =
    let long : length (drop 32 x) ≡ length (drop 32 y) = omega (arith, length-drop 32 x, length-drop 32 y, whole, whole') in
    let lists : drop 32 x ≡ drop 32 y =
    list_x ∙ ap (λ (m : ℕ). flat_map sdl_entry_bytes entries ++ zero_bytes (m - 8 * length entries)) long ∙ sym list_y in
    sym (take-append-drop 32 x) ∙ ap₂ (λ (u v : List ℕ). u ++ v) (headers_agree e k c d s n x y of_x of_y) lists ∙ take-append-drop 32 y

pub one_text : (value : Sdl) (x y : List ℕ) → IsSdlText value x → IsSdlText value y → x ≡ y
one_text value x y of_x of_y =
    one_block value.version 1 value.counter value.dds_counter value.ssa (length value.entries) (first_entries value.version value.entries) x y of_x.header of_y.header of_x.whole of_y.whole of_x.list of_y.list

pub one_second : (value : Sdl) (x y : List ℕ) → IsSdlSecond value x → IsSdlSecond value y → x ≡ y
one_second value x y of_x of_y =
    one_block Two 2 value.counter value.dds_counter value.ssa (length value.entries) (drop part_entries value.entries) x y of_x.header of_y.header of_x.whole of_y.whole of_x.list of_y.list

-- ---- each lawful value has one

-- the first sixteen bytes
abbrev pub sdl_begin : Version → ℕ → ℕ → ℕ → ℕ → ℕ → List ℕ
sdl_begin e k c d s n = 0 ∷ 2 ∷ version_byte e ∷ part_byte e k ∷ (big_bytes 4 c ++ (big_bytes 4 d ++ (big_bytes 2 s ++ big_bytes 2 n)))

-- the bytes of a front, written one after another
pub header_spelled : (e : Version) (k c d s n : ℕ) (gap rest : List ℕ) → gap ≡ zero_bytes 16 → IsSdlHeader e k c d s n (sdl_begin e k c d s n ++ (gap ++ rest))
header_spelled e k c d s n gap rest zero =
    let long : length gap ≡ 16 = ap length zero ∙ length-zero_bytes 16 in
    record {
      begins = refl;
      counted = refl;
      dds_counted = refl;
      spares = refl;
      list_counted = refl;
      gap = ap (take 16) (drop_at (sdl_begin e k c d s n) (gap ++ rest) 16 refl) ∙ take_at gap rest 16 long ∙ zero;
    }

-- A front and the entries of one part, one after another, as a block.
pub record IsPart (e : Version) (k c d s n : ℕ) (entries : List SdlEntry) (block : List ℕ) : Type 0 where
  pub whole : length block ≡ 32768
  pub header : IsSdlHeader e k c d s n block
  pub list : Spells sdl_entry_bytes 8 entries (drop 32 block)

pub part_spelled : (e : Version) (k c d s n : ℕ) (entries : List SdlEntry) (gap list : List ℕ) → gap ≡ zero_bytes 16 → length list ≡ 32736 → Spells sdl_entry_bytes 8 entries list
    → IsPart e k c d s n entries (sdl_begin e k c d s n ++ (gap ++ list))
part_spelled e k c d s n entries gap list zero long spells =
    let long_gap : length gap ≡ 16 = ap length zero ∙ length-zero_bytes 16 in
    let begin = sdl_begin e k c d s n in
    let end : drop 32 (begin ++ (gap ++ list)) ≡ list =
    sym (drop-drop 16 16 (begin ++ (gap ++ list))) ∙ ap (drop 16) (drop_at begin (gap ++ list) 16 refl) ∙ drop_at gap list 16 long_gap in
    record {
      whole = omega (arith, length-append begin (gap ++ list), length-append gap list, long_gap, long);
      header = header_spelled e k c d s n gap list zero;
      list = let P : List ℕ → Type 0 = Spells sdl_entry_bytes 8 entries in subst P (sym end) spells;
    }

has_part : (e : Version) (k c d s n : ℕ) (entries : List SdlEntry) → length entries ≤ 4092 → (block : List ℕ) × IsPart e k c d s n entries block
has_part e k c d s n entries few =
    let count = length entries in
    let room : 8 * count ≤ 32736 = omega (arith, few) in
    let list = flat_map sdl_entry_bytes entries ++ zero_bytes (32736 - 8 * count) in
    let long : length list ≡ 32736 =
    omega (arith, length-append (flat_map sdl_entry_bytes entries) (zero_bytes (32736 - 8 * count)), length-spelled sdl_entry_bytes 8 length-sdl_entry_bytes entries, length-zero_bytes (32736 - 8 * count)) in
    (sdl_begin e k c d s n ++ (zero_bytes 16 ++ list), part_spelled e k c d s n entries (zero_bytes 16) list refl long (ap (λ (m : ℕ). flat_map sdl_entry_bytes entries ++ zero_bytes (m - 8 * count)) (sym long)))

pub has_text : (value : Sdl) → IsLawfulSdl value → (block : List ℕ) × IsSdlText value block
has_text value lawful =
    let part = has_part value.version 1 value.counter value.dds_counter value.ssa (length value.entries) (first_entries value.version value.entries) (first_few value.version value.entries lawful.limits.few) in
    (part.0, record { lawful = lawful; whole = part.1.whole; header = part.1.header; list = part.1.list })

pub has_second : (value : Sdl) → IsLawfulSdl value → IsTwo value → (block : List ℕ) × IsSdlSecond value block
has_second value lawful two =
    let part = has_part Two 2 value.counter value.dds_counter value.ssa (length value.entries) (drop part_entries value.entries) (second_few value.entries (few_of value lawful)) in
    (part.0, record { two = two; lawful = lawful; whole = part.1.whole; header = part.1.header; list = part.1.list })

pub has_texts : (value : Sdl) → IsLawfulSdl value → (first second : List ℕ) × IsSdlTexts value first second
has_texts value lawful = elim (version_cases value.version) [
  | inl one ↦
      let first = has_text value lawful in
      (first.0, first.0, record { first_is = first.1; second_is = λ two. absurd (one_no_two value.version one two) })
  | inr two ↦
      let first = has_text value lawful in
      let second = has_second value lawful two in
      (first.0, second.0, record { first_is = first.1; second_is = λ _. second.1 })
]

-- ---- the counter that the first block names

-- the first part of any value names the value's
pub text_names : (value : Sdl) (block : List ℕ) → IsSdlText value block → NamesCounter block value.dds_counter
text_names value block text = elim (version_cases value.version) [
  | inl one ↦ inl (value, one, text, refl)
  | inr two ↦
      let L : Version → Type 0 = λ (e : Version). IsWithinSdlLimits e value.ssa (length value.entries) in
      let H : Version → Type 0 = λ (e : Version). IsSdlHeader e 1 value.counter value.dds_counter value.ssa (length value.entries) block in
      inr (record { names_fit = text.lawful.dds_counted; counter = value.counter; counter_fits = text.lawful.counted; ssa = value.ssa; count = length value.entries; within = subst L two text.lawful.limits; header = subst H two text.header })
]

-- and no other counter
pub names_one : (value : Sdl) (block : List ℕ) (names : ℕ) → IsSdlText value block → NamesCounter block names → names ≡ value.dds_counter
names_one value block names text (inl (other, one, is_text, is)) = sym is ∙ first_dds other value block is_text text
names_one value block names text (inr more) =
    header_dds Two value.version 1 1 more.counter value.counter names value.dds_counter more.ssa value.ssa more.count (length value.entries) block more.header text.header more.names_fit text.lawful.dds_counted

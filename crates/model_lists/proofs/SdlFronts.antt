-- What the front of a first part says of the values that have it, and the value that a front and entries make.
use Rattle.std.proofs.Common.{◌≡◌, ℕ, min, ◌-◌, ◌<◌, ◌^◌, inl, inr, List, ◌++◌, length, take, drop, All, sym, ◌∙◌, ap, subst, arith, length-append, length-drop, length-take}
use Rattle.std.specs.List.Sorted.{IsStrictlyIncreasing}
use Rattle.std.proofs.lemmas.Bool.{cases_lt}
use Rattle.std.proofs.lemmas.List.{take_at, drop_at, take_all, drop_all, append-nil, nil_from_length}
use Rattle.std.proofs.lemmas.List.Elements.{All-take, All-append}
use Rattle.model_lists.specs.declared.sdl.SdlEntry.{SdlEntry}
use Rattle.model_lists.specs.declared.versions.Version.{Version}
use Rattle.model_lists.specs.declared.versions.Version.TheVariants.{One, Two}
use Rattle.model_lists.specs.Values.{Sdl, IsLawfulSdl, IsWithinSdlLimits, HasNumbers, defectives, part_entries}
use Rattle.model_lists.specs.Texts.{sdl_entry_bytes, Spells, IsSdlHeader, first_entries, IsSdlText, IsSdlSecond}
use Rattle.model_lists.proofs.SdlTexts.{most_is, header_version, header_counter, header_dds, header_ssa, header_count, same_part}

-- What the front of a first part says, within the limits.
pub record Front (block : List ℕ) : Type 0 where
  pub version : Version
  pub counter : ℕ
  pub counter_fits : counter < 2 ^ 32
  pub dds_counter : ℕ
  pub dds_fits : dds_counter < 2 ^ 32
  pub ssa : ℕ
  pub count : ℕ
  pub limits : IsWithinSdlLimits version ssa count
  pub whole : length block ≡ 32768
  pub says : IsSdlHeader version 1 counter dds_counter ssa count block

-- the value that a front and entries make
abbrev pub value_of : {block : List ℕ} → Front block → List SdlEntry → Sdl
value_of f entries = record { version = f.version; counter = f.counter; dds_counter = f.dds_counter; ssa = f.ssa; entries = entries }

-- nothing stands behind
nothing_behind : (xs ys : List SdlEntry) → length ys ≡ 0 → xs ++ ys ≡ xs
nothing_behind xs ys none = ap (λ (l : List SdlEntry). xs ++ l) (nil_from_length ys none) ∙ append-nil xs

module _ (x : List ℕ) (f : Front x) where
  lawful_of : (entries : List SdlEntry) → length entries ≡ f.count → All HasNumbers entries → IsStrictlyIncreasing (defectives entries) → IsLawfulSdl (value_of f entries)
  lawful_of entries long all rise = record {
    counted = f.counter_fits;
    dds_counted = f.dds_fits;
    limits = subst (λ (n : ℕ). IsWithinSdlLimits f.version f.ssa n) (sym long) f.limits;
    list = record { rise = rise; numbers = all };
  }

  -- ---- of each value whose first part the block is

  pub version_is : (v : Sdl) → IsSdlText v x → v.version ≡ f.version
  version_is v t = header_version v.version f.version 1 1 v.counter f.counter v.dds_counter f.dds_counter v.ssa f.ssa (length v.entries) f.count x t.header f.says

  pub count_is : (v : Sdl) → IsSdlText v x → length v.entries ≡ f.count
  count_is v t = header_count v.version f.version 1 1 v.counter f.counter v.dds_counter f.dds_counter v.ssa f.ssa (length v.entries) f.count x t.header f.says (omega (arith, t.lawful.limits.few, most_is v.version)) (omega (arith, f.limits.few, most_is f.version))

  -- ---- of one part

  module _ (one : f.version ≡ One) where
    pub whole_list : (v : Sdl) → IsSdlText v x → Spells sdl_entry_bytes 8 v.entries (drop 32 x)
    whole_list v t = subst (λ (e : Version). Spells sdl_entry_bytes 8 (first_entries e v.entries) (drop 32 x)) (version_is v t ∙ one) t.list

    pub made_of_one : (entries : List SdlEntry) → length entries ≡ f.count → All HasNumbers entries → Spells sdl_entry_bytes 8 entries (drop 32 x) → IsStrictlyIncreasing (defectives entries) → IsSdlText (value_of f entries) x
    made_of_one entries long all spells rise = record {
      lawful = lawful_of entries long all rise;
      whole = f.whole;
      header = subst (λ (n : ℕ). IsSdlHeader f.version 1 f.counter f.dds_counter f.ssa n x) (sym long) f.says;
      list = subst (λ (e : Version). Spells sdl_entry_bytes 8 (first_entries e entries) (drop 32 x)) (sym one) spells;
    }

  -- ---- of two parts

  module _ (two : f.version ≡ Two) (y : List ℕ) where
    -- the second part says the same as the first
    pub as_said : (v : Sdl) → IsSdlText v x → IsSdlSecond v y → IsSdlHeader Two 2 f.counter f.dds_counter f.ssa f.count y
    as_said v t second =
        let c : v.counter ≡ f.counter = header_counter v.version f.version 1 1 v.counter f.counter v.dds_counter f.dds_counter v.ssa f.ssa (length v.entries) f.count x t.header f.says t.lawful.counted f.counter_fits in
        let d : v.dds_counter ≡ f.dds_counter = header_dds v.version f.version 1 1 v.counter f.counter v.dds_counter f.dds_counter v.ssa f.ssa (length v.entries) f.count x t.header f.says t.lawful.dds_counted f.dds_fits in
        let s : v.ssa ≡ f.ssa = header_ssa v.version f.version 1 1 v.counter f.counter v.dds_counter f.dds_counter v.ssa f.ssa (length v.entries) f.count x t.header f.says (omega (arith, t.lawful.limits.most, most_is v.version)) (omega (arith, f.limits.most, most_is f.version)) in
        subst (λ (n : ℕ). IsSdlHeader Two 2 f.counter f.dds_counter f.ssa n y) (count_is v t)
        (subst (λ (n : ℕ). IsSdlHeader Two 2 f.counter f.dds_counter n (length v.entries) y) s
        (subst (λ (n : ℕ). IsSdlHeader Two 2 f.counter n v.ssa (length v.entries) y) d
        (subst (λ (n : ℕ). IsSdlHeader Two 2 n v.dds_counter v.ssa (length v.entries) y) c second.header)))

    pub front_count : (v : Sdl) → IsSdlText v x → length (take part_entries v.entries) ≡ min part_entries f.count
    front_count v t = length-take part_entries v.entries ∙ ap (λ (n : ℕ). min part_entries n) (count_is v t)

    pub behind_count : (v : Sdl) → IsSdlText v x → length (drop part_entries v.entries) ≡ f.count - part_entries
    behind_count v t = length-drop part_entries v.entries ∙ ap (λ (n : ℕ). n - part_entries) (count_is v t)

    pub front_list : (v : Sdl) → IsSdlText v x → Spells sdl_entry_bytes 8 (take part_entries v.entries) (drop 32 x)
    front_list v t = subst (λ (e : Version). Spells sdl_entry_bytes 8 (first_entries e v.entries) (drop 32 x)) (version_is v t ∙ two) t.list

    -- the entries that the first part spells are the first of the value
    pub same_front : (v : Sdl) → IsSdlText v x → (xs : List SdlEntry) → length xs ≡ min part_entries f.count → All HasNumbers xs → Spells sdl_entry_bytes 8 xs (drop 32 x) → take part_entries v.entries ≡ xs
    same_front v t xs long all spells =
        same_part (take part_entries v.entries) xs (drop 32 x) (front_count v t ∙ sym long) (All-take HasNumbers part_entries v.entries t.lawful.list.numbers) all (front_list v t) spells

    split_front : (xs ys : List SdlEntry) → length xs ≡ min part_entries f.count → length ys ≡ f.count - part_entries → take part_entries (xs ++ ys) ≡ xs
    split_front xs ys long long' = elim (cases_lt f.count part_entries) [
      | inl few ↦ take_all part_entries (xs ++ ys) (omega (arith, length-append xs ys, long, long', few)) ∙ nothing_behind xs ys (omega (arith, long', few))
      | inr many ↦ take_at xs ys part_entries (omega (arith, long, many))
    ]

    split_behind : (xs ys : List SdlEntry) → length xs ≡ min part_entries f.count → length ys ≡ f.count - part_entries → drop part_entries (xs ++ ys) ≡ ys
    split_behind xs ys long long' = elim (cases_lt f.count part_entries) [
      | inl few ↦ drop_all part_entries (xs ++ ys) (omega (arith, length-append xs ys, long, long', few)) ∙ sym (nil_from_length ys (omega (arith, long', few)))
      | inr many ↦ drop_at xs ys part_entries (omega (arith, long, many))
    ]

    -- both parts are those of the value
    pub record MadeOfTwo (v : Sdl) : Type 0 where
      pub first : IsSdlText v x
      pub second : IsSdlSecond v y

    pub made_of_two : (xs : List SdlEntry) → length xs ≡ min part_entries f.count → All HasNumbers xs → Spells sdl_entry_bytes 8 xs (drop 32 x)
        → (ys : List SdlEntry) → length ys ≡ f.count - part_entries → All HasNumbers ys → Spells sdl_entry_bytes 8 ys (drop 32 y)
        → IsSdlHeader Two 2 f.counter f.dds_counter f.ssa f.count y → length y ≡ 32768 → IsStrictlyIncreasing (defectives (xs ++ ys)) → MadeOfTwo (value_of f (xs ++ ys))
    made_of_two xs long all spells ys long' all' spells' says whole rise =
        let many : length (xs ++ ys) ≡ f.count = omega (arith, length-append xs ys, long, long') in
        let lawful : IsLawfulSdl (value_of f (xs ++ ys)) = lawful_of (xs ++ ys) many (All-append HasNumbers xs ys all all') rise in
        record {
          first = record {
            lawful = lawful;
            whole = f.whole;
            header = subst (λ (n : ℕ). IsSdlHeader f.version 1 f.counter f.dds_counter f.ssa n x) (sym many) f.says;
            list = subst (λ (e : Version). Spells sdl_entry_bytes 8 (first_entries e (xs ++ ys)) (drop 32 x)) (sym two)
                (subst (λ (es : List SdlEntry). Spells sdl_entry_bytes 8 es (drop 32 x)) (sym (split_front xs ys long long')) spells);
          };
          second = record {
            two = two;
            lawful = lawful;
            whole = whole;
            header = subst (λ (n : ℕ). IsSdlHeader Two 2 f.counter f.dds_counter f.ssa n y) (sym many) says;
            list = subst (λ (es : List SdlEntry). Spells sdl_entry_bytes 8 es (drop 32 y)) (sym (split_behind xs ys long long')) spells';
          };
        }

-- Each record of the lead has just one text, and each block is the text of at most one.
use Rattle.std.proofs.Common.{◌≡◌, ℕ, ◌+◌, ◌-◌, ◌<◌, ◌≤◌, ◌^◌, Bool, true, false, List, [], ◌∷◌, ◌++◌, length, get_or, take, drop, replicate, All, refl, sym, ◌∙◌, ap, ap₂, subst, arith, length-append, length-drop}
use Rattle.std.proofs.lemmas.List.{take-append-drop, take_at, drop_at, drop-drop, length-replicate}
use Rattle.model_bytes.proofs.Laws.{written_whole}
use Rattle.byteorder.specs.Endian.{big_bytes}
use Rattle.model_lists.specs.declared.records.TheConstants.{REGIONS}
use Rattle.model_lists.specs.Records.{LeadRecord, IsLawfulRecord, IsRecordText, together_byte, record_bytes}
use Rattle.model_lists.proofs.Numbers.{big_bytes-injective}

-- a value has at most one text
pub one_text : (value : LeadRecord) (x y : List ℕ) → IsRecordText value x → IsRecordText value y → x ≡ y
one_text value x y of_x of_y = of_x.spells ∙ sym of_y.spells

-- a lawful value has a text
pub has_text : (value : LeadRecord) → IsLawfulRecord value → (block : List ℕ) × IsRecordText value block
has_text value lawful = (record_bytes value ++ replicate (32768 - length (record_bytes value)) 0, record { lawful = lawful; spells = refl })

together_byte-injective : (x y : Bool) → together_byte x ≡ together_byte y → x ≡ y
together_byte-injective true true same = refl
together_byte-injective true false same = absurd (omega arith)
together_byte-injective false true same = absurd (omega arith)
together_byte-injective false false same = refl

same_value : (v w : LeadRecord) → v.generation ≡ w.generation → v.together ≡ w.together → v.dirty ≡ w.dirty → v ≡ w
same_value v w generation together dirty =
    let make : ℕ → Bool → List ℕ → LeadRecord = λ g t d. record { generation = g; together = t; dirty = d } in
    ap (λ (g : ℕ). make g v.together v.dirty) generation ∙ ap (λ (t : Bool). make w.generation t v.dirty) together ∙ ap (λ (d : List ℕ). make w.generation w.together d) dirty

-- a block is the text of at most one value
pub one_value : (v w : LeadRecord) (block : List ℕ) → IsRecordText v block → IsRecordText w block → v ≡ w
one_value v w block of_v of_w =
    let same = sym of_v.spells ∙ of_w.spells in
    let others : v.dirty ++ replicate (32768 - length (record_bytes v)) 0 ≡ w.dirty ++ replicate (32768 - length (record_bytes w)) 0 = ap (drop 8) same in
    same_value v w
    (big_bytes-injective 4 v.generation w.generation (omega (arith, of_v.lawful.numbered)) (omega (arith, of_w.lawful.numbered)) (ap (λ (l : List ℕ). take 4 (drop 4 l)) same))
    (together_byte-injective v.together w.together (ap (λ (l : List ℕ). get_or l 3 0) same))
    (sym (take_at v.dirty (replicate (32768 - length (record_bytes v)) 0) REGIONS of_v.lawful.regions) ∙ ap (take REGIONS) others ∙ take_at w.dirty (replicate (32768 - length (record_bytes w)) 0) REGIONS of_w.lawful.regions)

-- the first eight bytes
abbrev pub record_begin : Bool → ℕ → List ℕ
record_begin together generation = 76 ∷ 69 ∷ 1 ∷ together_byte together ∷ big_bytes 4 generation

-- a value's parts, one after another, are its text
text_spelled : (value : LeadRecord) (n : ℕ) → IsLawfulRecord value → n + REGIONS ≡ 32760 → IsRecordText value (record_begin value.together value.generation ++ (value.dirty ++ replicate n 0))
text_spelled value n lawful long =
    let size : length (record_bytes value) ≡ 8 + length value.dirty = length-append (record_begin value.together value.generation) value.dirty in
    let count : n ≡ 32768 - length (record_bytes value) = omega (arith, size, long, lawful.regions) in
    record { lawful = lawful; spells = ap (λ (k : ℕ). record_begin value.together value.generation ++ (value.dirty ++ replicate k 0)) count }

-- the parts, written over a whole block, are the text
pub text_written : (value : LeadRecord) (held begin regions gap : List ℕ) (n : ℕ) → IsLawfulRecord value → length held ≡ 32768 → begin ≡ record_begin value.together value.generation → regions ≡ value.dirty → n + REGIONS ≡ 32760 → gap ≡ replicate n 0
    → IsRecordText value (take (length held) ((begin ++ (regions ++ gap)) ++ drop (length (begin ++ (regions ++ gap))) held))
text_written value held begin regions gap n lawful long begin_is regions_are sum gap_is =
    let parts : begin ++ (regions ++ gap) ≡ record_begin value.together value.generation ++ (value.dirty ++ replicate n 0) =
    ap₂ (λ (u v : List ℕ). u ++ v) begin_is (ap₂ (λ (u v : List ℕ). u ++ v) regions_are gap_is) in
    let P : List ℕ → Type 0 = IsRecordText value in
    let zero_byte : ℕ = 0 in
    let zeros : List ℕ = replicate n 0 in
    let whole : length (begin ++ (regions ++ gap)) ≡ length held =
    ap length parts ∙ length-append (record_begin value.together value.generation) (value.dirty ++ replicate n 0) ∙ omega (arith, length-append value.dirty zeros, length-replicate n zero_byte, lawful.regions, sum, long) in
    subst P (sym (written_whole (begin ++ (regions ++ gap)) held whole)) (subst P (sym parts) (text_spelled value n lawful sum))

-- the parts that were read make the value whose text the block is
pub text_read : (value : LeadRecord) (block gap : List ℕ) → IsLawfulRecord value → length block ≡ 32768 → take 4 block ≡ 76 ∷ 69 ∷ 1 ∷ together_byte value.together ∷ [] → take 4 (drop 4 block) ≡ big_bytes 4 value.generation → value.dirty ≡ take REGIONS (drop 8 block) → gap ≡ drop (8 + REGIONS) block → gap ≡ replicate (length gap) 0
    → IsRecordText value block
text_read value block gap lawful long begins counted dirty gap_is zero =
    let rest : drop REGIONS (drop 8 block) ≡ replicate (length gap) 0 = drop-drop REGIONS 8 block ∙ sym gap_is ∙ zero in
    let third : drop 8 block ≡ value.dirty ++ replicate (length gap) 0 =
    sym (take-append-drop REGIONS (drop 8 block)) ∙ ap₂ (λ (u v : List ℕ). u ++ v) (sym dirty) rest in
    let second : drop 4 block ≡ big_bytes 4 value.generation ++ (value.dirty ++ replicate (length gap) 0) =
    sym (take-append-drop 4 (drop 4 block)) ∙ ap₂ (λ (u v : List ℕ). u ++ v) counted (drop-drop 4 4 block ∙ third) in
    let all : block ≡ record_begin value.together value.generation ++ (value.dirty ++ replicate (length gap) 0) =
    sym (take-append-drop 4 block) ∙ ap₂ (λ (u v : List ℕ). u ++ v) begins second in
    let sum : length gap + REGIONS ≡ 32760 = omega (arith, ap length gap_is, length-drop (8 + REGIONS) block, long) in
    let P : List ℕ → Type 0 = IsRecordText value in
    subst P (sym all) (text_spelled value (length gap) lawful sum)

-- where the first bytes are others, the block is no text
pub no_begin : (block : List ℕ) → ((together : Bool) → take 4 block ≡ 76 ∷ 69 ∷ 1 ∷ together_byte together ∷ [] → ⊥) → (value : LeadRecord) → IsRecordText value block → ⊥
no_begin block none value text = none value.together (ap (take 4) text.spells)

-- where another byte than zero comes after the regions, the block is no text
pub no_gap : (block gap : List ℕ) → gap ≡ drop (8 + REGIONS) block → (gap ≡ replicate (length gap) 0 → ⊥) → (value : LeadRecord) → IsRecordText value block → ⊥
no_gap block gap gap_is other value text =
    let n : ℕ = 32768 - length (record_bytes value) in
    let zero_byte : ℕ = 0 in
    let spelled : drop 8 block ≡ value.dirty ++ replicate n 0 = ap (drop 8) text.spells in
    let rest : gap ≡ replicate n 0 =
    gap_is ∙ sym (drop-drop REGIONS 8 block) ∙ ap (drop REGIONS) spelled ∙ drop_at value.dirty (replicate n 0) REGIONS text.lawful.regions in
    other (rest ∙ ap (λ (k : ℕ). replicate k 0) (sym (ap length rest ∙ length-replicate n zero_byte)))

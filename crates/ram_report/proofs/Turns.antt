-- Texts that are printed piece by piece.
use Rattle.std.proofs.Common.{◌≡◌, ℕ, ◌+◌, ◌-◌, ◌*◌, ◌<◌, ◌≤◌, Option, None, Some, Result, List, [], ◌∷◌, ◌++◌, length, get_or, take, drop, min, suc, zero, refl, sym, ◌∙◌, ap, subst, arith, append_assoc, take-add}
use Rattle.std.specs.List.{flat_map, range_with_len}
use Rattle.std.specs.Io.KnownBytes.{append_known}
use Rattle.std.proofs.lemmas.List.{append-nil, map-id, flat_map_more, take_all}
use Rattle.std.proofs.lemmas.List.FromFn.{map-range_with_len_more}
use Rattle.hex.specs.Hex.{encode_lower, encode_with, lower_digits}
use Rattle.ram_report.specs.declared.gathered.SinkFailed.{SinkFailed}
use Rattle.ram_report.specs.Writer.{IsPut, IsCutShort, TextRule}
use Rattle.ram_report.specs.ReportLines.{lost_line, lost_text, sectors_text, sector_text, sector_at}
use Rattle.ram_report.proofs.Prints.{put_both, put_cut, cut_first}

-- nothing is printed yet
append_known-nil : (a : Option (List ℕ)) → a ≡ append_known a []
append_known-nil None = refl
append_known-nil (Some xs) = ap Some (sym (append-nil xs))

pub nothing_put : (a : Option (List ℕ)) (f : ℕ) → IsPut a a f f []
nothing_put a f = record { grew = append_known-nil a; count = omega arith }

-- one piece more
pub piece_put : (T : ℕ → List ℕ) (a b c : Option (List ℕ)) (f g h k : ℕ) (piece : List ℕ) → IsPut a b f g (T k) → IsPut b c g h piece → T (k + 1) ≡ T k ++ piece → IsPut a c f h (T (k + 1))
piece_put T a b c f g h k piece so_far one more = subst (IsPut a c f h) (sym more) (put_both a b c f g h (T k) piece so_far one)

-- the text of some pieces is a prefix of the text of more
prefix : (T : ℕ → List ℕ) → ((k : ℕ) → (rest : List ℕ) × (T (k + 1) ≡ T k ++ rest)) → (k n : ℕ) → (rest : List ℕ) × (T (k + n) ≡ T k ++ rest)
prefix T more k zero = ([], ap T (let e : k + 0 ≡ k = omega arith in e) ∙ sym (append-nil (T k)))
prefix T more k (suc n) =
    let before = prefix T more k n in
    let one = more (k + n) in
    (before.0 ++ one.0, ap T (let e : k + suc n ≡ k + n + 1 = omega arith in e) ∙ one.1 ∙ ap (λ xs. xs ++ one.0) before.1 ∙ append_assoc (T k) before.0 one.0)

-- a piece was cut off
pub piece_cut : {o : Option ℕ} (T : ℕ → List ℕ) → ((k : ℕ) → (rest : List ℕ) × (T (k + 1) ≡ T k ++ rest)) → (a b c : Option (List ℕ)) (f g h k n : ℕ) (piece : List ℕ) → k < n → IsPut a b f g (T k) → IsCutShort o b c g h piece → T (k + 1) ≡ T k ++ piece → IsCutShort o a c f h (T n)
piece_cut {o} T every a b c f g h k n piece below so_far cut more =
    let all = prefix T every (k + 1) (n - (k + 1)) in
    let whole : T n ≡ T (k + 1) ++ all.0 = ap T (let e : n ≡ k + 1 + (n - (k + 1)) = omega arith in e) ∙ all.1 in
    subst (IsCutShort o a c f h) (sym whole)
    (cut_first a c f h (T (k + 1)) all.0 (subst (IsCutShort o a c f h) (sym more) (put_cut a b c f g h (T k) piece so_far cut)))

-- one sector more
range_more : (n : ℕ) → range_with_len 0 (n + 1) ≡ range_with_len 0 n ++ n ∷ []
range_more n =
    sym (map-id (range_with_len 0 (n + 1))) ∙ map-range_with_len_more (λ k. k) 0 n n (let e : 0 + n ≡ n = omega arith in e)
    ∙ ap (λ xs. xs ++ n ∷ []) (map-id (range_with_len 0 n))

pub sectors_text_more : (lba : ℕ) (bytes : List ℕ) (k : ℕ) → sectors_text lba bytes (k + 1) ≡ sectors_text lba bytes k ++ sector_text (lba + k) (sector_at bytes k)
sectors_text_more lba bytes k =
    let f : ℕ → List ℕ = λ j. sector_text (lba + j) (sector_at bytes j) in
    ap (flat_map f) (range_more k) ∙ sym (flat_map_more f [] (range_with_len 0 k) k)

pub sectors_text_every : (lba : ℕ) (bytes : List ℕ) (k : ℕ) → (rest : List ℕ) × (sectors_text lba bytes (k + 1) ≡ sectors_text lba bytes k ++ rest)
sectors_text_every lba bytes k = (sector_text (lba + k) (sector_at bytes k), sectors_text_more lba bytes k)

-- one block more
pub lost_text_more : (found : List ℕ) (k : ℕ) → lost_text found (k + 1) ≡ lost_text found k ++ lost_line (get_or found k 0)
lost_text_more found k =
    let f : ℕ → List ℕ = λ j. lost_line (get_or found j 0) in
    ap (flat_map f) (range_more k) ∙ sym (flat_map_more f [] (range_with_len 0 k) k)

pub lost_text_every : (found : List ℕ) (k : ℕ) → (rest : List ℕ) × (lost_text found (k + 1) ≡ lost_text found k ++ rest)
lost_text_every found k = (lost_line (get_or found k 0), lost_text_more found k)

-- the part of sector k
pub sector_is : (bytes : List ℕ) (k : ℕ) → take (2048 * (k + 1) - 2048 * k) (drop (2048 * k) bytes) ≡ sector_at bytes k
sector_is bytes k = ap (λ n. take n (drop (2048 * k) bytes)) (let e : 2048 * (k + 1) - 2048 * k ≡ 2048 = omega arith in e)

-- the digits of bytes and more bytes
encode-append : (table xs ys : List ℕ) → encode_with table (xs ++ ys) ≡ encode_with table xs ++ encode_with table ys
unfolding encode_with
encode-append table [] ys = refl
encode-append table (x ∷ xs) ys = rw (encode-append table xs ys) refl

-- the digits of the bytes so far
abbrev pub digits_so_far : List ℕ → ℕ → List ℕ
digits_so_far bytes k = encode_lower (take (min (length bytes) (2048 * k)) bytes)

-- those of the next piece
abbrev pub next_piece : List ℕ → ℕ → List ℕ
next_piece bytes k = take (min (length bytes) (2048 * (k + 1)) - min (length bytes) (2048 * k)) (drop (min (length bytes) (2048 * k)) bytes)

pub digits_more : (bytes : List ℕ) (k : ℕ) → digits_so_far bytes (k + 1) ≡ digits_so_far bytes k ++ encode_lower (next_piece bytes k)
digits_more bytes k =
    let m : ℕ = min (length bytes) (2048 * k) in
    let n : ℕ = min (length bytes) (2048 * (k + 1)) - min (length bytes) (2048 * k) in
    ap (λ j. encode_lower (take j bytes)) (let e : min (length bytes) (2048 * (k + 1)) ≡ min (length bytes) (2048 * k) + (min (length bytes) (2048 * (k + 1)) - min (length bytes) (2048 * k)) = omega arith in e)
    ∙ ap encode_lower (take-add m n bytes) ∙ encode-append lower_digits (take m bytes) (take n (drop m bytes))

pub digits_every : (bytes : List ℕ) (k : ℕ) → (rest : List ℕ) × (digits_so_far bytes (k + 1) ≡ digits_so_far bytes k ++ rest)
digits_every bytes k = (encode_lower (next_piece bytes k), digits_more bytes k)

-- the piece that is printed at k
pub piece_is : (bytes : List ℕ) (k end : ℕ) → 2048 * k < length bytes → end ≡ min (length bytes) (2048 * k + 2048) → take (end - 2048 * k) (drop (2048 * k) bytes) ≡ next_piece bytes k
piece_is bytes k end inside is =
    let start : min (length bytes) (2048 * k) ≡ 2048 * k = omega arith in
    let ends : min (length bytes) (2048 * (k + 1)) ≡ end = omega arith in
    ap (λ m. take (end - m) (drop m bytes)) (sym start) ∙ ap (λ e. take (e - min (length bytes) (2048 * k)) (drop (min (length bytes) (2048 * k)) bytes)) (sym ends)

-- all of them, at the end
pub digits_all : (bytes : List ℕ) (k : ℕ) → length bytes ≤ 2048 * k → digits_so_far bytes k ≡ encode_lower bytes
digits_all bytes k le = ap encode_lower (take_all (min (length bytes) (2048 * k)) bytes (omega arith))

-- before the first piece
digits_none : (bytes : List ℕ) → [] ≡ digits_so_far bytes 0
unfolding encode_with
digits_none bytes = ap (λ n. encode_lower (take n bytes)) (let e : 0 ≡ min (length bytes) (2048 * 0) = omega arith in e)

pub no_digits_put : (a : Option (List ℕ)) (f : ℕ) (bytes : List ℕ) → IsPut a a f f (digits_so_far bytes 0)
no_digits_put a f bytes = subst (IsPut a a f f) (digits_none bytes) (nothing_put a f)

-- the same text, under another name or in other groups
pub renamed : (o : Option ℕ) (a b : Option (List ℕ)) (f g : ℕ) (s s' t : List ℕ) (answer : Result (Unit {0}) SinkFailed) → s ≡ s' → TextRule o a b f g (s ++ t) answer → TextRule o a b f g (s' ++ t) answer
renamed o a b f g s s' t answer is rule = subst (λ (x : List ℕ). TextRule o a b f g (x ++ t) answer) is rule

pub renamed_cut : {o : Option ℕ} (a b : Option (List ℕ)) (f g : ℕ) (s s' t : List ℕ) → s ≡ s' → IsCutShort o a b f g (s ++ t) → IsCutShort o a b f g (s' ++ t)
renamed_cut {o} a b f g s s' t is cut = subst (λ (x : List ℕ). IsCutShort o a b f g (x ++ t)) is cut

pub regrouped : (o : Option ℕ) (a b : Option (List ℕ)) (f g : ℕ) (s t u v : List ℕ) (answer : Result (Unit {0}) SinkFailed) → TextRule o a b f g (s ++ (t ++ (u ++ v))) answer → TextRule o a b f g (s ++ (t ++ u ++ v)) answer
regrouped o a b f g s t u v answer rule = subst (λ (x : List ℕ). TextRule o a b f g (s ++ x) answer) (sym (append_assoc t u v)) rule

pub all_cut : {o : Option ℕ} (a b : Option (List ℕ)) (f g : ℕ) (s t : List ℕ) → s ≡ t → IsCutShort o a b f g s → IsCutShort o a b f g t
all_cut {o} a b f g s t is cut = subst (IsCutShort o a b f g) is cut

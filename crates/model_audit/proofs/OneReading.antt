-- A text is that of one list of lines.
use Rattle.std.proofs.Common.{◌≡◌, ℕ, ◌+◌, ◌<◌, ◌%◌, ◌^◌, ◌*◌, ◌⊎◌, inl, inr, Bool, true, false, not, ◌&&◌, eqb, List, [], ◌∷◌, ◌++◌, length, get_or, decimal, refl, sym, ap, ap₂, ◌∙◌, arith}
use Rattle.std.specs.List.{flat_map, list_all}
use Rattle.std.proofs.lemmas.Fmt.{decimal_injective, decimal_by_steps}
use Rattle.std.proofs.lemmas.Bool.{ne_eqb, eq-eqb}
use Rattle.std.proofs.lemmas.List.{append_assoc}
use Rattle.std.proofs.lemmas.List.Concat.{flat_map-cons}
use Rattle.model_geometry.specs.declared.kinds.LayoutKind.{LayoutKind}
use Rattle.model_geometry.specs.declared.kinds.LayoutKind.TheVariants.{OneGroup, EachZone}
use Rattle.model_lists.specs.declared.dds.PdlKind.{PdlKind}
use Rattle.model_lists.specs.declared.dds.PdlKind.TheVariants.{P, G1, G2}
use Rattle.model_lists.specs.declared.versions.Version.{Version}
use Rattle.model_lists.specs.declared.versions.Version.TheVariants.{One, Two}
use Rattle.model_audit.specs.declared.lines.CopyState.{CopyState}
use Rattle.model_audit.specs.declared.lines.CopyState.TheVariants.{Exact, Other, Unread, Dead}
use Rattle.model_audit.specs.declared.lines.CertificateLine.{CertificateLine}
use Rattle.model_audit.specs.declared.lines.CertificateLine.TheVariants.{Audit, Geometry, Bare, Dds, Pdl, Sdl, Pair, Retired, Copy, Lost, End}
use Rattle.model_audit.specs.Text.{layout_words, version_word, kind_word, state_word, certificate_words, spaced, parted, certificate_line, text_of, FitsNumbers, HaveNumbers}

-- ---- bytes that are neither a space nor a line feed

both_left : (a b : Bool) → (a && b) ≡ true → a ≡ true
both_left true b h = refl
both_left false b h = h

both_right : (a b : Bool) → (a && b) ≡ true → b ≡ true
both_right true b h = h
both_right false b h = absurd (not_true h)
  where
    not_true : false ≡ true → ⊥
    not_true h = cc

both_from : (a b : Bool) → a ≡ true → b ≡ true → (a && b) ≡ true
both_from true b p q = q
both_from false b p q = p

is_plain : ℕ → Bool
is_plain byte = not (eqb byte 32) && not (eqb byte 10)

Plain : List ℕ → Type 0
unfolding is_plain
Plain word = list_all is_plain word ≡ true

-- a space or a line feed
IsMark : ℕ → Type 0
IsMark byte = (byte ≡ 32) ⊎ (byte ≡ 10)

mark_no_plain : (byte : ℕ) → IsMark byte → is_plain byte ≡ true → ⊥
unfolding is_plain IsMark
mark_no_plain byte (inl space) plain = (let h = both_left (not (eqb byte 32)) (not (eqb byte 10)) plain in let e = eq-eqb byte 32 space in none (eqb byte 32) h e)
  where
    none : (t : Bool) → not t ≡ true → t ≡ true → ⊥
    none true p q = cc
    none false p q = cc
mark_no_plain byte (inr feed) plain = (let h = both_right (not (eqb byte 32)) (not (eqb byte 10)) plain in let e = eq-eqb byte 10 feed in none (eqb byte 10) h e)
  where
    none : (t : Bool) → not t ≡ true → t ≡ true → ⊥
    none true p q = cc
    none false p q = cc

plain_first : (byte : ℕ) (word : List ℕ) → Plain (byte ∷ word) → is_plain byte ≡ true
unfolding Plain
plain_first byte word plain = both_left (is_plain byte) (list_all is_plain word) plain

plain_rest : (byte : ℕ) (word : List ℕ) → Plain (byte ∷ word) → Plain word
unfolding Plain
plain_rest byte word plain = both_right (is_plain byte) (list_all is_plain word) plain

plain_append : (a b : List ℕ) → Plain a → Plain b → Plain (a ++ b)
unfolding Plain
plain_append [] b p q = q
plain_append (x ∷ xs) b p q = both_from (is_plain x) (list_all is_plain (xs ++ b)) (both_left (is_plain x) (list_all is_plain xs) p) (plain_append xs b (both_right (is_plain x) (list_all is_plain xs) p) q)

digit_plain : (d : ℕ) → Plain ((48 + d) ∷ [])
unfolding Plain is_plain
digit_plain d = both_from (not (eqb (48 + d) 32) && not (eqb (48 + d) 10)) true
    (both_from (not (eqb (48 + d) 32)) (not (eqb (48 + d) 10)) (ap not (ne_eqb (48 + d) 32 (λ h. omega (arith, h)))) (ap not (ne_eqb (48 + d) 10 (λ h. omega (arith, h))))) refl

decimal_plain : (n : ℕ) → n < 2 ^ 64 → Plain (decimal n)
decimal_plain n small = decimal_by_steps (λ k ds. Plain ds) (λ k h. digit_plain k) (λ k ds h before. plain_append ds ((48 + k % 10) ∷ []) before (digit_plain (k % 10))) n small

-- ---- words that are parted are parted in one way

record Same (w v : List ℕ) (c d : ℕ) (x y : List ℕ) : Type 0 where
  pub word : w ≡ v
  pub mark : c ≡ d
  pub rest : x ≡ y

head_same : (a b : ℕ) (x y : List ℕ) → a ∷ x ≡ b ∷ y → a ≡ b
head_same a b x y h = cc

tail_same : (a b : ℕ) (x y : List ℕ) → a ∷ x ≡ b ∷ y → x ≡ y
tail_same a b x y h = cc

first_word : (w v : List ℕ) (c d : ℕ) (x y : List ℕ) → Plain w → Plain v → IsMark c → IsMark d → w ++ c ∷ x ≡ v ++ d ∷ y → Same w v c d x y
first_word [] [] c d x y p q m n h = record { word = refl; mark = head_same c d x y h; rest = tail_same c d x y h }
first_word [] (b ∷ v) c d x y p q m n h = absurd (mark_no_plain c m (ap is_plain (head_same c b x (v ++ d ∷ y) h) ∙ plain_first b v q))
first_word (a ∷ w) [] c d x y p q m n h = absurd (mark_no_plain d n (ap is_plain (sym (head_same a d (w ++ c ∷ x) y h)) ∙ plain_first a w p))
first_word (a ∷ w) (b ∷ v) c d x y p q m n h =
    let later = first_word w v c d x y (plain_rest a w p) (plain_rest b v q) m n (tail_same a b (w ++ c ∷ x) (v ++ d ∷ y) h) in
    record { word = ap₂ (λ (k : ℕ) (l : List ℕ). k ∷ l) (head_same a b (w ++ c ∷ x) (v ++ d ∷ y) h) later.word; mark = later.mark; rest = later.rest }

-- each word is plain
AllPlain : List (List ℕ) → Type 0
AllPlain [] = Unit {0}
AllPlain (word ∷ words) = Plain word × AllPlain words

record SameWords (ws vs : List (List ℕ)) (x y : List ℕ) : Type 0 where
  pub words : ws ≡ vs
  pub rest : x ≡ y

is_space : IsMark 32
unfolding IsMark
is_space = inl refl

is_feed : IsMark 10
unfolding IsMark
is_feed = inr refl

-- what comes behind a word: a space or a line feed, and the rest
record Front (bytes : List ℕ) : Type 0 where
  pub mark : ℕ
  pub is_mark : IsMark mark
  pub tail : List ℕ
  pub is : bytes ≡ mark ∷ tail

front : (ws : List (List ℕ)) (x : List ℕ) → Front (spaced ws ++ 10 ∷ x)
front [] x = record { mark = 10; is_mark = is_feed; tail = x; is = refl }
front (u ∷ us) x = record { mark = 32; is_mark = is_space; tail = (u ++ spaced us) ++ 10 ∷ x; is = refl }

record SameFirst (w v x y : List ℕ) : Type 0 where
  pub word : w ≡ v
  pub rest : x ≡ y

one_word : (w v x y : List ℕ) → Plain w → Plain v → Front x → Front y → w ++ x ≡ v ++ y → SameFirst w v x y
one_word w v x y p q f g h =
    let same = first_word w v f.mark g.mark f.tail g.tail p q f.is_mark g.is_mark (ap (λ (l : List ℕ). w ++ l) (sym f.is) ∙ h ∙ ap (λ (l : List ℕ). v ++ l) g.is) in
    record { word = same.word; rest = f.is ∙ ap₂ (λ (k : ℕ) (l : List ℕ). k ∷ l) same.mark same.rest ∙ sym g.is }

-- the words behind the first, up to the line feed
spaced_same : (ws vs : List (List ℕ)) (x y : List ℕ) → AllPlain ws → AllPlain vs → spaced ws ++ 10 ∷ x ≡ spaced vs ++ 10 ∷ y → SameWords ws vs x y
unfolding AllPlain
spaced_same [] [] x y p q h = record { words = refl; rest = tail_same 10 10 x y h }
spaced_same [] (v ∷ vs) x y p q h = absurd (let e = head_same 10 32 x ((v ++ spaced vs) ++ 10 ∷ y) h in omega (arith, e))
spaced_same (w ∷ ws) [] x y p q h = absurd (let e = head_same 32 10 ((w ++ spaced ws) ++ 10 ∷ x) y h in omega (arith, e))
spaced_same (w ∷ ws) (v ∷ vs) x y p q h =
    let inner = tail_same 32 32 ((w ++ spaced ws) ++ 10 ∷ x) ((v ++ spaced vs) ++ 10 ∷ y) h in
    let first = one_word w v (spaced ws ++ 10 ∷ x) (spaced vs ++ 10 ∷ y) p.0 q.0 (front ws x) (front vs y)
    (sym (append_assoc w (spaced ws) (10 ∷ x)) ∙ inner ∙ append_assoc v (spaced vs) (10 ∷ y)) in
    let later = spaced_same ws vs x y p.1 q.1 first.rest in
    record { words = ap₂ (λ (u : List ℕ) (us : List (List ℕ)). u ∷ us) first.word later.words; rest = later.rest }

parted_same : (ws vs : List (List ℕ)) (x y : List ℕ) → 0 < length ws → 0 < length vs → AllPlain ws → AllPlain vs → parted ws ++ 10 ∷ x ≡ parted vs ++ 10 ∷ y → SameWords ws vs x y
unfolding AllPlain
parted_same [] vs x y some some' p q h = absurd (omega (arith, some))
parted_same (w ∷ ws) [] x y some some' p q h = absurd (omega (arith, some'))
parted_same (w ∷ ws) (v ∷ vs) x y some some' p q h =
    let first = one_word w v (spaced ws ++ 10 ∷ x) (spaced vs ++ 10 ∷ y) p.0 q.0 (front ws x) (front vs y)
    (sym (append_assoc w (spaced ws) (10 ∷ x)) ∙ h ∙ append_assoc v (spaced vs) (10 ∷ y)) in
    let later = spaced_same ws vs x y p.1 q.1 first.rest in
    record { words = ap₂ (λ (u : List ℕ) (us : List (List ℕ)). u ∷ us) first.word later.words; rest = later.rest }

-- ---- the words of a line are plain, and tell it

layout_plain : (k : LayoutKind) → AllPlain (layout_words k)
unfolding Plain is_plain AllPlain
layout_plain OneGroup = tt
layout_plain EachZone = (refl, tt)

version_plain : (v : Version) → Plain (version_word v)
unfolding Plain is_plain
version_plain One = refl
version_plain Two = refl

kind_plain : (k : PdlKind) → Plain (kind_word k)
unfolding Plain is_plain
kind_plain P = refl
kind_plain G1 = refl
kind_plain G2 = refl

state_plain : (s : CopyState) → Plain (state_word s)
unfolding Plain is_plain
state_plain Exact = refl
state_plain Other = refl
state_plain Unread = refl
state_plain Dead = refl

all_plain : (line : CertificateLine) → FitsNumbers line → AllPlain (certificate_words line)
unfolding Plain is_plain AllPlain
all_plain Audit h = (refl, tt)
all_plain (Geometry zones scale psa layout) h = (refl, (decimal_plain zones h.0, (decimal_plain scale h.1, (decimal_plain psa h.2, layout_plain layout))))
all_plain (Bare mark) h = (refl, (decimal_plain mark h, tt))
all_plain (Dds version counter area) h = (refl, (version_plain version, (decimal_plain counter h.0, (decimal_plain area h.1, tt))))
all_plain (Pdl block kind) h = (refl, (decimal_plain block h, (kind_plain kind, tt)))
all_plain (Sdl counter area ssa) h = (refl, (decimal_plain counter h.0, (decimal_plain area h.1, (decimal_plain ssa h.2, tt))))
all_plain (Pair defective replacement) h = (refl, (decimal_plain defective h.0, (decimal_plain replacement h.1, tt)))
all_plain (Retired defective) h = (refl, (decimal_plain defective h, tt))
all_plain (Copy block state) h = (refl, (decimal_plain block h, (state_plain state, tt)))
all_plain (Lost lba) h = (refl, (decimal_plain lba h, tt))
all_plain (End before) h = (refl, (decimal_plain before h, tt))

some_words : (line : CertificateLine) → 0 < length (certificate_words line)
some_words Audit = omega arith
some_words (Geometry zones scale psa layout) = omega arith
some_words (Bare mark) = omega arith
some_words (Dds version counter area) = omega arith
some_words (Pdl block kind) = omega arith
some_words (Sdl counter area ssa) = omega arith
some_words (Pair defective replacement) = omega arith
some_words (Retired defective) = omega arith
some_words (Copy block state) = omega arith
some_words (Lost lba) = omega arith
some_words (End before) = omega arith

word_at : (k : ℕ) → List (List ℕ) → List ℕ
word_at k words = get_or words k []

number_same : (m n k : ℕ) (ws vs : List (List ℕ)) → ws ≡ vs → word_at k ws ≡ decimal m → word_at k vs ≡ decimal n → m < 2 ^ 64 → n < 2 ^ 64 → m ≡ n
number_same m n k ws vs h a b p q = decimal_injective m n p q (sym a ∙ ap (word_at k) h ∙ b)

letter_of : List ℕ → ℕ → ℕ
letter_of word k = get_or word k 0

layout_same : (k l : LayoutKind) → word_at 0 (layout_words k) ≡ word_at 0 (layout_words l) → k ≡ l
unfolding word_at
layout_same OneGroup OneGroup h = refl
layout_same OneGroup EachZone h = absurd (let e = ap (λ (l : List ℕ). length l) h in omega (arith, e))
layout_same EachZone OneGroup h = absurd (let e = ap (λ (l : List ℕ). length l) h in omega (arith, e))
layout_same EachZone EachZone h = refl

version_same : (v w : Version) → version_word v ≡ version_word w → v ≡ w
version_same One One h = refl
version_same One Two h = absurd (let e = ap (λ (l : List ℕ). get_or l 0 0) h in omega (arith, e))
version_same Two One h = absurd (let e = ap (λ (l : List ℕ). get_or l 0 0) h in omega (arith, e))
version_same Two Two h = refl

kind_same : (v w : PdlKind) → kind_word v ≡ kind_word w → v ≡ w
kind_same P P h = refl
kind_same P G1 h = absurd (let e = ap (λ (l : List ℕ). get_or l 0 0) h in omega (arith, e))
kind_same P G2 h = absurd (let e = ap (λ (l : List ℕ). get_or l 0 0) h in omega (arith, e))
kind_same G1 P h = absurd (let e = ap (λ (l : List ℕ). get_or l 0 0) h in omega (arith, e))
kind_same G1 G1 h = refl
kind_same G1 G2 h = absurd (let e = ap (λ (l : List ℕ). get_or l 1 0) h in omega (arith, e))
kind_same G2 P h = absurd (let e = ap (λ (l : List ℕ). get_or l 0 0) h in omega (arith, e))
kind_same G2 G1 h = absurd (let e = ap (λ (l : List ℕ). get_or l 1 0) h in omega (arith, e))
kind_same G2 G2 h = refl

state_same : (v w : CopyState) → state_word v ≡ state_word w → v ≡ w
state_same Exact Exact h = refl
state_same Other Other h = refl
state_same Unread Unread h = refl
state_same Dead Dead h = refl
state_same v w h = absurd (let e = ap (λ (l : List ℕ). get_or l 0 0) h in omega (arith, e))

-- the first two letters of the first word
letters : List (List ℕ) → ℕ
letters words = 256 * get_or (get_or words 0 []) 0 0 + get_or (get_or words 0 []) 1 0

line_same : (a b : CertificateLine) → FitsNumbers a → FitsNumbers b → certificate_words a ≡ certificate_words b → a ≡ b
unfolding word_at letters
line_same Audit Audit p q h = refl
line_same (Geometry a b c k) (Geometry x y z l) p q h =
    ap (λ n. Geometry n b c k) (number_same a x 1 _ _ h refl refl p.0 q.0) ∙ ap (λ n. Geometry x n c k) (number_same b y 2 _ _ h refl refl p.1 q.1)
    ∙ ap (λ n. Geometry x y n k) (number_same c z 3 _ _ h refl refl p.2 q.2) ∙ ap (λ n. Geometry x y z n) (layout_same k l (ap (word_at 4) h))
line_same (Bare a) (Bare x) p q h = ap (λ k. Bare k) (number_same a x 1 _ _ h refl refl p q)
line_same (Dds v a b) (Dds w x y) p q h =
    ap (λ k. Dds k a b) (version_same v w (ap (word_at 1) h)) ∙ ap (λ k. Dds w k b) (number_same a x 2 _ _ h refl refl p.0 q.0)
    ∙ ap (λ k. Dds w x k) (number_same b y 3 _ _ h refl refl p.1 q.1)
line_same (Pdl a k) (Pdl x l) p q h = ap (λ b. Pdl b k) (number_same a x 1 _ _ h refl refl p q) ∙ ap (λ b. Pdl x b) (kind_same k l (ap (word_at 2) h))
line_same (Sdl a b c) (Sdl x y z) p q h =
    ap (λ k. Sdl k b c) (number_same a x 1 _ _ h refl refl p.0 q.0) ∙ ap (λ k. Sdl x k c) (number_same b y 2 _ _ h refl refl p.1 q.1)
    ∙ ap (λ k. Sdl x y k) (number_same c z 3 _ _ h refl refl p.2 q.2)
line_same (Pair a b) (Pair x y) p q h = ap (λ k. Pair k b) (number_same a x 1 _ _ h refl refl p.0 q.0) ∙ ap (λ k. Pair x k) (number_same b y 2 _ _ h refl refl p.1 q.1)
line_same (Retired a) (Retired x) p q h = ap (λ k. Retired k) (number_same a x 1 _ _ h refl refl p q)
line_same (Copy a s) (Copy x t) p q h = ap (λ b. Copy b s) (number_same a x 1 _ _ h refl refl p q) ∙ ap (λ b. Copy x b) (state_same s t (ap (word_at 2) h))
line_same (Lost a) (Lost x) p q h = ap (λ k. Lost k) (number_same a x 1 _ _ h refl refl p q)
line_same (End a) (End x) p q h = ap (λ k. End k) (number_same a x 1 _ _ h refl refl p q)
line_same a b p q h = absurd (let e = ap letters h in omega (arith, e))

-- ---- all lines

-- a line before others, up to its line feed
moved : (line : CertificateLine) (told : List CertificateLine) → flat_map certificate_line (line ∷ told) ≡ parted (certificate_words line) ++ 10 ∷ flat_map certificate_line told
moved line told = flat_map-cons certificate_line line told ∙ append_assoc (parted (certificate_words line)) (10 ∷ []) (flat_map certificate_line told)

no_text : (line : CertificateLine) (told : List CertificateLine) → [] ≡ flat_map certificate_line (line ∷ told) → ⊥
no_text line told h = none (parted (certificate_words line)) (flat_map certificate_line told) (h ∙ moved line told)
  where
    none : (a b : List ℕ) → [] ≡ a ++ 10 ∷ b → ⊥
    none [] b h = cc
    none (x ∷ a) b h = cc

all_same : (a b : List CertificateLine) → HaveNumbers a → HaveNumbers b → flat_map certificate_line a ≡ flat_map certificate_line b → a ≡ b
all_same [] [] p q h = refl
all_same [] (line ∷ told) p q h = absurd (no_text line told h)
all_same (line ∷ told) [] p q h = absurd (no_text line told (sym h))
all_same (line ∷ told) (other ∷ rest) p q h =
    let same = parted_same (certificate_words line) (certificate_words other) (flat_map certificate_line told) (flat_map certificate_line rest) (some_words line) (some_words other)
    (all_plain line p.0) (all_plain other q.0) (sym (moved line told) ∙ h ∙ moved other rest) in
    ap₂ (λ (x : CertificateLine) (xs : List CertificateLine). x ∷ xs) (line_same line other p.0 q.0 same.words) (all_same told rest p.1 q.1 same.rest)

pub one_reading : (a b : List CertificateLine) → HaveNumbers a → HaveNumbers b → text_of a ≡ text_of b → a ≡ b
unfolding text_of
one_reading a b p q h = all_same a b p q h

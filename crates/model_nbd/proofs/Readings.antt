-- The bytes of a message tell it, whatever follows them.
use Rattle.std.proofs.Common.{◌≡◌, ℕ, ◌<◌, ◌^◌, ◌==◌, if◌then◌else◌, List, [], ◌∷◌, ◌++◌, length, codes, length-append, subst, refl, sym, ap, ap₂, ◌∙◌, arith}
use Rattle.std.proofs.lemmas.List.{append_cancel_left, append_assoc}
use Rattle.byteorder.specs.Endian.{big_bytes}
use Rattle.model_nbd.specs.declared.Header.{Header}
use Rattle.model_nbd.specs.Messages.{OptionRequest, IsOptionRequest, option_head_bytes, option_bytes, Request, IsRequest, IsHeader, request_bytes, header_bytes, data_after, reply_bytes, requests_bytes, AreRequests, IsPartial, Splits}
use Rattle.model_nbd.proofs.Fields.{number_first, list_first}

-- the head of an option, and what follows it
pub option_head_first : (number other long far : ℕ) (x y : List ℕ) → number < 2 ^ 32 → other < 2 ^ 32 → long < 2 ^ 32 → far < 2 ^ 32
    → option_head_bytes number long ++ x ≡ option_head_bytes other far ++ y → (number ≡ other) × (long ≡ far) × (x ≡ y)
option_head_first number other long far x y small small' short short' same =
    let numbers = number_first 4 number other (big_bytes 4 long ++ x) (big_bytes 4 far ++ y) small small'
    (append_cancel_left (codes "IHAVEOPT") (big_bytes 4 number ++ big_bytes 4 long ++ x) (big_bytes 4 other ++ big_bytes 4 far ++ y) same) in
    let lengths = number_first 4 long far x y short short' numbers.1 in
    (numbers.0, lengths.0, lengths.1)

pub wish_first : (a b : OptionRequest) (x y : List ℕ) → IsOptionRequest a → IsOptionRequest b → option_bytes a ++ x ≡ option_bytes b ++ y → (a ≡ b) × (x ≡ y)
wish_first a b x y is is' same =
    let head = option_head_first a.number b.number (length a.payload) (length b.payload) (a.payload ++ x) (b.payload ++ y)
    is.number_fits is'.number_fits is.length_fits is'.length_fits same in
    let held = list_first a.payload b.payload x y head.1 head.2 in
    (ap₂ (λ (n : ℕ) (l : List ℕ). record { number = n; payload = l }) head.0 held.0, held.1)

abbrev header_of : (flags kind cookie offset len : ℕ) → Header
header_of flags kind cookie offset len = record { flags = flags; kind = kind; cookie = cookie; offset = offset; len = len }

-- the fields of a request, and what follows them
pub header_first : (a b : Header) (x y : List ℕ) → IsHeader a → IsHeader b → header_bytes a ++ x ≡ header_bytes b ++ y → (a ≡ b) × (x ≡ y)
header_first a b x y is is' same =
    let flags = number_first 2 a.flags b.flags
    (big_bytes 2 a.kind ++ big_bytes 8 a.cookie ++ big_bytes 8 a.offset ++ big_bytes 4 a.len ++ x)
    (big_bytes 2 b.kind ++ big_bytes 8 b.cookie ++ big_bytes 8 b.offset ++ big_bytes 4 b.len ++ y)
    is.flags_fit is'.flags_fit (append_cancel_left (big_bytes 4 0x25609513)
    (big_bytes 2 a.flags ++ big_bytes 2 a.kind ++ big_bytes 8 a.cookie ++ big_bytes 8 a.offset ++ big_bytes 4 a.len ++ x)
    (big_bytes 2 b.flags ++ big_bytes 2 b.kind ++ big_bytes 8 b.cookie ++ big_bytes 8 b.offset ++ big_bytes 4 b.len ++ y) same) in
    let kind = number_first 2 a.kind b.kind (big_bytes 8 a.cookie ++ big_bytes 8 a.offset ++ big_bytes 4 a.len ++ x)
    (big_bytes 8 b.cookie ++ big_bytes 8 b.offset ++ big_bytes 4 b.len ++ y) is.kind_fits is'.kind_fits flags.1 in
    let cookie = number_first 8 a.cookie b.cookie (big_bytes 8 a.offset ++ big_bytes 4 a.len ++ x)
    (big_bytes 8 b.offset ++ big_bytes 4 b.len ++ y) is.cookie_fits is'.cookie_fits kind.1 in
    let offset = number_first 8 a.offset b.offset (big_bytes 4 a.len ++ x) (big_bytes 4 b.len ++ y)
    is.offset_fits is'.offset_fits cookie.1 in
    let len = number_first 4 a.len b.len x y is.len_fits is'.len_fits offset.1 in
    (same_fields a b flags.0 kind.0 cookie.0 offset.0 len.0, len.1)
  where
    same_fields : (a b : Header) → a.flags ≡ b.flags → a.kind ≡ b.kind → a.cookie ≡ b.cookie → a.offset ≡ b.offset → a.len ≡ b.len → a ≡ b
    same_fields a b flags kind cookie offset len =
        ap (λ (n : ℕ). header_of n a.kind a.cookie a.offset a.len) flags
        ∙ ap (λ (n : ℕ). header_of b.flags n a.cookie a.offset a.len) kind
        ∙ ap (λ (n : ℕ). header_of b.flags b.kind n a.offset a.len) cookie
        ∙ ap (λ (n : ℕ). header_of b.flags b.kind b.cookie n a.len) offset
        ∙ ap (λ (n : ℕ). header_of b.flags b.kind b.cookie b.offset n) len

pub request_first : (a b : Request) (x y : List ℕ) → IsRequest a → IsRequest b → request_bytes a ++ x ≡ request_bytes b ++ y → (a ≡ b) × (x ≡ y)
request_first a b x y is is' same =
    let fields = header_first a.header b.header (a.payload ++ x) (b.payload ++ y) is.fields is'.fields same in
    let held = list_first a.payload b.payload x y
    (is.data_are ∙ ap data_after fields.0 ∙ sym is'.data_are) fields.1 in
    (ap₂ (λ (h : Header) (l : List ℕ). record { header = h; payload = l }) fields.0 held.0, held.1)

-- a reply, and what follows it
pub reply_first : (error other cookie name due : ℕ) (read shown x y : List ℕ) → error < 2 ^ 32 → other < 2 ^ 32
    → cookie < 2 ^ 64 → name < 2 ^ 64
    → length read ≡ (if error == 0 then due else 0) → length shown ≡ (if other == 0 then due else 0)
    → reply_bytes error cookie read ++ x ≡ reply_bytes other name shown ++ y
    → (error ≡ other) × (cookie ≡ name) × (read ≡ shown) × (x ≡ y)
reply_first error other cookie name due read shown x y e o c n long long' same =
    let errors = number_first 4 error other (big_bytes 8 cookie ++ read ++ x) (big_bytes 8 name ++ shown ++ y) e o
    (append_cancel_left (big_bytes 4 0x67446698) (big_bytes 4 error ++ big_bytes 8 cookie ++ read ++ x)
    (big_bytes 4 other ++ big_bytes 8 name ++ shown ++ y) same) in
    let names = number_first 8 cookie name (read ++ x) (shown ++ y) c n errors.1 in
    let held = list_first read shown x y (long ∙ ap (λ (k : ℕ). if k == 0 then due else 0) errors.0 ∙ sym long') names.1 in
    (errors.0, names.0, held.0, held.1)

-- what begins with a whole request is more than a part of one
no_part : (request : Request) (more : List ℕ) → IsRequest request → IsPartial (request_bytes request ++ more) → ⊥
no_part request more is part =
    let short = part request.header (request.payload ++ more) is.fields refl in
    omega (arith, short, is.data_are, length-append request.payload more)

streams_first : (some others : List Request) (rest left : List ℕ) → AreRequests some → AreRequests others
    → requests_bytes some ++ rest ≡ requests_bytes others ++ left → IsPartial rest → IsPartial left
    → (some ≡ others) × (rest ≡ left)
streams_first [] [] rest left are are' same part part' = (refl, same)
streams_first [] (b ∷ others) rest left are are' same part part' =
    absurd (no_part b (requests_bytes others ++ left) are'.0
    (subst IsPartial (same ∙ append_assoc (request_bytes b) (requests_bytes others) left) part))
streams_first (a ∷ some) [] rest left are are' same part part' =
    absurd (no_part a (requests_bytes some ++ rest) are.0
    (subst IsPartial (sym same ∙ append_assoc (request_bytes a) (requests_bytes some) rest) part'))
streams_first (a ∷ some) (b ∷ others) rest left are are' same part part' =
    let first = request_first a b (requests_bytes some ++ rest) (requests_bytes others ++ left) are.0 are'.0
    (sym (append_assoc (request_bytes a) (requests_bytes some) rest) ∙ same
    ∙ append_assoc (request_bytes b) (requests_bytes others) left) in
    let more = streams_first some others rest left are.1 are'.1 first.1 part part' in
    (ap₂ (λ (r : Request) (l : List Request). r ∷ l) first.0 more.0, more.1)

pub one_split : (stream : List ℕ) (some others : List Request) (rest left : List ℕ) → Splits stream some rest
    → Splits stream others left → (some ≡ others) × (rest ≡ left)
one_split stream some others rest left splits splits' =
    streams_first some others rest left splits.each splits'.each (sym splits.whole ∙ splits'.whole) splits.partial splits'.partial

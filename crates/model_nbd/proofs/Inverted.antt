-- What is asked by a request that is not refused lies on the disc.
use Rattle.std.proofs.Common.{◌≡◌, ℕ, ◌+◌, ◌*◌, ◌/◌, ◌%◌, ◌≤◌, ◌⊎◌, inl, inr, Bool, true, false, ◌==◌, ◌&&◌, nat_lt, if◌then◌else◌, refl, sym, ap, arith}
use Rattle.std.proofs.lemmas.Bool.{and_parts, eqb-true, leb-true}
use Rattle.model_nbd.specs.declared.Header.{Header}
use Rattle.model_nbd.specs.declared.NbdOperation.{NbdOperation}
use Rattle.model_nbd.specs.declared.NbdOperation.TheVariants.{Refused, Read, Write, WriteZeroes, Flush, Disconnect}
use Rattle.model_nbd.specs.declared.TheConstants.{READ, WRITE, DISCONNECT, FLUSH, WRITE_ZEROES, EINVAL, ENOSPC}
use Rattle.model_nbd.specs.Operations.{request_asks, if_taken, has_whole_sectors, is_short, ends_on_disc, is_moved, has_fua, read_asked, write_asked, flush_asked, zeroes_asked}

-- the command of what is asked, 9 for a refusal
abbrev kind_of : NbdOperation → ℕ
kind_of (Refused error) = 9
kind_of (Read lba n) = 0
kind_of (Write lba n fua) = 1
kind_of Disconnect = 2
kind_of Flush = 3
kind_of (WriteZeroes lba n fua) = 6

abbrev lba_of : NbdOperation → ℕ
lba_of (Read lba n) = lba
lba_of (Write lba n fua) = lba
lba_of (WriteZeroes lba n fua) = lba
lba_of _ = 0

abbrev count_of : NbdOperation → ℕ
count_of (Read lba n) = n
count_of (Write lba n fua) = n
count_of (WriteZeroes lba n fua) = n
count_of _ = 0

-- the two ways that a choice goes
choice : (b : Bool) (x y z : NbdOperation) → (if b then x else y) ≡ z → ((b ≡ true) × (x ≡ z)) ⊎ (y ≡ z)
choice true x y z same = inl (refl, same)
choice false x y z same = inr same

-- what was asked was taken or refused
taken : (well inside : Bool) (error : ℕ) (operations z : NbdOperation) → if_taken well inside error operations ≡ z
    → (kind_of z ≡ 9) ⊎ ((well ≡ true) × (inside ≡ true) × (operations ≡ z))
taken true true error operations z same = inr (refl, refl, same)
taken true false error operations z same = inl (ap kind_of (sym same))
taken false inside error operations z same = inl (ap kind_of (sym same))

-- the request concerns these sectors of the disc
abbrev Lies : (size lba n : ℕ) → Header → Type 0
Lies size lba n header = (header.offset ≡ 2048 * lba) × (header.len ≡ 2048 * n) × (header.offset + header.len ≤ size)

lies : (size : ℕ) (header : Header) (z : NbdOperation) → has_whole_sectors header ≡ true → ends_on_disc size header ≡ true
    → header.offset / 2048 ≡ lba_of z → header.len / 2048 ≡ count_of z → Lies size (lba_of z) (count_of z) header
lies size header z whole inside first many =
    let p = and_parts (header.offset % 2048 == 0) (header.len % 2048 == 0) whole in
    let a : header.offset % 2048 ≡ 0 = eqb-true (header.offset % 2048) 0 p.0 in
    let b : header.len % 2048 ≡ 0 = eqb-true (header.len % 2048) 0 p.1 in
    let c : header.offset + header.len ≤ size = leb-true (header.offset + header.len) size inside in
    (omega (arith, a, first), omega (arith, b, many), c)

read_lies : (size : ℕ) (header : Header) (z : NbdOperation) → read_asked size header ≡ z
    → (kind_of z ≡ 9) ⊎ ((kind_of z ≡ 0) × Lies size (lba_of z) (count_of z) header)
read_lies size header z same =
    elim (taken (is_moved header) (ends_on_disc size header) EINVAL
    (Read (header.offset / 2048) (header.len / 2048)) z same) [
      | inl no_one ↦ inl no_one
      | inr p ↦ inr (
        ap kind_of (sym p.2),
        lies size header z
            (and_parts (nat_lt header.flags 2) (has_whole_sectors header)
            (and_parts (nat_lt header.flags 2 && has_whole_sectors header) (is_short header) p.0).0).1 p.1 (ap lba_of p.2) (ap count_of p.2),
      )
    ]

write_lies : (size : ℕ) (header : Header) (z : NbdOperation) → write_asked size header ≡ z
    → (kind_of z ≡ 9) ⊎ ((kind_of z ≡ 1) × Lies size (lba_of z) (count_of z) header)
write_lies size header z same =
    elim (taken (is_moved header) (ends_on_disc size header) ENOSPC
    (Write (header.offset / 2048) (header.len / 2048) (has_fua header)) z same) [
      | inl no_one ↦ inl no_one
      | inr p ↦ inr (
        ap kind_of (sym p.2),
        lies size header z
            (and_parts (nat_lt header.flags 2) (has_whole_sectors header)
            (and_parts (nat_lt header.flags 2 && has_whole_sectors header) (is_short header) p.0).0).1 p.1 (ap lba_of p.2) (ap count_of p.2),
      )
    ]

zero_lies : (size : ℕ) (header : Header) (z : NbdOperation) → zeroes_asked size header ≡ z
    → (kind_of z ≡ 9) ⊎ ((kind_of z ≡ 6) × Lies size (lba_of z) (count_of z) header)
zero_lies size header z same =
    elim (taken (nat_lt header.flags 4 && has_whole_sectors header) (ends_on_disc size header) ENOSPC
    (WriteZeroes (header.offset / 2048) (header.len / 2048) (has_fua header)) z same) [
      | inl no_one ↦ inl no_one
      | inr p ↦ inr (
        ap kind_of (sym p.2),
        lies size header z
            (and_parts (nat_lt header.flags 4) (has_whole_sectors header) p.0).1 p.1 (ap lba_of p.2) (ap count_of p.2),
      )
    ]

flush_lies : (header : Header) (z : NbdOperation) → flush_asked header ≡ z → (kind_of z ≡ 9) ⊎ (kind_of z ≡ 3)
flush_lies header z same =
    elim (choice (nat_lt header.flags 2 && (header.offset == 0) && (header.len == 0)) Flush (Refused EINVAL) z same) [
      | inl p ↦ inr (ap kind_of (sym p.1))
      | inr q ↦ inl (ap kind_of (sym q))
    ]

-- What is asked is of the request's command, or it is refused.
pub data Comes (size : ℕ) (header : Header) (z : NbdOperation) : Type 0 where
  IsRefused : kind_of z ≡ 9 → Comes size header z
  IsRead : kind_of z ≡ 0 → Lies size (lba_of z) (count_of z) header → Comes size header z
  IsWrite : kind_of z ≡ 1 → header.kind ≡ 1 → Lies size (lba_of z) (count_of z) header → Comes size header z
  IsZero : kind_of z ≡ 6 → Lies size (lba_of z) (count_of z) header → Comes size header z
  IsOther : kind_of z ≡ 2 → Comes size header z
  IsFlush : kind_of z ≡ 3 → Comes size header z

comes_last : (size : ℕ) (header : Header) (z : NbdOperation) → (if header.kind == WRITE_ZEROES then zeroes_asked size header else Refused EINVAL) ≡ z
    → Comes size header z
comes_last size header z same =
    elim (choice (header.kind == WRITE_ZEROES) (zeroes_asked size header) (Refused EINVAL) z same) [
      | inl p ↦ elim (zero_lies size header z p.1) [ inl no_one ↦ IsRefused no_one | inr q ↦ IsZero q.0 q.1 ]
      | inr q ↦ IsRefused (ap kind_of (sym q))
    ]

comes_late : (size : ℕ) (header : Header) (z : NbdOperation)
    → (if header.kind == DISCONNECT then Disconnect else if header.kind == FLUSH then flush_asked header
    else if header.kind == WRITE_ZEROES then zeroes_asked size header else Refused EINVAL) ≡ z → Comes size header z
comes_late size header z same =
    elim (choice (header.kind == DISCONNECT) Disconnect (if header.kind == FLUSH then flush_asked header
    else if header.kind == WRITE_ZEROES then zeroes_asked size header else Refused EINVAL) z same) [
      | inl p ↦ IsOther (ap kind_of (sym p.1))
      | inr q ↦ elim (choice (header.kind == FLUSH) (flush_asked header)
          (if header.kind == WRITE_ZEROES then zeroes_asked size header else Refused EINVAL) z q) [
            | inl p ↦ elim (flush_lies header z p.1) [ inl no_one ↦ IsRefused no_one | inr r ↦ IsFlush r ]
            | inr r ↦ comes_last size header z r
          ]
    ]

pub comes : (size : ℕ) (header : Header) (z : NbdOperation) → request_asks size header ≡ z → Comes size header z
comes size header z same =
    elim (choice (header.kind == READ) (read_asked size header) (if header.kind == WRITE then write_asked size header
    else if header.kind == DISCONNECT then Disconnect else if header.kind == FLUSH then flush_asked header
    else if header.kind == WRITE_ZEROES then zeroes_asked size header else Refused EINVAL) z same) [
      | inl p ↦ elim (read_lies size header z p.1) [ inl no_one ↦ IsRefused no_one | inr q ↦ IsRead q.0 q.1 ]
      | inr q ↦ elim (choice (header.kind == WRITE) (write_asked size header) (if header.kind == DISCONNECT then Disconnect
          else if header.kind == FLUSH then flush_asked header
          else if header.kind == WRITE_ZEROES then zeroes_asked size header else Refused EINVAL) z q) [
            | inl p ↦ elim (write_lies size header z p.1) [
              | inl no_one ↦ IsRefused no_one
              | inr r ↦ IsWrite r.0 (eqb-true header.kind WRITE p.0) r.1
            ]
            | inr r ↦ comes_late size header z r
          ]
    ]

from_read : (size lba n : ℕ) (header : Header) → Comes size header (Read lba n) → Lies size lba n header
from_read size lba n header (IsRefused k) = absurd (omega (arith, k))
from_read size lba n header (IsRead k is) = is
from_read size lba n header (IsWrite k w is) = absurd (omega (arith, k))
from_read size lba n header (IsZero k is) = absurd (omega (arith, k))
from_read size lba n header (IsOther k) = absurd (omega (arith, k))
from_read size lba n header (IsFlush k) = absurd (omega (arith, k))

pub read_lies_on : (size lba n : ℕ) (header : Header) → request_asks size header ≡ Read lba n → Lies size lba n header
read_lies_on size lba n header same = from_read size lba n header (comes size header (Read lba n) same)

from_write : (size lba n : ℕ) (fua : Bool) (header : Header) → Comes size header (Write lba n fua)
    → (header.kind ≡ 1) × (header.offset ≡ 2048 * lba) × (header.len ≡ 2048 * n) × (header.offset + header.len ≤ size)
from_write size lba n fua header (IsRefused k) = absurd (omega (arith, k))
from_write size lba n fua header (IsRead k is) = absurd (omega (arith, k))
from_write size lba n fua header (IsWrite k w is) = (w, is.0, is.1, is.2)
from_write size lba n fua header (IsZero k is) = absurd (omega (arith, k))
from_write size lba n fua header (IsOther k) = absurd (omega (arith, k))
from_write size lba n fua header (IsFlush k) = absurd (omega (arith, k))

pub write_lies_on : (size lba n : ℕ) (fua : Bool) (header : Header) → request_asks size header ≡ Write lba n fua
    → (header.kind ≡ 1) × (header.offset ≡ 2048 * lba) × (header.len ≡ 2048 * n) × (header.offset + header.len ≤ size)
write_lies_on size lba n fua header same = from_write size lba n fua header (comes size header (Write lba n fua) same)

from_zero : (size lba n : ℕ) (fua : Bool) (header : Header) → Comes size header (WriteZeroes lba n fua) → Lies size lba n header
from_zero size lba n fua header (IsRefused k) = absurd (omega (arith, k))
from_zero size lba n fua header (IsRead k is) = absurd (omega (arith, k))
from_zero size lba n fua header (IsWrite k w is) = absurd (omega (arith, k))
from_zero size lba n fua header (IsZero k is) = is
from_zero size lba n fua header (IsOther k) = absurd (omega (arith, k))
from_zero size lba n fua header (IsFlush k) = absurd (omega (arith, k))

pub zero_lies_on : (size lba n : ℕ) (fua : Bool) (header : Header) → request_asks size header ≡ WriteZeroes lba n fua → Lies size lba n header
zero_lies_on size lba n fua header same = from_zero size lba n fua header (comes size header (WriteZeroes lba n fua) same)

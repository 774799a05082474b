-- A request that comes: what is no request, and that what one asks fits the room for its data.
use Rattle.std.specs.Prelude.{◌≡◌, ℕ, ◌*◌, ◌/◌, ◌<◌, ◌≤◌, ◌^◌, ◌==◌, ◌&&◌, nat_lt, if◌then◌else◌, Bool, true, false, Option, Ok, Err, List, ◌++◌, length}
use Rattle.std.proofs.Common.{arith, refl, sym, ap, ◌∙◌, subst, append_assoc, length-append}
use Rattle.std.proofs.lemmas.Bool.{and_parts, leb-true}
use Rattle.model_nbd.specs.declared.Header.{Header}
use Rattle.model_nbd.specs.declared.NbdOperation.{NbdOperation}
use Rattle.model_nbd.specs.declared.NbdOperation.TheVariants.{Refused, Read, Write, WriteZeroes, Flush, Disconnect}
use Rattle.model_nbd.specs.declared.TheConstants.{READ, WRITE, DISCONNECT, FLUSH, WRITE_ZEROES, MOST_BYTES, EINVAL, ENOSPC}
use Rattle.model_nbd.specs.Messages.{IsHeader, header_bytes, data_after, request_bytes}
use Rattle.model_nbd.specs.Operations.{request_asks, if_taken, has_whole_sectors, is_short, ends_on_disc, is_moved, has_fua, read_asked, write_asked, flush_asked, zeroes_asked}
use Rattle.model_nbd.specs.Commands.{commands_of}
use Rattle.model_nbd.proofs.Fields.{list_first}
use Rattle.model_nbd.proofs.Readings.{header_first}
use Rattle.model_nbd.proofs.Inverted.{read_lies_on, write_lies_on, zero_lies_on}
use Rattle.ram_outside.specs.Conversation.{Asked, AsksOnly}
use Rattle.ram_receive.specs.Receiving.{Went, IsShortAsk}
use Rattle.ram_machine.specs.declared.status.Status.{Status}
use Rattle.ram_session.specs.Talk.{Transmission, Flags, Wants, Asks, BeginsNoMessage}
use Rattle.ram_transmission.specs.Requests.{Fits}
use Rattle.ram_serve.specs.Messages.{FirstRule}
use Rattle.ram_serve.specs.Taking.{IsAskWithin, HoldsData, TakesData, IsNoMessage, NoneCame, HeaderCame, DataRule, RequestCame}
use Rattle.ram_serve.proofs.Came.{went_on}
use Rattle.ram_serve.proofs.Cuts.{first_cut, first_unread, others_cut}
use Rattle.ram_serve.proofs.Within.{within_first, within_others}

header_long : (header : Header) → length (header_bytes header) ≡ 28
header_long header = refl

-- too few bytes for a header
none_short : (bytes : List ℕ) → length bytes < 28 → BeginsNoMessage Transmission bytes
none_short bytes few (Flags zeros) after may same = may
none_short bytes few (Wants option) after may same = may
none_short bytes few (Asks request) after may same =
    omega (
      arith,
      few,
      ap length same,
      length-append (request_bytes request) after,
      length-append (header_bytes request.header) request.payload,
      header_long request.header,
    )

-- as many bytes as a header has, which are none
none_unread : (bytes rest : List ℕ) → length bytes ≡ 28 → ((header : Header) → IsHeader header → bytes ≡ header_bytes header → ⊥)
    → BeginsNoMessage Transmission (bytes ++ rest)
none_unread bytes rest long none (Flags zeros) after may same = may
none_unread bytes rest long none (Wants option) after may same = may
none_unread bytes rest long none (Asks request) after may same =
    none request.header may.fields
    (list_first bytes (header_bytes request.header) rest (request.payload ++ after) (long ∙ sym (header_long request.header))
    (same ∙ append_assoc (header_bytes request.header) request.payload after)).0

-- a header, and fewer data than it has
none_partial : (header : Header) (more : List ℕ) → IsHeader header → length more < data_after header
    → BeginsNoMessage Transmission (header_bytes header ++ more)
none_partial header more fields few (Flags zeros) after may same = may
none_partial header more fields few (Wants option) after may same = may
none_partial header more fields few (Asks request) after may same =
    let p = header_first header request.header more (request.payload ++ after) fields may.fields
    (same ∙ append_assoc (header_bytes request.header) request.payload after) in
    omega (arith, few, ap length p.1, length-append request.payload after, may.data_are, ap data_after p.0)

-- the bytes of a header came, and are none
pub header_unread : (left left' : Option (List ℕ)) (faults faults' : ℕ) (into : List ℕ) → length into ≡ 28
    → ((header : Header) → IsHeader header → into ≡ header_bytes header → ⊥) → Went left left' into → faults' ≡ faults
    → IsNoMessage left left' faults faults' Transmission
header_unread left left' faults faults' into long none went count =
    first_unread Transmission left left' faults faults' into (omega (arith, long)) (λ rest. none_unread into rest long none) went count

module _ (left left' : Option (List ℕ)) (faults faults' : ℕ) where
  -- the header did not come whole
  pub header_cut : (into : List ℕ) (status : Status) → length into ≡ 28 → FirstRule left left' faults faults' into (Err status)
      → NoneCame left left' faults faults' Transmission status
  header_cut into status long rule =
      first_cut Transmission left left' faults faults' into status (λ bytes few. none_short bytes (omega (arith, few, long))) rule

  -- the header came, and not all of its data
  pub data_cut : (mid : Option (List ℕ)) (middle : ℕ) (header : Header) (operation : NbdOperation) (room : List ℕ) (status : Status)
      → HeaderCame left mid faults middle header → DataRule mid left' middle faults' header operation room (Err status)
      → NoneCame left left' faults faults' Transmission status
  data_cut mid middle header operation room status came rule =
      others_cut Transmission left left' faults faults' mid middle (header_bytes header) rule.0 (data_after header) status
      (omega (arith, header_long header)) (λ more few. none_partial header more came.fields few) came.went came.count rule.1

-- more was asked for before the header was whole
pub header_asks : (left written : Option (List ℕ)) (a b : Option (List Asked)) → AsksOnly (IsShortAsk left written 28) a b
    → AsksOnly (IsAskWithin left written Transmission) a b
header_asks left written a b asks = within_first Transmission tt left written 28 a b none_short asks

-- and before its data were
pub data_asks : (left mid written shown : Option (List ℕ)) (faults middle : ℕ) (header : Header) (a b c : Option (List Asked))
    → HeaderCame left mid faults middle header → shown ≡ written → AsksOnly (IsAskWithin left written Transmission) a b
    → AsksOnly (IsShortAsk mid shown (data_after header)) b c → AsksOnly (IsAskWithin left written Transmission) a c
data_asks left mid written shown faults middle header a b c came same before asks =
    within_others Transmission tt left mid written shown (header_bytes header) (data_after header) a b c
    (λ more few. none_partial header more came.fields few) came.went same before asks

-- a read or a write moves no more than the room holds
abbrev IsShort : NbdOperation → Header → Type 0
IsShort (Read lba n) header = header.len ≤ 33554432
IsShort (Write lba n fua) header = header.len ≤ 33554432
IsShort _ header = Unit {0}

if_short : (b : Bool) (x y : NbdOperation) (header : Header) → IsShort x header → IsShort y header → IsShort (if b then x else y) header
if_short true x y header one two = one
if_short false x y header one two = two

taken_short : (well inside : Bool) (error : ℕ) (x : NbdOperation) (header : Header) → (well ≡ true → IsShort x header)
    → IsShort (if_taken well inside error x) header
taken_short true true error x header short = short refl
taken_short true false error x header short = tt
taken_short false inside error x header short = tt

moved_short : (header : Header) → is_moved header ≡ true → header.len ≤ 33554432
moved_short header is =
    leb-true header.len MOST_BYTES (and_parts (nat_lt header.flags 2 && has_whole_sectors header) (is_short header) is).1

asked_short : (size : ℕ) (header : Header) → IsShort (request_asks size header) header
asked_short size header =
    if_short (header.kind == READ) (read_asked size header) (if header.kind == WRITE then write_asked size header
    else if header.kind == DISCONNECT then Disconnect else if header.kind == FLUSH then flush_asked header
    else if header.kind == WRITE_ZEROES then zeroes_asked size header else Refused EINVAL) header
    (taken_short (is_moved header) (ends_on_disc size header) EINVAL (Read (header.offset / 2048) (header.len / 2048)) header (moved_short header))
    (if_short (header.kind == WRITE) (write_asked size header) (if header.kind == DISCONNECT then Disconnect
    else if header.kind == FLUSH then flush_asked header
    else if header.kind == WRITE_ZEROES then zeroes_asked size header else Refused EINVAL) header
    (taken_short (is_moved header) (ends_on_disc size header) ENOSPC (Write (header.offset / 2048) (header.len / 2048) (has_fua header)) header
    (moved_short header))
    (if_short (header.kind == DISCONNECT) Disconnect (if header.kind == FLUSH then flush_asked header
    else if header.kind == WRITE_ZEROES then zeroes_asked size header else Refused EINVAL) header tt
    (if_short (header.kind == FLUSH) (flush_asked header)
    (if header.kind == WRITE_ZEROES then zeroes_asked size header else Refused EINVAL) header
    (if_short (nat_lt header.flags 2 && (header.offset == 0) && (header.len == 0)) Flush (Refused EINVAL) header tt tt)
    (if_short (header.kind == WRITE_ZEROES) (zeroes_asked size header) (Refused EINVAL) header
    (taken_short (nat_lt header.flags 4 && has_whole_sectors header) (ends_on_disc size header) ENOSPC
    (WriteZeroes (header.offset / 2048) (header.len / 2048) (has_fua header)) header (λ well. tt)) tt))))

short_if : (size : ℕ) (header : Header) (operation : NbdOperation) → operation ≡ request_asks size header → IsShort operation header
short_if size header operation is = subst (λ (o : NbdOperation). IsShort o header) (sym is) (asked_short size header)

-- the data of a write are as long as its header says
data_of_write : (header : Header) → header.kind ≡ 1 → data_after header ≡ header.len
data_of_write header is = ap (λ (k : ℕ). if k == 1 then header.len else 0) is

pub takes_data : (size : ℕ) (header : Header) (operation : NbdOperation) → operation ≡ request_asks size header → TakesData header operation
takes_data size header (Write lba n fua) is = ((write_lies_on size lba n fua header (sym is)).0, short_if size header (Write lba n fua) is)
takes_data size header (Refused error) is = tt
takes_data size header (Read lba n) is = tt
takes_data size header (WriteZeroes lba n fua) is = tt
takes_data size header Flush is = tt
takes_data size header Disconnect is = tt

-- what is asked fits the room for its data
fits_asked : (size : ℕ) (header : Header) (operation : NbdOperation) (payload room : List ℕ) → size < 2048 * 2 ^ 32
    → operation ≡ request_asks size header → length payload ≡ data_after header → HoldsData operation payload room → Fits operation room
fits_asked size header (Read lba n) payload room few is long holds =
    let on = read_lies_on size lba n header (sym is) in
    let short : header.len ≤ 33554432 = short_if size header (Read lba n) is in
    (omega (arith, on.0, on.1, on.2, few), omega (arith, on.1, short))
fits_asked size header (Write lba n fua) payload room few is long holds =
    let on = write_lies_on size lba n fua header (sym is) in
    let all : length room ≡ 2048 * n = ap length holds ∙ long ∙ data_of_write header on.0 ∙ on.2 in
    (omega (arith, on.1, on.2, on.3, few), all)
fits_asked size header (WriteZeroes lba n fua) payload room few is long holds =
    let on = zero_lies_on size lba n fua header (sym is) in
    omega (arith, on.0, on.1, on.2, few)
fits_asked size header (Refused error) payload room few is long holds = tt
fits_asked size header Flush payload room few is long holds = tt
fits_asked size header Disconnect payload room few is long holds = tt

-- the room has what the commands need of the data
same_commands : (operation : NbdOperation) (payload room : List ℕ) → HoldsData operation payload room
    → commands_of operation room ≡ commands_of operation payload
same_commands (Write lba n fua) payload room holds = ap (commands_of (Write lba n fua)) holds
same_commands (Refused error) payload room holds = refl
same_commands (Read lba n) payload room holds = refl
same_commands (WriteZeroes lba n fua) payload room holds = refl
same_commands Flush payload room holds = refl
same_commands Disconnect payload room holds = refl

-- the header and its data came
pub request_came : (left mid left' : Option (List ℕ)) (faults middle faults' size : ℕ) (header : Header) (operation : NbdOperation)
    (room : List ℕ) → size < 2048 * 2 ^ 32 → operation ≡ request_asks size header → HeaderCame left mid faults middle header
    → DataRule mid left' middle faults' header operation room (Ok tt)
    → RequestCame left left' faults faults' size room (record { cookie = header.cookie; operation = operation })
request_came left mid left' faults middle faults' size header operation room few is came rule = record {
  request = record { header = header; payload = rule.0 };
  whole = record { fields = came.fields; data_are = rule.1.0 };
  went = went_on left mid left' (header_bytes header) rule.0 came.went rule.1.1;
  count = rule.1.2 ∙ came.count;
  cookie_is = refl;
  operation_is = is;
  fits = fits_asked size header operation rule.0 room few is rule.1.0 rule.2;
  commands = same_commands operation rule.0 room rule.2;
}

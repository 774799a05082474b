-- What was acknowledged of a sector stays so over messages that do not write it.
use Rattle.std.proofs.Common.{◌≡◌, ℕ, zero, suc, ◌+◌, ◌-◌, ◌*◌, ◌/◌, ◌<◌, ◌≤◌, ◌^◌, ◌⊎◌, inl, inr, Bool, Ok, List, [], ◌∷◌, ◌++◌, length, map, take, drop, refl, sym, ◌∙◌, subst, arith, length-take-le, length-drop}
use Rattle.std.proofs.lemmas.List.{length-replicate}
use Rattle.model_cdb.specs.Decoding.{decoded}
use Rattle.model_nbd.specs.declared.NbdOperation.{NbdOperation}
use Rattle.model_nbd.specs.declared.NbdOperation.TheVariants as operations
use Rattle.model_nbd.specs.declared.Header.{Header}
use Rattle.model_nbd.specs.Messages.{data_after}
use Rattle.model_nbd.specs.Handshake.{Serving}
use Rattle.model_nbd.specs.Operations.{request_asks}
use Rattle.model_nbd.specs.Commands.{Command, Sectors, bare, parts_before, commands_of, read_cdb, write_cdb, zeroes_for}
use Rattle.model_nbd.proofs.Inverted.{read_lies_on, write_lies_on, zero_lies_on}
use Rattle.ram_text.specs.declared.script.Line.TheVariants as lines
use Rattle.ram_machine.specs.declared.reply.Reply.TheVariants as replies
use Rattle.ram_machine.specs.States.{State}
use Rattle.ram_machine.specs.Acknowledged.{Acknowledged, LeavesAsDecoded}
use Rattle.ram_machine.proofs.Acknowledged.{step_keeps, as_so, so_acknowledged}
use Rattle.ram_session.specs.Doing.{Did, Doing, AreDone, commands_in}
use Rattle.ram_session.specs.Talk.{Phase, Greeted, Options, Transmission, Message, Flags, Wants, Asks, Turned, Talk, FollowsBy}
use Rattle.ram_session.specs.Kept.{LeavesAsked, LeavesByMessage, LeaveByMessages}
use Rattle.ram_session.proofs.Decoded.{write_decoded, read_decoded}

-- a command leaves the sector as it is
abbrev pub LeavesBy : (at : ℕ) → Command → Type 0
LeavesBy at command = LeavesAsDecoded at (decoded command.cdb command.payload)

abbrev pub AllBy : (at : ℕ) → List Command → Type 0
AllBy at [] = Unit {0}
AllBy at (command ∷ rest) = LeavesBy at command × AllBy at rest

-- the first of some commands, and the last of them
all_front : (at : ℕ) (front rest : List Command) → AllBy at (front ++ rest) → AllBy at front
all_front at [] rest all = tt
all_front at (command ∷ front) rest all = (all.0, all_front at front rest all.1)

pub all_last : (at : ℕ) (front : List Command) (last : Command) → AllBy at (front ++ last ∷ []) → AllBy at front × LeavesBy at last
all_last at [] last all = (tt, all.0)
all_last at (command ∷ front) last all = let rest = all_last at front last all.1 in ((all.0, rest.0), rest.1)

doing_keeps : (at : ℕ) (bytes : List ℕ) (s t : State) (dids : List Did) → Doing s dids t → AllBy at (commands_in dids)
    → Acknowledged s at bytes → Acknowledged t at bytes
doing_keeps at bytes s t [] does leaves has = subst (λ (u : State). Acknowledged u at bytes) (sym does) has
doing_keeps at bytes s t (did ∷ before) does leaves has =
    let both = all_last at (commands_in before) did.command leaves in
    so_acknowledged t at bytes (step_keeps (λ found. found ≡ bytes) at (does.0) t (lines.Command did.command.cdb) did.command.payload did.data_in
    (Ok (replies.Command did.command.cdb did.answer)) does.2 both.1
    (as_so (does.0) at bytes (doing_keeps at bytes s (does.0) before does.1 both.0 has)))

done_leave : (at : ℕ) (commands : List Command) (dids : List Did) → AreDone commands dids → AllBy at commands → AllBy at (commands_in dids)
done_leave at commands dids done all = elim done [
  | inl whole ↦ subst (AllBy at) whole.all_done all
  | inr part ↦ subst (λ (ds : List Did). AllBy at (commands_in ds)) (sym part.dids_are)
      (all_front at (commands_in (part.last ∷ part.before)) part.undone (subst (AllBy at) part.some_done all))
]

-- a write of parts leaves the sector as the request does
writes_leave : (k at lba n : ℕ) (payload_of : Sectors → List ℕ) (fua : Bool) → ((part : Sectors) → lba ≤ part.lba → part.lba + part.n ≤ lba + n → length (payload_of part) ≡ 2048 * part.n)
    → lba + n < 2 ^ 32 → 1024 * k ≤ n → n ≤ 1024 * k + 1024 → (at < lba) ⊎ (lba + n ≤ at)
    → AllBy at (map (λ part. record { cdb = write_cdb fua part; payload = payload_of part }) (parts_before k lba n))
writes_leave zero at lba n payload_of fua whole small least most apart =
    let part : Sectors = record { lba = lba; n = n } in (
      subst (LeavesAsDecoded at) (sym (write_decoded part fua (payload_of part) (omega (arith, small)) (omega (arith, most))
          (whole part (omega arith) (omega arith)))) apart,
      tt,
    )
writes_leave (suc k) at lba n payload_of fua whole small least most apart =
    let part : Sectors = record { lba = lba; n = 1024 } in
    let here : (at < lba) ⊎ (lba + 1024 ≤ at) =
    elim apart [ inl below ↦ inl below | inr above ↦ inr (omega (arith, above, least)) ] in
    let there : (at < lba + 1024) ⊎ (lba + 1024 + (n - 1024) ≤ at) =
    elim apart [ inl below ↦ inl (omega (arith, below)) | inr above ↦ inr (omega (arith, above, least)) ] in (
      subst (LeavesAsDecoded at) (sym (write_decoded part fua (payload_of part) (omega (arith, small)) (omega arith)
          (whole part (omega arith) (omega (arith, least))))) here,
      writes_leave k at (lba + 1024) (n - 1024) payload_of fua
          (λ p low high. whole p (omega (arith, low)) (omega (arith, high, least))) (omega (arith, small, least)) (omega (arith, least)) (omega (arith, most)) there,
    )

reads_leave : (k at lba n : ℕ) → lba + n < 2 ^ 32 → 1024 * k ≤ n → n ≤ 1024 * k + 1024
    → AllBy at (map (λ part. bare (read_cdb part)) (parts_before k lba n))
reads_leave zero at lba n small least most =
    (subst (LeavesAsDecoded at) (sym (read_decoded (record { lba = lba; n = n }) (omega (arith, small)) (omega (arith, most)))) tt, tt)
reads_leave (suc k) at lba n small least most = (
  subst (LeavesAsDecoded at) (sym (read_decoded (record { lba = lba; n = 1024 }) (omega (arith, small)) (omega arith))) tt,
  reads_leave k at (lba + 1024) (n - 1024) (omega (arith, small, least)) (omega (arith, least)) (omega (arith, most)),
)

-- the data of a part of a write
pub part_long : (bytes : List ℕ) (lba n : ℕ) → length bytes ≡ 2048 * n → (part : Sectors) → lba ≤ part.lba → part.lba + part.n ≤ lba + n
    → length (take (2048 * part.n) (drop (2048 * (part.lba - lba)) bytes)) ≡ 2048 * part.n
part_long bytes lba n long part low high =
    length-take-le (2048 * part.n) (drop (2048 * (part.lba - lba)) bytes)
    (omega (arith, long, low, high, length-drop (2048 * (part.lba - lba)) bytes))

pub data_of_write : (header : Header) → header.kind ≡ 1 → data_after header ≡ header.len
data_of_write header is = rw is refl

pub length_zeroes : (n : ℕ) → length (zeroes_for n) ≡ n
unfolding zeroes_for
length_zeroes n = length-replicate n 0

commands_leave : (size at : ℕ) (header : Header) (bytes : List ℕ) (z : NbdOperation) → size < 2048 * 2 ^ 32 → length bytes ≡ data_after header
    → request_asks size header ≡ z → LeavesAsked at z → AllBy at (commands_of z bytes)
commands_leave size at header bytes (operations.Refused error) small long is leaves = tt
commands_leave size at header bytes (operations.Read lba n) small long is leaves =
    let on = read_lies_on size lba n header is in
    reads_leave ((n - 1) / 1024) at lba n (omega (arith, small, on.0, on.1, on.2)) (omega arith) (omega arith)
commands_leave size at header bytes (operations.Write lba n fua) small long is leaves =
    let on = write_lies_on size lba n fua header is in
    writes_leave ((n - 1) / 1024) at lba n (λ part. take (2048 * part.n) (drop (2048 * (part.lba - lba)) bytes)) fua
    (part_long bytes lba n (long ∙ data_of_write header on.0 ∙ on.2))
    (omega (arith, small, on.1, on.2, on.3)) (omega arith) (omega arith) leaves
commands_leave size at header bytes (operations.WriteZeroes lba n fua) small long is leaves =
    let on = zero_lies_on size lba n fua header is in
    writes_leave ((n - 1) / 1024) at lba n (λ part. zeroes_for (2048 * part.n)) fua
    (λ part low high. length_zeroes (2048 * part.n))
    (omega (arith, small, on.0, on.1, on.2)) (omega arith) (omega arith) leaves
commands_leave size at header bytes operations.Flush small long is leaves = (tt, tt)
commands_leave size at header bytes operations.Disconnect small long is leaves = (tt, tt)

-- one message
pub message_leaves : (size at : ℕ) (was : Phase) (message : Message) (dids : List Did) (told : List ℕ) (next : Phase) → size < 2048 * 2 ^ 32
    → FollowsBy was message (Serving size) dids told next → LeavesByMessage size at message → AllBy at (commands_in dids)
message_leaves size at Greeted (Flags zeros) dids told next small f leaves = subst (λ (ds : List Did). AllBy at (commands_in ds)) (sym f.nothing_done) tt
message_leaves size at (Options zeros) (Wants option) dids told next small f leaves = subst (λ (ds : List Did). AllBy at (commands_in ds)) (sym f.nothing_done) tt
message_leaves size at Transmission (Asks request) dids told next small f leaves =
    done_leave at (commands_of (request_asks size request.header) request.payload) dids f.done
    (commands_leave size at request.header request.payload (request_asks size request.header) small f.whole.data_are refl leaves)
message_leaves size at _ _ dids told next small f leaves = absurd f

pub talk_keeps : (size at : ℕ) (first last : State) (turns : List Turned) (phase : Phase) (bytes : List ℕ) → size < 2048 * 2 ^ 32
    → Talk (Serving size) first turns last phase → LeaveByMessages size at turns → Acknowledged first at bytes → Acknowledged last at bytes
talk_keeps size at first last [] phase bytes small talk leave has = subst (λ (u : State). Acknowledged u at bytes) (sym talk.0) has
talk_keeps size at first last (turned ∷ before) phase bytes small talk leave has =
    doing_keeps at bytes (talk.0) last turned.dids talk.3 (message_leaves size at (talk.1) turned.message turned.dids turned.bytes phase small talk.4 leave.0)
    (talk_keeps size at first (talk.0) before (talk.1) bytes small talk.2 leave.1 has)

-- What messages make of the register of a sector: a write that is told without an error puts its bytes there, messages that leave the
-- sector keep them, and a read that is told without an error shows them.
use Rattle.std.specs.Prelude.{◌≡◌, ℕ, ◌+◌, ◌-◌, ◌*◌, ◌/◌, ◌<◌, ◌≤◌, ◌^◌, Some, List, [], ◌∷◌, ◌++◌, length, map, take, drop, replicate, Bool, ◌⊎◌, ◌/◌}
use Rattle.std.proofs.Common.{refl, sym, ap, ◌∙◌, inr, subst, arith}
use Rattle.std.proofs.lemmas.List.{take-replicate, drop-replicate}
use Rattle.model_sectors.specs.Discs.{zeros}
use Rattle.model_sectors.proofs.Pieces.{piece_of_piece}
use Rattle.model_cdb.specs.Decoding.{decoded}
use Rattle.model_nbd.specs.declared.Header.{Header}
use Rattle.model_nbd.specs.declared.NbdOperation.{NbdOperation}
use Rattle.model_nbd.specs.declared.NbdOperation.TheVariants as operations
use Rattle.model_nbd.specs.Messages.{Request, data_after, reply_bytes}
use Rattle.model_nbd.specs.Handshake.{Serving}
use Rattle.model_nbd.specs.Operations.{request_asks}
use Rattle.model_nbd.specs.Commands.{Command, commands_of, zeroes_for}
use Rattle.model_nbd.proofs.Inverted.{read_lies_on, write_lies_on, zero_lies_on}
use Rattle.ram_machine.specs.Answered.{AnsweredStep}
use Rattle.ram_machine.specs.SectorBytes.{bytes_of_sector}
use Rattle.ram_machine.specs.Register.{Value, Bytes, Register, Turns}
use Rattle.ram_session.specs.Doing.{Did, AsksToLast, WereAllGood, commands_in, step_of, reply_to}
use Rattle.ram_session.specs.Talk.{Phase, Greeted, Turned, TurnFollows, dids_in}
use Rattle.ram_session.specs.Kept.{LeavesByMessage, LeaveByMessages}
use Rattle.ram_session.specs.Promise.{AreAnswered}
use Rattle.ram_session.proofs.Kept.{AllBy, all_last, message_leaves, part_long, data_of_write, length_zeroes}
use Rattle.ram_session_laws.specs.ReadBack.{SendsToSector, WroteSector, ReadSector}
use Rattle.ram_machine.proofs.Registers.{HasAmong, by_command, carried}
use Rattle.ram_session_laws.proofs.Told.{all_good, told_no_error, told_data, asked_in, IsReplied}
use Rattle.ram_session_laws.proofs.Rows.{Rows, Reads, Writes, reads_row, writes_row, row_wrote_among, row_read, turned_command}

-- The messages, the newest first, take the first register of the sector to the last.
abbrev pub Chain : (size at : ℕ) → Register → List Turned → Register → Phase → Type 0
Chain size at first [] last phase = (last ≡ first) × (phase ≡ Greeted)
Chain size at first (turned ∷ before) last phase =
    (mid : Register) × (was : Phase) × Chain size at first before mid was
    × Turns at mid (map step_of turned.dids) last × TurnFollows (Serving size) was turned phase

-- one list of commands after another, and after lines
pub record Between (at : ℕ) (r : Register) (before after : List AnsweredStep) (last : Register) : Type 0 where
  pub mid : Register
  pub first : Turns at r before mid
  pub second : Turns at mid after last

pub two_runs : (at : ℕ) (r last : Register) (after before : List AnsweredStep) → Turns at r (after ++ before) last → Between at r before after last
two_runs at r last [] before turns = record { mid = last; first = turns; second = refl }
two_runs at r last (event ∷ after) before turns =
    let more = two_runs at r turns.0 after before turns.1 in
    record { mid = more.mid; first = more.first; second = (turns.0, more.second, turns.2) }

pub map_two : (x y : List Did) → map step_of (x ++ y) ≡ map step_of x ++ map step_of y
map_two [] y = refl
map_two (did ∷ x) y = ap (λ (l : List AnsweredStep). step_of did ∷ l) (map_two x y)

pub chain_of : (size at : ℕ) (r last : Register) (turns : List Turned) (phase : Phase) → AreAnswered (Serving size) turns phase → Turns at r (map step_of (dids_in turns)) last → Chain size at r turns last phase
chain_of size at r last [] phase answered run = (run, answered)
chain_of size at r last (turned ∷ before) phase answered run =
    let both = two_runs at r last (map step_of turned.dids) (map step_of (dids_in before))
    (subst (λ (l : List AnsweredStep). Turns at r l last) (map_two turned.dids (dids_in before)) run) in
    (both.mid, answered.0, chain_of size at r both.mid before answered.0 answered.1 both.first, both.second, answered.2)

-- what came before some messages
pub record Earlier (size at : ℕ) (r : Register) (rest : List Turned) : Type 0 where
  pub last : Register
  pub phase : Phase
  pub chain : Chain size at r rest last phase

pub earlier_chain : (size at : ℕ) (r last : Register) (after rest : List Turned) (phase : Phase) → Chain size at r (after ++ rest) last phase → Earlier size at r rest
earlier_chain size at r last [] rest phase chain = record { last = last; phase = phase; chain = chain }
earlier_chain size at r last (turned ∷ after) rest phase chain = earlier_chain size at r chain.0 after rest chain.1 chain.2

-- zeros, wherever they are taken
zeroes_are : (n : ℕ) → zeroes_for n ≡ replicate n 0
unfolding zeroes_for
zeroes_are n = refl

zeros_are : (n : ℕ) → replicate n 0 ≡ zeros n
unfolding zeros
zeros_are n = refl

zero_piece : (m d n : ℕ) → d + m ≤ n → take m (drop d (zeroes_for n)) ≡ zeros m
zero_piece m d n inside =
    ap (λ (l : List ℕ). take m (drop d l)) (zeroes_are n) ∙ ap (take m) (drop-replicate d n 0) ∙ take-replicate m (n - d) 0 (omega (arith, inside)) ∙ zeros_are m

-- a sector of a part, among those of the whole
part_piece : (m k d e : ℕ) (bytes : List ℕ) → e + m ≤ k → take m (drop e (take k (drop d bytes))) ≡ take m (drop (d + e) bytes)
part_piece m k d e bytes inside = piece_of_piece d k e m bytes inside

-- the commands of a request, in a row
module _ (size : ℕ) (small : size < 2048 * 2 ^ 32) (header : Header) (payload : List ℕ) (long : length payload ≡ data_after header) where
  pub read_rows : (lba n : ℕ) → request_asks size header ≡ operations.Read lba n → Rows Reads lba (commands_of (operations.Read lba n) payload) (lba + n)
  read_rows lba n asks =
      let on = read_lies_on size lba n header asks in
      reads_row ((n - 1) / 1024) lba n (omega (arith, small, on.0, on.1, on.2)) (omega arith) (omega arith)

  pub write_rows : (lba n : ℕ) (fua : Bool) → request_asks size header ≡ operations.Write lba n fua
      → Rows (Writes (λ s. bytes_of_sector lba payload s) fua) lba (commands_of (operations.Write lba n fua) payload) (lba + n)
  write_rows lba n fua asks =
      let on = write_lies_on size lba n fua header asks in
      let whole : length payload ≡ 2048 * n = long ∙ data_of_write header on.0 ∙ on.2 in
      writes_row (λ s. bytes_of_sector lba payload s) fua (λ part. take (2048 * part.n) (drop (2048 * (part.lba - lba)) payload)) ((n - 1) / 1024) lba n
      (λ part low high. record {
        whole = part_long payload lba n whole part low high;
        sends = λ s among. part_piece 2048 (2048 * part.n) (2048 * (part.lba - lba)) (2048 * (s - part.lba)) payload (omega (arith, among.0, among.1))
            ∙ ap (λ (d : ℕ). take 2048 (drop d payload)) (omega (arith, low, among.0));
      })
      (omega (arith, small, on.1, on.2, on.3)) (omega arith) (omega arith)

  pub zero_rows : (lba n : ℕ) (fua : Bool) → request_asks size header ≡ operations.WriteZeroes lba n fua
      → Rows (Writes (λ s. zeros 2048) fua) lba (commands_of (operations.WriteZeroes lba n fua) payload) (lba + n)
  zero_rows lba n fua asks =
      let on = zero_lies_on size lba n fua header asks in
      writes_row (λ s. zeros 2048) fua (λ part. zeroes_for (2048 * part.n)) ((n - 1) / 1024) lba n
      (λ part low high. record {
        whole = length_zeroes (2048 * part.n);
        sends = λ s among. zero_piece 2048 (2048 * (s - part.lba)) (2048 * part.n) (omega (arith, among.0, among.1));
      })
      (omega (arith, small, on.0, on.1, on.2)) (omega arith) (omega arith)

-- all commands of a write were good that was told without an error
writes_reply : (at : ℕ) (z : NbdOperation) (payload bytes : List ℕ) → SendsToSector at z payload bytes → IsReplied z
writes_reply at (operations.Write lba n fua) payload bytes sends = tt
writes_reply at (operations.WriteZeroes lba n fua) payload bytes sends = tt
writes_reply at _ payload bytes sends = absurd sends

pub all_wrote : (size at : ℕ) (was next : Phase) (turned : Turned) (bytes : List ℕ) → TurnFollows (Serving size) was turned next → (wrote : WroteSector size at turned bytes)
    → WereAllGood (commands_of (request_asks size wrote.request.header) wrote.request.payload) turned.dids
all_wrote size at was next turned bytes follows wrote =
    let request : Request = wrote.request in
    let z : NbdOperation = request_asks size request.header in
    let is = asked_in was next turned.message request size turned.dids turned.bytes wrote.told.message_is follows in
    all_good (commands_of z request.payload) turned.dids is.done
    (told_no_error request.header.cookie z turned.dids [] (writes_reply at z request.payload bytes wrote.sends) (sym is.told_is ∙ wrote.told.told_is))

module _ (size at : ℕ) (small : size < 2048 * 2 ^ 32) (Now Falls : Value → Type 0) (settle : (v : Value) → Now v → Falls v) where
  -- commands that leave the sector
  kept : (r after : Register) (dids : List Did) → AllBy at (commands_in dids) → Turns at r (map step_of dids) after → HasAmong Now Falls r → HasAmong Now Falls after
  kept r after [] leave turns has = carried at Now Falls settle r after turns has
  kept r after (did ∷ before) leave turns has =
      let both = all_last at (commands_in before) did.command leave in
      by_command at Now Falls settle turns.0 after (decoded did.command.cdb did.command.payload) did.command.payload did.data_in did.answer both.1
      (turned_command at turns.0 after did turns.2) (kept r turns.0 before both.0 turns.1 has)

  pub message_keeps : (r after : Register) (was next : Phase) (turned : Turned) → TurnFollows (Serving size) was turned next → LeavesByMessage size at turned.message
      → Turns at r (map step_of turned.dids) after → HasAmong Now Falls r → HasAmong Now Falls after
  message_keeps r after was next turned follows leaves turns has =
      kept r after turned.dids (message_leaves size at was turned.message turned.dids turned.bytes next small follows leaves) turns has

  pub messages_keep : (r last : Register) (between rest : List Turned) (phase : Phase)
      → ((mid : Register) (was : Phase) → Chain size at r rest mid was → HasAmong Now Falls mid)
      → Chain size at r (between ++ rest) last phase → LeaveByMessages size at between → HasAmong Now Falls last
  messages_keep r last [] rest phase had chain leave = had last phase chain
  messages_keep r last (turned ∷ between) rest phase had chain leave =
      message_keeps chain.0 last chain.1 phase turned chain.4 leave.0 chain.3 (messages_keep r chain.0 between rest chain.1 had chain.2 leave.1)

  -- a write of which all commands were good
  module _ (r after : Register) (header : Header) (payload bytes : List ℕ) (dids : List Did) (long : length payload ≡ data_after header)
      (now : Now (Bytes bytes)) (turns : Turns at r (map step_of dids) after) where
    wrote_by : (z : NbdOperation) → request_asks size header ≡ z → SendsToSector at z payload bytes → WereAllGood (commands_of z payload) dids
        → AsksToLast z ⊎ ((v : Value) → Falls v) → HasAmong Now Falls after
    wrote_by (operations.Write lba n fua) asks sends all falls =
        let sent : ℕ → List ℕ = λ s. bytes_of_sector lba payload s in
        row_wrote_among at Now Falls settle sent fua (subst (λ (l : List ℕ). Now (Bytes l)) sends.1 now) falls r after lba (lba + n) dids
        (subst (λ (l : List Command). Rows (Writes sent fua) lba l (lba + n)) all.all_done (write_rows size small header payload long lba n fua asks))
        all.good sends.0.0 sends.0.1 turns
    wrote_by (operations.WriteZeroes lba n fua) asks sends all falls =
        let sent : ℕ → List ℕ = λ s. zeros 2048 in
        row_wrote_among at Now Falls settle sent fua (subst (λ (l : List ℕ). Now (Bytes l)) sends.1 now) falls r after lba (lba + n) dids
        (subst (λ (l : List Command). Rows (Writes sent fua) lba l (lba + n)) all.all_done (zero_rows size small header payload long lba n fua asks))
        all.good sends.0.0 sends.0.1 turns
    wrote_by _ asks sends all falls = absurd sends

  -- the same of a message
  pub message_wrote : (r after : Register) (was next : Phase) (turned : Turned) (bytes : List ℕ) → TurnFollows (Serving size) was turned next → (wrote : WroteSector size at turned bytes)
      → Now (Bytes bytes) → AsksToLast (request_asks size wrote.request.header) ⊎ ((v : Value) → Falls v) → Turns at r (map step_of turned.dids) after → HasAmong Now Falls after
  message_wrote r after was next turned bytes follows wrote now falls turns =
      wrote_by r after wrote.request.header wrote.request.payload bytes turned.dids (asked_in was next turned.message wrote.request size turned.dids turned.bytes wrote.told.message_is follows).whole.data_are
      now turns (request_asks size wrote.request.header) refl wrote.sends (all_wrote size at was next turned bytes follows wrote) falls

-- a read that was told without an error shows the sector, and leaves it
pub message_read : (size at : ℕ) → size < 2048 * 2 ^ 32 → (r after : Register) (was next : Phase) (turned : Turned) (found : List ℕ) → TurnFollows (Serving size) was turned next → ReadSector size at turned found
    → Turns at r (map step_of turned.dids) after → (r.now ≡ Some (Bytes found)) × (after ≡ r)
message_read size at small r after was next turned found follows read turns =
    let request : Request = read.request in
    let lba : ℕ = read.lba in
    let n : ℕ = read.n in
    let is = asked_in was next turned.message request size turned.dids turned.bytes read.told.message_is follows in
    let told : reply_to request.header.cookie (operations.Read lba n) turned.dids ≡ reply_bytes 0 request.header.cookie read.data_told =
    ap (λ (z : NbdOperation). reply_to request.header.cookie z turned.dids) (sym read.asks) ∙ sym is.told_is ∙ read.told.told_is in
    let error = told_no_error request.header.cookie (operations.Read lba n) turned.dids read.data_told tt told in
    let all : WereAllGood (commands_of (operations.Read lba n) request.payload) turned.dids =
    subst (λ (z : NbdOperation). WereAllGood (commands_of z request.payload) turned.dids) read.asks (all_good (commands_of (request_asks size request.header) request.payload) turned.dids is.done error) in
    let row = row_read at r after lba (lba + n) turned.dids
    (subst (λ (l : List Command). Rows Reads lba l (lba + n)) all.all_done (read_rows size small request.header request.payload is.whole.data_are lba n read.asks))
    all.good turns in (
      row.shown read.among.0 read.among.1
          ∙ ap (λ (l : List ℕ). Some (Bytes (bytes_of_sector lba l at))) (sym (told_data request.header.cookie lba n turned.dids read.data_told told))
          ∙ ap (λ (l : List ℕ). Some (Bytes l)) (sym read.bytes_are),
      row.same,
    )

pub same_bytes : (x y : List ℕ) → Bytes x ≡ Bytes y → x ≡ y
same_bytes x y is = cc

-- so what a message wrote a later one reads
pub read_back : (size at : ℕ) (r last : Register) (wrote read : Turned) (before between : List Turned) (phase : Phase) (bytes found : List ℕ) → size < 2048 * 2 ^ 32
    → Chain size at r (read ∷ (between ++ (wrote ∷ before))) last phase → WroteSector size at wrote bytes → LeaveByMessages size at between → ReadSector size at read found → found ≡ bytes
read_back size at r last wrote read before between phase bytes found small chain writes leave reads =
    let has = messages_keep size at small These Any (λ v is. tt) r chain.0 between (wrote ∷ before) chain.1
    (λ mid was sub. message_wrote size at small These Any (λ v is. tt) sub.0 mid sub.1 was wrote bytes sub.4 writes refl (inr (λ v. tt)) sub.3) chain.2 leave in
    same_bytes found bytes (has.shows (Bytes found) (message_read size at small chain.0 last chain.1 phase read found chain.4 reads chain.3).0)
  where
    These : Value → Type 0
    These v = v ≡ Bytes bytes

    Any : Value → Type 0
    Any v = Unit {0}

-- The parts of a request cover its sectors in a row: what they write of a sector, and what they read of it.
use Rattle.std.specs.Prelude.{◌≡◌, ℕ, zero, suc, ◌+◌, ◌-◌, ◌*◌, ◌<◌, ◌≤◌, ◌^◌, ◌⊎◌, Bool, true, false, ◌&&◌, not, nat_lt, MatchBool, Some, Ok, List, [], ◌∷◌, ◌++◌, length, map, take, drop}
use Rattle.std.proofs.Common.{refl, sym, ap, ◌∙◌, inl, inr, subst, arith, length-append}
use Rattle.std.proofs.lemmas.Bool.{cases_lt, lt-ltb, le-ltb}
use Rattle.std.proofs.lemmas.List.{take-append-le, drop-append-le, length-drop}
use Rattle.std.proofs.Math.Seq.{drop-append-add}
use Rattle.model_sense.specs.declared.answer.Answer.{Answer}
use Rattle.model_sense.specs.declared.answer.Answer.TheVariants as answers
use Rattle.model_cdb.specs.declared.commands.Command.TheVariants as commands
use Rattle.model_cdb.specs.Decoding.{decoded}
use Rattle.model_nbd.specs.Commands.{Command, Sectors, bare, parts_before, read_cdb, write_cdb}
use Rattle.ram_text.specs.declared.script.Line.TheVariants as lines
use Rattle.ram_machine.specs.declared.reply.Reply.TheVariants as replies
use Rattle.ram_machine.specs.Acknowledged.{IsAmong}
use Rattle.ram_machine.specs.SectorBytes.{bytes_of_sector, is_sector_among}
use Rattle.ram_machine.specs.Register.{Value, Bytes, Register, AfterWrite, AfterCommand, goes_through, Turn, Turns}
use Rattle.ram_session.specs.Doing.{Did, WereGood, commands_in, data_from, step_of}
use Rattle.ram_session.proofs.Decoded.{write_decoded, read_decoded}
use Rattle.ram_machine.proofs.Registers.{HasAmong, by_command, now_them, carried}

-- These commands move the sectors from the first one on, one after another, up to the end.
abbrev pub Rows : (Moves : (first n : ℕ) → Command → Type 0) → (first : ℕ) → List Command → (end : ℕ) → Type 0
Rows Moves first [] end = first ≡ end
Rows Moves first (command ∷ rest) end = (n : ℕ) × Moves first n command × Rows Moves (first + n) rest end

-- the last of them
pub record LastRow (Moves : (first n : ℕ) → Command → Type 0) (first : ℕ) (front : List Command) (last : Command) (end : ℕ) : Type 0 where
  pub mid : ℕ
  pub n : ℕ
  pub rows : Rows Moves first front mid
  pub moves : Moves mid n last
  pub end_is : mid + n ≡ end

pub last_row : (Moves : (first n : ℕ) → Command → Type 0) (first : ℕ) (front : List Command) (last : Command) (end : ℕ) → Rows Moves first (front ++ last ∷ []) end → LastRow Moves first front last end
last_row Moves first [] last end rows = record { mid = first; n = rows.0; rows = refl; moves = rows.1; end_is = rows.2 }
last_row Moves first (command ∷ front) last end rows =
    let more = last_row Moves (first + rows.0) front last end rows.2 in
    record { mid = more.mid; n = more.n; rows = (rows.0, rows.1, more.rows); moves = more.moves; end_is = more.end_is }

pub rows_forward : (Moves : (first n : ℕ) → Command → Type 0) (first : ℕ) (all : List Command) (end : ℕ) → Rows Moves first all end → first ≤ end
rows_forward Moves first [] end rows = omega (arith, rows)
rows_forward Moves first (command ∷ rest) end rows = let more = rows_forward Moves (first + rows.0) rest end rows.2 in omega (arith, more)

-- a read
abbrev pub Reads : (first n : ℕ) → Command → Type 0
Reads first n command = decoded command.cdb command.payload ≡ Ok (commands.Read first n)

-- a write, which sends this of each sector
pub record Writes (sent : ℕ → List ℕ) (fua : Bool) (first n : ℕ) (command : Command) : Type 0 where
  pub asks : decoded command.cdb command.payload ≡ Ok (commands.Write first n fua)
  pub sends : (at : ℕ) → IsAmong first n at → bytes_of_sector first command.payload at ≡ sent at

pub reads_row : (k lba n : ℕ) → lba + n < 2 ^ 32 → 1024 * k ≤ n → n ≤ 1024 * k + 1024 → Rows Reads lba (map (λ part. bare (read_cdb part)) (parts_before k lba n)) (lba + n)
reads_row zero lba n small least most = (n, read_decoded (record { lba = lba; n = n }) (omega (arith, small)) (omega (arith, most)), refl)
reads_row (suc k) lba n small least most = (
  1024,
  read_decoded (record { lba = lba; n = 1024 }) (omega (arith, small)) (omega arith),
  subst (Rows Reads (lba + 1024) (map (λ part. bare (read_cdb part)) (parts_before k (lba + 1024) (n - 1024)))) (omega (arith, least))
      (reads_row k (lba + 1024) (n - 1024) (omega (arith, small, least)) (omega (arith, least)) (omega (arith, most))),
)

-- what belongs to a part of a write
pub record Payloads (sent : ℕ → List ℕ) (payload_of : Sectors → List ℕ) (lba n : ℕ) (part : Sectors) : Type 0 where
  pub whole : length (payload_of part) ≡ 2048 * part.n
  pub sends : (at : ℕ) → IsAmong part.lba part.n at → bytes_of_sector part.lba (payload_of part) at ≡ sent at

pub writes_row : (sent : ℕ → List ℕ) (fua : Bool) (payload_of : Sectors → List ℕ) (k lba n : ℕ)
    → ((part : Sectors) → lba ≤ part.lba → part.lba + part.n ≤ lba + n → Payloads sent payload_of lba n part)
    → lba + n < 2 ^ 32 → 1024 * k ≤ n → n ≤ 1024 * k + 1024
    → Rows (Writes sent fua) lba (map (λ part. record { cdb = write_cdb fua part; payload = payload_of part }) (parts_before k lba n)) (lba + n)
writes_row sent fua payload_of zero lba n each small least most =
    let part : Sectors = record { lba = lba; n = n } in
    let has = each part (omega arith) (omega arith) in (
      n,
      record { asks = write_decoded part fua (payload_of part) (omega (arith, small)) (omega (arith, most)) has.whole; sends = has.sends },
      refl,
    )
writes_row sent fua payload_of (suc k) lba n each small least most =
    let part : Sectors = record { lba = lba; n = 1024 } in
    let has = each part (omega arith) (omega (arith, least)) in (
      1024,
      record { asks = write_decoded part fua (payload_of part) (omega (arith, small)) (omega arith) has.whole; sends = has.sends },
      subst (Rows (Writes sent fua) (lba + 1024) (map (λ p. record { cdb = write_cdb fua p; payload = payload_of p }) (parts_before k (lba + 1024) (n - 1024)))) (omega (arith, least))
          (writes_row sent fua payload_of k (lba + 1024) (n - 1024)
          (λ p low high. let r = each p (omega (arith, low)) (omega (arith, high, least)) in record { whole = r.whole; sends = r.sends })
          (omega (arith, small, least)) (omega (arith, least)) (omega (arith, most))),
    )

-- a command that was answered, in a register
same_answer : (cdb : List ℕ) (one two : Answer) → replies.Command cdb one ≡ replies.Command cdb two → two ≡ one
same_answer cdb one two is = cc

pub turned_command : (at : ℕ) (r after : Register) (did : Did) → Turn at r (lines.Command did.command.cdb) did.command.payload (replies.Command did.command.cdb did.answer) did.data_in after
    → AfterCommand at r (decoded did.command.cdb did.command.payload) did.command.payload did.data_in did.answer after
turned_command at r after did turn =
    subst (λ (a : Answer). AfterCommand at r (decoded did.command.cdb did.command.payload) did.command.payload did.data_in a after)
    (same_answer did.command.cdb did.answer turn.0 turn.1) turn.2

pub among_true : (lba n at : ℕ) → IsAmong lba n at → is_sector_among lba n at ≡ true
among_true lba n at among =
    ap (λ (b : Bool). not b && nat_lt at (lba + n)) (le-ltb at lba among.0) ∙ lt-ltb at (lba + n) among.1

-- sectors of two rows, one behind the other
front_piece : (m d : ℕ) (x y : List ℕ) → d + m ≤ length x → take m (drop d (x ++ y)) ≡ take m (drop d x)
front_piece m d x y inside =
    ap (take m) (drop-append-le d x y (omega (arith, inside))) ∙ take-append-le m (drop d x) y (omega (arith, inside, length-drop d x))

back_piece : (m d e : ℕ) (x y : List ℕ) → d ≡ length x + e → take m (drop d (x ++ y)) ≡ take m (drop e y)
back_piece m d e x y is = ap (λ (z : ℕ). take m (drop z (x ++ y))) is ∙ ap (take m) (drop-append-add x y e)

-- a write that was good
good_write : (Now Falls : Value → Type 0) (settle : (v : Value) → Now v → Falls v) (r after : Register) (fua through : Bool) (sent : List ℕ) → Now (Bytes sent) → (fua ≡ true) ⊎ ((v : Value) → Falls v)
    → (fua ≡ true → through ≡ true) → AfterWrite r through sent answers.Good after → HasAmong Now Falls after
good_write Now Falls settle r after fua true sent now all goes is = carried 0 Now Falls settle (record r { now = Some (Bytes sent); falls = Bytes sent ∷ [] }) after is (now_them 0 Now Falls settle (Bytes sent) r.caches now)
good_write Now Falls settle r after fua false sent now (inl is_fua) goes is = absurd (let clash : false ≡ true = goes is_fua in cc)
good_write Now Falls settle r after fua false sent now (inr all) goes is =
    carried 0 Now Falls settle (record r { now = Some (Bytes sent); falls = Bytes sent ∷ r.falls }) after is (record {
      shows = λ found some. (let same : Bytes sent ≡ found = cc in subst Now same now);
      falls = λ found there. all found;
    })

fua_through : (r : Register) (lba n : ℕ) (fua : Bool) → fua ≡ true → goes_through r lba n fua ≡ true
fua_through r lba n true is = refl
fua_through r lba n false is = absurd (let clash : false ≡ true = is in cc)

by_among : (b : Bool) (Written Left : Type 0) → b ≡ true → MatchBool b Written Left → Written
by_among true Written Left is p = p
by_among false Written Left is p = absurd (let clash : false ≡ true = is in cc)

-- A row of good writes leaves the register so, where the one that has the sector does, and those behind it keep that.
module _ (at : ℕ) (So : Register → Type 0) (sent : ℕ → List ℕ) (fua : Bool)
    (puts : (r after : Register) (lba n : ℕ) → AfterWrite r (goes_through r lba n fua) (sent at) answers.Good after → So after)
    (keeps : (r after : Register) (lba n : ℕ) (payload data_in : List ℕ) → at < lba → AfterCommand at r (Ok (commands.Write lba n fua)) payload data_in answers.Good after → So r → So after) where
  wrote_last : (r after : Register) (did : Did) (mid n end : ℕ) → Writes sent fua mid n did.command → mid + n ≡ end → did.answer ≡ answers.Good → at < end → ((at < mid) → So r)
      → AfterCommand at r (decoded did.command.cdb did.command.payload) did.command.payload did.data_in did.answer after → So after
  wrote_last r after did mid n end writes end_is good within had is =
      let written = subst (λ (a : Answer). AfterCommand at r (Ok (commands.Write mid n fua)) did.command.payload did.data_in a after) good
      (subst (λ d. AfterCommand at r d did.command.payload did.data_in did.answer after) writes.asks is) in
      elim (cases_lt at mid) [
        | inl below ↦ keeps r after mid n did.command.payload did.data_in below written (had below)
        | inr from ↦
            let among : IsAmong mid n at = (from, omega (arith, within, end_is)) in
            puts r after mid n (subst (λ (l : List ℕ). AfterWrite r (goes_through r mid n fua) l answers.Good after) (writes.sends at among)
            (by_among (is_sector_among mid n at) (AfterWrite r (goes_through r mid n fua) (bytes_of_sector mid did.command.payload at) answers.Good after) (after ≡ r)
            (among_true mid n at among) written))
      ]

  pub row_wrote : (r after : Register) (first end : ℕ) (dids : List Did) → Rows (Writes sent fua) first (commands_in dids) end → WereGood dids → first ≤ at → at < end
      → Turns at r (map step_of dids) after → So after
  row_wrote r after first end [] rows good from within turns = absurd (omega (arith, rows, from, within))
  row_wrote r after first end (did ∷ before) rows good from within turns =
      let last = last_row (Writes sent fua) first (commands_in before) did.command end rows in
      wrote_last turns.0 after did last.mid last.n end last.moves last.end_is good.0 within
      (λ below. row_wrote r turns.0 first last.mid before last.rows good.1 from below turns.1)
      (turned_command at turns.0 after did turns.2)

-- what it has then is these bytes
put_now : (r after : Register) (through : Bool) (sent : List ℕ) → AfterWrite r through sent answers.Good after → after.now ≡ Some (Bytes sent)
put_now r after true sent is = ap (λ (q : Register). q.now) is
put_now r after false sent is = ap (λ (q : Register). q.now) is

below_false : (lba n at : ℕ) → at < lba → is_sector_among lba n at ≡ false
below_false lba n at below = ap (λ (b : Bool). not b && nat_lt at (lba + n)) (lt-ltb at lba below)

pub left_apart : (b : Bool) (Written Left : Type 0) → b ≡ false → MatchBool b Written Left → Left
left_apart true Written Left is p = absurd (let clash : true ≡ false = is in cc)
left_apart false Written Left is p = p

pub row_wrote_now : (at : ℕ) (sent : ℕ → List ℕ) (fua : Bool) (r after : Register) (first end : ℕ) (dids : List Did) → Rows (Writes sent fua) first (commands_in dids) end → WereGood dids → first ≤ at → at < end
    → Turns at r (map step_of dids) after → after.now ≡ Some (Bytes (sent at))
row_wrote_now at sent fua = row_wrote at (λ (q : Register). q.now ≡ Some (Bytes (sent at))) sent fua
    (λ r after lba n is. put_now r after (goes_through r lba n fua) (sent at) is)
    (λ r after lba n payload data_in below is was. ap (λ (q : Register). q.now)
    (left_apart (is_sector_among lba n at) (AfterWrite r (goes_through r lba n fua) (bytes_of_sector lba payload at) answers.Good after) (after ≡ r) (below_false lba n at below) is) ∙ was)

pub row_wrote_among : (at : ℕ) (Now Falls : Value → Type 0) (settle : (v : Value) → Now v → Falls v) (sent : ℕ → List ℕ) (fua : Bool) → Now (Bytes (sent at)) → (fua ≡ true) ⊎ ((v : Value) → Falls v)
    → (r after : Register) (first end : ℕ) (dids : List Did) → Rows (Writes sent fua) first (commands_in dids) end → WereGood dids → first ≤ at → at < end
    → Turns at r (map step_of dids) after → HasAmong Now Falls after
row_wrote_among at Now Falls settle sent fua now all = row_wrote at (HasAmong Now Falls) sent fua
    (λ r after lba n is. good_write Now Falls settle r after fua (goes_through r lba n fua) (sent at) now all (fua_through r lba n fua) is)
    (λ r after lba n payload data_in below is was. by_command at Now Falls settle r after (Ok (commands.Write lba n fua)) payload data_in answers.Good (inl below) is was)

-- What a row of good reads gave, where the register does not change: as many sectors, and of this one what it has.
pub record RowRead (at : ℕ) (r after : Register) (first end : ℕ) (dids : List Did) : Type 0 where
  pub same : after ≡ r
  pub long : length (data_from dids) ≡ 2048 * (end - first)
  pub shown : first ≤ at → at < end → r.now ≡ Some (Bytes (bytes_of_sector first (data_from dids) at))

module _ (at : ℕ) where
  read_last : (r mid_r after : Register) (did : Did) (before : List Did) (first mid n end : ℕ) → first ≤ mid → mid + n ≡ end → Reads mid n did.command → did.answer ≡ answers.Good
      → RowRead at r mid_r first mid before
      → AfterCommand at mid_r (decoded did.command.cdb did.command.payload) did.command.payload did.data_in did.answer after → RowRead at r after first end (did ∷ before)
  read_last r mid_r after did before first mid n end forward end_is reads good had is =
      let shows = subst (λ (a : Answer). AfterCommand at mid_r (Ok (commands.Read mid n)) did.command.payload did.data_in a after) good
      (subst (λ d. AfterCommand at mid_r d did.command.payload did.data_in did.answer after) reads is) in
      let whole : length did.data_in ≡ 2048 * n = shows.0.whole in
      let long = length-append (data_from before) did.data_in in
      record {
        same = shows.1 ∙ had.same;
        long = omega (arith, long, had.long, whole, end_is, forward);
        shown = λ from within. elim (cases_lt at mid) [
          | inl below ↦ had.shown from below ∙ ap (λ (l : List ℕ). Some (Bytes l))
              (sym (front_piece 2048 (2048 * (at - first)) (data_from before) did.data_in (omega (arith, from, below, had.long))))
          | inr past ↦ sym (ap (λ (q : Register). q.now) had.same) ∙ shows.0.shown (among_true mid n at (past, omega (arith, within, end_is)))
              ∙ ap (λ (l : List ℕ). Some (Bytes l))
              (sym (back_piece 2048 (2048 * (at - first)) (2048 * (at - mid)) (data_from before) did.data_in (omega (arith, from, past, forward, had.long))))
        ];
      }

  pub row_read : (r after : Register) (first end : ℕ) (dids : List Did) → Rows Reads first (commands_in dids) end → WereGood dids → Turns at r (map step_of dids) after → RowRead at r after first end dids
  row_read r after first end [] rows good turns = record { same = turns; long = omega (arith, rows); shown = λ from within. absurd (omega (arith, rows, from, within)) }
  row_read r after first end (did ∷ before) rows good turns =
      let last = last_row Reads first (commands_in before) did.command end rows in
      read_last r turns.0 after did before first last.mid last.n end (rows_forward Reads first (commands_in before) last.mid last.rows) last.end_is last.moves good.0
      (row_read r turns.0 first last.mid before last.rows good.1 turns.1) (turned_command at turns.0 after did turns.2)

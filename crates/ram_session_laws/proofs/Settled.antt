-- A sector that a client wrote and made to last is settled: its register has these bytes alone, until it is written again.
use Rattle.std.specs.Prelude.{◌≡◌, ℕ, ◌+◌, ◌*◌, ◌<◌, ◌^◌, ◌⊎◌, Bool, Option, None, Some, Result, Ok, List, [], ◌∷◌, ◌++◌, length, map}
use Rattle.std.proofs.Common.{refl, sym, ap, ◌∙◌, inl, inr, subst}
use Rattle.model_sense.specs.declared.sense.Sense.{Sense}
use Rattle.model_sense.specs.declared.answer.Answer.{Answer}
use Rattle.model_sense.specs.declared.answer.Answer.TheVariants as answers
use Rattle.model_sectors.specs.Discs.{zeros}
use Rattle.model_cdb.specs.declared.commands.Command.{Command as Asked}
use Rattle.model_cdb.specs.declared.commands.Command.TheVariants as commands
use Rattle.model_cdb.specs.Decoding.{decoded}
use Rattle.model_nbd.specs.declared.Header.{Header}
use Rattle.model_nbd.specs.declared.NbdOperation.{NbdOperation}
use Rattle.model_nbd.specs.declared.NbdOperation.TheVariants as operations
use Rattle.model_nbd.specs.Messages.{data_after}
use Rattle.model_nbd.specs.Handshake.{Serving}
use Rattle.model_nbd.specs.Operations.{request_asks}
use Rattle.model_nbd.specs.Commands.{Command, bare, sync_cdb, commands_of}
use Rattle.ram_machine.specs.Answered.{AnsweredStep}
use Rattle.ram_machine.specs.States.{State}
use Rattle.ram_machine.specs.Acknowledged.{LeavesAsDecoded}
use Rattle.ram_machine.specs.SectorBytes.{bytes_of_sector, is_sector_among}
use Rattle.ram_machine.specs.Register.{Value, Bytes, Register, synchronised, goes_through, AfterWrite, AfterOther, AfterCommand, left_by, Turns, HasSettled}
use Rattle.ram_session.specs.Doing.{Did, Doing, AreDone, WereAllGood, WereGood, commands_in, step_of}
use Rattle.ram_session.specs.Talk.{Phase, Greeted, Options, Transmission, Message, Flags, Wants, Asks, Turned, Talk, FollowsBy, TurnFollows, dids_in}
use Rattle.ram_session.specs.Kept.{LeaveByMessages}
use Rattle.ram_session.proofs.Kept.{AllBy, all_last, message_leaves}
use Rattle.ram_session_laws.specs.ReadBack.{SendsToSector, WroteSector, ReadSector, WasFlushed, LeftSynchronised, SettledSector}
use Rattle.ram_machine.proofs.Registers.{HasAmong, apart_false}
use Rattle.ram_session_laws.proofs.Told.{asked_in}
use Rattle.ram_session_laws.proofs.Rows.{Rows, Reads, Writes, row_wrote_now, turned_command, left_apart}
use Rattle.ram_session_laws.proofs.Chains.{two_runs, map_two, read_rows, write_rows, zero_rows, all_wrote, message_keeps, message_wrote, message_read}
use Rattle.ram_session_laws.proofs.Flushed.{one_did, synchronises, flush_good, settled_then}
use Rattle.ram_session_laws.proofs.Power.{IsOfClient, OffNow, EachOfClient, each_front, each_last, NoneCut, stayed_on, good_on}

-- A talk, and beside it the register of a sector.
abbrev pub Joint : (size at : ℕ) → State → Register → List Turned → State → Register → Phase → Type 0
Joint size at s r [] t last phase = (t ≡ s) × (last ≡ r) × (phase ≡ Greeted)
Joint size at s r (turned ∷ before) t last phase =
    (mid : State) × (was : Phase) × (q : Register) × Joint size at s r before mid q was
    × Doing mid turned.dids t × Turns at q (map step_of turned.dids) last × TurnFollows (Serving size) was turned phase

pub joint_of : (size at : ℕ) (s t : State) (r last : Register) (turns : List Turned) (phase : Phase) → Talk (Serving size) s turns t phase → Turns at r (map step_of (dids_in turns)) last → Joint size at s r turns t last phase
joint_of size at s t r last [] phase talk run = (talk.0, run, talk.1)
joint_of size at s t r last (turned ∷ before) phase talk run =
    let both = two_runs at r last (map step_of turned.dids) (map step_of (dids_in before))
    (subst (λ (l : List AnsweredStep). Turns at r l last) (map_two turned.dids (dids_in before)) run) in
    (talk.0, talk.1, both.mid, joint_of size at s talk.0 r both.mid before talk.1 talk.2 both.first, talk.3, both.second, talk.4)

-- each command of a message is one of a client
reads_client : (first : ℕ) (all : List Command) (end : ℕ) → Rows Reads first all end → EachOfClient all
reads_client first [] end rows = tt
reads_client first (command ∷ rest) end rows = (subst IsOfClient (sym rows.1) tt, reads_client (first + rows.0) rest end rows.2)

writes_client : (sent : ℕ → List ℕ) (fua : Bool) (first : ℕ) (all : List Command) (end : ℕ) → Rows (Writes sent fua) first all end → EachOfClient all
writes_client sent fua first [] end rows = tt
writes_client sent fua first (command ∷ rest) end rows = (subst IsOfClient (sym rows.1.asks) tt, writes_client sent fua (first + rows.0) rest end rows.2)

commands_client : (size : ℕ) → size < 2048 * 2 ^ 32 → (header : Header) (payload : List ℕ) → length payload ≡ data_after header → (z : NbdOperation) → request_asks size header ≡ z → EachOfClient (commands_of z payload)
commands_client size small header payload long (operations.Refused error) is = tt
commands_client size small header payload long (operations.Read lba n) is = reads_client lba (commands_of (operations.Read lba n) payload) (lba + n) (read_rows size small header payload long lba n is)
commands_client size small header payload long (operations.Write lba n fua) is =
    writes_client (λ s. bytes_of_sector lba payload s) fua lba (commands_of (operations.Write lba n fua) payload) (lba + n) (write_rows size small header payload long lba n fua is)
commands_client size small header payload long (operations.WriteZeroes lba n fua) is =
    writes_client (λ s. zeros 2048) fua lba (commands_of (operations.WriteZeroes lba n fua) payload) (lba + n) (zero_rows size small header payload long lba n fua is)
commands_client size small header payload long operations.Flush is = (tt, tt)
commands_client size small header payload long operations.Disconnect is = (tt, tt)

done_client : (all : List Command) (dids : List Did) → AreDone all dids → EachOfClient all → EachOfClient (commands_in dids)
done_client all dids (inl whole) each = subst EachOfClient whole.all_done each
done_client all dids (inr part) each =
    subst (λ (ds : List Did). EachOfClient (commands_in ds)) (sym part.dids_are)
    (each_front (commands_in (part.last ∷ part.before)) part.undone (subst EachOfClient part.some_done each))

none_client : (dids : List Did) → dids ≡ [] → EachOfClient (commands_in dids)
none_client dids is = subst (λ (ds : List Did). EachOfClient (commands_in ds)) (sym is) tt

message_client : (size : ℕ) (was : Phase) (message : Message) (dids : List Did) (told : List ℕ) (next : Phase) → size < 2048 * 2 ^ 32
    → FollowsBy was message (Serving size) dids told next → EachOfClient (commands_in dids)
message_client size Greeted (Flags zeros) dids told next small f = none_client dids f.nothing_done
message_client size (Options zeros) (Wants option) dids told next small f = none_client dids f.nothing_done
message_client size Transmission (Asks request) dids told next small f =
    done_client (commands_of (request_asks size request.header) request.payload) dids f.done
    (commands_client size small request.header request.payload f.whole.data_are (request_asks size request.header) refl)
message_client size _ _ dids told next small f = absurd f

-- what a sector has now stays while the power is on
module _ (at : ℕ) (v : Value) where
  left_now : (r after : Register) (answer : Answer) → ¬ (answer ≡ answers.Cut) → after ≡ left_by answer r → r.now ≡ Some v → after.now ≡ Some v
  left_now r after answers.Good on is was = ap (λ (q : Register). q.now) is ∙ was
  left_now r after (answers.Check why) on is was = ap (λ (q : Register). q.now) is ∙ was
  left_now r after answers.Cut on is was = absurd (on refl)
  left_now r after answers.Off on is was = ap (λ (q : Register). q.now) is ∙ was
  left_now r after answers.Fault on is was = ap (λ (q : Register). q.now) is ∙ was

  sync_now : (now : Option Value) (r : Register) → r.now ≡ now → (synchronised now r).now ≡ now
  sync_now None r was = was
  sync_now (Some value) r was = refl

  read_now : (r after : Register) (lba n : ℕ) (payload data_in : List ℕ) (answer : Answer) → ¬ (answer ≡ answers.Cut) → AfterOther at r (commands.Read lba n) payload data_in answer after → r.now ≡ Some v → after.now ≡ Some v
  read_now r after lba n payload data_in answers.Good on is was = left_now r after answers.Good on is.1 was
  read_now r after lba n payload data_in (answers.Check why) on is was = left_now r after (answers.Check why) on is was
  read_now r after lba n payload data_in answers.Cut on is was = left_now r after answers.Cut on is was
  read_now r after lba n payload data_in answers.Off on is was = left_now r after answers.Off on is was
  read_now r after lba n payload data_in answers.Fault on is was = left_now r after answers.Fault on is was

  synced_now : (r after : Register) (payload data_in : List ℕ) (answer : Answer) → ¬ (answer ≡ answers.Cut) → AfterOther at r commands.Synchronize payload data_in answer after → r.now ≡ Some v → after.now ≡ Some v
  synced_now r after payload data_in answers.Good on is was = ap (λ (q : Register). q.now) is ∙ sync_now r.now r refl ∙ was
  synced_now r after payload data_in (answers.Check why) on is was = left_now r after (answers.Check why) on is was
  synced_now r after payload data_in answers.Cut on is was = left_now r after answers.Cut on is was
  synced_now r after payload data_in answers.Off on is was = left_now r after answers.Off on is was
  synced_now r after payload data_in answers.Fault on is was = left_now r after answers.Fault on is was

  command_now : (r after : Register) (d : Result Asked Sense) (payload data_in : List ℕ) (answer : Answer) → IsOfClient d → LeavesAsDecoded at d → ¬ (answer ≡ answers.Cut)
      → AfterCommand at r d payload data_in answer after → r.now ≡ Some v → after.now ≡ Some v
  command_now r after (Ok (commands.Read lba n)) payload data_in answer client leaves on is was = read_now r after lba n payload data_in answer on is was
  command_now r after (Ok (commands.Write lba n fua)) payload data_in answer client leaves on is was =
      left_now r after answer on
      (left_apart (is_sector_among lba n at) (AfterWrite r (goes_through r lba n fua) (bytes_of_sector lba payload at) answer after) (after ≡ left_by answer r)
      (apart_false at (λ x. Unit {0}) (λ x. Unit {0}) (λ x is. tt) lba n leaves) is) was
  command_now r after (Ok commands.Synchronize) payload data_in answer client leaves on is was = synced_now r after payload data_in answer on is was
  command_now r after _ payload data_in answer client leaves on is was = absurd client

  kept_now : (r after : Register) (dids : List Did) → EachOfClient (commands_in dids) → AllBy at (commands_in dids) → NoneCut dids → Turns at r (map step_of dids) after → r.now ≡ Some v → after.now ≡ Some v
  kept_now r after [] client leave on turns was = ap (λ (q : Register). q.now) turns ∙ was
  kept_now r after (did ∷ before) client leave on turns was =
      let both = each_last (commands_in before) did.command client in
      let apart = all_last at (commands_in before) did.command leave in
      command_now turns.0 after (decoded did.command.cdb did.command.payload) did.command.payload did.data_in did.answer both.1 apart.1 on.0
      (turned_command at turns.0 after did turns.2) (kept_now r turns.0 before both.0 apart.0 on.1 turns.1 was)

-- the client left, and all was made to last
left_good : (size : ℕ) (was next : Phase) (turned : Turned) → TurnFollows (Serving size) was turned next → LeftSynchronised size turned → WereAllGood (bare sync_cdb ∷ []) turned.dids
left_good size was next turned follows left =
    by (subst (λ (z : NbdOperation). AreDone (commands_of z left.request.payload) turned.dids) left.asks
    (asked_in was next turned.message left.request size turned.dids turned.bytes left.message_is follows).done)
  where
    by : AreDone (bare sync_cdb ∷ []) turned.dids → WereAllGood (bare sync_cdb ∷ []) turned.dids
    by (inl whole) = whole
    by (inr part) = absurd (part.not_good (subst WereGood part.dids_are left.good).0)

module _ (size at : ℕ) (small : size < 2048 * 2 ^ 32) (s : State) (r : Register) (bytes : List ℕ) where
  -- messages that leave it, while the power is on
  between_now : (t : State) (last : Register) (between rest : List Turned) (phase : Phase)
      → ((mid : State) (q : Register) (was : Phase) → Joint size at s r rest mid q was → q.now ≡ Some (Bytes bytes))
      → Joint size at s r (between ++ rest) t last phase → LeaveByMessages size at between → ¬ OffNow t → last.now ≡ Some (Bytes bytes)
  between_now t last [] rest phase had joint leave on = had t last phase joint
  between_now t last (turned ∷ between) rest phase had joint leave on =
      let client = message_client size joint.1 turned.message turned.dids turned.bytes phase small joint.6 in
      let stayed = stayed_on joint.0 t turned.dids joint.4 client on in
      kept_now at (Bytes bytes) joint.2 last turned.dids client (message_leaves size at joint.1 turned.message turned.dids turned.bytes phase small joint.6 leave.0) stayed.0 joint.5
      (between_now joint.0 joint.2 between rest joint.1 had joint.3 leave.1 stayed.1)

  -- a write
  wrote_by_now : (q after : Register) (header : Header) (payload : List ℕ) (dids : List Did) → length payload ≡ data_after header → Turns at q (map step_of dids) after
      → (z : NbdOperation) → request_asks size header ≡ z → SendsToSector at z payload bytes → WereAllGood (commands_of z payload) dids → after.now ≡ Some (Bytes bytes)
  wrote_by_now q after header payload dids long turns (operations.Write lba n fua) asks sends all =
      let sent : ℕ → List ℕ = λ x. bytes_of_sector lba payload x in
      row_wrote_now at sent fua q after lba (lba + n) dids
      (subst (λ (l : List Command). Rows (Writes sent fua) lba l (lba + n)) all.all_done (write_rows size small header payload long lba n fua asks))
      all.good sends.0.0 sends.0.1 turns ∙ ap (λ (l : List ℕ). Some (Bytes l)) (sym sends.1)
  wrote_by_now q after header payload dids long turns (operations.WriteZeroes lba n fua) asks sends all =
      let sent : ℕ → List ℕ = λ x. zeros 2048 in
      row_wrote_now at sent fua q after lba (lba + n) dids
      (subst (λ (l : List Command). Rows (Writes sent fua) lba l (lba + n)) all.all_done (zero_rows size small header payload long lba n fua asks))
      all.good sends.0.0 sends.0.1 turns ∙ ap (λ (l : List ℕ). Some (Bytes l)) (sym sends.1)
  wrote_by_now q after header payload dids long turns _ asks sends all = absurd sends

  wrote_now : (wrote : Turned) (before : List Turned) (mid : State) (q : Register) (was : Phase) → WroteSector size at wrote bytes → Joint size at s r (wrote ∷ before) mid q was → q.now ≡ Some (Bytes bytes)
  wrote_now wrote before mid q was written joint =
      wrote_by_now joint.2 q written.request.header written.request.payload wrote.dids
      (asked_in joint.1 was wrote.message written.request size wrote.dids wrote.bytes written.told.message_is joint.6).whole.data_are joint.5
      (request_asks size written.request.header) refl written.sends (all_wrote size at joint.1 was wrote bytes joint.6 written)

  -- a message that wrote it, or read it
  had_now : (told : Turned) (before : List Turned) (mid : State) (q : Register) (was : Phase) → WroteSector size at told bytes ⊎ ReadSector size at told bytes → Joint size at s r (told ∷ before) mid q was → q.now ≡ Some (Bytes bytes)
  had_now told before mid q was (inl written) joint = wrote_now told before mid q was written joint
  had_now told before mid q was (inr read) joint =
      let shown = message_read size at small joint.2 q joint.1 was told bytes joint.6 read joint.5 in
      ap (λ (x : Register). x.now) shown.1 ∙ shown.0

  abbrev pub These : Value → Type 0
  These v = v ≡ Bytes bytes

  -- a flush behind it
  flush_by : (flushed : Turned) (between : List Turned) (wrote : Turned) (before : List Turned) (t : State) (last : Register) (phase : Phase) → WroteSector size at wrote bytes ⊎ ReadSector size at wrote bytes → LeaveByMessages size at between
      → (joint : Joint size at s r (flushed ∷ (between ++ (wrote ∷ before))) t last phase) → WereAllGood (bare sync_cdb ∷ []) flushed.dids → HasAmong These These last
  flush_by flushed between wrote before t last phase written leave joint all =
      let one = one_did (bare sync_cdb) flushed.dids all in
      let does : Doing joint.0 (one.did ∷ []) t = subst (λ (ds : List Did). Doing joint.0 ds t) one.dids_are joint.4 in
      let on = good_on joint.0 t one.did does (subst (λ (c : Command). IsOfClient (decoded c.cdb c.payload)) (sym one.command_is) tt) one.good in
      let now = between_now joint.0 joint.2 between (wrote ∷ before) joint.1 (λ mid q was sub. had_now wrote before mid q was written sub) joint.3 leave on in
      let same = synchronises at joint.2 last flushed.dids all joint.5 in
      let settled = subst (λ (q : Register). HasSettled q bytes) (sym same) (settled_then joint.2.now joint.2 bytes refl (sync_now at (Bytes bytes) joint.2.now joint.2 refl ∙ now)) in
      record { shows = settled.shows; falls = settled.falls }

  keep_joint : (t : State) (last : Register) (after rest : List Turned) (phase : Phase)
      → ((mid : State) (q : Register) (was : Phase) → Joint size at s r rest mid q was → HasAmong These These q)
      → Joint size at s r (after ++ rest) t last phase → LeaveByMessages size at after → HasAmong These These last
  keep_joint t last [] rest phase had joint leave = had t last phase joint
  keep_joint t last (turned ∷ after) rest phase had joint leave =
      message_keeps size at small These These (λ v is. is) joint.2 last joint.1 phase turned joint.6 leave.0 joint.5
      (keep_joint joint.0 joint.2 after rest joint.1 had joint.3 leave.1)

  pub settled_last : (t : State) (last : Register) (turns : List Turned) (phase : Phase) → Joint size at s r turns t last phase → SettledSector size at turns bytes → HasAmong These These last
  settled_last t last turns phase joint (inl through) =
      keep_joint t last through.after (through.wrote ∷ through.before) phase
      (λ mid q was sub. message_wrote size at small These These (λ v is. is) sub.2 q sub.1 was through.wrote bytes sub.6 through.written refl (inl through.with_fua) sub.5)
      (subst (λ (l : List Turned). Joint size at s r l t last phase) through.turns_are joint) through.leave
  settled_last t last turns phase joint (inr flush) =
      keep_joint t last flush.after (flush.flushed ∷ (flush.between ++ (flush.told ∷ flush.before))) phase
      (λ mid q was sub. flush_by flush.flushed flush.between flush.told flush.before mid q was flush.had flush.leave_between sub (by sub.1 was sub.6 flush.lasts))
      (subst (λ (l : List Turned). Joint size at s r l t last phase) flush.turns_are joint) flush.leave
    where
      by : (was next : Phase) → TurnFollows (Serving size) was flush.flushed next → WasFlushed size flush.flushed ⊎ LeftSynchronised size flush.flushed → WereAllGood (bare sync_cdb ∷ []) flush.flushed.dids
      by was next follows (inl flushed) = flush_good size was next flush.flushed follows flushed
      by was next follows (inr left) = left_good size was next flush.flushed follows left

-- What a synchronisation makes of the register of a sector, and so what a flush does that was told without an error.
use Rattle.std.specs.Prelude.{◌≡◌, ℕ, Option, None, Some, List, [], ◌∷◌, ◌++◌, length, map}
use Rattle.std.proofs.Common.{refl, sym, ap, ◌∙◌, inl, inr, subst, arith, length-append}
use Rattle.model_cache.proofs.Members.{Contains-cases, Contains-none}
use Rattle.model_sense.specs.declared.answer.Answer.{Answer}
use Rattle.model_sense.specs.declared.answer.Answer.TheVariants as answers
use Rattle.model_cdb.specs.Decoding.{decoded}
use Rattle.model_nbd.specs.declared.NbdOperation.{NbdOperation}
use Rattle.model_nbd.specs.declared.NbdOperation.TheVariants as operations
use Rattle.model_nbd.specs.Messages.{Request, reply_bytes}
use Rattle.model_nbd.specs.Handshake.{Serving}
use Rattle.model_nbd.specs.Operations.{request_asks}
use Rattle.model_nbd.specs.Commands.{Command, bare, sync_cdb, commands_of}
use Rattle.ram_machine.specs.Register.{Value, Bytes, Register, synchronised, AfterCommand, Turns, HasSettled}
use Rattle.ram_session.specs.Doing.{Did, WereAllGood, commands_in, step_of, reply_to}
use Rattle.ram_session.specs.Talk.{Phase, Turned, TurnFollows}
use Rattle.ram_session_laws.specs.ReadBack.{WasFlushed}
use Rattle.ram_session_laws.proofs.Told.{all_good, told_no_error, asked_in}
use Rattle.ram_session_laws.proofs.Rows.{turned_command}

-- the one command that was done
pub record OneDid (command : Command) (dids : List Did) : Type 0 where
  pub did : Did
  pub dids_are : dids ≡ did ∷ []
  pub command_is : did.command ≡ command
  pub good : did.answer ≡ answers.Good

abbrev first_of : Command → List Command → Command
first_of other [] = other
first_of other (command ∷ rest) = command

pub one_did : (command : Command) (dids : List Did) → WereAllGood (command ∷ []) dids → OneDid command dids
one_did command [] all = absurd (omega (arith, ap length all.all_done))
one_did command (did ∷ []) all = record { did = did; dids_are = refl; command_is = ap (first_of command) (sym all.all_done); good = all.good.0 }
one_did command (did ∷ (other ∷ before)) all =
    absurd (omega (
      arith,
      ap length all.all_done,
      length-append (commands_in before ++ other.command ∷ []) (did.command ∷ []),
      length-append (commands_in before) (other.command ∷ []),
    ))

-- a synchronisation that was good
pub synchronises : (at : ℕ) (r after : Register) (dids : List Did) → WereAllGood (bare sync_cdb ∷ []) dids → Turns at r (map step_of dids) after → after ≡ synchronised r.now r
synchronises at r after dids all turns =
    let one = one_did (bare sync_cdb) dids all in
    let run = subst (λ (l : List Did). Turns at r (map step_of l) after) one.dids_are turns in
    let by_command = turned_command at run.0 after one.did run.2 in
    let by_good = subst (λ (a : Answer). AfterCommand at run.0 (decoded one.did.command.cdb one.did.command.payload) one.did.command.payload one.did.data_in a after) one.good by_command in
    let done : after ≡ synchronised run.0.now run.0 =
    subst (λ (c : Command). AfterCommand at run.0 (decoded c.cdb c.payload) c.payload one.did.data_in answers.Good after) one.command_is by_good in
    done ∙ ap (λ (q : Register). synchronised q.now q) run.1

-- a flush that was told without an error
pub flush_good : (size : ℕ) (was next : Phase) (turned : Turned) → TurnFollows (Serving size) was turned next → WasFlushed size turned → WereAllGood (bare sync_cdb ∷ []) turned.dids
flush_good size was next turned follows flushed =
    let request : Request = flushed.request in
    let is = asked_in was next turned.message request size turned.dids turned.bytes flushed.told.message_is follows in
    let told : reply_to request.header.cookie operations.Flush turned.dids ≡ reply_bytes 0 request.header.cookie [] =
    ap (λ (z : NbdOperation). reply_to request.header.cookie z turned.dids) (sym flushed.asks) ∙ sym is.told_is ∙ flushed.told.told_is in
    let error = told_no_error request.header.cookie operations.Flush turned.dids [] tt told in
    subst (λ (z : NbdOperation). WereAllGood (commands_of z request.payload) turned.dids) flushed.asks
    (all_good (commands_of (request_asks size request.header) request.payload) turned.dids is.done error)

pub message_flushed : (size at : ℕ) (was next : Phase) (turned : Turned) (r after : Register) → TurnFollows (Serving size) was turned next → WasFlushed size turned
    → Turns at r (map step_of turned.dids) after → after ≡ synchronised r.now r
message_flushed size at was next turned r after follows flushed turns =
    synchronises at r after turned.dids (flush_good size was next turned follows flushed) turns

-- what it has now is settled then
pub settled_then : (now : Option Value) (r : Register) (bytes : List ℕ) → r.now ≡ now → (synchronised now r).now ≡ Some (Bytes bytes) → HasSettled (synchronised now r) bytes
settled_then None r bytes was is = absurd (let clash : None ≡ Some (Bytes bytes) = sym was ∙ is in cc)
settled_then (Some value) r bytes was is =
    let same : value ≡ Bytes bytes = cc in
    record {
      shows = λ found some. (let one : value ≡ found = cc in sym one) ∙ same;
      falls = λ found there. elim (Contains-cases value [] found there) [ inl one ↦ sym one ∙ same | inr none ↦ absurd (Contains-none found none) ];
    }

pub flush_settles : (size at : ℕ) (was next : Phase) (turned : Turned) (r after : Register) (bytes : List ℕ) → TurnFollows (Serving size) was turned next → WasFlushed size turned
    → Turns at r (map step_of turned.dids) after → after.now ≡ Some (Bytes bytes) → HasSettled after bytes
flush_settles size at was next turned r after bytes follows flushed turns is =
    let same = message_flushed size at was next turned r after follows flushed turns in
    subst (λ (q : Register). HasSettled q bytes) (sym same)
    (settled_then r.now r bytes refl (ap (λ (q : Register). q.now) (sym same) ∙ is))

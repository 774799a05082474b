-- The same of a session that keeps its promise.
use Rattle.std.specs.Prelude.{◌≡◌, ℕ, ◌*◌, ◌<◌, ◌^◌, Option, List, ◌∷◌, ◌++◌, map}
use Rattle.std.proofs.Common.{subst}
use Rattle.model_nbd.specs.Handshake.{Export, Serving}
use Rattle.ram_text.specs.declared.script.Line.{Line}
use Rattle.ram_session.specs.Doing.{step_of}
use Rattle.ram_session.specs.Talk.{Turned, dids_in}
use Rattle.ram_session.specs.Opening.{export_after}
use Rattle.ram_session.specs.Kept.{LeaveByMessages}
use Rattle.ram_session.specs.Promise.{AreAnswered, KeepsSession}
use Rattle.ram_session_laws.specs.ReadBack.{WroteSector, ReadSector}
use Rattle.ram_session_laws.proofs.Chains.{Chain, two_runs, chain_of, earlier_chain, read_back}

pub kept_back : (faults : List Line) (sent report image : List ℕ) (written : Option (List ℕ)) (keeps : KeepsSession faults sent report image written) (size at : ℕ) (wrote read : Turned)
    (before between after : List Turned) (bytes found : List ℕ) → export_after keeps.opening ≡ Serving size → size < 2048 * 2 ^ 32 → keeps.turns ≡ after ++ (read ∷ (between ++ (wrote ∷ before)))
    → WroteSector size at wrote bytes → LeaveByMessages size at between → ReadSector size at read found → found ≡ bytes
kept_back faults sent report image written keeps size at wrote read before between after bytes found serves small turns_are writes leave reads =
    let register = keeps.registers at in
    let runs = two_runs at register.first register.last (map step_of (dids_in keeps.turns)) keeps.opening register.turns in
    let answered : AreAnswered (Serving size) keeps.turns keeps.phase = subst (λ (e : Export). AreAnswered e keeps.turns keeps.phase) serves keeps.answered in
    let chain = chain_of size at runs.mid register.last keeps.turns keeps.phase answered runs.second in
    let rest = earlier_chain size at runs.mid register.last after (read ∷ (between ++ (wrote ∷ before))) keeps.phase
    (subst (λ (l : List Turned). Chain size at runs.mid l register.last keeps.phase) turns_are chain) in
    read_back size at runs.mid rest.last wrote read before between rest.phase bytes found small rest.chain writes leave reads

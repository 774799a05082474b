-- A write of a sector leaves it as it was or with what was sent, whatever the write answers.
use Rattle.std.specs.Prelude.{◌≡◌, ℕ, ◌+◌, ◌*◌, ◌<◌, ◌≤◌, ◌⊎◌, Bool, is_some, Result, Ok, Err, List, length}
use Rattle.std.proofs.Common.{arith, refl, sym, inl, inr, subst}
use Rattle.std.proofs.lemmas.Bool.{cases_lt}
use Rattle.std.proofs.lemmas.List.Elements.{All-weaker}
use Rattle.model_sectors.specs.Discs.{sectors_of, replaced}
use Rattle.model_sectors.specs.Requests.{block_with}
use Rattle.model_sectors.proofs.Pieces.{sectors_replaced, other_sectors_replaced}
use Rattle.model_cache.specs.Values.{Values, Contents, Has, MayHave, HasBlock, candidates_of}
use Rattle.model_cache.specs.Shown.{CacheShown, CacheStandsFor}
use Rattle.model_cache.proofs.Falls.{only}
use Rattle.model_sense.specs.declared.sense.Sense.{Sense}
use Rattle.model_sense.specs.declared.answer.Answer.{Answer}
use Rattle.model_cdb.specs.declared.commands.Command.{Command}
use Rattle.model_cdb.specs.declared.commands.Command.TheVariants as commands
use Rattle.model_cdb.specs.Decoding.{decoded}
use Rattle.model_target.specs.declared.host.Host.{Host}
use Rattle.model_target.specs.Judging.{IsJudged}
use Rattle.model_target.specs.Steps.{IsWritten, IsDone, IsAnsweredBy, IsStep as ExecutesTo}
use Rattle.ram_text.specs.declared.script.Line.TheVariants as lines
use Rattle.ram_machine.specs.Replies.{Outcome}
use Rattle.ram_machine.specs.States.{State, Unopened, Disc}
use Rattle.ram_machine.specs.LineSteps.{Step}
use Rattle.ram_machine.specs.Acknowledged.{Acknowledged, IsAmong, HoldsOldOrNew}
use Rattle.ram_machine.specs.SectorBytes.{bytes_of_sector}
use Rattle.ram_machine.proofs.Decoded.{asks_for, same_asked, its_data}
use Rattle.ram_machine.proofs.Acknowledged.{SoInState}
use Rattle.ram_machine.proofs.WrittenDiscs.{Lies, SoInBlock, SoInValues, SoInContents, so_shown, written_left, written_off}

module _ (S : List ℕ → Type 0) (at lba n : ℕ) (payload : List ℕ) (among : IsAmong lba n at) (sent : S (bytes_of_sector lba payload at)) where
  -- what is replaced up to a block is new before it, and old behind it
  replaced_either : (v : Values) → length payload ≡ 2048 * n → SoInValues S at v → (r : Lies v.disc lba n) → (b : ℕ) → HasBlock v.disc (block_with at) → S (sectors_of (replaced v.disc lba payload b) at 1)
  replaced_either v whole kept r b has =
      let from : lba ≤ at = among.0 in
      let to : at < lba + n = among.1 in
      elim (cases_lt at (16 * b)) [
        | inl before ↦ subst S (sym (sectors_replaced v.disc r.blocks lba n payload b at 1 whole r.inside r.long from (omega (arith, before)) (omega (arith, to)))) sent
        | inr past ↦ subst S (sym (other_sectors_replaced v.disc r.blocks lba n payload b at 1 whole r.inside r.long (inr (inr past)))) (so_shown S at v has kept)
      ]

  module _ (old new : CacheShown) (t : Contents) (fua : Bool) where
    written_either : (s : Contents) (answer : Answer) (data_in : List ℕ) → CacheStandsFor old s → length payload ≡ 2048 * n → IsWritten old new (λ x. x ≡ s) (λ x. x ≡ t) lba n fua payload answer data_in → SoInContents S at s
        → SoInContents S at t
    written_either (Has v) answer data_in stood whole p so =
        let kept : SoInValues S at v = only (SoInBlock S at) (block_with at) v so in
        written_left S at old new v t lba n payload stood whole kept (replaced_either v whole kept) fua p.out p.cause (p.step (Has v) refl)
    written_either (MayHave all) answer data_in stood whole p so = written_off S at old new all t lba n payload fua p.out so (p.step (MayHave all) refl)

    module _ (s : Contents) (stood : CacheStandsFor old s) (so : SoInContents S at s) (host later : Host) (cdb : List ℕ) (asks : decoded cdb payload ≡ Ok (commands.Write lba n fua)) (answer : Answer) (data_in : List ℕ) where
      judged_either : (formatted : Bool) (judged : Result Command Sense) → IsJudged host formatted cdb payload judged → IsAnsweredBy old new (λ x. x ≡ s) (λ x. x ≡ t) host payload judged answer data_in
          → SoInContents S at t
      judged_either formatted (Err why) is p = subst (SoInContents S at) (p.untouched.stands s refl) so
      judged_either formatted (Ok other) is p =
          written_either s answer data_in stood (its_data cdb payload (commands.Write lba n fua) asks)
          (subst (λ (c : Command). IsDone old new (λ x. x ≡ s) (λ x. x ≡ t) host payload c answer data_in)
          (same_asked other (commands.Write lba n fua) (decoded cdb payload) (asks_for host formatted cdb payload other is) asks) p) so

      executed_either : ExecutesTo old new (λ x. x ≡ s) (λ x. x ≡ t) host later cdb payload answer data_in → SoInContents S at t
      executed_either (inl off) = subst (SoInContents S at) (off.1.is_answered.untouched.stands s refl) so
      executed_either (inr on) = judged_either (is_some old.drive.lists) on.1.judged on.1.is_judged on.1.is_answered

  -- the same of a line that asks for it
  pub line_writes : (s t : State) (cdb data_in : List ℕ) (outcome : Outcome) (fua : Bool) → Step s (lines.Command cdb) payload outcome data_in t → decoded cdb payload ≡ Ok (commands.Write lba n fua)
      → SoInState S at s → SoInState S at t
  line_writes (Unopened image) t cdb data_in outcome fua step asks so = absurd so
  line_writes (Disc s) (Unopened image) cdb data_in outcome fua step asks so = absurd step
  line_writes (Disc s) (Disc t) cdb data_in outcome fua step asks so =
      executed_either s.disc.shown t.disc.shown t.disc.contents fua s.disc.contents s.disc.stands so s.host t.host cdb asks step.rule.answer data_in step.rule.step

-- what is weaker is so too
pub so_weaker : (S T : List ℕ → Type 0) (at : ℕ) → ((found : List ℕ) → S found → T found) → (s : State) → SoInState S at s → SoInState T at s
so_weaker S T at weaker (Unopened image) so = so
so_weaker S T at weaker (Disc s) so =
    All-weaker (SoInValues S at) (SoInValues T at) (λ v kept has held value. weaker (bytes_of_sector (16 * block_with at) held at) (kept has held value)) (candidates_of s.disc.contents) so

-- a sector is old or new
either_acknowledged : (s : State) (at : ℕ) (old new : List ℕ) → SoInState (λ found. (found ≡ old) ⊎ (found ≡ new)) at s → HoldsOldOrNew s at old new
either_acknowledged (Unopened image) at old new so = so
either_acknowledged (Disc s) at old new so = so

was_acknowledged : (s : State) (at : ℕ) (bytes : List ℕ) → Acknowledged s at bytes → SoInState (λ found. found ≡ bytes) at s
was_acknowledged (Unopened image) at bytes so = so
was_acknowledged (Disc s) at bytes so = so

pub line_either : (at : ℕ) (bytes : List ℕ) (lba n : ℕ) (payload : List ℕ) → IsAmong lba n at → (s t : State) (cdb data_in : List ℕ) (outcome : Outcome) (fua : Bool)
    → Step s (lines.Command cdb) payload outcome data_in t → decoded cdb payload ≡ Ok (commands.Write lba n fua) → Acknowledged s at bytes → HoldsOldOrNew t at bytes (bytes_of_sector lba payload at)
line_either at bytes lba n payload among s t cdb data_in outcome fua step asks keeps =
    let sent = bytes_of_sector lba payload at in
    either_acknowledged t at bytes sent
    (line_writes (λ found. (found ≡ bytes) ⊎ (found ≡ sent)) at lba n payload among (inr refl) s t cdb data_in outcome fua step asks
    (so_weaker (λ found. found ≡ bytes) (λ found. (found ≡ bytes) ⊎ (found ≡ sent)) at (λ found is. inl is) s (was_acknowledged s at bytes keeps)))

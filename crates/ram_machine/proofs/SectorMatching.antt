-- A register that a drive matches in a sector, and what calls that do not write the sector leave of it.
use Rattle.std.specs.Prelude.{◌≡◌, ℕ, ◌*◌, None, Some, List, [], ◌∷◌}
use Rattle.std.specs.List.{Contains}
use Rattle.std.proofs.Common.{refl, sym, ◌∙◌}
use Rattle.std.proofs.lemmas.List.Elements.{All-weaker}
use Rattle.model_sectors.specs.Requests.{block_with}
use Rattle.model_cache.specs.Values.{Contents, candidates_of}
use Rattle.model_cache.specs.Shown.{CacheShown}
use Rattle.model_sense.specs.declared.answer.Answer.{Answer}
use Rattle.model_sense.specs.declared.answer.Answer.TheVariants as answers
use Rattle.ram_report.specs.ReportLines.{IsPrinted}
use Rattle.ram_machine.specs.SectorBytes.{bytes_of_sector}
use Rattle.ram_machine.proofs.WrittenDiscs.{SoInValues, SoInContents}
use Rattle.ram_machine.specs.Register.{Value, Register, settled, or_else, gone, left_by}
use Rattle.ram_machine.proofs.SectorValues.{bytes_under, now_under, falls_under}
use Rattle.ram_machine.proofs.SectorNow.{now_in, Stays}
use Rattle.ram_machine.proofs.CacheModes.{SameMode}

-- What a drive shows and stands for has what the register has now, and falls back to nothing else than the register.
pub record Matches (lost : List ℕ) (at : ℕ) (shown : CacheShown) (c : Contents) (r : Register) : Type 0 where
  pub now : now_under lost r.now ≡ now_in at c
  pub falls : SoInContents (Contains (falls_under lost r.falls)) at c
  pub caches : r.caches ≡ shown.caches

-- The rule leads to a register that it matches.
pub record Turned (lost : List ℕ) (at : ℕ) (shown : CacheShown) (c : Contents) (Rule : Register → Type 0) : Type 0 where
  pub after : Register
  pub rule : Rule after
  pub matches : Matches lost at shown c after

pub by_rule : (lost : List ℕ) (at : ℕ) (shown : CacheShown) (c : Contents) (Rule Other : Register → Type 0) → ((after : Register) → Rule after → Other after) → Turned lost at shown c Rule → Turned lost at shown c Other
by_rule lost at shown c Rule Other goes turned = record { after = turned.after; rule = goes turned.after turned.rule; matches = turned.matches }

-- what is weaker is so too
pub so_weaker : (S T : List ℕ → Type 0) (at : ℕ) → ((found : List ℕ) → S found → T found) → (c : Contents) → SoInContents S at c → SoInContents T at c
so_weaker S T at weaker c so =
    All-weaker (SoInValues S at) (SoInValues T at) (λ v kept has held value. weaker (bytes_of_sector (16 * block_with at) held at) (kept has held value)) (candidates_of c) so

module _ (lost : List ℕ) (at : ℕ) (old new : CacheShown) (s t : Contents) (r : Register) (was : Matches lost at old s r) (mode : SameMode old new) where
  -- it stays
  pub stays : now_in at t ≡ now_in at s → SoInContents (Contains (falls_under lost r.falls)) at t → Turned lost at new t (λ after. after ≡ r)
  stays same so = record { after = r; rule = refl; matches = record { now = was.now ∙ sym same; falls = so; caches = was.caches ∙ sym mode } }

  -- it is gone
  pub goes : now_in at t ≡ None → SoInContents (Contains (falls_under lost r.falls)) at t → Turned lost at new t (λ after. after ≡ gone r)
  goes none so = record { after = gone r; rule = refl; matches = record { now = sym none; falls = so; caches = was.caches ∙ sym mode } }

  -- it is gone, and may have this too
  pub goes_or_else : (value : Value) → now_in at t ≡ None → SoInContents (Contains (bytes_under lost value ∷ falls_under lost r.falls)) at t → Turned lost at new t (λ after. after ≡ gone (or_else r value))
  goes_or_else value none so = record { after = gone (or_else r value); rule = refl; matches = record { now = sym none; falls = so; caches = was.caches ∙ sym mode } }

  -- it has this
  pub settles : (value : Value) → now_in at t ≡ Some (bytes_under lost value) → SoInContents (Contains (bytes_under lost value ∷ [])) at t → Turned lost at new t (λ after. after ≡ settled r value)
  settles value is so = record { after = settled r value; rule = refl; matches = record { now = sym is; falls = so; caches = was.caches ∙ sym mode } }

  -- what leaves the sector
  pub leaves : (answer : Answer) → IsPrinted answer → Stays at answer s t → SoInContents (Contains (falls_under lost r.falls)) at t → Turned lost at new t (λ after. after ≡ left_by answer r)
  leaves answers.Good printed same so = stays same so
  leaves (answers.Check why) printed same so = stays same so
  leaves answers.Cut printed none so = goes none so
  leaves answers.Off printed same so = stays same so
  leaves answers.Fault printed same so = absurd printed

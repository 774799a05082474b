-- A format, and the register of a sector.
use Rattle.std.specs.Prelude.{◌≡◌, ℕ, ◌+◌, ◌-◌, ◌*◌, ◌≤◌, ◌==◌, ◌⊎◌, MatchBool, Option, None, Some, List, [], ◌∷◌, length, take, drop, replicate}
use Rattle.std.specs.List.{Contains}
use Rattle.std.proofs.Common.{arith, refl, sym, ap, ◌∙◌, inl, inr, subst}
use Rattle.std.proofs.lemmas.Bool.{cases_lt}
use Rattle.std.proofs.lemmas.List.{drop-replicate, take-replicate}
use Rattle.model_geometry.specs.Geometry.{Shape}
use Rattle.model_medium.specs.Cells.{Cell}
use Rattle.model_places.specs.Places.{Lists, count_of}
use Rattle.model_sectors.specs.Discs.{sectors_of, block_of, zeros}
use Rattle.model_sectors.specs.Requests.{block_with}
use Rattle.model_sectors.proofs.Fitting.{length-zeros}
use Rattle.model_formats.specs.Stopped.{zero_disc}
use Rattle.model_drive.specs.declared.FormatOut.{FormatOut}
use Rattle.model_drive.specs.declared.FormatOut.TheVariants as formats
use Rattle.model_drive.specs.declared.Kind.{Kind}
use Rattle.model_drive.specs.declared.Kind.TheVariants as kinds
use Rattle.model_drive.specs.Shown.{Shown, StandsBy, cells_in}
use Rattle.model_drive.specs.Rewriting.{RewriteStep}
use Rattle.model_cache.specs.Values.{Values, Contents, Has, MayHave, settled_values, no_values, lifted}
use Rattle.model_cache.specs.Shown.{CacheShown, CacheStandsFor}
use Rattle.model_cache.specs.Steps.{FullValues, FormatValues, FormatContents}
use Rattle.model_cache.proofs.Members.{Contains-first, Contains-later}
use Rattle.model_cache.proofs.Falls.{one, two, only, settled_within, none_within}
use Rattle.model_sense.specs.declared.answer.Answer.{Answer}
use Rattle.model_sense.specs.declared.answer.Answer.TheVariants as answers
use Rattle.model_target.specs.Steps.{format_answer}
use Rattle.ram_report.specs.ReportLines.{IsPrinted}
use Rattle.ram_machine.specs.SectorBytes.{bytes_of_sector}
use Rattle.ram_machine.proofs.WrittenDiscs.{SoInBlock, SoInValues, SoInContents, so_of_block}
use Rattle.ram_machine.specs.Register.{Bytes, Register, settled, or_else, gone, left_by, AfterFull}
use Rattle.ram_machine.proofs.SectorValues.{falls_under}
use Rattle.ram_machine.proofs.SectorNow.{now_of, now_in, now_there, now_gone, here}
use Rattle.ram_machine.proofs.CacheModes.{SameMode}
use Rattle.ram_machine.proofs.SectorMatching.{Matches, Turned, by_rule, stays, goes, goes_or_else}

-- a sector of zeros
zeros_part : (size n i : ℕ) → size * i + size ≤ n → take size (drop (size * i) (replicate {A = ℕ} n 0)) ≡ replicate size 0
zeros_part size n i inside = ap (take size) (drop-replicate (size * i) n 0) ∙ take-replicate size (n - size * i) 0 (omega (arith, inside))

zeros_sector : (at n : ℕ) → 2048 * (at + 1) ≤ n → sectors_of (zeros n) at 1 ≡ zeros 2048
unfolding sectors_of zeros
zeros_sector at n inside = zeros_part 2048 n at (omega (arith, inside))

-- without lists there is no sector
none_long : (shape : Shape) (cells : List Cell) (lists : Option Lists) (buffer : List (ℕ × List ℕ)) (disc : List ℕ) → lists ≡ None → StandsBy shape cells lists buffer disc → length disc ≡ 0
none_long shape cells None buffer disc is stands = ap length stands.0
none_long shape cells (Some lists) buffer disc is stands = absurd (let clash : Some lists ≡ None = is in cc)

pub none_now : (at : ℕ) (old : CacheShown) (v : Values) → CacheStandsFor old (Has v) → old.drive.lists ≡ None → now_of at v.disc ≡ None
none_now at old v stood is =
    let none = none_long old.drive.shape (cells_in old.drive) old.drive.lists old.drive.buffer stood.0 is stood.1.2 in
    let long = stood.2.taken.as_long in
    now_gone at v.disc (omega (arith, none, long))

-- What a full format leaves of a register, by its answer; where it leaves no disc, there is none.
abbrev pub FullUnder : (t : Contents) → Register → Answer → Register → Type 0
FullUnder t r (answers.Check why) after = MatchBool (why.asc == 0x31) ((after ≡ r) ⊎ ((after ≡ gone r) × (t ≡ Has no_values))) (after ≡ r)
FullUnder t r answer after = AfterFull r answer after

-- And a format, by the lists that were in use.
abbrev pub FormatUnder : Option Lists → (t : Contents) → Register → Kind → Answer → Register → Type 0
FormatUnder lists t r (kinds.Full drop_sdl) answer after = FullUnder t r answer after
FormatUnder None t r kinds.Rewrite answer after = FullUnder t r answer after
FormatUnder (Some lists) t r kinds.Rewrite answer after = after ≡ left_by answer r

module _ (lost : List ℕ) (at : ℕ) (old new : CacheShown) (t : Contents) (r : Register) (mode : SameMode old new) where
  abbrev zero : List ℕ
  zero = zeros 2048

  -- the disc of zeros has zeros, or no such sector
  zero_so : (shape : Shape) (S : List ℕ → Type 0) → S (zeros 2048) → SoInValues S at (settled_values (zero_disc shape))
  zero_so shape S so = settled_within (SoInBlock S at) (block_with at) (zero_disc shape) (λ has.
      so_of_block S at (zero_disc shape) (block_of (zero_disc shape) (block_with at)) refl
      (subst S (sym (zeros_sector at (32768 * count_of shape 0) (let long = length-zeros (32768 * count_of shape 0) in omega (arith, has, long)))) so))

  module _ (v : Values) (was : Matches lost at old (Has v) r) where
    kept : SoInValues (Contains (falls_under lost r.falls)) at v
    kept = only (SoInBlock (Contains (falls_under lost r.falls)) at) (block_with at) v was.falls

    still : Has v ≡ t → Turned lost at new t (λ after. after ≡ r)
    still is = stays lost at old new (Has v) t r was mode (here at (Has v) t is) (subst (SoInContents (Contains (falls_under lost r.falls)) at) is was.falls)

    emptied : Has no_values ≡ t → Turned lost at new t (λ after. (after ≡ gone r) × (t ≡ Has no_values))
    emptied is = by_rule lost at new t (λ after. after ≡ gone r) (λ after. (after ≡ gone r) × (t ≡ Has no_values)) (λ after gone_is. (gone_is, sym is)) (goes lost at old new (Has v) t r was mode (sym (ap (now_in at) is) ∙ now_gone at [] (omega arith))
        (subst (SoInContents (Contains (falls_under lost r.falls)) at) is (one (SoInBlock (Contains (falls_under lost r.falls)) at) (block_with at) no_values (none_within (SoInBlock (Contains (falls_under lost r.falls)) at) (block_with at)))))

    zeroed : (shape : Shape) → Has (settled_values (zero_disc shape)) ≡ t → Turned lost at new t (λ after. (after ≡ settled r (Bytes zero)) ⊎ (after ≡ gone (settled r (Bytes zero))))
    zeroed shape is =
        let so : SoInContents (Contains (zero ∷ [])) at t =
        subst (SoInContents (Contains (zero ∷ [])) at) is (one (SoInBlock (Contains (zero ∷ [])) at) (block_with at) (settled_values (zero_disc shape)) (zero_so shape (Contains (zero ∷ [])) (Contains-first zero []))) in
        elim (cases_lt (length (zero_disc shape)) (2048 * (at + 1))) [
          | inl past ↦ record {
            after = gone (settled r (Bytes zero));
            rule = inr refl;
            matches = record { now = sym (sym (ap (now_in at) is) ∙ now_gone at (zero_disc shape) past); falls = so; caches = was.caches ∙ sym mode };
          }
          | inr inside ↦ record {
            after = settled r (Bytes zero);
            rule = inl refl;
            matches = record {
              now = sym (sym (ap (now_in at) is) ∙ now_there at (zero_disc shape) inside ∙ ap Some (zeros_sector at (32768 * count_of shape 0) (let long = length-zeros (32768 * count_of shape 0) in omega (arith, inside, long))));
              falls = so;
              caches = was.caches ∙ sym mode;
            };
          }
        ]

    -- what a format that was cut may leave
    abbrev Either : List ℕ → Type 0
    Either = Contains (zero ∷ falls_under lost r.falls)

    kept_too : SoInValues Either at v
    kept_too has held value = Contains-later zero (falls_under lost r.falls) (bytes_of_sector (16 * block_with at) held at) (kept has held value)

    none_so : SoInValues Either at no_values
    none_so = none_within (SoInBlock Either at) (block_with at)

    off_two : (w x : Values) → SoInValues Either at w → SoInValues Either at x → MayHave (w ∷ x ∷ []) ≡ t → Turned lost at new t (λ after. after ≡ gone (or_else r (Bytes zero)))
    off_two w x p q is = goes_or_else lost at old new (Has v) t r was mode (Bytes zero) (sym (ap (now_in at) is)) (subst (SoInContents Either at) is (two (SoInBlock Either at) (block_with at) w x p q))

    off_none : MayHave (no_values ∷ []) ≡ t → Turned lost at new t (λ after. after ≡ gone (or_else r (Bytes zero)))
    off_none is = goes_or_else lost at old new (Has v) t r was mode (Bytes zero) (sym (ap (now_in at) is)) (subst (SoInContents Either at) is (one (SoInBlock Either at) (block_with at) no_values none_so))

    full_turn : (before later : Shown) (out : FormatOut) → IsPrinted (format_answer out) → FullValues (λ x. x ≡ t) v before later out → Turned lost at new t (λ after. FullUnder t r (format_answer out) after)
    full_turn before later formats.Good printed step = zeroed before.shape step
    full_turn before later (formats.TooMany found) printed step = by_rule lost at new t (λ after. (after ≡ gone r) × (t ≡ Has no_values)) (λ after. (after ≡ r) ⊎ ((after ≡ gone r) × (t ≡ Has no_values))) (λ after is. inr is) (emptied step)
    full_turn before later (formats.NoUpdate counter) printed (inl step) = by_rule lost at new t (λ after. after ≡ r) (λ after. (after ≡ r) ⊎ ((after ≡ gone r) × (t ≡ Has no_values))) (λ after is. inl is) (still step.1)
    full_turn before later (formats.NoUpdate counter) printed (inr step) = by_rule lost at new t (λ after. (after ≡ gone r) × (t ≡ Has no_values)) (λ after. (after ≡ r) ⊎ ((after ≡ gone r) × (t ≡ Has no_values))) (λ after is. inr is) (emptied step.1)
    full_turn before later formats.Cut printed (inl step) = off_two v no_values kept_too none_so step
    full_turn before later formats.Cut printed (inr (inl step)) = off_none step
    full_turn before later formats.Cut printed (inr (inr step)) = off_two no_values (settled_values (zero_disc before.shape)) none_so (zero_so before.shape Either (Contains-first zero (falls_under lost r.falls))) step
    full_turn before later formats.Off printed step = absurd step
    full_turn before later formats.Fault printed step = absurd printed

    rewrite_turn : (out : FormatOut) → IsPrinted (format_answer out) → RewriteStep (λ u. lifted v.older u ≡ t) v.disc out → Turned lost at new t (λ after. after ≡ left_by (format_answer out) r)
    rewrite_turn formats.Good printed step = still step
    rewrite_turn (formats.NoUpdate counter) printed step = still step
    rewrite_turn formats.Cut printed step =
        goes lost at old new (Has v) t r was mode (sym (ap (now_in at) step)) (subst (SoInContents (Contains (falls_under lost r.falls)) at) step (one (SoInBlock (Contains (falls_under lost r.falls)) at) (block_with at) v kept))
    rewrite_turn formats.Fault printed step = absurd printed
    rewrite_turn (formats.TooMany found) printed step = absurd step
    rewrite_turn formats.Off printed step = absurd step

    by_lists : (before later : Shown) (lists : Option Lists) (kind : Kind) (out : FormatOut) → IsPrinted (format_answer out) → FormatValues (λ x. x ≡ t) v before later lists kind out
        → Turned lost at new t (λ after. FormatUnder lists t r kind (format_answer out) after)
    by_lists before later lists (kinds.Full drop_sdl) out printed step = full_turn before later out printed step
    by_lists before later None kinds.Rewrite out printed step = full_turn before later out printed step
    by_lists before later (Some lists) kinds.Rewrite out printed step = rewrite_turn out printed step

  off_stays : (all : List Values) → Matches lost at old (MayHave all) r → MayHave all ≡ t → Turned lost at new t (λ after. after ≡ r)
  off_stays all was is = stays lost at old new (MayHave all) t r was mode (here at (MayHave all) t is) (subst (SoInContents (Contains (falls_under lost r.falls)) at) is was.falls)

  off_turn : (lists : Option Lists) (kind : Kind) (all : List Values) → Matches lost at old (MayHave all) r → MayHave all ≡ t → Turned lost at new t (λ after. FormatUnder lists t r kind answers.Off after)
  off_turn lists (kinds.Full drop_sdl) all was is = off_stays all was is
  off_turn None kinds.Rewrite all was is = off_stays all was is
  off_turn (Some lists) kinds.Rewrite all was is = off_stays all was is

  pub format_turn : (s : Contents) (kind : Kind) (out : FormatOut) → CacheStandsFor old s → Matches lost at old s r → IsPrinted (format_answer out) → FormatContents old.drive new.drive (λ x. x ≡ t) s kind out
      → Turned lost at new t (λ after. FormatUnder old.drive.lists t r kind (format_answer out) after)
  format_turn (Has v) kind out stood was printed step = by_lists v was old.drive new.drive old.drive.lists kind out printed step
  format_turn (MayHave all) kind formats.Off stood was printed step = off_turn old.drive.lists kind all was step
  format_turn (MayHave all) kind formats.Good stood was printed step = absurd step
  format_turn (MayHave all) kind (formats.TooMany found) stood was printed step = absurd step
  format_turn (MayHave all) kind (formats.NoUpdate counter) stood was printed step = absurd step
  format_turn (MayHave all) kind formats.Cut stood was printed step = absurd step
  format_turn (MayHave all) kind formats.Fault stood was printed step = absurd step

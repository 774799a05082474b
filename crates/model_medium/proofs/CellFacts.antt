-- What a use makes of the cells: the block's cell is changed, others are as before, and a dead cell stays dead.
use Rattle.std.specs.Prelude.{◌≡◌, ◌≢◌, ℕ, zero, suc, ◌⊎◌, List, [], ◌∷◌, set}
use Rattle.std.proofs.Common.{refl, sym, inl, inr, subst}
use Rattle.std.proofs.lemmas.List.{get_or-set_other}
use Rattle.model_medium.specs.Cells.{Cell, Blank, Good, Torn, Dead, cell_at, IsGood, IsGoodOrDead, MayLeave, unless_dead, written, cut_short}
use Rattle.model_medium.specs.declared.Fate.{Fate}
use Rattle.model_medium.specs.declared.Fate.TheVariants as fates

-- a changed cell, where the change leaves a dead one as it is
pub cell_at-set_same : (cells : List Cell) (block : ℕ) (change : Cell → Cell) → change Dead ≡ Dead → cell_at (set cells block (change (cell_at cells block))) block ≡ change (cell_at cells block)
cell_at-set_same [] block change dead = sym dead
cell_at-set_same (c ∷ cs) zero change dead = refl
cell_at-set_same (c ∷ cs) (suc n) change dead = cell_at-set_same cs n change dead

pub cell_at-set_dead : (cells : List Cell) (block : ℕ) → cell_at (set cells block Dead) block ≡ Dead
cell_at-set_dead cells block = cell_at-set_same cells block (λ _. Dead) refl

pub cell_at-set_other : (cells : List Cell) (block other : ℕ) (cell : Cell) → other ≢ block → cell_at (set cells block cell) other ≡ cell_at cells other
cell_at-set_other cells block other cell ne = get_or-set_other cells block other cell Dead ne

pub good_or_dead-good : (cell : Cell) → IsGood cell → IsGoodOrDead cell
good_or_dead-good Blank h = h
good_or_dead-good (Good bytes) h = tt
good_or_dead-good Torn h = h
good_or_dead-good Dead h = tt

-- what stays good or dead over two steps
pub good_or_dead-then : (mid new : Cell) → (IsGood mid → IsGoodOrDead new) → (mid ≡ Dead → new ≡ Dead) → IsGoodOrDead mid → IsGoodOrDead new
good_or_dead-then Blank new good dead h = absurd h
good_or_dead-then (Good bytes) new good dead h = good tt
good_or_dead-then Torn new good dead h = absurd h
good_or_dead-then Dead new good dead h = subst IsGoodOrDead (sym (dead refl)) tt

pub dead_or_torn-then : (mid new : Cell) → (IsGood mid → IsGoodOrDead new ⊎ (new ≡ Torn)) → (mid ≡ Dead → new ≡ Dead) → IsGoodOrDead mid → IsGoodOrDead new ⊎ (new ≡ Torn)
dead_or_torn-then Blank new good dead h = absurd h
dead_or_torn-then (Good bytes) new good dead h = good tt
dead_or_torn-then Torn new good dead h = absurd h
dead_or_torn-then Dead new good dead h = inl (subst IsGoodOrDead (sym (dead refl)) tt)

-- What a use may make of a cell, where no cut came and where one did.
pub record IsTame (change : Cell → Cell) : Type 0 where
  pub dead_stays : change Dead ≡ Dead
  pub none_dies : (cell : Cell) → change cell ≡ Dead → cell ≡ Dead

pub record IsKind (change : Cell → Cell) : Type 0 where
  pub tame : IsTame change
  pub stays_good : (cell : Cell) → IsGood cell → IsGoodOrDead (change cell)

pub record IsHarsh (change : Cell → Cell) : Type 0 where
  pub tame : IsTame change
  pub may_tear : (cell : Cell) → IsGood cell → IsGoodOrDead (change cell) ⊎ (change cell ≡ Torn)

pub unless_dead-dies : (old new : Cell) → (new ≡ Dead → ⊥) → unless_dead old new ≡ Dead → old ≡ Dead
unless_dead-dies Blank new alive e = absurd (alive e)
unless_dead-dies (Good bytes) new alive e = absurd (alive e)
unless_dead-dies Torn new alive e = absurd (alive e)
unless_dead-dies Dead new alive e = refl

pub same_is_kind : IsKind (λ cell. cell)
same_is_kind = record { tame = record { dead_stays = refl; none_dies = λ cell e. e }; stays_good = good_or_dead-good }

pub written_is_kind : (bytes : List ℕ) → IsKind (written bytes)
written_is_kind bytes = record {
  tame = record { dead_stays = refl; none_dies = λ cell e. unless_dead-dies cell (Good bytes) (λ clash. (cc)) e };
  stays_good = good;
}
  where
    good : (cell : Cell) → IsGood cell → IsGoodOrDead (written bytes cell)
    good Blank h = absurd h
    good (Good old) h = tt
    good Torn h = absurd h
    good Dead h = tt

pub cut_short_is_harsh : (fate : Fate) (bytes : List ℕ) → IsHarsh (cut_short fate bytes)
cut_short_is_harsh fates.Old bytes = record { tame = same_is_kind.tame; may_tear = λ cell h. inl (good_or_dead-good cell h) }
cut_short_is_harsh fates.New bytes = record { tame = (written_is_kind bytes).tame; may_tear = λ cell h. inl ((written_is_kind bytes).stays_good cell h) }
cut_short_is_harsh fates.Torn bytes = record {
  tame = record { dead_stays = refl; none_dies = λ cell e. unless_dead-dies cell Torn (λ clash. (cc)) e };
  may_tear = tears;
}
  where
    tears : (cell : Cell) → IsGood cell → IsGoodOrDead (unless_dead cell Torn) ⊎ (unless_dead cell Torn ≡ Torn)
    tears Blank h = absurd h
    tears (Good old) h = inr refl
    tears Torn h = absurd h
    tears Dead h = inl tt

-- what a cut write leaves is what a stopped one may leave
pub cut_short-may_leave : (fate : Fate) (bytes : List ℕ) (old : Cell) → MayLeave old bytes (cut_short fate bytes old)
cut_short-may_leave fates.Old bytes old = inl refl
cut_short-may_leave fates.New bytes Blank = inr (inl refl)
cut_short-may_leave fates.New bytes (Good held) = inr (inl refl)
cut_short-may_leave fates.New bytes Torn = inr (inl refl)
cut_short-may_leave fates.New bytes Dead = inl refl
cut_short-may_leave fates.Torn bytes Blank = inr (inr (inl refl))
cut_short-may_leave fates.Torn bytes (Good held) = inr (inr (inl refl))
cut_short-may_leave fates.Torn bytes Torn = inr (inr (inl refl))
cut_short-may_leave fates.Torn bytes Dead = inl refl

pub written-leaves : (bytes : List ℕ) (old : Cell) → (written bytes old ≡ Good bytes) ⊎ (written bytes old ≡ Dead)
written-leaves bytes Blank = inl refl
written-leaves bytes (Good held) = inl refl
written-leaves bytes Torn = inl refl
written-leaves bytes Dead = inr refl

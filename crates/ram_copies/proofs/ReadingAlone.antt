-- Reads one after another.
use Rattle.std.specs.Prelude.{ℕ, List, [], ◌∷◌}
use Rattle.std.proofs.Common.{refl, sym, subst}
use Rattle.model_medium.specs.Exact.{Event, Read}
use Rattle.model_medium.specs.Happened.{Happens}
use Rattle.model_medium.specs.declared.ReadEnd.{ReadEnd}
use Rattle.ram_copies.specs.ReadsAlone.{AreReads, ReadsAlone}

module _ {M : Type 0} (takes : M → M → Event → Type 0) where
  -- no read at all, and one
  pub read_none : (m : M) → ReadsAlone takes m m
  read_none m = record { events = []; reads = tt; happens = refl }

  pub read_one : (a b : M) (block : ℕ) (into into' : List ℕ) (how : ReadEnd) → takes a b (Read block into into' how) → ReadsAlone takes a b
  read_one a b block into into' how did = record { events = Read block into into' how ∷ []; reads = (tt, tt); happens = (a, refl, did) }

  read_after : (a b c : M) → ReadsAlone takes a b → (events : List Event) → AreReads events → Happens takes b events c → ReadsAlone takes a c
  read_after a b c one [] reads same = subst (ReadsAlone takes a) (sym same) one
  read_after a b c one (event ∷ events) reads did =
      let before = read_after a b did.0 one events reads.1 did.1 in
      record { events = event ∷ before.events; reads = (reads.0, before.reads); happens = (did.0, before.happens, did.2) }

  pub read_then : (a b c : M) → ReadsAlone takes a b → ReadsAlone takes b c → ReadsAlone takes a c
  read_then a b c one two = read_after a b c one two.events two.reads two.happens

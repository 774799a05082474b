-- That pending blocks are apart has one proof at most, so a ghost field can keep it.
use Rattle.std.specs.Prelude.{ℕ, List, [], ◌∷◌}
use Rattle.std.proofs.Props.{props}
use Rattle.model_cache.specs.Shown.{AreApart}

pub apart-prop : (pending : List (ℕ × List ℕ)) → IsProp (AreApart pending)
apart-prop [] = Prim.hlevel props
apart-prop (held ∷ pending) = Prim.hlevel (props, apart-prop pending)

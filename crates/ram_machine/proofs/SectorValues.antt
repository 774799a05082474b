-- What a lost sector has is not known: proofs say of it that it has some bytes, whichever these are.
use Rattle.std.specs.Prelude.{◌≡◌, ℕ, Option, None, Some, List, [], ◌∷◌}
use Rattle.std.specs.List.{Contains}
use Rattle.std.proofs.Common.{inl, inr, subst}
use Rattle.model_cache.proofs.Members.{Contains-none, Contains-first, Contains-later, Contains-cases}
use Rattle.ram_machine.specs.Register.{Value, Bytes, Lost}

module _ (lost : List ℕ) where
  -- the bytes of a value
  abbrev pub bytes_under : Value → List ℕ
  bytes_under (Bytes bytes) = bytes
  bytes_under Lost = lost

  -- and of what a register has now
  abbrev pub now_under : Option Value → Option (List ℕ)
  now_under None = None
  now_under (Some value) = Some (bytes_under value)

  -- and of what it may have
  abbrev pub falls_under : List Value → List (List ℕ)
  falls_under [] = []
  falls_under (value ∷ values) = bytes_under value ∷ falls_under values

  -- a value that has these bytes
  pub record HasBytes (values : List Value) (bytes : List ℕ) : Type 0 where
    pub value : Value
    pub among : Contains values value
    pub has : bytes_under value ≡ bytes

  pub has_bytes : (values : List Value) (bytes : List ℕ) → Contains (falls_under values) bytes → HasBytes values bytes
  has_bytes [] bytes there = absurd (Contains-none bytes there)
  has_bytes (value ∷ values) bytes there = elim (Contains-cases (bytes_under value) (falls_under values) bytes there) [
    | inl is ↦ record { value = value; among = Contains-first value values; has = is }
    | inr later ↦ let found = has_bytes values bytes later in record { value = found.value; among = Contains-later value values found.value found.among; has = found.has }
  ]

  pub falls_to : (values : List Value) (value : Value) → Contains values value → Contains (falls_under values) (bytes_under value)
  falls_to [] value there = absurd (Contains-none value there)
  falls_to (first ∷ values) value there = elim (Contains-cases first values value there) [
    | inl is ↦ subst (λ (v : Value). Contains (falls_under (first ∷ values)) (bytes_under v)) is (Contains-first (bytes_under first) (falls_under values))
    | inr later ↦ Contains-later (bytes_under first) (falls_under values) (bytes_under value) (falls_to values value later)
  ]

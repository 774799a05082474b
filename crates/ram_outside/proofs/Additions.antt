-- What was added to a list over several calls.
use Rattle.std.proofs.Common.{◌≡◌, Option, None, Some, List, [], ◌∷◌, ◌++◌, refl, sym, ap, ◌∙◌, append_assoc}
use Rattle.std.proofs.lemmas.List.Elements.{All-append, All-cons, All-nil}
use Rattle.ram_outside.specs.Added.{AddsNow, AddsOnly}

module _ {A : Type 0} (stood : A → Type 0) where
  -- nothing was added
  pub added_none : (a : Option (List A)) → AddsOnly stood a a
  added_none None = tt
  added_none (Some all) = ([], refl, All-nil stood)

  -- the same of two that are equal
  pub added_none_of : (a b : Option (List A)) → b ≡ a → AddsOnly stood a b
  added_none_of a b same = rw same (added_none a)

  -- at first, and then
  pub added_then : (a b c : Option (List A)) → AddsOnly stood a b → AddsOnly stood b c → AddsOnly stood a c
  added_then a b None first second = tt
  added_then a None (Some z) first second = elim second [ ]
  added_then None (Some y) (Some z) first second = elim first [ ]
  added_then (Some x) (Some y) (Some z) first second =
      (second.0 ++ first.0, second.1 ∙ ap (λ (all : List A). second.0 ++ all) first.1 ∙ sym (append_assoc second.0 first.0 x), All-append stood second.0 first.0 second.2 first.2)

  -- once, where it is so
  pub added_once : (now : A) (a b : Option (List A)) → AddsNow now a b → stood now → AddsOnly stood a b
  added_once now a None asks here = tt
  added_once now None (Some y) asks here = elim asks [ ]
  added_once now (Some x) (Some y) asks here = (now ∷ [], asks, All-cons stood now [] here (All-nil stood))

-- where they are so, they are like that
pub added_mapped : {A : Type 0} (stood other : A → Type 0) → ((now : A) → stood now → other now) → (a b : Option (List A)) → AddsOnly stood a b → AddsOnly other a b
added_mapped stood other so a None asks = tt
added_mapped stood other so None (Some y) asks = elim asks [ ]
added_mapped stood other so (Some x) (Some y) asks = (asks.0, asks.1, λ k d lt. so _ (asks.2 k d lt))

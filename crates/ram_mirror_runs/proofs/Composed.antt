-- Histories one after another, over the images that each leaves to the next.
use Rattle.std.specs.Prelude.{◌≡◌, ℕ, zero, suc, Bool, Option, Some, List}
use Rattle.std.proofs.Common.{sym, subst}
use Rattle.ram_pair.specs.PairStates.{TwoImages, PairState, images_of, IsFirstPair}
use Rattle.ram_mirror_runs.specs.Histories.{in_order, Begun, History, IsHistoryOf}

-- one behind the other
record Longer (first last : PairState) : Type 0 where
  pub count : ℕ
  pub history : History first last count

then_more : (first mid last : PairState) (k n : ℕ) → History first mid k → History mid last n → Longer first last
then_more first mid last k zero before same = record { count = k; history = subst (λ (s : PairState). History first s k) (sym same) before }
then_more first mid last k (suc n) before (late, more, next) =
    let longer = then_more first mid late k n before more in
    record { count = suc longer.count; history = (late, longer.history, next) }

same_images : (a b a' b' : List ℕ) → ◌≡◌ {A = Option (List ℕ)} (Some a) (Some a') → ◌≡◌ {A = Option (List ℕ)} (Some b) (Some b') → ◌≡◌ {A = TwoImages} (record { a = a; b = b }) (record { a = a'; b = b' })
same_images a b a' b' one two = cc

pub composed : (images : TwoImages) (a b : List ℕ) → IsHistoryOf images (Some a) (Some b) → (turned : Bool) (c d : Option (List ℕ)) → IsHistoryOf (in_order turned (record { a = a; b = b })) c d → IsHistoryOf images c d
composed images a b before turned c d after =
    let left = same_images a b (images_of before.last).a (images_of before.last).b before.left.a_is before.left.b_is in
    let begins = subst (λ (held : TwoImages). IsFirstPair (in_order turned held) after.start) left after.begins in
    let longer = then_more before.start after.start after.last (suc before.steps) after.steps (before.last, before.history, Begun (record { turned = turned; begins = begins })) after.history in
    record {
      start = before.start;
      begins = before.begins;
      last = after.last;
      steps = longer.count;
      history = longer.history;
      left = after.left;
    }

-- What had come of a message of any phase, whenever more of it was asked for.
use Rattle.std.specs.Prelude.{◌≡◌, ℕ, ◌+◌, ◌<◌, ◌≤◌, Option, List, ◌++◌, length}
use Rattle.std.proofs.Common.{arith, ◌∙◌, length-append}
use Rattle.ram_outside.specs.Conversation.{Asked, AsksOnly}
use Rattle.ram_outside.proofs.Additions.{added_then, added_mapped}
use Rattle.ram_receive.specs.Receiving.{Went, IsShortAsk}
use Rattle.ram_session.specs.Talk.{Phase, AwaitsMessage, BeginsNoMessage}
use Rattle.ram_serve.specs.Taking.{IsAskWithin}
use Rattle.ram_serve.proofs.Came.{went_on}

-- a part of so many bytes, after others
pub short_further : (first mid written shown : Option (List ℕ)) (bytes : List ℕ) (part count : ℕ) (a b c : Option (List Asked))
    → length bytes + part ≤ count → Went first mid bytes → shown ≡ written → AsksOnly (IsShortAsk first written count) a b
    → AsksOnly (IsShortAsk mid shown part) b c → AsksOnly (IsShortAsk first written count) a c
short_further first mid written shown bytes part count a b c fits went same before asks =
    added_then (IsShortAsk first written count) a b c before
    (added_mapped (IsShortAsk mid shown part) (IsShortAsk first written count) (λ ask short. record {
      came = bytes ++ short.came;
      few = omega (arith, fits, short.few, length-append bytes short.came);
      went = went_on first mid ask.left bytes short.came went short.went;
      written_is = short.written_is ∙ same;
    }) b c asks)

module _ (phase : Phase) (awaits : AwaitsMessage phase) where
  -- its first bytes, of which fewer are no message
  pub within_first : (left written : Option (List ℕ)) (count : ℕ) (a b : Option (List Asked))
      → ((bytes : List ℕ) → length bytes < count → BeginsNoMessage phase bytes)
      → AsksOnly (IsShortAsk left written count) a b → AsksOnly (IsAskWithin left written phase) a b
  within_first left written count a b none asks =
      added_mapped (IsShortAsk left written count) (IsAskWithin left written phase) (λ ask short. record {
        awaits = awaits;
        came = short.came;
        none = none short.came short.few;
        went = short.went;
        written_is = short.written_is;
      }) a b asks

  -- the others, of which fewer make it no message
  pub within_others : (left mid written shown : Option (List ℕ)) (begun : List ℕ) (count : ℕ) (a b c : Option (List Asked))
      → ((more : List ℕ) → length more < count → BeginsNoMessage phase (begun ++ more)) → Went left mid begun → shown ≡ written
      → AsksOnly (IsAskWithin left written phase) a b → AsksOnly (IsShortAsk mid shown count) b c
      → AsksOnly (IsAskWithin left written phase) a c
  within_others left mid written shown begun count a b c none went same before asks =
      added_then (IsAskWithin left written phase) a b c before
      (added_mapped (IsShortAsk mid shown count) (IsAskWithin left written phase) (λ ask short. record {
        awaits = awaits;
        came = begun ++ short.came;
        none = none short.came short.few;
        went = went_on left mid ask.left begun short.came went short.went;
        written_is = short.written_is ∙ same;
      }) b c asks)

-- What came so far, after one more piece.
use Rattle.std.proofs.Common.{◌≡◌, ℕ, ◌+◌, ◌-◌, ◌<◌, ◌≤◌, Option, None, Some, is_some, List, ◌++◌, length, take, drop, sym, ap, ◌∙◌, arith, append_assoc, take-add, length-append, length-take-le, length-drop}
use Rattle.std.proofs.lemmas.Slice.{take-put_mid_below}
use Rattle.std.proofs.lemmas.List.{take-append-le}
use Rattle.std.proofs.Math.Seq.{drop-append_seam}
use Rattle.std.specs.Io.KnownBytes.{Consumes}
use Rattle.ram_outside.specs.Source.{GivesNext}
use Rattle.ram_outside.specs.Conversation.{Asked, asked_with, AsksNow, AsksOnly}
use Rattle.ram_outside.proofs.Additions.{added_then, added_once}
use Rattle.ram_receive.specs.Receiving.{Went, IsShortAsk}
use borrow.Rule.Slice.PartMut.{put_mid, post_of}

-- bytes went, and then others
went_on : (first mid last : Option (List ℕ)) (xs ys : List ℕ) → Consumes first mid xs → Consumes mid last ys
    → is_some mid ≡ is_some first → Consumes first last (xs ++ ys)
went_on None mid last xs ys one two known = tt
went_on (Some zs) None last xs ys one two known = elim one [ ]
went_on (Some zs) (Some ws) None xs ys one two known = elim two [ ]
went_on (Some zs) (Some ws) (Some vs) xs ys one two known =
    one ∙ ap (λ (l : List ℕ). xs ++ l) two ∙ sym (append_assoc xs ys vs)

-- the front of a slice into whose back a piece was put
front_of : (at k n : ℕ) (into piece : List ℕ) → at ≤ length into → n ≤ length piece
    → take (at + n) (put_mid at k into piece) ≡ take at into ++ take n piece
front_of at k n into piece inside within =
    let seam : drop at (put_mid at k into piece) ≡ piece ++ post_of at k into =
    ap (λ (m : ℕ). drop m (put_mid at k into piece)) (sym (length-take-le at into inside))
    ∙ drop-append_seam (take at into) (piece ++ post_of at k into) in
    take-add at n (put_mid at k into piece)
    ∙ ap (λ (l : List ℕ). l ++ take n (drop at (put_mid at k into piece))) (take-put_mid_below at k into piece at (omega arith) inside)
    ∙ ap (λ (l : List ℕ). take at into ++ take n l) seam
    ∙ ap (λ (l : List ℕ). take at into ++ l) (take-append-le n piece (post_of at k into) within)

pub came : (first before after : Option (List ℕ)) (into piece : List ℕ) (at k n faults faults' : ℕ) → at ≤ length into
    → Went first before (take at into) → GivesNext before after faults faults' piece n
    → Went first after (take (at + n) (put_mid at k into piece))
came first before after into piece at k n faults faults' inside went gives = record {
  next = rw (front_of at k n into piece inside gives.within)
      (went_on first before after (take at into) (take n piece) went.next gives.next went.known);
  known = gives.known ∙ went.known;
}

pub longer : (into piece : List ℕ) (at : ℕ) → at ≤ length into → length piece ≡ length into - at
    → length (put_mid at (length into - at) into piece) ≡ length into
longer into piece at inside long =
    omega (
      arith,
      long,
      length-append (take at into) (piece ++ post_of at (length into - at) into),
      length-append piece (post_of at (length into - at) into),
      length-take-le at into inside,
      length-drop (length into - at) (drop at into),
      length-drop at into,
    )

-- more was asked for once more, before all had come
pub more_asked : (first before written written' : Option (List ℕ)) (into : List ℕ) (at count : ℕ) (a b c : Option (List Asked))
    → at < length into → length into ≡ count → Went first before (take at into) → written' ≡ written
    → AsksOnly (IsShortAsk first written count) a b → AsksNow (asked_with before written') b c → AsksOnly (IsShortAsk first written count) a c
more_asked first before written written' into at count a b c inside long went same earlier asks =
    let now : IsShortAsk first written count (asked_with before written') =
    record { came = take at into; few = omega (arith, inside, long, length-take-le at into (omega (arith, inside))); went = went; written_is = same } in
    added_then (IsShortAsk first written count) a b c earlier
    (added_once (IsShortAsk first written count) (asked_with before written') b c asks now)

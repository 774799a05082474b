-- What is buffered after one more piece came.
use Rattle.std.proofs.Common.{◌≡◌, ℕ, ◌+◌, ◌-◌, ◌≤◌, Option, None, Some, is_some, List, ◌++◌, slice_range, length, take, drop, sym, ap, subst, refl, ◌∙◌, take-add, append_assoc, length-take, length-append, arith}
use Rattle.std.proofs.lemmas.List.{take-take, drop-drop, length-take-le}
use Rattle.std.proofs.lemmas.Slice.{between_is}
use Rattle.std.specs.Io.KnownBytes.{prepend_known, Consumes}
use Rattle.ram_outside.specs.Source.{GivesNext}
use Rattle.ram_text.specs.Lines.{Reading, HasNoFeed}
use Rattle.ram_text.specs.Steps.{Refilled}

-- what is buffered is kept where it was moved to
pub kept_through : (old mid new : List ℕ) (start end at : ℕ) → slice_range mid at (at + (end - start)) ≡ slice_range old start end → take (at + (end - start)) new ≡ take (at + (end - start)) mid → slice_range new at (at + (end - start)) ≡ slice_range old start end
kept_through old mid new start end at moved same =
    between_is new at (at + (end - start)) ∙ ap (drop at) same ∙ sym (between_is mid at (at + (end - start))) ∙ moved

-- what came stands behind it
grown : (new : List ℕ) (at held n piece : ℕ) → at + held ≤ length new → n ≤ piece → slice_range new at (at + held + n) ≡ slice_range new at (at + held) ++ take n (slice_range new (at + held) (at + held + piece))
grown new at held n piece inside le =
    let back : List ℕ = drop at new in
    let all : take (at + held + n - at) back ≡ take (held + n) back = ap (λ k. take k back) (let e : at + held + n - at ≡ held + n = omega arith in e) in
    let prefix : take (at + held - at) back ≡ take held back = ap (λ k. take k back) (let e : at + held - at ≡ held = omega arith in e) in
    let piece_is : take n (take (at + held + piece - (at + held)) (drop (at + held) new)) ≡ take n (drop held back) =
    take-take n (at + held + piece - (at + held)) (drop (at + held) new) (omega arith) ∙ ap (take n) (sym (drop-drop held at new)) in
    all ∙ take-add held n back ∙ sym (ap (λ xs. xs ++ take n (take (at + held + piece - (at + held)) (drop (at + held) new))) prefix ∙ ap (λ xs. take held back ++ xs) piece_is)

-- what is left stays the same where the next of it goes to the end of what is buffered
left_kept : (held came : List ℕ) (rest rest' : Option (List ℕ)) → Consumes rest rest' came → is_some rest' ≡ is_some rest → prepend_known (held ++ came) rest' ≡ prepend_known held rest
left_kept held came None None went known = refl
left_kept held came None (Some ys) went known = cc
left_kept held came (Some xs) None went known = elim went [ ]
left_kept held came (Some xs) (Some ys) went known = ap Some (append_assoc held came ys ∙ ap (λ zs. held ++ zs) (sym went))

-- one more piece came
pub refilled : (old mid new : List ℕ) (start end at n piece : ℕ) (before after : Reading) (rest rest' : Option (List ℕ)) (faults faults' : ℕ)
    → slice_range mid at (at + (end - start)) ≡ slice_range old start end → take (at + (end - start)) new ≡ take (at + (end - start)) mid
    → at + (end - start) + piece ≤ length new
    → GivesNext rest rest' faults faults' (slice_range new (at + (end - start)) (at + (end - start) + piece)) n
    → before.buffered ≡ slice_range old start end → after.buffered ≡ slice_range new at (at + (end - start) + n) → after.taken ≡ before.taken
    → Refilled before after rest rest' faults faults' n
refilled old mid new start end at n piece before after rest rest' faults faults' moved same room gives is is' stood =
    let held : ℕ = end - start in
    let whole : List ℕ = slice_range new (at + held) (at + held + piece) in
    let le : n ≤ length whole = gives.within in
    let fits : n ≤ piece = omega (arith, length-take (at + held + piece - (at + held)) (drop (at + held) new)) in
    let parts : after.buffered ≡ before.buffered ++ take n whole =
    is' ∙ grown new at held n piece (omega arith) fits ∙ ap (λ xs. xs ++ take n whole) (kept_through old mid new start end at moved same ∙ sym is) in
    record {
      some = gives.some;
      longer = ap length parts ∙ length-append before.buffered (take n whole) ∙ ap (λ k. length before.buffered + k) (length-take-le n whole le);
      same = ap (λ xs. prepend_known xs rest') parts ∙ left_kept before.buffered (take n whole) rest rest' gives.next gives.known;
      stood = stood;
      count = gives.count;
    }

-- what was searched before stands in front of what came, and still has no line feed
pub still_clear : (old mid new : List ℕ) (start end at n : ℕ) → slice_range mid at (at + (end - start)) ≡ slice_range old start end → take (at + (end - start)) new ≡ take (at + (end - start)) mid
    → HasNoFeed (slice_range old start end) → HasNoFeed (take (end - start) (slice_range new at (at + (end - start) + n)))
still_clear old mid new start end at n moved same clear =
    let held : ℕ = end - start in
    let prefix : take held (slice_range new at (at + held + n)) ≡ slice_range old start end =
    take-take held (at + held + n - at) (drop at new) (omega arith) ∙ ap (λ k. take k (drop at new)) (let e : held ≡ at + held - at = omega arith in e) ∙ kept_through old mid new start end at moved same in
    subst HasNoFeed (sym prefix) clear

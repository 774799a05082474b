-- What is due after one text and another.
use Rattle.std.proofs.Common.{◌≡◌, ℕ, ◌+◌, ◌-◌, ◌≤◌, Option, None, Some, is_some, List, ◌++◌, length, take, drop, sym, ap, refl, ◌∙◌, arith, append_assoc, length-append, length-take, length-drop, take-add}
use Rattle.std.proofs.lemmas.List.{take_rest, drop-drop, take-append-drop}
use Rattle.std.specs.Io.KnownBytes.{append_known, Appends}
use Rattle.ram_outside.specs.Sink.{length_with}

-- known bytes that grew, and are still known, are the old ones and what came
Appends-is : (a b : Option (List ℕ)) (bs : List ℕ) → Appends a b bs → is_some b ≡ is_some a → b ≡ append_known a bs
Appends-is None None bs grew known = refl
Appends-is None (Some ys) bs grew known = cc
Appends-is (Some xs) None bs grew known = elim grew [ ]
Appends-is (Some xs) (Some ys) bs grew known = ap Some grew

-- one text and then another
pub append_known-twice : (a : Option (List ℕ)) (xs ys : List ℕ) → append_known (append_known a xs) ys ≡ append_known a (xs ++ ys)
append_known-twice None xs ys = refl
append_known-twice (Some zs) xs ys = ap Some (append_assoc zs xs ys)

-- how many bytes there are with one text and n more
pub length_with-append : (a : Option (List ℕ)) (xs : List ℕ) (n : ℕ) → length_with (append_known a xs) n ≡ length_with a (length xs + n)
length_with-append None xs n = refl
length_with-append (Some zs) xs n = ap Some (omega (arith, length-append zs xs))

-- the sink refused what is left of a text, so all of the text was offered
pub offered_whole : (first before : Option (List ℕ)) (text : List ℕ) (sent : ℕ) → sent ≤ length text → before ≡ append_known first (take sent text) → length_with before (length (take (length text - sent) (drop sent text))) ≡ length_with first (length text)
offered_whole first before text sent inside is =
    ap (λ (a : Option (List ℕ)). length_with a (length (take (length text - sent) (drop sent text)))) is
    ∙ length_with-append first (take sent text) (length (take (length text - sent) (drop sent text)))
    ∙ ap (length_with first) (omega (arith, inside, length-take sent text, length-take (length text - sent) (drop sent text), length-drop sent text))

-- the sink took n bytes more of the text
pub took_more : (first before after : Option (List ℕ)) (text : List ℕ) (sent n : ℕ) → before ≡ append_known first (take sent text) → Appends before after (take n (take (length text - sent) (drop sent text))) → is_some after ≡ is_some before → after ≡ append_known first (take (sent + n) text)
took_more first before after text sent n is grew known =
    let piece : List ℕ = take (length text - sent) (drop sent text) in
    Appends-is before after (take n piece) grew known ∙ ap (λ (a : Option (List ℕ)). append_known a (take n piece)) is
    ∙ append_known-twice first (take sent text) (take n piece)
    ∙ ap (λ (xs : List ℕ). append_known first (take sent text ++ take n xs)) (take_rest text sent) ∙ ap (append_known first) (sym (take-add sent n text))

-- the sink took n bytes of what was gathered, and what is due stays
pub due_kept : (written written' : Option (List ℕ)) (bytes : List ℕ) (sent n : ℕ) → written' ≡ append_known written (take n (take (length bytes - sent) (drop sent bytes))) → append_known written' (drop (sent + n) bytes) ≡ append_known written (drop sent bytes)
due_kept written written' bytes sent n is =
    let rest : List ℕ = drop sent bytes in
    ap (λ (a : Option (List ℕ)). append_known a (drop (sent + n) bytes)) is
    ∙ append_known-twice written (take n (take (length bytes - sent) rest)) (drop (sent + n) bytes)
    ∙ ap (λ (xs : List ℕ). append_known written (take n xs ++ drop (sent + n) bytes)) (take_rest bytes sent)
    ∙ ap (λ (xs : List ℕ). append_known written (take n rest ++ xs)) (sym (drop-drop n sent bytes))
    ∙ ap (append_known written) (take-append-drop n rest)

-- A limit is told exactly where it is passed first: then no line comes, and the other limit is not told.
use Rattle.std.proofs.Common.{◌≡◌, ℕ, ◌-◌, ◌≤◌, Option, None, Some, List, [], ◌∷◌, ◌++◌, length, take, sym, ap, subst, refl, ◌∙◌, append_assoc, length-append, ⊎_elim, arith}
use Rattle.std.proofs.Math.Seq.{get_or-append_seam}
use Rattle.std.proofs.lemmas.List.{take_at}
use Rattle.ram_text.specs.Lines.{HasNoFeed, FeedAt, GivesLine, LineIsTooLong, ScriptIsTooLong}
use Rattle.ram_text.proofs.Feeds.{feed_not_within}

-- behind a line without a line feed, the first line feed is its own
feed_here : (line rest : List ℕ) → HasNoFeed line → FeedAt (line ++ 10 ∷ rest) (length line)
feed_here line rest one = record {
  inside = omega (arith, length-append line (10 ∷ rest));
  feed = get_or-append_seam line 10 rest 0;
  first = subst HasNoFeed (sym (take_at line (10 ∷ rest) (length line) refl)) one;
}

-- bytes without a line feed end before the line's own
by_feed : (held rest line : List ℕ) (n : ℕ) → held ≡ (line ++ 10 ∷ []) ++ rest → HasNoFeed line → HasNoFeed (take n held) → n ≤ length line
by_feed held rest line n parts one clear =
    feed_not_within held (length line) n (subst (λ (xs : List ℕ). FeedAt xs (length line)) (sym (parts ∙ append_assoc line (10 ∷ []) rest)) (feed_here line rest one)) clear

-- the last line is all that was left
by_end : (held rest line : List ℕ) → held ≡ line ++ rest → rest ≡ [] → length held ≡ length line
by_end held rest line parts none = omega (arith, ap length parts, length-append line rest, ap length none)

pub line_not_long : (held : List ℕ) (left : Option (List ℕ)) (taken taken' : ℕ) (line : List ℕ) (f f' : ℕ) → GivesLine (Some held) left taken taken' line f f' → ¬ LineIsTooLong (Some held) taken
line_not_long held None taken taken' line f f' gives = λ long. ⊎_elim (λ e. absurd e.went) (λ e. absurd e.went) gives.ends
line_not_long held (Some rest) taken taken' line f f' gives = λ long.
    let short = gives.short in
    let past = long.bytes.0 in
    ⊎_elim (λ e. absurd (omega (arith, by_feed held rest line 70001 e.went gives.one long.bytes.1))) (λ e. absurd (omega (arith, by_end held rest line e.went e.ended))) gives.ends

pub script_not_long : (held : List ℕ) (left : Option (List ℕ)) (taken taken' : ℕ) (line : List ℕ) (f f' : ℕ) → GivesLine (Some held) left taken taken' line f f' → ¬ ScriptIsTooLong (Some held) taken
script_not_long held None taken taken' line f f' gives = λ long. ⊎_elim (λ e. absurd e.went) (λ e. absurd e.went) gives.ends
script_not_long held (Some rest) taken taken' line f f' gives = λ long.
    let within = gives.within in
    let past = long.bytes.0 in
    ⊎_elim (λ e. absurd (omega (arith, e.grew, by_feed held rest line (67108864 - taken) e.went gives.one long.bytes.1))) (λ e. absurd (omega (arith, e.grew, by_end held rest line e.went e.ended))) gives.ends

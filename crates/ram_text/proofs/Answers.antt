-- What a line, or the limit that is passed, in the bytes that are buffered says of all that is left.
use Rattle.std.proofs.Common.{◌≡◌, ℕ, ◌-◌, ◌<◌, ◌≤◌, Option, None, Some, is_some, IfSome, List, [], ◌∷◌, ◌++◌, length, take, sym, ap, subst, refl, inl, ◌∙◌, append_assoc, length-append, arith}
use Rattle.std.proofs.lemmas.List.{take-append-le}
use Rattle.std.specs.Io.KnownBytes.{prepend_known, Consumes}
use Rattle.ram_text.specs.declared.lines.NextLine.{NextLine}
use Rattle.ram_text.specs.declared.lines.NextLine.TheVariants.{Line, End, LineTooLong, ScriptTooLong, Failed}
use Rattle.ram_outside.specs.declared.conversation.Conversation.{Ghosts as Conversations}
use Rattle.ram_text.specs.Lines.{Reading, HasNoFeed, GivesLine, NothingWent, LineIsTooLong, ScriptIsTooLong, left_of, NextLineRule}
use Rattle.ram_text.specs.Steps.{CutRule}

-- a prefix of what is buffered is the same front of what is left
prefix_left : (held : List ℕ) (rest : Option (List ℕ)) (n m : ℕ) → n ≤ length held → m < length held → HasNoFeed (take n held) → IfSome (prepend_known held rest) (λ all. (m < length all) × HasNoFeed (take n all))
prefix_left held None n m le lt clear = tt
prefix_left held (Some ys) n m le lt clear = (omega (arith, length-append held ys), subst HasNoFeed (sym (take-append-le n held ys le)) clear)

-- a line and its line feed went from the front of what is left
line_left : (held line after : List ℕ) (rest : Option (List ℕ)) → held ≡ line ++ (10 ∷ after) → Consumes (prepend_known held rest) (prepend_known after rest) (line ++ 10 ∷ [])
line_left held line after None parts = tt
line_left held line after (Some ys) parts = ap (λ xs. xs ++ ys) parts ∙ simp append_assoc

known_alike : (held after : List ℕ) (rest : Option (List ℕ)) → is_some (prepend_known after rest) ≡ is_some (prepend_known held rest)
known_alike held after None = refl
known_alike held after (Some ys) = refl

-- what an answer that the buffered bytes decide says
abbrev pub Answered : Option (List ℕ) → Option (List ℕ) → ℕ → ℕ → List ℕ → ℕ → ℕ → NextLine → Type 0
Answered left left' taken taken' line faults faults' Line = GivesLine left left' taken taken' line faults faults'
Answered left left' taken taken' line faults faults' LineTooLong = NothingWent left left' taken taken' line × LineIsTooLong left taken × (faults' ≡ faults)
Answered left left' taken taken' line faults faults' ScriptTooLong = NothingWent left left' taken taken' line × ScriptIsTooLong left taken × (faults' ≡ faults)
Answered left left' taken taken' line faults faults' End = ⊥
Answered left left' taken taken' line faults faults' Failed = ⊥

answered : (before after : Reading) (rest : Option (List ℕ)) (first faults : ℕ) → faults ≡ first → (answer : NextLine) → CutRule before after (Some answer)
    → Answered (prepend_known before.buffered rest) (prepend_known after.buffered rest) before.taken after.taken after.line first faults answer
answered before after rest first faults count Line cut = record {
  ends = inl (record { went = line_left before.buffered after.line after.buffered rest cut.parts; grew = cut.grew });
  one = cut.one;
  short = cut.short;
  within = cut.within;
  known = known_alike before.buffered after.buffered rest;
  count = count;
}
answered before after rest first faults count LineTooLong cut = (
  record {
    same = ap (λ (r : Reading). prepend_known r.buffered rest) cut.1;
    stood = ap (λ (r : Reading). r.taken) cut.1;
    none = ap (λ (r : Reading). r.line) cut.1;
  },
  record { bytes = prefix_left before.buffered rest 70001 70000 (omega (arith, cut.0.bytes.0)) cut.0.bytes.0 cut.0.bytes.1; first = cut.0.first },
  count,
)
answered before after rest first faults count ScriptTooLong cut = (
  record {
    same = ap (λ (r : Reading). prepend_known r.buffered rest) cut.1;
    stood = ap (λ (r : Reading). r.taken) cut.1;
    none = ap (λ (r : Reading). r.line) cut.1;
  },
  record { bytes = prefix_left before.buffered rest (67108864 - before.taken) (67108864 - before.taken) (omega (arith, cut.0.bytes.0)) cut.0.bytes.0 cut.0.bytes.1; first = cut.0.first },
  count,
)
answered before after rest first faults count End cut = elim cut [ ]
answered before after rest first faults count Failed cut = elim cut [ ]

-- the same, said of what was left at first
pub answered_at_first : (held : List ℕ) (taken : ℕ) (before after : Reading) (left rest : Option (List ℕ)) (first faults : ℕ)
    → prepend_known before.buffered rest ≡ prepend_known held left → before.taken ≡ taken → faults ≡ first → (answer : NextLine) → CutRule before after (Some answer)
    → Answered (prepend_known held left) (prepend_known after.buffered rest) taken after.taken after.line first faults answer
answered_at_first held taken before after left rest first faults same stood count answer cut =
    subst (λ (all : Option (List ℕ)). Answered all (prepend_known after.buffered rest) taken after.taken after.line first faults answer) same
    (subst (λ (t : ℕ). Answered (prepend_known before.buffered rest) (prepend_known after.buffered rest) t after.taken after.line first faults answer) stood (answered before after rest first faults count answer cut))

-- it is what the rule says of it
pub rule_of : {T K : Type 0} (talks : Conversations T K) (r r' : Reading) (s s' : T) (answer : NextLine) → Answered (left_of talks r s) (left_of talks r' s') r.taken r'.taken r'.line (talks.faults s) (talks.faults s') answer → NextLineRule talks r r' s s' answer
rule_of talks r r' s s' Line says = says
rule_of talks r r' s s' LineTooLong says = says
rule_of talks r r' s s' ScriptTooLong says = says
rule_of talks r r' s s' End says = elim says [ ]
rule_of talks r r' s s' Failed says = elim says [ ]

-- What the limits make of bytes that hold no line.
use Rattle.std.proofs.Common.{◌≡◌, ℕ, ◌+◌, ◌-◌, ◌<◌, ◌≤◌, Some, List, slice_range, length, take, min, sym, ap, subst, ◌∙◌, refl, take_all, arith}
use Rattle.ram_text.specs.declared.lines.NextLine.{NextLine}
use Rattle.ram_text.specs.declared.lines.NextLine.TheVariants.{Line, End, LineTooLong, ScriptTooLong, Failed}
use Rattle.ram_text.specs.Lines.{Reading, HasNoFeed, FeedAt}
use Rattle.ram_text.specs.Steps.{CutRule, TookLine, PassedFirst, without_line}
use Rattle.std.proofs.lemmas.List.{length-take-le}
use Rattle.ram_text.proofs.Feeds.{HasNoFeed-shorter, slice_at_feed, slice_before_feed}

-- bytes that hold no line feed among the first n pass the limit that is passed first
passed : (before : Reading) (n : ℕ) → n ≤ length before.buffered → before.taken ≤ 67108864 → HasNoFeed (take n before.buffered)
    → (before.taken + 70000 < 67108864 → 70001 ≤ n) → (67108864 ≤ before.taken + 70000 → (67108864 - before.taken ≤ n) × (67108864 - before.taken < length before.buffered))
    → (answer : NextLine) → PassedFirst before.taken answer → CutRule before (without_line before) (Some answer)
passed before n inside limit clear by_line by_script LineTooLong first = (
  record {
    bytes = (omega (arith, by_line first), HasNoFeed-shorter before.buffered 70001 n (by_line first) clear);
    first = first;
  },
  refl,
)
passed before n inside limit clear by_line by_script ScriptTooLong first = (
  record {
    bytes = ((by_script first).1, HasNoFeed-shorter before.buffered (67108864 - before.taken) n (by_script first).0 clear);
    first = first;
  },
  refl,
)
passed before n inside limit clear by_line by_script Line first = elim first [ ]
passed before n inside limit clear by_line by_script End first = elim first [ ]
passed before n inside limit clear by_line by_script Failed first = elim first [ ]

-- the first line feed comes too late
pub passed_late : (before : Reading) (offset : ℕ) → before.taken ≤ 67108864 → FeedAt before.buffered offset → min (67108864 - before.taken) 70001 ≤ offset → (answer : NextLine) → PassedFirst before.taken answer → CutRule before (without_line before) (Some answer)
passed_late before offset limit at late =
    let inside : offset < length before.buffered = at.inside in
    passed before offset (omega arith) limit at.first (λ h. omega arith) (λ h. (omega arith, omega arith))

-- no line feed comes, and too many bytes
pub passed_whole : (before : Reading) → before.taken ≤ 67108864 → HasNoFeed before.buffered → min (67108864 - before.taken) 70000 < length before.buffered → (answer : NextLine) → PassedFirst before.taken answer → CutRule before (without_line before) (Some answer)
passed_whole before limit clear longer =
    passed before (length before.buffered) (omega arith) limit (subst HasNoFeed (sym (take_all (length before.buffered) before.buffered (omega arith))) clear) (λ h. omega arith) (λ h. (omega arith, omega arith))

-- a line that ends within both limits is taken
pub took : (bytes : List ℕ) (start end offset taken : ℕ) (line : List ℕ) → taken ≤ 67108864 → FeedAt (slice_range bytes start end) offset → offset < min (67108864 - taken) 70001
    → TookLine (record { line = line; buffered = slice_range bytes start end; taken = taken }) (record { line = slice_range bytes start (start + offset); buffered = slice_range bytes (start + offset + 1) end; taken = taken + (offset + 1) })
took bytes start end offset taken line limit at within =
    let held : List ℕ = slice_range bytes start end in
    let inside : offset < length held = at.inside in
    let prefix : take offset held ≡ slice_range bytes start (start + offset) = slice_before_feed bytes start end offset at in
    let len : length (slice_range bytes start (start + offset)) ≡ offset = sym (ap length prefix) ∙ length-take-le offset held (omega arith) in
    record {
      parts = slice_at_feed bytes start end offset at;
      one = subst HasNoFeed prefix at.first;
      short = omega arith;
      grew = omega arith;
      within = omega arith;
    }

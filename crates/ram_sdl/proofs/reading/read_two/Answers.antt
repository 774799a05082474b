-- The entries of both parts, one after the other.
use Rattle.std.proofs.Common.{◌≡◌, min, Some, List, refl, sym, subst, arith}
use Rattle.model_lists.specs.declared.sdl.SdlEntry.{SdlEntry}
use Rattle.model_lists.specs.Values.{part_entries}
use Rattle.model_lists.proofs.SdlTexts.{part_is}
use Rattle.ram_sdl.specs.Fronts.{AreEntriesBy}
use Rattle.ram_sdl.proofs.Decoding.{read_as, no_first, no_second, two_found, long_of, spelled_behind, spelled_there}
use Rattle.ram_sdl.proofs.reading.read_two.Goals as goal

pub returns-then-not-read_entries-clause-says : goal.returns-then-not-read_entries-clause-says
returns-then-not-read_entries-clause-says c =
    let header = c.args.header.now in
    let x = c.args.first.now in
    let bytes = c.bytes.result.now in
    let same = c.bytes.ensures.same in
    let none = rw c.if-not-read_entries.true at c.read_entries.ensures.says in
    let split : c.min-split.result ≡ min part_entries header.count = omega (arith, c.min-split.ensures, part_is) in
    no_first header x (long_of bytes x same c.bytes.ensures.len) c.requires.front c.requires.two c.args.second.now c.min-split.result split
    (λ entries long lawful spells. none entries long lawful (spelled_there entries bytes x same spells))

pub returns-clause-says : goal.returns-clause-says
returns-clause-says c =
    let header = c.args.header.now in
    let x = c.args.first.now in
    let y = c.args.second.now in
    let bytes = c.bytes.result.now in
    let same = c.bytes.ensures.same in
    let behind = c.bytes-2.result.now in
    let some = rw c.if-not-read_entries.false at c.read_entries.ensures.says in
    let entries = c.read_entries.new.entries.items in
    let split : c.min-split.result ≡ min part_entries header.count = omega (arith, c.min-split.ensures, part_is) in
    let whole = long_of bytes x same c.bytes.ensures.len in
    read_as header x (Some y) c.more_entries.new.entries.items _ _ c.more_entries.result c.more_entries.ensures.says
    (λ none. no_second header x whole c.requires.front c.requires.two y c.min-split.result entries split some.0 some.1 (spelled_behind entries bytes x same some.2)
    (λ more long goes spells. none more long goes (spelled_there more behind y c.bytes-2.ensures.same spells)))
    (λ more. subst (λ (l : List SdlEntry). AreEntriesBy header (Some l) x (Some y)) (sym more.2)
    (two_found header x whole c.requires.front c.requires.two y c.min-split.result entries more.0 split some.0 some.1 (spelled_behind entries bytes x same some.2)
    more.1 more.3 (spelled_behind more.0 behind y c.bytes-2.ensures.same more.4) (long_of behind y c.bytes-2.ensures.same c.bytes-2.ensures.len) (c.if-not-goes_on.ensures.0 refl)))

-- What lies behind the spaces so far has the same words.
use Rattle.std.proofs.Common.{◌≡◌, drop}
use Rattle.ram_text.specs.ScriptWords.{words_of}
use Rattle.ram_text.proofs.words.without_spaces.Given as goal

abbrev pub invariant-loop-offset : goal.invariant-loop-offset
invariant-loop-offset l = words_of (drop l.offset l.line) ≡ words_of l.line

-- The pairs so far are decoded, or one of them has a byte that is no digit.
use Rattle.std.proofs.Common.{◌≡◌, ◌*◌, ◌<◌, ◌≤◌, None, take, drop}
use Rattle.std.specs.Result.{result_ok}
use Rattle.hex.specs.Hex.{decode_pairs}
use Rattle.hex.proofs.Pairs.{prepend}
use Rattle.ram_text.proofs.payload.decode.Given as goal

abbrev pub invariant-pairs : goal.invariant-pairs
invariant-pairs l = record {
  good : l.most < 16 → decode_pairs 0 l.digits ≡ prepend (take l.at l.into) (decode_pairs (2 * l.at) (drop (2 * l.at) l.digits));
  bad : 16 ≤ l.most → result_ok (decode_pairs 0 l.digits) ≡ None;
}

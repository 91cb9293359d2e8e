use Rattle.std.proofs.Common.{◌≡◌, ◌<◌, drop}
use Rattle.of_replay.specs.Lexing.{value_of_decimal}
use Rattle.of_replay.proofs.lexing.read_digits.Given as goal

abbrev pub invariant-loop-digit : goal.invariant-loop-digit
invariant-loop-digit l = record {
  small : l.value < l.limit;
  value : value_of_decimal 0 l.word ≡ value_of_decimal l.value (drop l.digit-index l.word);
}

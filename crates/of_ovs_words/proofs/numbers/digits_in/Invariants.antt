use Rattle.std.proofs.Common.{◌≡◌, ◌≤◌, drop}
use Rattle.of_ovs_words.specs.Numbers.{digits_in}
use Rattle.of_ovs_words.proofs.numbers.digits_in.Given as goal

abbrev pub invariant-loop-byte : goal.invariant-loop-byte
invariant-loop-byte l = record {
  small : l.value ≤ l.limit;
  value : digits_in l.base l.limit 0 l.digits ≡ digits_in l.base l.limit l.value (drop l.byte-index l.digits);
}

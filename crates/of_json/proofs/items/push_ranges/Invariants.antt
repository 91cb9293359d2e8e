use Rattle.std.proofs.Common.{◌≡◌, ◌++◌, drop}
use Rattle.of_json.specs.LeavingWords.{ranges_words}
use Rattle.of_json.proofs.items.push_ranges.Given as goal

abbrev pub invariant-loop-port : goal.invariant-loop-port
invariant-loop-port l = l.out.items ++ ranges_words l.low l.high (drop l.port-index l.others) ≡ l.fn.out.items ++ ranges_words l.first l.first l.others

use Rattle.std.{specs.Option.option_copied, proofs.Common.◌≡◌, proofs.Common.◌++◌, proofs.Common.None, proofs.Common.length}
use Rattle.of_json.specs.LeavingWords.{side_lines}
use Rattle.of_json.proofs.items.push_item_lines.Given as goal

abbrev pub invariant-loop-rest : goal.invariant-loop-rest
invariant-loop-rest l = l.out.items ++ side_lines l.who (option_copied l.before) l.rest ≡ l.fn.out.items ++ side_lines l.who None l.items

abbrev pub decreases-loop-rest : goal.decreases-loop-rest
decreases-loop-rest l = length l.rest

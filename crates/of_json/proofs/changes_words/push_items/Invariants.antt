use Rattle.std.{specs.Option.option_copied, proofs.Common.◌≡◌, proofs.Common.◌++◌, proofs.Common.None, proofs.Common.length}
use Rattle.of_json.specs.ChangesInWords.{changed_sides}
use Rattle.of_json.proofs.changes_words.push_items.Given as goal

abbrev pub invariant-loop-rest : goal.invariant-loop-rest
invariant-loop-rest l = l.out.items ++ changed_sides l.who l.came (option_copied l.before) l.rest ≡ l.fn.out.items ++ changed_sides l.who l.came None l.items

abbrev pub decreases-loop-rest : goal.decreases-loop-rest
decreases-loop-rest l = length l.rest

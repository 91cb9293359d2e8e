use Rattle.std.{specs.List.flat_map, proofs.Common.◌≡◌, proofs.Common.◌++◌, proofs.Common.drop}
use Rattle.of_diff_report.specs.DiffWords.{told_words}
use Rattle.of_diff_report.proofs.words.push_differences.Given as goal

abbrev pub invariant-loop-one : goal.invariant-loop-one
invariant-loop-one g l =
    let words = told_words l.all l.first.flows l.second.flows l.first.switch.now.core.forwarding in
    l.out.items ++ flat_map words (drop l.one-index l.told) ≡ l.fn.out.items ++ flat_map words l.told

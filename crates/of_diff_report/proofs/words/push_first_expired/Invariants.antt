use Rattle.std.proofs.Common.{◌≡◌, ◌++◌, drop}
use Rattle.of_diff_report.specs.DiffWords.{first_expired_words}
use Rattle.of_diff_report.proofs.words.push_first_expired.Given as goal

abbrev pub invariant-loop-one : goal.invariant-loop-one
invariant-loop-one l =
    l.out.items ++ first_expired_words l.count (drop l.one-index l.told) ≡ l.fn.out.items ++ first_expired_words l.count l.told

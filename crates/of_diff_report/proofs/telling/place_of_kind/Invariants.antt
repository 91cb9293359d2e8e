use Rattle.std.proofs.Common.{take}
use Rattle.of_diff_report.proofs.TellingLemmas.{AreOthers}
use Rattle.of_diff_report.proofs.telling.place_of_kind.Given as goal

abbrev pub invariant-loop-index : goal.invariant-loop-index
invariant-loop-index l = AreOthers l.other (take l.index l.told)

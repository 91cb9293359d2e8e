use Rattle.std.proofs.Common.{◌≡◌, ◌+◌, drop}
use Rattle.of_json.specs.ChangesInWords.{count_next}
use Rattle.of_json.proofs.changes_words.count_sending.Given as goal

abbrev pub invariant-loop-item : goal.invariant-loop-item
invariant-loop-item l = (l.count ≡ l.item-index) × (count_next l.frame (drop l.item-index l.items) + l.count ≡ count_next l.frame l.items)

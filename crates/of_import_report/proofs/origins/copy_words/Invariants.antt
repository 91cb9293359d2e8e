use Rattle.std.proofs.Common.{◌≡◌, take}
use Rattle.of_values.specs.Origins.{view_words}
use Rattle.of_import_report.proofs.origins.copy_words.Given as goal

abbrev pub invariant-loop-word : goal.invariant-loop-word
invariant-loop-word l = view_words l.copies.items ≡ view_words (take l.word-index l.words)

use Rattle.std.{specs.List.flat_map, proofs.Common.◌≡◌, proofs.Common.◌++◌, proofs.Common.drop}
use Rattle.of_values.specs.Origins.{further_counter, view_words}
use Rattle.of_values.proofs.origins.push_counter_words.Given as goal

abbrev pub invariant-loop-word : goal.invariant-loop-word
invariant-loop-word l = l.out.items ++ flat_map further_counter (view_words (drop l.word-index l.words)) ≡ l.fn.out.items ++ flat_map further_counter (view_words l.words)

use Rattle.std.proofs.Common.{◌≡◌, ◌++◌, ◌≤◌, take, drop}
use Rattle.of_ovs_words.specs.Words.{word_in, after_word}
use Rattle.of_ovs_words.proofs.words.cut_word.Given as goal

abbrev pub invariant-loop-i : goal.invariant-loop-i
invariant-loop-i l = record {
  small : l.depth ≤ l.i;
  first : word_in 0 l.bytes ≡ take l.i l.bytes ++ word_in l.depth (drop l.i l.bytes);
  rest : after_word 0 l.bytes ≡ after_word l.depth (drop l.i l.bytes);
}

use Rattle.std.proofs.Common.{◌≡◌, ◌++◌, take, drop}
use Rattle.of_ovs_words.specs.Words.{word_name, marked_in}
use Rattle.of_ovs_words.proofs.words.name_end.Given as goal

abbrev pub invariant-loop-i : goal.invariant-loop-i
invariant-loop-i l = record {
  name : word_name l.word ≡ take l.i l.word ++ word_name (drop l.i l.word);
  value : marked_in l.word ≡ marked_in (drop l.i l.word);
}

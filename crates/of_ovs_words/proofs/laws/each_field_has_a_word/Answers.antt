use Rattle.std.proofs.Common.{refl}
use Rattle.of_layers.specs.Fields.{row_of}
use Rattle.of_ovs_words.specs.{FieldWords.word_for, Settings.field_for}
use Rattle.of_ovs_words.proofs.laws.each_field_has_a_word.Goals as goal

pub returns : goal.returns
unfolding word_for field_for row_of
returns c = refl

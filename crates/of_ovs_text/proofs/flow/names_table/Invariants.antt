use Rattle.std.proofs.Common.{◌≡◌, length}
use Rattle.of_ovs_text.specs.MessageFlows.{has_table_word}
use Rattle.of_ovs_text.proofs.flow.names_table.Given as goal

abbrev pub decreases-loop-rest : goal.decreases-loop-rest
decreases-loop-rest l = length l.rest

abbrev pub invariant-loop-rest : goal.invariant-loop-rest
invariant-loop-rest l = has_table_word l.words ≡ has_table_word l.rest

use Rattle.std.proofs.Common.{refl}
use Rattle.of_layers.specs.Fields.{row_of}
use Rattle.of_headers.{specs.Presence.all_bits, proofs.PresenceLemmas.zeros_absent}
use Rattle.of_headers.proofs.key.FieldKey.empty.Goals as goal

pub invariant_of-result : goal.invariant_of-result
unfolding all_bits row_of
invariant_of-result c = record { known = refl; absent = zeros_absent }

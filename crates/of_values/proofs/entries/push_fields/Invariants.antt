use Rattle.std.{specs.List.flat_map, proofs.Common.◌≡◌, proofs.Common.◌++◌, proofs.Common.drop}
use Rattle.of_values.specs.Entries.{further_field}
use Rattle.of_values.proofs.entries.push_fields.Given as goal

abbrev pub invariant-loop-e : goal.invariant-loop-e
invariant-loop-e l = l.out.items ++ flat_map further_field (drop l.e-index l.fields) ≡ l.fn.out.items ++ flat_map further_field l.fields

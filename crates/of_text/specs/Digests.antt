-- A NUMBER OF A FLOW that is the same for flows of one table, priority and match: flows with different numbers need not be compared.
use Rattle.std.specs.Prelude.{◌≡◌, ℕ, ◌+◌, ◌*◌, ◌%◌, ◌^◌, false, List, [], nat_eq, slice_index_or}
use Rattle.std.specs.{HashSet.HashSet, HashSet.contains, List.fold, List.list_any, Option.unwrap_or}
use Rattle.of_oxm.specs.declared.match_field.MatchField.{MatchField}
use Rattle.of_text.specs.{Flows.Flow, Refusals.has_same_match}

unfoldable pub field_mixed : ℕ → MatchField → ℕ
field_mixed sum e = (((((sum * 1000003) % 2 ^ 128 + e.value) % 2 ^ 128) * 1000003) % 2 ^ 128 + unwrap_or e.mask 0) % 2 ^ 128

unfoldable pub flow_digest : Flow → ℕ
flow_digest f = fold field_mixed (((f.head.table * 65536) % 2 ^ 128 + f.head.priority) % 2 ^ 128) f.fields

-- a flow whose number is not in the set has the priority and match of no flow of its table
abbrev pub ShowsRepeats : {S : Type 0} → HashSet ℕ S → List (List Flow) → Type 0
ShowsRepeats digests tables = (f : Flow) → contains nat_eq digests (flow_digest f) ≡ false → list_any (has_same_match f) (slice_index_or tables f.head.table []) ≡ false

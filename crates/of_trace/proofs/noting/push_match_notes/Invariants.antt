use Rattle.std.{specs.List.AllByRecursion, proofs.Common.◌≡◌, proofs.Common.◌++◌, proofs.Common.drop}
use Rattle.of_oxm.specs.NormalForm.{IsKept}
use Rattle.of_trace.specs.Notes.{match_notes}
use Rattle.of_trace.proofs.noting.push_match_notes.Given as goal

abbrev pub invariant-loop-field : goal.invariant-loop-field
invariant-loop-field l = record {
  kept : AllByRecursion IsKept (drop l.field-index l.fields);
  text : l.out.items ++ match_notes (drop l.field-index l.fields) ≡ l.fn.out.items ++ match_notes l.fields;
}

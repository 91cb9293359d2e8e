use Rattle.std.{specs.Prelude.IsTrue, proofs.Common.◌≡◌, proofs.Common.◌++◌, proofs.Common.drop, proofs.Common.map}
use Rattle.of_explain.specs.Fields.{are_short, field_of, fields_words}
use Rattle.of_explain.proofs.fields.push_fields.Given as goal

abbrev pub invariant-loop-field : goal.invariant-loop-field
invariant-loop-field l = record {
  short : IsTrue (are_short (map field_of (drop l.field-index l.fields)));
  text : l.out.items ++ fields_words (map field_of (drop l.field-index l.fields)) l.message ≡ l.fn.out.items ++ fields_words (map field_of l.fields) l.message;
}

use Rattle.std.proofs.Common.{◌≡◌, ◌++◌, take}
use Rattle.of_oxm.specs.MatchGrammar.{encodings}
use Rattle.of_oxm.proofs.writing.put_fields.Given as goal

abbrev pub invariant-loop-e : goal.invariant-loop-e
invariant-loop-e l = l.out.items ≡ l.fn.out.items ++ encodings (take l.e-index l.fields)

use Rattle.std.{specs.Prelude.List, specs.List.flat_map, proofs.Common.◌≡◌, proofs.Common.◌++◌, proofs.Common.drop}
use Rattle.of_values.specs.Each.{AppendsEach}
use Rattle.of_values.proofs.each.push_each.Given as goal

abbrev pub invariant-loop-item : goal.invariant-loop-item
invariant-loop-item g l = (text : _ → List _) → AppendsEach (goal.F-post g l.push) text → l.out.items ++ flat_map text (drop l.item-index l.items) ≡ l.fn.out.items ++ flat_map text l.items

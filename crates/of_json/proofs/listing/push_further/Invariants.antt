use Rattle.std.proofs.Common.{◌≡◌, ◌++◌, ◌∷◌, ℕ, List, drop}
use Rattle.std.specs.List.{flat_map}
use Rattle.of_values.specs.Each.{AppendsEach}
use Rattle.of_json.proofs.listing.push_further.Given as goal

abbrev pub invariant-loop-item : goal.invariant-loop-item
invariant-loop-item g l =
    (text : _ → List ℕ) → AppendsEach (goal.F-post g l.push) text → l.out.items ++ flat_map (λ x. 44 ∷ text x) (drop l.item-index l.items) ≡ l.fn.out.items ++ flat_map (λ x. 44 ∷ text x) l.items

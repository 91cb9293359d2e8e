-- What a walk over a list of entries keeps.
use Rattle.std.specs.Prelude.{ℕ, Bool, List, Option, Some, None, is_some, nat_le, if◌then◌else◌}
use Rattle.std.specs.List.{list_all}
use Rattle.slab.specs.Slab.{Slab, get}
use Rattle.of_classifier.specs.declared.Row.{Row}

-- each entry's number is in use
abbrev pub are_given : {T : Type 0} → Slab T → List Row → Bool
are_given slab rows = list_all (λ r. is_some (get slab r.number)) rows

-- the number and the priority of an entry, where there is one
abbrev pub pair_of : Option Row → Option (ℕ × ℕ)
pair_of None = None
pair_of (Some r) = Some (r.number, r.priority)

-- the better of the best so far and one more entry, which has to have a higher priority
abbrev pub better_of : Option (ℕ × ℕ) → Row → Option (ℕ × ℕ)
better_of None row = Some (row.number, row.priority)
better_of (Some best) row = if nat_le row.priority best.1 then Some best else Some (row.number, row.priority)

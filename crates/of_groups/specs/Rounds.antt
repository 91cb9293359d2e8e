-- What is known of chains after k rounds. No public clause cites this module.
use Rattle.std.specs.Prelude.{◌≡◌, ℕ, ◌==◌, ◌&&◌, not, Bool, false, List, [], ◌∷◌, map, if◌then◌else◌}
use Rattle.of_groups.specs.{declared.group.Group.Group, declared.chains.Round.Round, Groups.with_group, Groups.is_there, Chains.leads}

-- no group has that number, with the new one among them
abbrev pub absent_with : ℕ → List Group → ℕ → Bool
absent_with new groups n = not (new == n) && not (is_there n groups)

-- the mark of the group of that number
abbrev pub mark_at : List Group → List Bool → ℕ → Bool
mark_at [] marks n = false
mark_at (g ∷ groups) [] n = false
mark_at (g ∷ groups) (m ∷ marks) n = if g.id == n then m else mark_at groups marks n

abbrev pub known_of : Round → ℕ → Bool
known_of r n = if r.new.now.id == n then r.own else mark_at r.groups.now r.marks.items n

-- it is known for each group whether some chain has k more groups after it, with the new group among them
pub record IsRound (gs : List Group) (g : Group) (k : ℕ) (r : Round) : Type 0 where
  pub groups : r.groups.now ≡ gs
  pub new : r.new.now ≡ g
  pub known : known_of r ≡ leads (with_group g gs) k

-- for each group, whether some chain has k more groups after it
abbrev pub marks_of : List Group → ℕ → List Bool
marks_of groups k = map (λ g. leads groups k g.id) groups

-- the length of the longest chain, by how far chains lead
abbrev pub length_from : Bool → Bool → Bool → Bool → ℕ
length_from there one two three = if three then 4 else if two then 3 else if one then 2 else if there then 1 else 0

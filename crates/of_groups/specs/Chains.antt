-- Chains of groups (OpenFlow 1.3.5, 5.6.1 and 6.5).
use Rattle.std.specs.Prelude.{◌≡◌, ◌≤◌, ℕ, zero, suc, Bool, true, false, ◌&&◌, List, [], ◌∷◌, length, if◌then◌else◌}
use Rattle.std.specs.{List.list_any, Option.option_map_or}
use Rattle.of_groups.specs.{declared.group.Group.Group, Groups.find_group, Groups.is_there, Groups.any_named, Groups.names}

-- the group n exists, and names the group m
abbrev pub names_next : List Group → ℕ → ℕ → Bool
names_next groups n m = option_map_or (names m) (find_group n groups) false

-- A CHAIN: a group and those after it, each of which exists and is named by the one before
abbrev pub is_chain : List Group → ℕ → List ℕ → Bool
is_chain groups n [] = is_there n groups
is_chain groups n (m ∷ behind) = names_next groups n m && is_chain groups m behind

-- no chain has more than 3 groups (so there is no loop)
abbrev pub AreShort : List Group → Type 0
AreShort groups = (n : ℕ) (behind : List ℕ) → is_chain groups n behind ≡ true → length behind ≤ 2

-- ---- the same, as it is computed

-- some chain that begins at the group has this many groups after it
unfoldable pub leads : List Group → ℕ → ℕ → Bool
leads groups zero n = is_there n groups
leads groups (suc k) n = option_map_or (any_named (leads groups k)) (find_group n groups) false

-- how many groups the longest chain that begins at the group has, and 4 where it has more
unfoldable pub chain : List Group → ℕ → ℕ
chain groups n = if leads groups 3 n then 4 else if leads groups 2 n then 3 else if leads groups 1 n then 2 else if leads groups 0 n then 1 else 0

-- some chain has more than 3 groups
abbrev pub is_long : List Group → Bool
is_long groups = list_any (λ g. leads groups 3 g.id) groups

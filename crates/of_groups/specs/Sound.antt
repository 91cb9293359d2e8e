-- The invariants of the groups of a switch (OpenFlow 1.3.5, 5.6 and 6.5).
use Rattle.std.specs.Prelude.{◌≤◌, Bool, not, ◌&&◌, List, length, IsTrue}
use Rattle.std.specs.List.{list_all}
use Rattle.of_actions.specs.Rising.{is_ascending}
use Rattle.of_groups.specs.{declared.group.Group.Group, Buckets.are_fit, Groups.group_number, Groups.any_named, Chains.AreShort, Faults.is_absent, Faults.is_bad_watch, Faults.is_not_one}

-- at most 16 buckets with actions that are valid there; of INDIRECT one; of FAST-FAILOVER each watches a port or a group
abbrev pub is_fit_group : Group → Bool
is_fit_group g = are_fit g.buckets && not (is_bad_watch g.kind g.buckets) && not (is_not_one g.kind g.buckets)

-- each group that it names exists
abbrev pub is_whole : List Group → Group → Bool
is_whole groups g = not (any_named (is_absent groups) g)

pub record AreSound (groups : List Group) : Type 0 where
  -- in ascending order of number, so no two have the same number
  pub rising : IsTrue (is_ascending group_number groups)
  pub few : length groups ≤ 256
  pub fit : IsTrue (list_all is_fit_group groups)
  pub whole : IsTrue (list_all (is_whole groups) groups)
  pub short : AreShort groups

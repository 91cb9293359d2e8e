-- What the code keeps of messages while a configuration is built. No public clause cites this module.
use Rattle.std.specs.Prelude.{◌≡◌, ◌<◌, ◌++◌, true, Option, Some, None}
use Rattle.std.specs.{Option.option_map, List.AllByRecursion}
use Rattle.of_actions.specs.Rising.{is_ascending}
use Rattle.of_text.specs.{Groups.group_rows, Kept.IsKeptFlow, Rows.Fits, Views.view, Views.view_group, Views.view_groups, Views.view_flows}
use Rattle.of_laws.specs.Built.{Said, IsGroup, IsFlow, Other, Bad, Listed}
use Rattle.of_laws.specs.{declared.fault.ConfigFault.ConfigFault, declared.building.Said.Said as Declared, declared.building.Listed.Listed as InMemory}
use Rattle.of_laws.specs.declared.building.Said.TheVariants as variants

abbrev pub view_said : Declared → Said
view_said (variants.Group g) = IsGroup (view_group g)
view_said (variants.Flow f) = IsFlow (view f)
view_said variants.Other = Other
view_said (variants.Bad code counted) = Bad code (option_map view_group counted)

abbrev pub IsSoundSaid : Declared → Type 0
IsSoundSaid (variants.Group g) = AllByRecursion Fits (group_rows (view_group g))
IsSoundSaid (variants.Flow f) = IsKeptFlow (view f)
IsSoundSaid variants.Other = Unit {0}
IsSoundSaid (variants.Bad code None) = Unit {0}
IsSoundSaid (variants.Bad code (Some g)) = AllByRecursion Fits (group_rows (view_group g))

-- the first, else the other
abbrev pub or_later : Option ConfigFault → Option ConfigFault → Option ConfigFault
or_later None later = later
or_later (Some fault) later = Some fault

-- what is kept of the messages so far, and what the later ones add
abbrev pub joined_with_later : InMemory → Listed → Listed
joined_with_later l later = record {
  places = l.places.items ++ later.places;
  groups = view_groups l.groups.items ++ later.groups;
  flows = view_flows l.flows.items ++ later.flows;
  fault = or_later l.fault later.fault;
}

-- what is kept may stand in a flow text, and the next group has a higher number than those so far
pub record IsSoundListed (l : InMemory) : Type 0 where
  pub fits : AllByRecursion (λ g. AllByRecursion Fits (group_rows (view_group g))) l.groups.items
  pub below : AllByRecursion (λ g. g.head.id < l.least) l.groups.items
  pub rising : is_ascending (λ g. g.head.id) l.groups.items ≡ true
  pub flows : AllByRecursion (λ f. IsKeptFlow (view f)) l.flows.items

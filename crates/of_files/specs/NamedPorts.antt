-- THE PORTS OF A SWITCH that has the groups and flows of a file: those that these name, and ports 1 to 4 (OpenFlow 1.3.5, 7.2.1).
use Rattle.std.specs.Prelude.{ℕ, zero, suc, nat_lt, ◌==◌, Bool, List, [], ◌∷◌, ◌++◌, filter, not, take, slice_index_or, Option, Some, None, if◌then◌else◌}
use Rattle.std.specs.List.{flat_map, list_any}
use Rattle.of_oxm.specs.declared.match_field.MatchField.{MatchField}
use Rattle.of_actions.specs.{declared.action.Action.Action, declared.action.Action.TheVariants.Output, declared.instruction.Instruction.Instruction}
use Rattle.of_actions.specs.{declared.instruction.Instruction.TheVariants.Apply, declared.instruction.Instruction.TheVariants.Write, PortNumbers.is_number}
use Rattle.of_text.specs.{Configs.Configuration, Flows.Flow, Groups.TextBucket, Groups.TextGroup}
use Rattle.of_check.specs.Actions.{required_port}

-- ---- what names a port: an OUTPUT, a match on IN_PORT, and a bucket that watches one

-- a number that a port may have; reserved ports are none of the switch
abbrev pub named_number : ℕ → List ℕ
named_number port = if is_number port then port ∷ [] else []

abbrev pub named_by_action : Action → List ℕ
named_by_action (Output port max_len) = named_number port
named_by_action other = []

abbrev pub named_by_instruction : Instruction → List ℕ
named_by_instruction (Apply actions) = flat_map named_by_action actions
named_by_instruction (Write actions) = flat_map named_by_action actions
named_by_instruction other = []

abbrev pub required_ports : Option ℕ → List ℕ
required_ports None = []
required_ports (Some port) = port ∷ []

abbrev pub named_by_field : MatchField → List ℕ
named_by_field e = required_ports (required_port e)

abbrev pub named_by_flow : Flow → List ℕ
named_by_flow f = flat_map named_by_field f.fields ++ flat_map named_by_instruction f.instructions

abbrev pub named_by_bucket : TextBucket → List ℕ
named_by_bucket b = named_number b.head.watch_port ++ flat_map named_by_action b.actions

abbrev pub named_by_group : TextGroup → List ℕ
named_by_group g = flat_map named_by_bucket g.buckets

-- those of the first k tables
unfoldable pub named_below : ℕ → Configuration → List ℕ
named_below zero c = []
named_below (suc k) c = named_below k c ++ flat_map named_by_flow (slice_index_or c.tables k [])

-- THE PORTS THAT A CONFIGURATION NAMES, each as often as it does
unfoldable pub named_ports : Configuration → List ℕ
named_ports c = flat_map named_by_group c.groups ++ named_below 16 c

-- ---- the ports of its switch

-- one more number, where the others are in ascending order, each once
abbrev pub with_named_port : ℕ → List ℕ → List ℕ
with_named_port n ports = filter (λ p. nat_lt p n) ports ++ n ∷ filter (λ p. nat_lt n p) ports

-- and others, of which the 64 lowest are kept
unfoldable pub with_named_ports : List ℕ → List ℕ → List ℕ
with_named_ports ports [] = ports
with_named_ports ports (n ∷ named) = with_named_ports (take 64 (with_named_port n ports)) named

-- PORTS 1 TO 4 AND THOSE THAT ARE NAMED, in ascending order; at most 64, the lowest
abbrev pub ports_with : List ℕ → List ℕ
ports_with named = with_named_ports (1 ∷ 2 ∷ 3 ∷ 4 ∷ []) named

abbrev pub is_port_among : List ℕ → ℕ → Bool
is_port_among ports port = list_any (λ p. p == port) ports

-- PORTS THAT ARE NAMED AND NOT THERE, in ascending order, at most 64
abbrev pub missing_ports : List ℕ → List ℕ → List ℕ
missing_ports named ports = with_named_ports [] (filter (λ p. not (is_port_among ports p)) named)

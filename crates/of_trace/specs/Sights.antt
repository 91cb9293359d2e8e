-- WHAT A TRACE TELLS OF ITS PACKETS: the frame and the metadata that each has, step by step (OpenFlow 1.3.5, 5.1).
use Rattle.std.specs.Prelude.{ℕ, ◌==◌, List, [], ◌∷◌, ◌++◌, length, map, replicate, Option, Some, None, if◌then◌else◌}
use Rattle.of_wire.specs.declared.limits.TheConstants.{OFPP_TABLE}
use Rattle.of_layers.specs.{declared.field.Field.Field, Reading.layers_of}
use Rattle.of_headers.specs.FieldMap.{field_map}
use Rattle.of_rewrite.specs.Frames.{frame_ttl_decremented}
use Rattle.of_actions.specs.{declared.action.Action.Action, declared.action.Action.TheVariants.Output, declared.action.Action.TheVariants.Group, declared.action.Action.TheVariants.DecNwTtl}
use Rattle.of_machine.specs.{declared.data.Packet.Packet, declared.data.Step.Step, declared.data.Step.TheVariants.Metadata, declared.data.Step.TheVariants.Act, declared.data.Step.TheVariants.End}
use Rattle.of_machine.specs.{TheWorld.TheWorld, Rows.Task, Rows.rewritten, Rows.with_metadata}
use Rattle.of_trace.specs.declared.sight.Sight.{Sight}

-- what tables see of a packet
abbrev pub sight_of : Packet → Sight
sight_of p = record { frame = p.frame; ingress = p.ingress; metadata = p.metadata }

abbrev pub sights_of : List Task → List Sight
sights_of tasks = map (λ t. sight_of t.packet) tasks

-- the fields that a lookup compares (5.3)
abbrev pub key_seen : Sight → Field → Option ℕ
key_seen s = field_map (layers_of s.frame) s.ingress s.metadata

-- ---- the packet itself after a step

abbrev pub frame_after_action : Action → List ℕ → List ℕ
frame_after_action DecNwTtl frame = frame_ttl_decremented frame
frame_after_action other frame = rewritten other frame

abbrev pub sight_after : Step → Sight → Sight
sight_after (Metadata value mask) s = record s { metadata = with_metadata value mask s.metadata }
sight_after (Act action) s = record s { frame = frame_after_action action s.frame }
sight_after other s = s

-- ---- the copies that take steps before it: a group makes one for each bucket that runs, and TABLE one with metadata 0

abbrev pub group_copies : Sight → Option (List ℕ) → List Sight
group_copies s None = []
group_copies s (Some places) = replicate (length places) s

abbrev pub output_copies : ℕ → Sight → List Sight
output_copies port s = if port == OFPP_TABLE then record s { metadata = 0 } ∷ [] else []

abbrev pub action_copies : TheWorld → Action → Sight → List Sight
action_copies w (Output port max_len) s = output_copies port s
action_copies w (Group group) s = group_copies s (w.chosen group)
action_copies w other s = []

-- ---- the packets that take its place

abbrev pub after_step : TheWorld → Step → Sight → List Sight
after_step w (Metadata value mask) s = sight_after (Metadata value mask) s ∷ []
after_step w (Act action) s = action_copies w action s ++ sight_after (Act action) s ∷ []
after_step w End s = []
after_step w other s = s ∷ []

-- the first packet takes the step
abbrev pub stepped : TheWorld → Step → List Sight → List Sight
stepped w step [] = []
stepped w step (s ∷ others) = after_step w step s ++ others

-- THE PACKETS AFTER STEPS, of which each is taken by the first packet
abbrev pub all_stepped : TheWorld → List Step → List Sight → List Sight
all_stepped w [] sights = sights
all_stepped w (step ∷ steps) sights = all_stepped w steps (stepped w step sights)

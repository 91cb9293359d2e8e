-- A TRACE AS JSON (RFC 8259): one object in one line, with an object for each step and for each effect.
use Rattle.std.specs.Prelude.{ℕ, List, [], ◌∷◌, ◌++◌, codes, Option, Some, None, if◌then◌else◌}
use Rattle.hex.specs.Hex.{encode_lower}
use Rattle.of_layers.specs.Fields.{name_of}
use Rattle.of_actions.specs.declared.action.Action.TheVariants.{Output, PushVlan, PopVlan, Group, SetNwTtl, DecNwTtl, SetField}
use Rattle.of_actions.specs.{declared.action.Action.Action, PortNumbers.is_number}
use Rattle.of_table.specs.declared.flow.Flow.{Flow}
use Rattle.of_machine.specs.declared.data.Step.TheVariants.{Miss, Entry, Apply, Clear, Write, Metadata, Goto, Set, Act, TtlExpired, End}
use Rattle.of_machine.specs.declared.data.Step.{Step}
use Rattle.of_datapath.specs.{declared.effect.Effect.Effect, declared.effect.Effect.TheVariants.Answer, declared.effect.Effect.TheVariants.Sent, declared.effect.Effect.TheVariants.Closed}
use Rattle.of_datapath.specs.Datapath.{Forwarding}
use Rattle.of_json.specs.Parts.{document_head, key, listed, match_object, number_member, quoted, text_member}
use Rattle.of_json.specs.Strings.{array_member}
use Rattle.of_values.specs.Numbers as numbers
use Rattle.of_values.specs.Values.{value_words}
use Rattle.of_trace.specs.Words.{flow_there}

-- the first member of a step
unfoldable pub step_member : List ℕ → List ℕ
step_member step = key (codes "step") ++ quoted step

-- the priority and the match of an entry
unfoldable pub flow_members : Option Flow → List ℕ
flow_members None = []
flow_members (Some flow) = number_member (codes "priority") flow.priority ++ 44 ∷ key (codes "match") ++ match_object flow.fields

-- numbers of more than 53 bits are strings
unfoldable pub hexadecimal_member : List ℕ → ℕ → ℕ → List ℕ
hexadecimal_member name least n = text_member name (numbers.hexadecimal least n)

-- the number of a port, or the name of a reserved one (OpenFlow 1.3.5, 7.2.1)
unfoldable pub port_member : ℕ → List ℕ
port_member port = if is_number port then number_member (codes "port") port else text_member (codes "port") (numbers.port_in_words port)

unfoldable pub action_members : Action → List ℕ
action_members (Output port max_len) = step_member (codes "output") ++ port_member port ++ number_member (codes "max_len") max_len
action_members (PushVlan type) = step_member (codes "push_vlan") ++ hexadecimal_member (codes "type") 4 type
action_members PopVlan = step_member (codes "pop_vlan")
action_members (Group group) = step_member (codes "group") ++ number_member (codes "group") group
action_members (SetNwTtl ttl) = step_member (codes "set_nw_ttl") ++ number_member (codes "ttl") ttl
action_members DecNwTtl = step_member (codes "dec_nw_ttl")
action_members (SetField field value) = step_member (codes "set") ++ text_member (codes "field") (name_of field) ++ text_member (codes "value") (value_words field value None)

unfoldable pub step_members : Forwarding → Step → List ℕ
step_members f (Miss table) = step_member (codes "miss") ++ number_member (codes "table") table
step_members f (Entry table place) = step_member (codes "entry") ++ number_member (codes "table") table ++ number_member (codes "entry") place ++ flow_members (flow_there f table place)
step_members f Apply = step_member (codes "apply")
step_members f Clear = step_member (codes "clear")
step_members f Write = step_member (codes "write")
step_members f (Metadata value mask) = step_member (codes "metadata") ++ hexadecimal_member (codes "value") 1 value ++ hexadecimal_member (codes "mask") 1 mask
step_members f (Goto table) = step_member (codes "goto") ++ number_member (codes "table") table
step_members f Set = step_member (codes "action set")
step_members f (Act action) = action_members action
step_members f TtlExpired = step_member (codes "TTL expired")
step_members f End = step_member (codes "end")

unfoldable pub step_object : Forwarding → Step → List ℕ
step_object f step = 123 ∷ step_members f step ++ 125 ∷ []

-- the first member of an effect
unfoldable pub effect_named : List ℕ → List ℕ
effect_named effect = key (codes "effect") ++ quoted effect

unfoldable pub effect_members : Effect → List ℕ
effect_members (Answer bytes) = effect_named (codes "message") ++ text_member (codes "message") (encode_lower bytes)
effect_members (Sent port frame) = effect_named (codes "frame") ++ number_member (codes "port") port ++ text_member (codes "frame") (encode_lower frame)
effect_members Closed = effect_named (codes "closed")

unfoldable pub effect_object : Effect → List ℕ
effect_object effect = 123 ∷ effect_members effect ++ 125 ∷ []

-- the frame and the port at which it is received
unfoldable pub head_members : ℕ → List ℕ → List ℕ
head_members port frame = document_head (codes "trace") ++ number_member (codes "in_port") port ++ text_member (codes "frame") (encode_lower frame)

-- THE DOCUMENT
unfoldable pub trace_json : Forwarding → ℕ → List ℕ → List Step → List Effect → List ℕ
trace_json f port frame steps effects =
    123 ∷ head_members port frame ++ array_member (codes "steps") (listed (step_object f) steps)
    ++ array_member (codes "effects") (listed effect_object effects) ++ 125 ∷ 10 ∷ []

-- WHAT AN ERROR MEANS for a line, and what to do (OpenFlow 1.3.5, 7.4.4).
use Rattle.std.specs.Prelude.{ℕ, List, [], ◌∷◌, codes, Option, slice_index_or}
use Rattle.std.specs.List.{slice_get}

-- OFPET_BAD_ACTION
abbrev pub bad_action : List (List ℕ)
bad_action =
    codes "this switch does not have the action"
    ∷ codes "the length of an action is not that of its type"
    ∷ codes "this switch has no actions of experimenters"
    ∷ codes "this switch has no actions of experimenters"
    ∷ codes "output: a port has a number from 1 to 4294967040, or is 4294967288 (IN_PORT), 4294967291 (FLOOD), 4294967292 (ALL) or 4294967293 (CONTROLLER)"
    ∷ codes "push_vlan: the type of a tag is 0x8100 or 0x88a8"
    ∷ codes "the action is not permitted"
    ∷ codes "a list has at most 64 actions"
    ∷ codes "this switch has no queues"
    ∷ codes "no group has this number: define the group before the flows (import: add the output of dump-groups)"
    ∷ codes "set: the match does not have what the field needs, such as eth_type 0x0800 (ip) for ipv4_dst, or ip_proto 6 (tcp) for tcp_dst"
    ∷ codes "the actions cannot be applied in this order"
    ∷ codes "the tag is not supported"
    ∷ codes "set: this field can be matched, but not set"
    ∷ codes "set: the length of the value is not that of the field"
    ∷ codes "set: the value has bits that the field does not have"
    ∷ []

-- OFPET_BAD_INSTRUCTION
abbrev pub bad_instruction : List (List ℕ)
bad_instruction =
    codes "OpenFlow 1.3 does not have the instruction"
    ∷ codes "this switch has the instructions apply, clear, write, metadata and goto"
    ∷ codes "goto: it leads to a later table, up to 15"
    ∷ codes "metadata: these bits cannot be written"
    ∷ codes "metadata: this mask cannot be used"
    ∷ codes "this switch has no instructions of experimenters"
    ∷ codes "this switch has no instructions of experimenters"
    ∷ codes "the length of an instruction is not that of its type"
    ∷ codes "the instruction is not permitted"
    ∷ []

-- OFPET_BAD_MATCH
abbrev pub bad_match : List (List ℕ)
bad_match =
    codes "the match is not a list of OXM fields"
    ∷ codes "the length of the match or of one of its fields is wrong"
    ∷ codes "the match has a tag that is not supported"
    ∷ codes "an Ethernet address cannot have this mask"
    ∷ codes "an IP address cannot have this mask"
    ∷ codes "match: the value has bits outside its mask, which must be 0"
    ∷ codes "this switch does not have the field"
    ∷ codes "match: the value has bits that the field does not have"
    ∷ codes "match: this field has no mask in OpenFlow 1.3; match each value with a flow of its own"
    ∷ codes "match: a field needs others before it, such as eth_type 0x0800 (ip) for ipv4_dst, or ip_proto 6 (tcp) for tcp_dst"
    ∷ codes "match: the field is there twice"
    ∷ codes "the match is not permitted"
    ∷ []

-- OFPET_FLOW_MOD_FAILED
abbrev pub flow_mod_failed : List (List ℕ)
flow_mod_failed =
    codes "the flow cannot be added"
    ∷ codes "a table holds 4096 flows, and this is one more"
    ∷ codes "this switch has the tables 0 to 15 (import: --renumber gives them numbers)"
    ∷ codes "an earlier flow of this table has the same priority and match: remove one of the two, or change a priority"
    ∷ codes "the flow is not permitted"
    ∷ codes "the timeout is not supported"
    ∷ codes "the commands for flows are add, modify, modify_strict, delete and delete_strict"
    ∷ codes "the flags of a flow are a sum of 1 (send_flow_rem), 8 (no_packet_counts) and 16 (no_byte_counts)"
    ∷ []

-- OFPET_GROUP_MOD_FAILED
abbrev pub group_mod_failed : List (List ℕ)
group_mod_failed =
    codes "a group with this number already exists"
    ∷ codes "a group has a number up to 4294967040, and an indirect group has one bucket"
    ∷ codes "weights are for SELECT groups, which this switch does not have"
    ∷ codes "a switch holds 256 groups"
    ∷ codes "a group holds 16 buckets"
    ∷ codes "the group cannot send packets to other groups"
    ∷ codes "the switch cannot watch this"
    ∷ codes "a chain has at most three groups: a group sends packets to a second, this one to a third, and none back"
    ∷ codes "no group has this number"
    ∷ codes "another group sends packets to this one: change it first"
    ∷ codes "this switch has the types all, indirect and ff"
    ∷ codes "the commands for groups are add, modify and delete"
    ∷ codes "the bucket is malformed"
    ∷ codes "each bucket of a fast failover group watches a port, or a group that exists"
    ∷ codes "the group is not permitted"
    ∷ []

-- THE TABLE: the sentences of each type's codes, from type 0 and code 0 on; the first two types are not those of a group or a flow
abbrev pub all_sentences : List (List (List ℕ))
all_sentences = [] ∷ [] ∷ bad_action ∷ bad_instruction ∷ bad_match ∷ flow_mod_failed ∷ group_mod_failed ∷ []

abbrev pub sentences_of : ℕ → List (List ℕ)
sentences_of kind = slice_index_or all_sentences kind []

abbrev pub sentence_of : ℕ → ℕ → Option (List ℕ)
sentence_of kind code = slice_get (sentences_of kind) code

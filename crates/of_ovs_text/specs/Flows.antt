-- FLOWS AS LINES (ovs-ofctl(8)): what has its default is not written, except for the table and the priority.
use Rattle.std.specs.Prelude.{ℕ, ◌==◌, bit_and, List, [], ◌∷◌, ◌++◌, codes, decimal, if◌then◌else◌}
use Rattle.of_lines.specs.declared.row.FlowHead.{FlowHead}
use Rattle.of_text.specs.Flows.{Flow}
use Rattle.of_values.specs.Numbers.{hexadecimal}
use Rattle.of_ovs_text.specs.{Parts.number_part, Parts.unless_default, Fields.match_in_words, Actions.instructions_in_words}

abbrev pub cookie_part : ℕ → List ℕ
cookie_part cookie = if cookie == 0 then [] else codes "cookie=" ++ hexadecimal 1 cookie ++ codes ","

abbrev pub flag_part : List ℕ → ℕ → ℕ → List ℕ
flag_part name flags flag = if bit_and flags flag == 0 then [] else name

unfoldable pub flags_part : ℕ → List ℕ
flags_part flags = flag_part (codes "send_flow_rem,") flags 1 ++ flag_part (codes "no_packet_counts,") flags 8 ++ flag_part (codes "no_byte_counts,") flags 16

-- all before the match
unfoldable pub flow_head_words : FlowHead → List ℕ
flow_head_words h =
    cookie_part h.cookie ++ number_part (codes "table=") h.table
    ++ unless_default (codes "idle_timeout=") 0 h.idle ++ unless_default (codes "hard_timeout=") 0 h.hard
    ++ flags_part h.flags ++ (codes "priority=" ++ decimal h.priority)

-- A FLOW: `cookie=0x1,table=0,idle_timeout=5,priority=100,ip,nw_src=10.0.0.0/8,actions=output:2`
unfoldable pub flow_line : Flow → List ℕ
flow_line f = flow_head_words f.head ++ match_in_words f.fields ++ codes ",actions=" ++ instructions_in_words f.instructions ++ 10 ∷ []

-- THE NUMBERS OF THE STANDARD (OpenFlow 1.3.5), written apart from the tables that code and definitions read.
use Rattle.std.specs.Prelude.{ℕ, Bool, true, false, List, [], ◌∷◌}
use Rattle.of_formats.specs.{declared.messages.Size.Size, declared.messages.Size.TheVariants.Exact, declared.messages.Size.TheVariants.Least, declared.messages.Way.Way}
use Rattle.of_formats.specs.declared.messages.Way.TheVariants.{Both, Neither, Read, Sent}
use Rattle.of_messages.specs.declared.message.FlowModCommand.{FlowModCommand}
use Rattle.of_messages.specs.declared.message.FlowModCommand.TheVariants.{Add, Modify, Delete}

-- 7.2.5 and 5.10: the type of an action, and its place in the execution of an action set: pops of a tag, pushes, decrements of the TTL, TTLs that are set, SET_FIELD
-- (of the field with number N at 4 + N), GROUP, OUTPUT
abbrev pub actions : List (ℕ × ℕ)
actions = (0, 41) ∷ (17, 1) ∷ (18, 0) ∷ (22, 40) ∷ (23, 3) ∷ (24, 2) ∷ (25, 4) ∷ []

-- 7.1 and the structs of 7.3 to 7.5: type, bytes, who sends it, and whether a slave may not (6.3.4)
abbrev pub messages : List (ℕ × Size × Way × Bool)
messages =
    (0, Least 8, Both, false) ∷ (1, Least 12, Both, false) ∷ (2, Least 8, Read, false) ∷ (3, Least 8, Both, false) ∷ (4, Least 8, Neither, false)
    ∷ (5, Exact 8, Read, false) ∷ (6, Exact 32, Sent, false) ∷ (7, Exact 8, Read, false) ∷ (8, Exact 12, Sent, false) ∷ (9, Exact 12, Read, false)
    ∷ (10, Least 32, Sent, false) ∷ (11, Least 56, Sent, false) ∷ (12, Exact 80, Sent, false) ∷ (13, Least 24, Read, true) ∷ (14, Least 56, Read, true)
    ∷ (15, Least 16, Read, true) ∷ (16, Exact 40, Read, true) ∷ (17, Exact 16, Read, true) ∷ (18, Least 16, Read, false) ∷ (19, Least 16, Sent, false)
    ∷ (20, Exact 8, Read, false) ∷ (21, Exact 8, Sent, false) ∷ (22, Least 8, Neither, false) ∷ (23, Least 8, Neither, false) ∷ (24, Exact 24, Read, false)
    ∷ (25, Exact 24, Sent, false) ∷ (26, Exact 8, Read, false) ∷ (27, Exact 32, Sent, false) ∷ (28, Exact 32, Read, false) ∷ (29, Least 8, Neither, true) ∷ []

-- 7.3.4.1, ofp_flow_mod_command
abbrev pub commands : List FlowModCommand
commands = Add ∷ Modify false ∷ Modify true ∷ Delete false ∷ Delete true ∷ []

-- 7.2.1, ofp_port_no: MAX, IN_PORT, TABLE, NORMAL, FLOOD, ALL, CONTROLLER, LOCAL, ANY
abbrev pub reserved_ports : List ℕ
reserved_ports = 0xffffff00 ∷ 0xfffffff8 ∷ 0xfffffff9 ∷ 0xfffffffa ∷ 0xfffffffb ∷ 0xfffffffc ∷ 0xfffffffd ∷ 0xfffffffe ∷ 0xffffffff ∷ []

-- 7.3.4.2, ofp_group: MAX, ALL, ANY
abbrev pub group_numbers : List ℕ
group_numbers = 0xffffff00 ∷ 0xfffffffc ∷ 0xffffffff ∷ []

-- 7.3.4.1, ofp_flow_mod_flags: SEND_FLOW_REM, CHECK_OVERLAP, RESET_COUNTS, NO_PKT_COUNTS, NO_BYT_COUNTS
abbrev pub flow_mod_flags : List ℕ
flow_mod_flags = 1 ∷ 2 ∷ 4 ∷ 8 ∷ 16 ∷ []

-- OFPTT_ALL (7.3.4.1), OFP_NO_BUFFER (7.4.1), OFPCML_NO_BUFFER (7.2.5)
abbrev pub further_numbers : List ℕ
further_numbers = 0xff ∷ 0xffffffff ∷ 0xffff ∷ []

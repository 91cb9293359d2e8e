-- What a new switch does at short sequences of events, computed from the definitions.
use Rattle.std.proofs.Common.{◌≡◌, ℕ, true, List, [], ◌∷◌, ◌++◌, take, drop, refl}
use Rattle.std.specs.Prelude.{replicate}
use Rattle.of_datapath.specs.declared.effect.Effect.TheVariants.{Answer, Sent, Closed}
use Rattle.of_switch.specs.{declared.port_change.PortChange.TheVariants.Add, declared.switch_error.SwitchError.TheVariants.NotConnected, declared.event.Event.Event}
use Rattle.of_switch.specs.declared.event.Event.TheVariants.{Connect, Chunk, Frame, Ports}
use Rattle.of_switch.{specs.State.start, specs.Runs.Report, specs.Runs.Gives, specs.Runs.IsRefused, specs.Runs.run, proofs.OnLiterals.switch_on_literals}

-- BYTES

-- the HELLO of the switch: version 4, with the bitmap of its versions (7.5.1)
abbrev pub own_hello : List ℕ
own_hello = 0x04 ∷ 0x00 ∷ 0x00 ∷ 0x10 ∷ 0x00 ∷ 0x00 ∷ 0x00 ∷ 0x00 ∷ 0x00 ∷ 0x01 ∷ 0x00 ∷ 0x08 ∷ 0x00 ∷ 0x00 ∷ 0x00 ∷ 0x10 ∷ []

-- the HELLO of a controller
abbrev pub hello : List ℕ
hello = 0x04 ∷ 0x00 ∷ 0x00 ∷ 0x08 ∷ 0x00 ∷ 0x00 ∷ 0x00 ∷ 0x01 ∷ []

-- a header whose length is 7
abbrev pub bad_header : List ℕ
bad_header = 0x04 ∷ 0x05 ∷ 0x00 ∷ 0x07 ∷ 0x00 ∷ 0x00 ∷ 0x00 ∷ 0x08 ∷ []

-- BAD_REQUEST, BAD_LEN with that header (7.4.4)
abbrev pub bad_length : List ℕ
bad_length = 0x04 ∷ 0x01 ∷ 0x00 ∷ 0x14 ∷ 0x00 ∷ 0x00 ∷ 0x00 ∷ 0x08 ∷ 0x00 ∷ 0x01 ∷ 0x00 ∷ 0x06 ∷ 0x04 ∷ 0x05 ∷ 0x00 ∷ 0x07 ∷ 0x00 ∷ 0x00 ∷ 0x00 ∷ 0x08 ∷ []

-- a FLOW_MOD (7.3.4.1): ADD to table 0 with priority 10, no buffer; IN_PORT is 1; APPLY_ACTIONS of OUTPUT to 2
abbrev pub flow_mod : List ℕ
flow_mod =
    (0x04 ∷ 0x0e ∷ 0x00 ∷ 0x58 ∷ 0x00 ∷ 0x00 ∷ 0x00 ∷ 0x02 ∷ [])
    ++ (0x00 ∷ 0x00 ∷ 0x00 ∷ 0x00 ∷ 0x00 ∷ 0x00 ∷ 0x00 ∷ 0x00 ∷ [])
    ++ (0x00 ∷ 0x00 ∷ 0x00 ∷ 0x00 ∷ 0x00 ∷ 0x00 ∷ 0x00 ∷ 0x00 ∷ [])
    ++ (0x00 ∷ 0x00 ∷ 0x00 ∷ 0x00 ∷ 0x00 ∷ 0x00 ∷ 0x00 ∷ 0x0a ∷ [])
    ++ (0xff ∷ 0xff ∷ 0xff ∷ 0xff ∷ [])
    ++ (0xff ∷ 0xff ∷ 0xff ∷ 0xff ∷ [])
    ++ (0xff ∷ 0xff ∷ 0xff ∷ 0xff ∷ [])
    ++ (0x00 ∷ 0x00 ∷ 0x00 ∷ 0x00 ∷ [])
    ++ (0x00 ∷ 0x01 ∷ 0x00 ∷ 0x0c ∷ 0x80 ∷ 0x00 ∷ 0x00 ∷ 0x04 ∷ 0x00 ∷ 0x00 ∷ 0x00 ∷ 0x01 ∷ 0x00 ∷ 0x00 ∷ 0x00 ∷ 0x00 ∷ [])
    ++ (0x00 ∷ 0x04 ∷ 0x00 ∷ 0x18 ∷ 0x00 ∷ 0x00 ∷ 0x00 ∷ 0x00 ∷ [])
    ++ (0x00 ∷ 0x00 ∷ 0x00 ∷ 0x10 ∷ 0x00 ∷ 0x00 ∷ 0x00 ∷ 0x02 ∷ 0x00 ∷ 0x00 ∷ 0x00 ∷ 0x00 ∷ 0x00 ∷ 0x00 ∷ 0x00 ∷ 0x00 ∷ [])

-- a GROUP_MOD (7.3.4.2): ADD of group 1, INDIRECT, whose bucket has OUTPUT to 2
abbrev pub group_mod : List ℕ
group_mod =
    (0x04 ∷ 0x0f ∷ 0x00 ∷ 0x30 ∷ 0x00 ∷ 0x00 ∷ 0x00 ∷ 0x09 ∷ [])
    ++ (0x00 ∷ 0x00 ∷ 0x02 ∷ 0x00 ∷ 0x00 ∷ 0x00 ∷ 0x00 ∷ 0x01 ∷ [])
    ++ (0x00 ∷ 0x20 ∷ 0x00 ∷ 0x00 ∷ 0xff ∷ 0xff ∷ 0xff ∷ 0xff ∷ [])
    ++ (0xff ∷ 0xff ∷ 0xff ∷ 0xff ∷ 0x00 ∷ 0x00 ∷ 0x00 ∷ 0x00 ∷ [])
    ++ (0x00 ∷ 0x00 ∷ 0x00 ∷ 0x10 ∷ 0x00 ∷ 0x00 ∷ 0x00 ∷ 0x02 ∷ 0x00 ∷ 0x00 ∷ 0x00 ∷ 0x00 ∷ 0x00 ∷ 0x00 ∷ 0x00 ∷ 0x00 ∷ [])

-- one that DELETEs it
abbrev pub group_delete : List ℕ
group_delete = 0x04 ∷ 0x0f ∷ 0x00 ∷ 0x10 ∷ 0x00 ∷ 0x00 ∷ 0x00 ∷ 0x09 ∷ 0x00 ∷ 0x02 ∷ 0x00 ∷ 0x00 ∷ 0x00 ∷ 0x00 ∷ 0x00 ∷ 0x01 ∷ []

-- a FLOW_MOD: ADD to table 0 with priority 10 and the flag SEND_FLOW_REM; IN_PORT is 1; APPLY_ACTIONS of GROUP 1
abbrev pub group_flow : List ℕ
group_flow =
    (0x04 ∷ 0x0e ∷ 0x00 ∷ 0x50 ∷ 0x00 ∷ 0x00 ∷ 0x00 ∷ 0x09 ∷ [])
    ++ (0x00 ∷ 0x00 ∷ 0x00 ∷ 0x00 ∷ 0x00 ∷ 0x00 ∷ 0x00 ∷ 0x00 ∷ [])
    ++ (0x00 ∷ 0x00 ∷ 0x00 ∷ 0x00 ∷ 0x00 ∷ 0x00 ∷ 0x00 ∷ 0x00 ∷ [])
    ++ (0x00 ∷ 0x00 ∷ 0x00 ∷ 0x00 ∷ 0x00 ∷ 0x00 ∷ 0x00 ∷ 0x0a ∷ [])
    ++ (0xff ∷ 0xff ∷ 0xff ∷ 0xff ∷ [])
    ++ (0xff ∷ 0xff ∷ 0xff ∷ 0xff ∷ [])
    ++ (0xff ∷ 0xff ∷ 0xff ∷ 0xff ∷ [])
    ++ (0x00 ∷ 0x01 ∷ 0x00 ∷ 0x00 ∷ [])
    ++ (0x00 ∷ 0x01 ∷ 0x00 ∷ 0x0c ∷ 0x80 ∷ 0x00 ∷ 0x00 ∷ 0x04 ∷ 0x00 ∷ 0x00 ∷ 0x00 ∷ 0x01 ∷ 0x00 ∷ 0x00 ∷ 0x00 ∷ 0x00 ∷ [])
    ++ (0x00 ∷ 0x04 ∷ 0x00 ∷ 0x10 ∷ 0x00 ∷ 0x00 ∷ 0x00 ∷ 0x00 ∷ [])
    ++ (0x00 ∷ 0x16 ∷ 0x00 ∷ 0x08 ∷ 0x00 ∷ 0x00 ∷ 0x00 ∷ 0x01 ∷ [])

-- a FLOW_REMOVED (7.4.2) of that flow, before any packet: GROUP_DELETE
abbrev pub flow_removed : List ℕ
flow_removed =
    (0x04 ∷ 0x0b ∷ 0x00 ∷ 0x40 ∷ 0x00 ∷ 0x00 ∷ 0x00 ∷ 0x00 ∷ [])
    ++ (0x00 ∷ 0x00 ∷ 0x00 ∷ 0x00 ∷ 0x00 ∷ 0x00 ∷ 0x00 ∷ 0x00 ∷ [])
    ++ (0x00 ∷ 0x0a ∷ 0x03 ∷ 0x00 ∷ [])
    ++ (0x00 ∷ 0x00 ∷ 0x00 ∷ 0x00 ∷ 0x00 ∷ 0x00 ∷ 0x00 ∷ 0x00 ∷ [])
    ++ (0x00 ∷ 0x00 ∷ 0x00 ∷ 0x00 ∷ [])
    ++ (0x00 ∷ 0x00 ∷ 0x00 ∷ 0x00 ∷ 0x00 ∷ 0x00 ∷ 0x00 ∷ 0x00 ∷ [])
    ++ (0x00 ∷ 0x00 ∷ 0x00 ∷ 0x00 ∷ 0x00 ∷ 0x00 ∷ 0x00 ∷ 0x00 ∷ [])
    ++ (0x00 ∷ 0x01 ∷ 0x00 ∷ 0x0c ∷ 0x80 ∷ 0x00 ∷ 0x00 ∷ 0x04 ∷ 0x00 ∷ 0x00 ∷ 0x00 ∷ 0x01 ∷ 0x00 ∷ 0x00 ∷ 0x00 ∷ 0x00 ∷ [])

-- from 02:00:00:00:00:01 to 02:00:00:00:00:02, of the EtherType 0x88b5, with zeros to 60 bytes
abbrev pub frame : List ℕ
frame = (0x02 ∷ 0x00 ∷ 0x00 ∷ 0x00 ∷ 0x00 ∷ 0x02 ∷ 0x02 ∷ 0x00 ∷ 0x00 ∷ 0x00 ∷ 0x00 ∷ 0x01 ∷ 0x88 ∷ 0xb5 ∷ []) ++ replicate 46 0

-- EVENTS

-- a port whose link is up
abbrev pub port : ℕ → List ℕ → List ℕ → Event
port number hw name = Ports (Add number hw name true)

abbrev pub three_ports : List Event
three_ports =
    port 1 (0x02 ∷ 0x00 ∷ 0x00 ∷ 0x00 ∷ 0x00 ∷ 0xa1 ∷ []) (0x70 ∷ 0x31 ∷ replicate 14 0)
    ∷ port 2 (0x02 ∷ 0x00 ∷ 0x00 ∷ 0x00 ∷ 0x00 ∷ 0xa2 ∷ []) (0x70 ∷ 0x32 ∷ replicate 14 0)
    ∷ port 3 (0x02 ∷ 0x00 ∷ 0x00 ∷ 0x00 ∷ 0x00 ∷ 0xa3 ∷ []) (0x70 ∷ 0x33 ∷ replicate 14 0)
    ∷ []

abbrev pub reports_of : List Event → List Report
reports_of events = (run events (start 1)).reports

-- WHAT THEY GIVE

-- the switch sends its HELLO on connecting, and answers nothing to that of the controller
pub hello_is_answered : reports_of (Connect ∷ Chunk hello ∷ []) ≡ Gives (Answer own_hello ∷ []) ∷ Gives [] ∷ []
unfolding switch_on_literals
hello_is_answered = refl

-- a header whose length is below 8 is answered by an error, and the connection ends
pub bad_length_ends_the_connection : reports_of (Connect ∷ Chunk hello ∷ Chunk bad_header ∷ Chunk hello ∷ [])
    ≡ Gives (Answer own_hello ∷ []) ∷ Gives [] ∷ Gives (Answer bad_length ∷ Closed ∷ []) ∷ IsRefused NotConnected ∷ []
unfolding switch_on_literals
bad_length_ends_the_connection = refl

-- a flow that sends frames of port 1 out of port 2 does so
pub flow_forwards_frame : reports_of (three_ports ++ Connect ∷ Chunk hello ∷ Chunk flow_mod ∷ Frame 1 frame ∷ [])
    ≡ replicate 3 (Gives []) ++ Gives (Answer own_hello ∷ []) ∷ Gives [] ∷ Gives [] ∷ Gives (Sent 2 frame ∷ []) ∷ []
unfolding switch_on_literals
flow_forwards_frame = refl

-- so it does where the FLOW_MOD is received in three chunks, and not before the last of them
pub chunks_do_the_same : reports_of (three_ports ++ Connect ∷ Chunk hello
    ∷ Chunk (take 7 flow_mod) ∷ Frame 1 frame
    ∷ Chunk (take 43 (drop 7 flow_mod)) ∷ Frame 1 frame
    ∷ Chunk (drop 50 flow_mod) ∷ Frame 1 frame ∷ [])
    ≡ replicate 3 (Gives []) ++ Gives (Answer own_hello ∷ []) ∷ Gives []
    ∷ Gives [] ∷ Gives []
    ∷ Gives [] ∷ Gives []
    ∷ Gives [] ∷ Gives (Sent 2 frame ∷ []) ∷ []
unfolding switch_on_literals
chunks_do_the_same = refl

-- a flow that sends frames of port 1 to a group sends them out of the port of its bucket
pub group_forwards_frame : reports_of (three_ports ++ Connect ∷ Chunk hello ∷ Chunk group_mod ∷ Chunk group_flow ∷ Frame 1 frame ∷ [])
    ≡ replicate 3 (Gives []) ++ Gives (Answer own_hello ∷ []) ∷ Gives [] ∷ Gives [] ∷ Gives [] ∷ Gives (Sent 2 frame ∷ []) ∷ []
unfolding switch_on_literals
group_forwards_frame = refl

-- the flow is removed with its group, and the controller is notified; then there is no group to delete, which is no fault, and no flow
pub flow_goes_with_group : reports_of (three_ports ++ Connect ∷ Chunk hello ∷ Chunk group_mod ∷ Chunk group_flow ∷ Chunk group_delete ∷ Chunk group_delete ∷ Frame 1 frame ∷ [])
    ≡ replicate 3 (Gives []) ++ Gives (Answer own_hello ∷ []) ∷ Gives [] ∷ Gives [] ∷ Gives [] ∷ Gives (Answer flow_removed ∷ []) ∷ Gives [] ∷ Gives [] ∷ []
unfolding switch_on_literals
flow_goes_with_group = refl

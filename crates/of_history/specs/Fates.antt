-- THE FATE OF A FRAME that is received at a port (OpenFlow 1.3.5, 5.1): the steps of its run and what leaves, in words; or why it is not received.
use Rattle.std.specs.Prelude.{ℕ, List, [], ◌∷◌, ◌++◌, codes, Option, Some, None, if◌then◌else◌}
use Rattle.std.specs.List.{flat_map}
use Rattle.of_headers.specs.{declared.headers.FrameFault.FrameFault, Faults.frame_fault}
use Rattle.of_ports.specs.{declared.port.Port.Port, Ports.is_live, Ports.may_receive, Ports.port_at}
use Rattle.of_machine.specs.{declared.data.Item.Item, declared.data.Step.Step, Rows.Lookup as LookUp, Rows.entering, Runs.run_of}
use Rattle.of_datapath.specs.{Datapath.Forwarding, Datapath.world_of, DryRun.received_steps}
use Rattle.of_text.specs.Lines.{ended}
use Rattle.of_json.specs.LeavingWords.{side_words}
use Rattle.of_history.specs.Ways.{line_with, winner_at}

-- a step, with the entry that it found
abbrev pub fate_line : Forwarding → Step → List ℕ
fate_line f s = line_with (winner_at f s) s

abbrev pub fate_lines : Forwarding → List Step → List ℕ
fate_lines f steps = flat_map (λ s. ended (fate_line f s)) steps

-- what the run of a received frame emits: items, and not messages, so neither buffers nor roles, masks and connections matter
abbrev pub received_items : ℕ → List ℕ → Forwarding → List Item
received_items port frame f = (run_of (world_of f) (entering frame port) (LookUp 0 ∷ [])).items

unfoldable pub received_fate : ℕ → List ℕ → Forwarding → List ℕ
received_fate port frame f = fate_lines f (received_steps port frame f) ++ side_words [] (received_items port frame f)

-- a frame has 14 to 9216 bytes
unfoldable pub fate_unless_fault : ℕ → List ℕ → Forwarding → Option FrameFault → List ℕ
fate_unless_fault port frame f (Some fault) = codes "not received: a frame has 14 to 9216 bytes\n"
fate_unless_fault port frame f None = received_fate port frame f

-- a port that is down, or for which the controller set OFPPC_NO_RECV, receives nothing (7.2.1)
unfoldable pub deaf_port : Port → List ℕ
deaf_port p = if is_live p then codes "not received: the port receives nothing\n" else codes "not received: the port is down\n"

unfoldable pub fate_at : ℕ → List ℕ → Forwarding → Option Port → List ℕ
fate_at port frame f None = codes "not received: there is no such port\n"
fate_at port frame f (Some p) = if may_receive p then fate_unless_fault port frame f (frame_fault frame) else deaf_port p

unfoldable pub fate : ℕ → List ℕ → Forwarding → List ℕ
fate port frame f = fate_at port frame f (port_at f.ports port)

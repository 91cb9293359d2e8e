-- WHICH FRAMES A SWITCH RECEIVES, and what the run of one emits (OpenFlow 1.3.5, 4.4 and 5.1).
use Rattle.std.specs.Prelude.{◌≡◌, ℕ, ◌≤◌, ◌<◌, ◌^◌, true, List, [], ◌∷◌, length, Some}
use Rattle.of_rewrite.specs.Frames.{IsFrame}
use Rattle.of_ports.specs.{declared.port.Port.Port, Ports.may_receive, Ports.port_at}
use Rattle.of_machine.specs.{declared.data.Item.Item, TheWorld.TheWorld, Rows.Lookup, Rows.entering, Runs.run_of}
use Rattle.of_symbolic_run.specs.{declared.frame_set.FrameSet.FrameSet, FrameSets.InFrames, PortNumbers.IsReceivingPort}

-- a frame of 14 to 9,216 bytes that comes in by a port that receives: no other takes a step (4.4)
pub record IsReceivedAt (w : TheWorld) (frame : List ℕ) (port : ℕ) : Type 0 where
  pub frame_is : IsFrame frame
  pub short : length frame ≤ 9216
  pub ingress : Port
  pub there : port_at w.ports port ≡ Some ingress
  pub receives : may_receive ingress ≡ true

-- each frame of the set that comes in by a port, whose number has 32 bits, comes in by one of these that receives
abbrev pub AreReceived : List Port → FrameSet → Type 0
AreReceived ports s = (frame : List ℕ) (port : ℕ) → port < 2 ^ 32 → InFrames s frame port → IsReceivingPort ports port

-- what its run emits, in order
abbrev pub items_at : TheWorld → List ℕ → ℕ → List Item
items_at w frame port = (run_of w (entering frame port) (Lookup 0 ∷ [])).items

-- For contracts of this crate and of of_diff: what two runs emit, for frames that came in.
use Rattle.std.specs.Prelude.{◌≡◌, ℕ, ◌==◌, Bool, true, false, not, ◌&&◌, ◌||◌, List, filter, map, if◌then◌else◌}
use Rattle.std.specs.Option.{option_map_or}
use Rattle.of_wire.specs.declared.limits.TheConstants.{OFPP_ALL, OFPP_CONTROLLER, OFPP_FLOOD, OFPP_IN_PORT}
use Rattle.of_actions.specs.declared.action.Action.{Action}
use Rattle.of_ports.specs.{declared.port.Port.Port, Ports.may_receive, Ports.may_send, Ports.port_at}
use Rattle.of_machine.specs.{declared.data.Packet.Packet, Rows.emission}
use Rattle.of_symbolic_run.specs.{declared.frame_set.FrameSet.FrameSet, declared.state.Emission.Emission, declared.state.Emission.TheVariants.InvalidTtl, declared.state.Emission.TheVariants.Output}
use Rattle.of_symbolic_run.specs.{declared.state.SymbolicPacket.SymbolicPacket, FrameSets.InFrames, States.items_for, States.items_of_emission, PortNumbers.IsReceivingPort}
use Rattle.of_alike.specs.{Alike.LeavesAlike, SamePorts.SamePorts, declared.alike.Compared.Compared, declared.alike.Where.Where}
use Rattle.of_alike.specs.declared.alike.Where.TheVariants.{Controller, Port as ByPort}

-- ---- for all frames

-- two emissions emit the same
abbrev pub EmitTheSame : Emission → Emission → Type 0
EmitTheSame x y = (ps qs : List Port) → SamePorts ps qs → (frame : List ℕ) (port : ℕ) → items_of_emission ps x frame port ≡ items_of_emission qs y frame port

-- two lists emit the same, in the same order
abbrev pub EmitAllTheSame : List Emission → List Emission → Type 0
EmitAllTheSame a b = (ps qs : List Port) → SamePorts ps qs → (frame : List ℕ) (port : ℕ) → items_for ps a frame port ≡ items_for qs b frame port

-- two OUTPUTs of the same packet emit the same
abbrev pub SendAlike : ℕ → ℕ → ℕ → ℕ → Type 0
SendAlike port max_len by most = (ps : List Port) (p : Packet) → (emission ps p port max_len).items ≡ (emission ps p by most).items

-- the packets are the same in what a controller is told of them
pub record AreSamePackets (p q : SymbolicPacket) : Type 0 where
  pub rewrites : p.rewrites ≡ q.rewrites
  pub metadata : p.metadata ≡ q.metadata
  pub cookie : p.cookie ≡ q.cookie
  pub table : p.table ≡ q.table
  pub miss : p.miss ≡ q.miss

-- both leave by the port as the same frame, and as the same packet if the port is CONTROLLER
pub record SameOutputs (p q : SymbolicPacket) (port : ℕ) : Type 0 where
  pub rewrites : p.rewrites ≡ q.rewrites
  pub told : port ≡ OFPP_CONTROLLER → AreSamePackets p q

-- ---- where the packet of an emission goes, of a frame that came in by port r

-- an OUTPUT to this port sends by each port except the ingress port (7.2.1)
abbrev pub is_flooding : ℕ → Bool
is_flooding port = (port == OFPP_FLOOD) || (port == OFPP_ALL)

-- an OUTPUT to this port goes to port q: that to IN_PORT to r alone, those to FLOOD and ALL to each port but r, and that to a number to its port, if this is not r (7.2.1)
abbrev pub output_goes_by : ℕ → ℕ → ℕ → Bool
output_goes_by r q port =
    if port == OFPP_IN_PORT then q == r
    else if is_flooding port then not (q == r)
    else (q == port) && (not (port == OFPP_CONTROLLER) && not (port == r))

-- the controller gets a packet of the emission
abbrev pub is_for_controller : Emission → Bool
is_for_controller (Output packet port max_len) = port == OFPP_CONTROLLER
is_for_controller (InvalidTtl packet) = true

-- it goes there
abbrev pub emits_at : ℕ → Where → Emission → Bool
emits_at r Controller e = is_for_controller e
emits_at r (ByPort q) (Output packet port max_len) = output_goes_by r q port
emits_at r (ByPort q) (InvalidTtl packet) = false

-- the emissions that do, in order
abbrev pub emitting_at : ℕ → Where → List Emission → List Emission
emitting_at r at es = filter (emits_at r at) es

-- the actions on the frame before it is emitted
abbrev pub rewrites_of : Emission → List Action
rewrites_of (Output packet port max_len) = packet.rewrites
rewrites_of (InvalidTtl packet) = packet.rewrites

-- both emit the same there: to the controller the same packet, by a port a frame after the same actions
abbrev pub IsSameAt : Where → Emission → Emission → Type 0
IsSameAt Controller x y = EmitTheSame x y
IsSameAt (ByPort q) x y = rewrites_of x ≡ rewrites_of y

abbrev pub AreSameAt : Where → List Emission → List Emission → Type 0
AreSameAt Controller xs ys = EmitAllTheSame xs ys
AreSameAt (ByPort q) xs ys = map rewrites_of xs ≡ map rewrites_of ys

-- those that go there emit the same, in the same order
abbrev pub EmitAlikeAt : ℕ → Where → List Emission → List Emission → Type 0
EmitAlikeAt r at a b = AreSameAt at (emitting_at r at a) (emitting_at r at b)

-- so it is if this port may send
abbrev pub IsAlikeBy : ℕ → List Emission → List Emission → Port → Type 0
IsAlikeBy r a b p = may_send p ≡ true → EmitAlikeAt r (ByPort p.number) a b

-- ---- what leaves by the ports of a switch

-- the port of this number is there, and may send
abbrev pub may_send_at : List Port → ℕ → Bool
may_send_at ports q = option_map_or may_send (port_at ports q) false

-- the emission sends a frame by port q
abbrev pub sends_by : List Port → ℕ → ℕ → Emission → Bool
sends_by ports r q e = may_send_at ports q && emits_at r (ByPort q) e

-- the actions on each frame that leaves by port q, in order
abbrev pub rewrites_sent : List Port → ℕ → ℕ → List Emission → List (List Action)
rewrites_sent ports r q es = map rewrites_of (filter (sends_by ports r q) es)

-- by each port frames leave after the same actions, in the same order
abbrev pub SendAlikeFrom : List Port → ℕ → List Emission → List Emission → Type 0
SendAlikeFrom ports r a b = (q : ℕ) → rewrites_sent ports r q a ≡ rewrites_sent ports r q b

-- ---- for all frames of a set

-- the same leaves for the frames of the set that came in by this port, if it receives
abbrev pub IsAlikeFrom : Compared → List Port → FrameSet → List Emission → List Emission → Port → Type 0
IsAlikeFrom c ports s a b p =
    may_receive p ≡ true → (frame : List ℕ) → InFrames s frame p.number → LeavesAlike c (items_for ports a frame p.number) (items_for ports b frame p.number)

-- the same leaves for each frame of the set that came in by a port that receives, also from a switch whose ports do the same
abbrev pub LeaveAlike : Compared → List Port → FrameSet → List Emission → List Emission → Type 0
LeaveAlike c ports s a b =
    (others : List Port) → SamePorts ports others → (frame : List ℕ) (port : ℕ) → IsReceivingPort ports port → InFrames s frame port →
    LeavesAlike c (items_for ports a frame port) (items_for others b frame port)

-- if this is so of what follows, it is so of all
abbrev pub AlikeIfRest : List Emission → List Emission → List Emission → List Emission → Type 0
AlikeIfRest a b left right = (c : Compared) (ports : List Port) (s : FrameSet) → LeaveAlike c ports s left right → LeaveAlike c ports s a b

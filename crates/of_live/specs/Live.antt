-- A SWITCH ON A NETWORK: what it holds, and what comes to it. Port N is VXLAN network N (RFC 7348).
use Rattle.std.specs.Prelude.{ℕ, ◌&&◌, ◌||◌, not, Bool, true, false, List, [], ◌∷◌, ◌++◌, Option, Some, None, Result, Ok, Err, if◌then◌else◌}
use Rattle.of_live.specs.Inputs.{Came, Time, Datagram, Opened, Heard, Ended, Row, is_opened}
use Rattle.of_live.specs.{Header.Encapsulated, Header.carried, declared.network.Endpoint.Endpoint, declared.network.Dropped.Dropped, declared.peers.Peer.Peer}
use Rattle.of_live.specs.Peers.{peer_of, may_be_from, heard_from}
use Rattle.of_session.specs.Session.{is_disconnected}
use Rattle.of_ports.specs.Ports.{has_port}
use Rattle.of_switch.specs.declared.event.Event.TheVariants.{Connect, Lost, Frame, Moment, Ports}
use Rattle.of_switch.specs.{declared.event.Event.Event, State.State, Steps.lost}
use Rattle.of_serve.specs.Turns.{due, left}
use Rattle.of_live.specs.declared.network.Dropped.TheVariants as dropped

pub record Live : Type 0 where
  pub state : State
  -- the rows of the event file that are still to come
  pub rows : List Event
  -- where the frames of ports go
  pub peers : List Peer
  -- bytes of the controller that were not handled yet
  pub unheard : List ℕ
  -- bytes for the controller that its connection has not taken yet
  pub waiting : List ℕ
  -- the moment since which it has taken none of them
  pub since : ℕ
  -- the moment that the clock told last
  pub time : ℕ
  -- the switch closed the connection, which is lost when the next input comes
  pub over : Bool

-- A DATAGRAM is a frame of the port of its network, or it is dropped
abbrev pub received_datagram : Live → Endpoint → Option Encapsulated → Result Encapsulated Dropped
received_datagram l from None = Err dropped.NoNetwork
received_datagram l from (Some d) = if not (has_port d.vni l.state.core.forwarding.ports)
    then Err dropped.NoSuchPort
    else if not (may_be_from from (peer_of d.vni l.peers)) then Err dropped.OtherPeer else Ok d

abbrev pub frame_event : Result Encapsulated Dropped → List Event
frame_event (Ok d) = Frame d.vni d.frame ∷ []
frame_event (Err why) = []

abbrev pub peers_after : Endpoint → Result Encapsulated Dropped → List Peer → List Peer
peers_after from (Ok d) peers = heard_from d.vni from peers
peers_after from (Err why) peers = peers

-- THE EVENTS of what comes

abbrev pub is_connected : Live → Bool
is_connected l = not (is_disconnected l.state.connection.phase)

-- first the loss of a connection that the switch closed, or in whose place another comes
abbrev pub is_lost_first : Came → Live → Bool
is_lost_first came l = l.over || (is_opened came && is_connected l)

abbrev pub loss : Bool → List Event
loss true = Lost ∷ []
loss false = []

-- the switch after that; what waited for the connection, or of it, is lost with it
abbrev pub begun : Came → Live → Live
begun came l = if is_lost_first came l then record l { state = lost l.state; unheard = []; waiting = []; over = false } else l

-- of rows that are written while the switch runs only frames and changes of ports are events
abbrev pub running_row_events : Event → List Event
running_row_events (Frame port frame) = Frame port frame ∷ []
running_row_events (Ports change) = Ports change ∷ []
running_row_events other = []

-- then those of what came. Without a connection there is nobody to lose. Bytes of the controller wait until they are handled.
abbrev pub coming_events : Came → Live → List Event
coming_events (Time now) l = Moment now ∷ due now l.rows
coming_events (Datagram from bytes) l = frame_event (received_datagram l from (carried bytes))
coming_events Opened l = Connect ∷ []
coming_events Ended l = loss (is_connected l)
coming_events (Row event) l = running_row_events event
coming_events other l = []

abbrev pub rows_after : Came → Live → List Event
rows_after (Time now) l = left now l.rows
rows_after other l = l.rows

abbrev pub peers_of : Came → Live → List Peer
peers_of (Datagram from bytes) l = peers_after from (received_datagram l from (carried bytes)) l.peers
peers_of other l = l.peers

-- without a connection bytes are lost
abbrev pub unheard_of : Came → Live → List ℕ
unheard_of (Heard bytes) l = if is_connected l then l.unheard ++ bytes else l.unheard
unheard_of other l = l.unheard

abbrev pub time_of : Came → Live → ℕ
time_of (Time now) l = now
time_of other l = l.time

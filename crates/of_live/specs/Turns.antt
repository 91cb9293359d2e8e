-- TURNS of a switch on a network: something comes, its events happen, what they give goes out.
use Rattle.std.specs.Prelude.{◌≡◌, ℕ, ◌+◌, ◌-◌, ◌≤◌, nat_lt, nat_le, not, ◌&&◌, ◌||◌, ◌==◌, Bool, true, false, List, [], ◌∷◌, ◌++◌, length, drop, map, Option, Some, None as Nobody, Result, Ok, Err, if◌then◌else◌}
use Rattle.std.specs.List.{flat_map}
use Rattle.of_live.specs.Inputs.{Came, Datagram, Opened, Ended, is_fault, is_ready}
use Rattle.of_live.specs.Acts.{Act, Told, Drops, Logs, Sends, Writes, Closes}
use Rattle.of_live.specs.Live.{Live, received_datagram, is_connected, begun, peers_of}
use Rattle.of_live.specs.Hearing.{Hearing, IsHearing, events_of, after_hearing, heard_events, wanted_of}
use Rattle.of_live.specs.{Header.Encapsulated, Header.carried, Header.sent_header, declared.network.Dropped.Dropped, declared.peers.Peer.Peer, Peers.peer_of}
use Rattle.of_datapath.specs.{declared.effect.Effect.Effect, declared.effect.Effect.TheVariants.Sent}
use Rattle.of_switch.specs.{declared.event.Event.Event, Runs.run, Runs.effects_in}
use Rattle.of_replay.specs.WrittenRows.{file_text}
use Rattle.of_live.specs.declared.network.Dropped.TheVariants as dropped

-- A TURN: what was heard, and how a write to the connection, if there was one, ended
pub record LiveTurn : Type 0 where
  pub hearing : Hearing
  pub taken : ℕ
  pub failed : Bool

-- WHAT ITS EVENTS GIVE, as the abstract switch does them. (A loss gives nothing.)
abbrev pub live_effects : Hearing → Live → List Effect
live_effects h l = let b = begun h.came l in effects_in (run (heard_events h b) b.state).reports

-- a frame that is sent is a datagram to where the port's frames go
abbrev pub sent_to : ℕ → List ℕ → Option Peer → Act
sent_to port frame Nobody = Drops dropped.NoPeer
sent_to port frame (Some p) = if nat_lt port 16777216 then Sends p.endpoint (sent_header port ++ frame) else Drops dropped.NoPeer

abbrev pub sent_in : List Peer → Effect → List Act
sent_in peers (Sent port frame) = sent_to port frame (peer_of port peers) ∷ []
sent_in peers other = []

abbrev pub sent_acts : Hearing → Live → List Act
sent_acts h l = flat_map (sent_in (peers_of h.came (begun h.came l))) (live_effects h l)

abbrev pub dropped_in : Result Encapsulated Dropped → List Act
dropped_in (Ok d) = []
dropped_in (Err why) = Drops why ∷ []

abbrev pub dropped_of : Came → Live → List Act
dropped_of (Datagram from bytes) l = dropped_in (received_datagram l from (carried bytes))
dropped_of other l = []

abbrev pub drops : Came → Live → List Act
drops came l = dropped_of came (begun came l)

-- the rows of the events, if the network keeps a log
abbrev pub rows_text : List Event → List ℕ
rows_text events = file_text (map Some events)

abbrev pub logs : Bool → List Event → List Act
logs keeps [] = []
logs keeps (e ∷ es) = if keeps then Logs (rows_text (e ∷ es)) true ∷ [] else []

-- THE ANSWERS go behind what waits for the connection, and wait until it takes them

abbrev pub may_write : Came → Live → Bool
may_write Opened l = true
may_write Ended l = false
may_write other l = is_connected l

abbrev pub has_no_bytes : List ℕ → Bool
has_no_bytes bytes = length bytes == 0

abbrev pub has_connection : Came → Live → Bool
has_connection came l = may_write came (begun came l)

abbrev pub waiting_bytes : Came → Live → List ℕ
waiting_bytes came l = (begun came l).waiting

abbrev pub offered : Hearing → Live → List ℕ
offered h l = (after_hearing h l).waiting

-- a connection that did not take all is offered more when it says that it takes bytes again
abbrev pub is_written : Hearing → Live → Bool
is_written h l = has_connection h.came l && not (has_no_bytes (offered h l)) && (has_no_bytes (waiting_bytes h.came l) || is_ready h.came)

abbrev pub is_left : LiveTurn → Live → List ℕ
is_left t l = if is_written t.hearing l then drop t.taken (offered t.hearing l) else offered t.hearing l

abbrev pub since : LiveTurn → Live → ℕ
since t l = let h = after_hearing t.hearing l in
    if has_no_bytes (waiting_bytes t.hearing.came l) || (is_written t.hearing l && nat_lt 0 t.taken) then h.time else h.since

-- a connection that takes nothing of what waits for ten seconds is given up
abbrev pub is_stuck : List ℕ → (since now : ℕ) → Bool
is_stuck left since now = not (has_no_bytes left) && nat_le 10000000000 (now - since)

-- and one for which more than 256 MiB are left
abbrev pub is_flooded : List ℕ → Bool
is_flooded left = nat_lt 268435456 (length left)

abbrev pub is_given_up : LiveTurn → Live → Bool
is_given_up t l = (is_written t.hearing l && t.failed) || is_stuck (is_left t l) (since t l) (after_hearing t.hearing l).time || is_flooded (is_left t l)

-- it is closed if it was given up, or if the switch closed it
abbrev pub is_closed : LiveTurn → Live → Bool
is_closed t l = has_connection t.hearing.came l && (is_given_up t l || not (is_connected (after_hearing t.hearing l)))

abbrev pub writes : LiveTurn → Live → List Act
writes t l = if is_written t.hearing l then Writes (offered t.hearing l) t.taken t.failed ∷ [] else []

abbrev pub closes : Bool → List Act
closes true = Closes ∷ []
closes false = []

-- ALL THAT PASSES in a turn: what came is told, and then this
abbrev pub results : Bool → LiveTurn → Live → List Act
results keeps t l = drops t.hearing.came l ++ logs keeps (events_of t.hearing l) ++ sent_acts t.hearing l ++ writes t l ++ closes (is_closed t l)

abbrev pub turn_acts : Bool → LiveTurn → Live → List Act
turn_acts keeps t l = Told (wanted_of l) t.hearing.came ∷ results keeps t l

-- and the switch after it
abbrev pub after_live_turn : LiveTurn → Live → Live
after_live_turn t l = let h = after_hearing t.hearing l in let ends = is_closed t l || not (has_connection t.hearing.came l) in record h {
  unheard = if ends then [] else h.unheard;
  waiting = if ends then [] else is_left t l;
  since = since t l;
  over = is_closed t l && is_connected h;
}

-- TURNS, one after the other
pub data LiveTurns : Type 0 where
  None : LiveTurns
  Then : (first : LiveTurns) → (last : LiveTurn) → LiveTurns

abbrev pub live_turn_count : LiveTurns → ℕ
live_turn_count None = 0
live_turn_count (Then ts t) = live_turn_count ts + 1

abbrev pub after_live_turns : Live → LiveTurns → Live
after_live_turns l None = l
after_live_turns l (Then ts t) = after_live_turn t (after_live_turns l ts)

abbrev pub passed : Bool → Live → LiveTurns → List Act
passed keeps l None = []
passed keeps l (Then ts t) = passed keeps l ts ++ turn_acts keeps t (after_live_turns l ts)

-- the network did not fail, the messages that are to be handled are, and a write takes no more than it is offered
abbrev pub IsLiveTurn : LiveTurn → Live → Type 0
IsLiveTurn t l = (is_fault t.hearing.came ≡ false) × IsHearing t.hearing l × (t.taken ≤ length (offered t.hearing l))

abbrev pub AreLiveTurns : Live → LiveTurns → Type 0
AreLiveTurns l None = Unit {0}
AreLiveTurns l (Then ts t) = AreLiveTurns l ts × IsLiveTurn t (after_live_turns l ts)

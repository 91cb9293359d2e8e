-- WHAT A SWITCH ON A NETWORK HEARS in a turn: what comes, and messages of its controller, so many that no frame waits long for them.
use Rattle.std.specs.Prelude.{◌≡◌, ℕ, zero, suc, nat_lt, not, ◌&&◌, Bool, List, [], ◌∷◌, ◌++◌, length, drop, map, Option, Some, None, if◌then◌else◌}
use Rattle.std.specs.{Option.is_some, List.flat_map}
use Rattle.of_session.specs.Stream.{First, Whole, Bad, Partial, beginning_of}
use Rattle.of_switch.specs.{declared.event.Event.Event, declared.event.Event.TheVariants.Chunk, Runs.happened, Runs.run, Runs.effects_in}
use Rattle.of_serve.specs.Turns.{answer_in, report_effects}
use Rattle.of_live.specs.Live.{Live, begun, coming_events, is_connected, is_lost_first, loss, peers_of, rows_after, time_of, unheard_of}
use Rattle.of_live.specs.{declared.network.Wanted.Wanted, Inputs.Came, Inputs.Datagram, Inputs.Row}

-- what came, and the messages that were handled
pub record Hearing : Type 0 where
  pub came : Came
  pub handled : List (List ℕ)

-- WHAT CAME; what its events give for the controller waits
abbrev pub after_coming : Came → Live → Live
after_coming came l = let b = begun came l in let ran = run (coming_events came b) b.state in record {
  state = ran.state;
  rows = rows_after came b;
  peers = peers_of came b;
  unheard = unheard_of came b;
  waiting = b.waiting ++ flat_map answer_in (effects_in ran.reports);
  since = b.since;
  time = time_of came b;
  over = b.over;
}

-- A MESSAGE: the first one of bytes, when it is whole. A header that no message has takes all bytes: where its message would end is not known.
abbrev pub first_as : First → List ℕ → Option (List ℕ)
first_as (Whole m rest) bytes = Some m
first_as Bad bytes = Some bytes
first_as Partial bytes = None

abbrev pub first_message : List ℕ → Option (List ℕ)
first_message bytes = first_as (beginning_of bytes) bytes

-- less than 1 MiB waits for the connection
abbrev pub has_room : Live → Bool
has_room l = nat_lt (length l.waiting) 1048576

-- the one that is handled next
abbrev pub next_message : Live → Option (List ℕ)
next_message l = if is_connected l && has_room l then first_message l.unheard else None

-- it is a chunk for the abstract switch, and what it gives for the controller waits
abbrev pub after_message : List ℕ → Live → Live
after_message m l = let h = happened (Chunk m) l.state in record l {
  state = h.state;
  unheard = drop (length m) l.unheard;
  waiting = l.waiting ++ flat_map answer_in (report_effects h.report);
}

abbrev pub after_messages : List (List ℕ) → Live → Live
after_messages [] l = l
after_messages (m ∷ ms) l = after_messages ms (after_message m l)

-- messages are handled until there is no next one, at most so many
abbrev pub AreHandled : ℕ → List (List ℕ) → Live → Type 0
AreHandled zero ms l = ms ≡ []
AreHandled (suc n) [] l = next_message l ≡ None
AreHandled (suc n) (m ∷ ms) l = (next_message l ≡ Some m) × AreHandled n ms (after_message m l)

-- none in a turn in which a frame may come, and else 64
abbrev pub most_handled : Came → ℕ
most_handled (Datagram from bytes) = 0
most_handled (Row event) = 0
most_handled other = 64

abbrev pub IsHearing : Hearing → Live → Type 0
IsHearing h l = AreHandled (most_handled h.came) h.handled (after_coming h.came l)

-- THE SWITCH AFTER IT, and all events
abbrev pub after_hearing : Hearing → Live → Live
after_hearing h l = after_messages h.handled (after_coming h.came l)

abbrev pub heard_events : Hearing → Live → List Event
heard_events h b = coming_events h.came b ++ map Chunk h.handled

abbrev pub events_of : Hearing → Live → List Event
events_of h l = loss (is_lost_first h.came l) ++ heard_events h (begun h.came l)

-- WHAT IT WANTS of the network: bytes of the controller, while there is room for answers and no message waits; and its next turn at
-- once, while a message can be handled
abbrev pub has_message : Live → Bool
has_message l = is_some (first_message l.unheard)

abbrev pub wanted_of : Live → Wanted
wanted_of l = record { hears = has_room l && not (has_message l); at_once = has_room l && has_message l }

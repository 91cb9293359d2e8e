-- WHAT A LOG RECORDS of turns.
use Rattle.std.specs.Prelude.{ℕ, true, List, [], ◌++◌}
use Rattle.std.specs.List.{flat_map}
use Rattle.of_datapath.specs.declared.effect.Effect.{Effect}
use Rattle.of_switch.specs.declared.event.Event.{Event}
use Rattle.of_live.specs.Turns.{LiveTurns, None, Then, live_effects, after_live_turns}
use Rattle.of_live.specs.{Live.Live, Hearing.events_of, Acts.Act, Acts.Logs}

-- all events of turns, in order
abbrev pub events : Live → LiveTurns → List Event
events l None = []
events l (Then ts t) = events l ts ++ events_of t.hearing (after_live_turns l ts)

-- and all that they gave
abbrev pub effects : Live → LiveTurns → List Effect
effects l None = []
effects l (Then ts t) = effects l ts ++ live_effects t.hearing (after_live_turns l ts)

-- the bytes of the log
abbrev pub logged_rows : Act → List ℕ
logged_rows (Logs rows true) = rows
logged_rows other = []

abbrev pub log_of : List Act → List ℕ
log_of acts = flat_map logged_rows acts

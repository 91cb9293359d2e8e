-- HOW A SWITCH ON A NETWORK ENDS, and what passed until then.
use Rattle.std.specs.Prelude.{◌≡◌, ◌⊎◌, ℕ, ◌<◌, Bool, true, false, List, [], ◌∷◌, ◌++◌, Option, if◌then◌else◌}
use Rattle.of_replay.specs.declared.event_file.Ended.TheVariants.{Done, BadRow, Text, ReadFault, WriteFault, NoMemory}
use Rattle.of_replay.specs.declared.event_file.Ended.{Ended as Ending}
use Rattle.of_live.specs.Turns.{LiveTurns, None, AreLiveTurns, live_turn_count, after_live_turns, passed, drops, rows_text}
use Rattle.of_live.specs.{Inputs.Came, Inputs.Fault, Live.Live, Hearing.Hearing, Hearing.IsHearing, Hearing.events_of, Hearing.wanted_of, Acts.Act, Acts.Records, Acts.Told, Acts.Logs}

-- After whole turns: all that were asked for; the network failed; the log could not be written; or memory ran out. Of a turn
-- that is not whole nothing goes out, and what came in it is told.
abbrev pub LiveEndsSo : Ending → (turns : ℕ) → (keeps : Bool) → Live → LiveTurns → Live → (old new : Option (List Act)) → Type 0
LiveEndsSo Done turns keeps l ts l' old new = (live_turn_count ts ≡ turns) × (l' ≡ after_live_turns l ts) × (Records old (passed keeps l ts) new)
LiveEndsSo (BadRow n) turns keeps l ts l' old new = ⊥
LiveEndsSo (Text fault) turns keeps l ts l' old new = ⊥
LiveEndsSo ReadFault turns keeps l ts l' old new =
    (live_turn_count ts < turns) × (l' ≡ after_live_turns l ts) × (Records old (passed keeps l ts ++ Told (wanted_of (after_live_turns l ts)) Fault ∷ []) new)
LiveEndsSo WriteFault turns keeps l ts l' old new =
    (live_turn_count ts < turns) × (keeps ≡ true) × ((h : Hearing) × (IsHearing h (after_live_turns l ts)) × (Records old (passed keeps l ts
    ++ (Told (wanted_of (after_live_turns l ts)) h.came ∷ drops h.came (after_live_turns l ts) ++ Logs (rows_text (events_of h (after_live_turns l ts))) false ∷ [])) new))
LiveEndsSo NoMemory turns keeps l ts l' old new =
    ((live_turn_count ts < turns) × ((came : Came) × (some : Bool) × (Records old (passed keeps l ts
    ++ Told (wanted_of (after_live_turns l ts)) came ∷ (if some then drops came (after_live_turns l ts) else [])) new)))
    ⊎ ((ts ≡ None) × (new ≡ old))

pub record Lives (ended : Ending) (turns : ℕ) (keeps : Bool) (l l' : Live) (old new : Option (List Act)) : Type 0 where
  pub ts : LiveTurns
  pub are : AreLiveTurns l ts
  pub ends : LiveEndsSo ended turns keeps l ts l' old new

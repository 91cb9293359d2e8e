-- A SWITCH THAT LIVES between the calls of a program, and what a call on it gives: what `replay` prints for the row of its event (docs/EVENTS.md).
use Rattle.std.specs.Prelude.{◌≡◌, ◌⊎◌, ℕ, List, [], Option, Some, None}
use Rattle.of_switch.specs.{declared.event.Event.Event, State.State, State.start}
use Rattle.of_replay.specs.{Output.report_text, RowTexts.row_happened}
use Rattle.of_c.specs.Answers.{IsOutOfMemory}

-- a new one, if there is memory for it
abbrev pub IsNew : ℕ → Option State → Type 0
IsNew dpid None = Unit {0}
IsNew dpid (Some s) = s ≡ start dpid

-- one step of the abstract switch, and its report. If memory runs out the switch is lost, and a lost switch gives nothing.
abbrev pub IsLiveStep : Option Event → (before after : Option State) → (status line : ℕ) → List ℕ → Type 0
IsLiveStep row before None status line text = IsOutOfMemory status line text
IsLiveStep row None (Some t) status line text = ⊥
IsLiveStep row (Some s) (Some t) status line text = (t ≡ (row_happened s row).state) × (text ≡ report_text (row_happened s row).report) × (status ≡ 0) × (line ≡ 0)

-- of a row that is read; a bad row changes nothing
abbrev pub IsLiveRow : Option (Option Event) → (before after : Option State) → (status line : ℕ) → List ℕ → Type 0
IsLiveRow None before after status line text = ((after ≡ before) × (status ≡ 2) × (line ≡ 1) × (text ≡ [])) ⊎ ((after ≡ None) × IsOutOfMemory status line text)
IsLiveRow (Some row) before after status line text = IsLiveStep row before after status line text

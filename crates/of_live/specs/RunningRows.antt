-- EVENT ROWS THAT ARE WRITTEN WHILE THE SWITCH RUNS: frames, and changes of ports. The clock and the network tell all else.
use Rattle.std.specs.Prelude.{Option, Some, None}
use Rattle.of_switch.specs.{declared.event.Event.Event, declared.event.Event.TheVariants.Frame, declared.event.Event.TheVariants.Ports}
use Rattle.of_live.specs.declared.running_rows.RunningRow.{RunningRow}
use Rattle.of_live.specs.declared.running_rows.RunningRow.TheVariants.{Happens, Skipped, Bad}

-- what a line is, of which an event file would have this row: an empty line or a comment, an event, or a bad row
abbrev pub running_row : Option (Option Event) → RunningRow
running_row None = Bad
running_row (Some None) = Skipped
running_row (Some (Some (Frame port bytes))) = Happens (Frame port bytes)
running_row (Some (Some (Ports change))) = Happens (Ports change)
running_row (Some (Some other)) = Bad

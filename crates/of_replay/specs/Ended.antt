-- How a run ends.
use Rattle.std.specs.Prelude.{ℕ}
use Rattle.of_replay.specs.{declared.event_file.Ended.Ended, declared.event_file.Ended.TheVariants.Done, declared.event_file.Ended.TheVariants.BadRow, declared.event_file.Ended.TheVariants.Text}

-- the exit statuses
abbrev pub status_of : Ended → ℕ
status_of Done = 0
status_of (BadRow n) = 2
status_of (Text f) = 2
status_of other = 3

-- How long something has existed (OpenFlow 1.3.5, 7.3.5.2): eight bytes.
use Rattle.std.specs.Prelude.{ℕ, ◌%◌, ◌^◌, List, [], ◌∷◌, take, drop}
use Rattle.of_formats.specs.Structs.{written}
use Rattle.of_formats.specs.Tables as tables
use Rattle.of_table.specs.Selecting.{seconds_since, nanoseconds_since}

-- seconds since a moment, cut to 32 bits; moments are in nanoseconds
abbrev pub seconds : ℕ → ℕ → ℕ
seconds now since = seconds_since now since % 2 ^ 32

-- for contracts inside this crate: duration_sec and duration_nsec, as each row has them
unfoldable pub duration : ℕ → ℕ → List ℕ
duration now since = written (take 2 (drop 3 tables.flow_stats)) (seconds now since ∷ nanoseconds_since now since ∷ [])

-- Pauses between calls of a controller that nobody answers.
use Rattle.std.specs.Prelude.{ℕ, ◌*◌, ◌^◌, min}
use Rattle.of_sockets.specs.declared.pauses.TheConstants.{FIRST_PAUSE, LONGEST_PAUSE}

-- the pauses from this one on, counted from 0, in milliseconds: each is twice the one before, and none is longer than the longest
abbrev pub pauses_from : ℕ → ℕ → ℕ
pauses_from first n = min LONGEST_PAUSE (first * 2 ^ n)

-- THE PAUSES after calls that nobody answers: 100 ms, 200 ms, 400 ms, and so on, up to 5 s
abbrev pub pauses : ℕ → ℕ
pauses = pauses_from FIRST_PAUSE

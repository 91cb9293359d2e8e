-- HOW MANY SETS OF FRAMES ARE UNDECIDED, in words.
use Rattle.std.specs.Prelude.{ℕ, ◌==◌, List, [], ◌++◌, codes, decimal, if◌then◌else◌}

abbrev pub set_words : ℕ → List ℕ
set_words n = if n == 1 then codes " set of frames: " else codes " sets of frames: "

-- before the reason: `undecided: 2 sets of frames: `
unfoldable pub undecided_sets : ℕ → List ℕ
undecided_sets n = codes "undecided: " ++ decimal n ++ set_words n

-- behind another number, in a summary
abbrev pub undecided_count : ℕ → List ℕ
undecided_count n = if n == 0 then [] else codes ", " ++ decimal n ++ codes " undecided"

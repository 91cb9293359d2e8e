-- IPV6 ADDRESSES IN WORDS (RFC 5952, 4): eight groups of 16 bits in hexadecimal without leading zeros, and `::` in place of the longest run of
-- groups of zeros, two at least, the first of several. A group is named by how many groups are behind it.
use Rattle.std.specs.Prelude.{ℕ, zero, suc, ◌+◌, ◌-◌, ◌*◌, ◌/◌, ◌%◌, ◌^◌, ◌==◌, ◌&&◌, Bool, true, List, [], ◌∷◌, ◌++◌, codes, Option, Some, None, if◌then◌else◌}
use Rattle.of_values.specs.{declared.ipv6.Run.Run, Numbers.digits}

abbrev pub group : ℕ → ℕ → ℕ
group behind n = n / 2 ^ (16 * behind) % 65536

-- ---- runs of zeros

-- so many groups are zeros, of which the last has that many behind it
unfoldable pub are_zeros : ℕ → ℕ → ℕ → Bool
are_zeros behind zero n = true
are_zeros behind (suc k) n = (group (behind + k) n == 0) && are_zeros behind k n

-- how many groups are behind the first run of that size: below the limit
unfoldable pub run_below : ℕ → ℕ → ℕ → Option ℕ
run_below size zero n = None
run_below size (suc behind) n = if are_zeros behind size n then Some behind else run_below size behind n

abbrev pub run_or : ℕ → Option ℕ → Option Run → Option Run
run_or size None shorter = shorter
run_or size (Some behind) shorter = Some (record { size = size; behind = behind })

-- the first of the longest runs that have more than one group, and at most one more than the limit
unfoldable pub longest_run : ℕ → ℕ → Option Run
longest_run zero n = None
longest_run (suc k) n = run_or (k + 2) (run_below (k + 2) (7 - k) n) (longest_run k n)

-- ---- groups in words

abbrev pub group_digits : ℕ → ℕ → List ℕ
group_digits behind n = digits 1 4 (group behind n)

-- so many groups, of which the last has `low` behind it, with colons between them
unfoldable pub further_groups : ℕ → ℕ → ℕ → List ℕ
further_groups low zero n = []
further_groups low (suc k) n = 58 ∷ group_digits (low + k) n ++ further_groups low k n

unfoldable pub groups : ℕ → ℕ → ℕ → List ℕ
groups low zero n = []
groups low (suc k) n = group_digits (low + k) n ++ further_groups low k n

-- AN ADDRESS
unfoldable pub around : Option Run → ℕ → List ℕ
around None n = groups 0 8 n
around (Some r) n = groups (r.size + r.behind) (8 - (r.size + r.behind)) n ++ codes "::" ++ groups 0 r.behind n

unfoldable pub ipv6_address : ℕ → List ℕ
ipv6_address n = around (longest_run 7 n) n

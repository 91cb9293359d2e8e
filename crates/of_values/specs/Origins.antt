-- WHERE FLOW ENTRIES COME FROM: the line of a file, and what a dump counted of the entry, as words such as `n_packets=12`.
use Rattle.std.specs.Prelude.{ℕ, ◌&&◌, nat_le, List, ◌++◌, codes, map, if◌then◌else◌}
use Rattle.std.specs.Global.{Vec}
use Rattle.of_values.specs.declared.origins.Origin.{Origin}

pub record EntryOrigin : Type 0 where
  pub line : ℕ
  pub counters : List (List ℕ)

-- ---- in words: `, n_packets=12, n_bytes=1008` behind the match

-- a byte that is no printable character of ASCII is a question mark
abbrev pub printable : ℕ → ℕ
printable b = if nat_le 32 b && nat_le b 126 then b else 63

abbrev pub further_counter : List ℕ → List ℕ
further_counter word = codes ", " ++ map printable word

-- ---- as they lie in memory

abbrev pub view_words : List (Vec ℕ) → List (List ℕ)
view_words words = map (λ word. word.items) words

abbrev pub view_origin : Origin → EntryOrigin
view_origin o = record { line = o.line; counters = view_words o.counters.items }

-- by table, then by age
abbrev pub view_origins : List (Vec Origin) → List (List EntryOrigin)
view_origins origins = map (λ os. map view_origin os.items) origins

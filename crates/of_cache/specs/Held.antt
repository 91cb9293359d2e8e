-- What a contract sees of a cached classifier: its entries, oldest first, its rows, the most recently used first, and how many there may be.
use Rattle.std.specs.Prelude.{ℕ, List, option_map}
use Rattle.of_classifier.specs.declared.Row.{Row}
use Rattle.of_cache.specs.{declared.region.Row.Row as CacheRow, Regions.AnsweredRegion}

pub record HeldRows : Type 0 where
  pub content : List Row
  pub rows : List AnsweredRegion
  pub capacity : ℕ

abbrev pub held_rows : List Row → List AnsweredRegion → ℕ → HeldRows
held_rows content rows capacity = record { content = content; rows = rows; capacity = capacity }

-- a row as `rows` returns it: without the priority
abbrev pub shown_row : AnsweredRegion → CacheRow
shown_row row = record { region = row.0; answer = option_map (λ a. a.0) row.1 }

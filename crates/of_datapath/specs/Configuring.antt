-- Entries whose numbers are within their bounds, for contracts inside this crate.
use Rattle.std.specs.Prelude.{ℕ, suc, List, [], ◌∷◌}
use Rattle.std.specs.List.{AllByRecursion}
use Rattle.of_text.specs.Kept.{IsKeptFlow}
use Rattle.of_table.specs.Table.{Table}
use Rattle.of_datapath.specs.Loading.{flow_kept}

abbrev pub AreKeptEntries : ℕ → Table → Type 0
AreKeptEntries table t = AllByRecursion (λ e. IsKeptFlow (flow_kept table e.flow)) t.flows

-- of the tables, numbered from k on
abbrev pub AreKeptFrom : ℕ → List Table → Type 0
AreKeptFrom k [] = Unit {0}
AreKeptFrom k (t ∷ ts) = AreKeptEntries k t × AreKeptFrom (suc k) ts

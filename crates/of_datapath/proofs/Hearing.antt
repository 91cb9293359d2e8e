-- A controller whose mask lets no removal pass gets no notice.
use Rattle.std.proofs.Common.{◌≡◌, ℕ, List, [], ◌∷◌, refl, ap}
use Rattle.std.specs.Prelude.{map, filter}
use Rattle.of_table.specs.Selecting.{Notice}
use Rattle.of_datapath.specs.{declared.control.AsyncConfig.AsyncConfig, Commands.is_notice_admitted, Commands.notice_effect, Commands.notice_effects}

none_passes : (heard : AsyncConfig) (ns : List Notice) → heard.flow_removed ≡ 0 → filter (is_notice_admitted heard) ns ≡ []
none_passes heard [] e = refl
none_passes heard (n ∷ ns) e = rw e (none_passes heard ns e)

pub none_heard : (heard : AsyncConfig) (now : ℕ) (ns : List Notice) → heard.flow_removed ≡ 0 → notice_effects heard now ns ≡ []
none_heard heard now ns e = ap (map (notice_effect now)) (none_passes heard ns e)

-- THE ENTRIES THAT STEPS HIT, in turn: each by its table and its number there by age, from 0 (OpenFlow 1.3.5, 5.3).
use Rattle.std.specs.Prelude.{List, [], ◌∷◌}
use Rattle.of_machine.specs.{declared.data.Step.Step, declared.data.Step.TheVariants.Entry}
use Rattle.of_json.specs.declared.hits.Hit.{Hit}

abbrev pub hits_at : Step → List Hit
hits_at (Entry table number) = record { table = table; number = number } ∷ []
hits_at other = []

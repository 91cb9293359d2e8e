-- THE WAY OF A FRAME: its steps without which entries it hits, so that entries that say the same give the same way (OpenFlow 1.3.5, 5.1).
use Rattle.std.specs.Prelude.{ℕ, List, [], ◌∷◌, map, ⊤}
use Rattle.std.specs.List.{Contains}
use Rattle.of_machine.specs.{declared.data.Step.Step, declared.data.Step.TheVariants.Entry, TheWorld.TheWorld, Rows.Lookup, Rows.entering, Runs.run_of}
use Rattle.of_paths.specs.{declared.path.Path.Path, declared.path.PathClass.PathClass}

-- the steps of the run of a frame, in order
abbrev pub lines_at : TheWorld → List ℕ → ℕ → List Step
lines_at w frame port = (run_of w (entering frame port) (Lookup 0 ∷ [])).lines

-- a step without the number of the entry
abbrev pub line_but_entry : Step → Step
line_but_entry (Entry table number) = Entry table 0
line_but_entry other = other

abbrev pub way_of : List Step → List Step
way_of lines = map line_but_entry lines

-- the way of a class is that of its first path
abbrev pub paths_way : List Path → List Step
paths_way [] = []
paths_way (p ∷ rest) = way_of p.steps.items

abbrev pub class_way : PathClass → List Step
class_way c = paths_way c.paths.items

-- no two ways at different places are the same
abbrev pub AreApart : List (List Step) → Type 0
AreApart [] = ⊤
AreApart (x ∷ ways) = (Contains ways x → ⊥) × AreApart ways

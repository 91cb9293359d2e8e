-- Numbers by their names among the cells of layers: their values, and their places.
use Rattle.std.specs.Prelude.{ℕ, ◌+◌, Bool, false, ◌==◌, if◌then◌else◌, List, [], ◌∷◌, Option, Some, None}
use Rattle.of_layers.specs.{declared.field.Field.Field, declared.place.Place.Place, Fields.number_of, Layers.Cell}

abbrev pub name_is : ℕ → Option ℕ → Bool
name_is n None = false
name_is n (Some m) = n == m

-- the number in the first cell of that name
abbrev pub look_up : ℕ → List Cell → Option ℕ
look_up n [] = None
look_up n (c ∷ cs) = if name_is n c.name then Some c.value else look_up n cs

-- and its place, where the first of the cells begins at bit `at`
abbrev pub locate_at : ℕ → ℕ → List Cell → Option Place
locate_at at n [] = None
locate_at at n (c ∷ cs) = if name_is n c.name then Some (record { first = at; bits = c.width }) else locate_at (at + c.width) n cs

abbrev pub look : Field → List Cell → Option ℕ
look f = look_up (number_of f)

abbrev pub locate : Field → List Cell → Option Place
locate f = locate_at 0 (number_of f)

-- Comments apart from their layout in memory, the last one first there.
use Rattle.std.specs.{Prelude.ℕ, Prelude.List, Prelude.map, Prelude.reverse, Global.Vec}

abbrev pub view_notes : List (Vec ℕ) → List (List ℕ)
view_notes notes = map (λ n. n.items) notes

abbrev pub notes_to_come : List (Vec ℕ) → List (List ℕ)
notes_to_come left = view_notes (reverse left)

-- NOTES ARE ADDED AND NOTHING ELSE: a text that is another with notes inserted, each after one of its lines.
use Rattle.std.specs.{Prelude.◌≡◌, Prelude.ℕ, Prelude.List, Prelude.◌++◌, List.flat_map}
use Rattle.of_text.specs.Lines.{ended, note}

-- a line, and the notes below it
pub record NotedLine : Type 0 where
  pub line : List ℕ
  pub notes : List (List ℕ)

-- the lines of the plain text, then what follows the last line with notes
pub record OnlyNotesAdded (plain noted : List ℕ) : Type 0 where
  pub lines : List NotedLine
  pub rest : List ℕ
  pub plain_is : plain ≡ flat_map (λ l. ended l.line) lines ++ rest
  pub noted_is : noted ≡ flat_map (λ l. ended l.line ++ flat_map note l.notes) lines ++ rest

-- WHAT A FILE IS, by the first word of its first line that is neither empty nor a comment: a flow text begins with `flow` or `group`, an event file
-- with the name of a row; a file with no such line is a flow text. Everything else is taken as what ovs-ofctl prints.
use Rattle.std.specs.Prelude.{ℕ, ◌||◌, Bool, List, [], ◌∷◌, codes, Option, Some, None, if◌then◌else◌}
use Rattle.std.specs.Str.{bytes_eq}
use Rattle.of_text.specs.Lines.{lines_of, before, is_passed}
use Rattle.of_files.specs.declared.contents.Content.{Content}
use Rattle.of_files.specs.declared.contents.Content.TheVariants.{FlowText, EventFile, OvsTable}

abbrev pub first_counted : List (List ℕ) → Option (List ℕ)
first_counted [] = None
first_counted (line ∷ lines) = if is_passed line then first_counted lines else Some line

abbrev pub begins_text : List ℕ → Bool
begins_text word = bytes_eq word (codes "flow") || bytes_eq word (codes "group")

abbrev pub begins_events : List ℕ → Bool
begins_events word =
    bytes_eq word (codes "port") || bytes_eq word (codes "connect") || bytes_eq word (codes "f") || bytes_eq word (codes "t") || bytes_eq word (codes "c")
    || bytes_eq word (codes "lost")

-- a line may end by CR
unfoldable pub content_by : Option (List ℕ) → Content
content_by None = FlowText
content_by (Some line) =
    if begins_text (before 13 (before 32 line)) then FlowText
    else if begins_events (before 13 (before 32 line)) then EventFile
    else OvsTable

unfoldable pub content_of : List ℕ → Content
content_of text = content_by (first_counted (lines_of text))

-- THE HISTORY OF A VIEW of a switch, which is a text of lines: for each turn after which the text is another one, who did it, and both texts.
use Rattle.std.specs.Prelude.{ℕ, ◌+◌, List, [], ◌∷◌, ◌++◌, codes, decimal, max, Bool, Option, Some, None, IsTrue, if◌then◌else◌}
use Rattle.std.specs.{List.flat_map, List.list_any, Str.bytes_eq}
use Rattle.of_text.specs.Lines.{ended, lines_of}
use Rattle.of_datapath.specs.Datapath.{Forwarding}
use Rattle.of_switch.specs.{declared.event.Event.Event, State.State}
use Rattle.of_switch.specs.declared.event.Event.TheVariants as events
use Rattle.of_replay.specs.{Rows.row_of_line, RowTexts.RowText, RowTexts.row_happened}
use Rattle.of_values.specs.Filled.{filled}
use Rattle.of_explain.specs.Requests.{request_notes}
use Rattle.of_history.specs.Causes.{By, Message, Moment, Cause, by_row, cause_of_turn}
use Rattle.of_history.specs.{declared.reason.Reason.Reason, Reasons.fate_reason_note, Reasons.fate_reason, Turns.Turn, Turns.row_turns}
use Rattle.of_history.specs.declared.telling.TheConstants as words

-- what is said of a change: by who made it, the reason, and both texts
abbrev pub ChangeText : Type 0
ChangeText = Cause → Option Reason → List ℕ → List ℕ → List ℕ

-- ---- in words

-- `line 9: t 4000000000` and what expires, or `line 24, message 3` and the notes of the message
abbrev pub cause_words : ℕ → List ℕ → By → List ℕ
cause_words n line (Message k m) = filled words.MESSAGE (decimal n ∷ decimal k ∷ []) ++ request_notes m
cause_words n line (Moment expired) = filled words.LINE (decimal n ∷ line ∷ []) ++ expired
cause_words n line other = filled words.LINE (decimal n ∷ line ∷ [])

abbrev pub kept_line : List ℕ → List ℕ
kept_line line = codes "      " ++ ended line

abbrev pub gone_line : List ℕ → List ℕ
gone_line line = codes "    - " ++ ended line

abbrev pub come_line : List ℕ → List ℕ
come_line line = codes "    + " ++ ended line

abbrev pub other_lines : List (List ℕ) → List (List ℕ) → List ℕ
other_lines old new = flat_map gone_line old ++ flat_map come_line new

-- the first lines that both texts have, then the others of the old one, then those of the new one
abbrev pub marked_lines : List (List ℕ) → List (List ℕ) → List ℕ
marked_lines [] new = other_lines [] new
marked_lines (l ∷ old) [] = other_lines (l ∷ old) []
marked_lines (l ∷ old) (m ∷ new) = if bytes_eq l m then kept_line l ++ marked_lines old new else other_lines (l ∷ old) (m ∷ new)

unfoldable pub changed_words : ChangeText
changed_words cause reason old new = cause_words cause.number cause.line cause.by ++ fate_reason_note reason ++ marked_lines (lines_of old) (lines_of new)

-- ---- of a text whose lines are a set, such as flow entries

abbrev pub has_line : List ℕ → List ℕ → Bool
has_line text line = list_any (bytes_eq line) (lines_of text)

-- the lines that the other text does not have
abbrev pub line_without : List ℕ → List ℕ → List ℕ
line_without other line = if has_line other line then [] else ended line

abbrev pub text_without : List ℕ → List ℕ → List ℕ
text_without other text = flat_map (line_without other) (lines_of text)

-- the same is said of the lines that went, and of those that came; the message says the reason
abbrev pub line_by_line : ChangeText → ChangeText
line_by_line text cause reason old new = text cause None (text_without new old) (text_without old new)

-- for contracts inside this crate: each line of a text is one of another
abbrev pub HasLinesOf : List ℕ → List ℕ → Type 0
HasLinesOf text part = (line : List ℕ) → IsTrue (has_line part line) → IsTrue (has_line text line)

-- ---- the history

-- a turn after which the text is the same is not told
abbrev pub unless_same : List ℕ → List ℕ → List ℕ → List ℕ
unless_same old new text = if bytes_eq old new then [] else text

abbrev pub told_change : ChangeText → Cause → List ℕ → List ℕ → List ℕ
told_change text cause old new = unless_same old new (text cause (fate_reason cause.by old new) old new)

-- the turns of a row, from the one of that number on
abbrev pub turns_told : ChangeText → (Forwarding → List ℕ) → Cause → ℕ → State → List Turn → List ℕ
turns_told text seen row k s [] = []
turns_told text seen row k s (t ∷ ts) =
    told_change text (cause_of_turn row k t.message) (seen s.core.forwarding) (seen t.after.core.forwarding) ++ turns_told text seen row (k + 1) t.after ts

-- what expires in a row: at a time, by the state before it; a time before the latest one counts as that
abbrev pub row_expiring : (ℕ → Forwarding → List ℕ) → State → Option Event → List ℕ
row_expiring expiring s (Some (events.Moment nanos)) = expiring (max s.core.forwarding.tables.latest nanos) s.core.forwarding
row_expiring expiring s other = []

abbrev pub row_cause : ℕ → List ℕ → By → Cause
row_cause n line by = record { number = n; line = line; by = by }

-- THE TALE of a row: the turns that change the view
abbrev pub history_of : ChangeText → (Forwarding → List ℕ) → (ℕ → Forwarding → List ℕ) → RowText
history_of text seen expiring n s line row = turns_told text seen (row_cause n line (by_row (row_expiring expiring s row) row)) 1 s (row_turns s row)

-- the number of the first bad line, where the first of them has this one
abbrev pub bad_and : ℕ → Option (Option Event) → Option ℕ → Option ℕ
bad_and n None others = Some n
bad_and n (Some row) others = others

abbrev pub bad_from : ℕ → List (List ℕ) → Option ℕ
bad_from n [] = None
bad_from n (line ∷ lines) = bad_and n (row_of_line line) (bad_from (n + 1) lines)

-- ---- what is known from it

-- the text that was told last, where it was this one before the turns: at each place between two turns
abbrev pub told_last : (Forwarding → List ℕ) → List ℕ → State → List Turn → List ℕ
told_last seen told s [] = told
told_last seen told s (t ∷ ts) =
    let old = seen s.core.forwarding in
    let new = seen t.after.core.forwarding in
    told_last seen (if bytes_eq old new then told else new) t.after ts

-- the same for rows
abbrev pub rows_told_last : (Forwarding → List ℕ) → List ℕ → State → List (Option Event) → List ℕ
rows_told_last seen told s [] = told
rows_told_last seen told s (row ∷ rows) = rows_told_last seen (told_last seen told s (row_turns s row)) (row_happened s row).state rows

abbrev pub after_rows : State → List (Option Event) → State
after_rows s [] = s
after_rows s (row ∷ rows) = after_rows (row_happened s row).state rows

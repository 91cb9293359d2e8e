-- The rows of a file that a switch refuses, one after the other.
use Rattle.std.proofs.Common.{◌≡◌, ℕ, ◌+◌, ◌<◌, Bool, true, false, List, [], ◌∷◌, ◌++◌, length, refl, sym, ◌∙◌, ap, append_assoc, if◌then◌else◌}
use Rattle.std.proofs.lemmas.List.{append-nil}
use Rattle.of_text.{specs.Lines.lines_of, specs.Lines.before, specs.Lines.behind, specs.Lines.is_passed, proofs.TextLemmas.first_line}
use Rattle.of_switch.specs.{declared.event.Event.Event, State.State}
use Rattle.of_sockets.specs.Refusals.{row_numbers, refused_rows_from, refused_by, later, ported}
use Rattle.of_sockets.specs.declared.refusals.RefusedRow.{RefusedRow}

-- ---- the numbers of rows

-- so many lines were read, and these numbers found
abbrev pub NumbersSoFar : (file rest numbers : List ℕ) → ℕ → Type 0
NumbersSoFar file rest numbers n = row_numbers 0 (lines_of file) ≡ numbers ++ row_numbers n (lines_of rest)

first_number : (rest : List ℕ) (n : ℕ) (b : Bool) → 0 < length rest → is_passed (before 10 rest) ≡ b
    → row_numbers n (lines_of rest) ≡ (if b then row_numbers (n + 1) (lines_of (behind 10 rest)) else (n + 1) ∷ row_numbers (n + 1) (lines_of (behind 10 rest)))
first_number rest n b h t =
    let others = row_numbers (n + 1) (lines_of (behind 10 rest)) in
    ap (row_numbers n) (first_line rest h) ∙ ap (λ (x : Bool). if x then others else (n + 1) ∷ others) t

pub number_passed : (file rest numbers : List ℕ) (n : ℕ) → 0 < length rest → is_passed (before 10 rest) ≡ true → NumbersSoFar file rest numbers n → NumbersSoFar file (behind 10 rest) numbers (n + 1)
number_passed file rest numbers n h t s = s ∙ ap (λ (x : List ℕ). numbers ++ x) (first_number rest n true h t)

pub number_found : (file rest numbers : List ℕ) (n : ℕ) → 0 < length rest → is_passed (before 10 rest) ≡ false → NumbersSoFar file rest numbers n → NumbersSoFar file (behind 10 rest) (numbers ++ (n + 1) ∷ []) (n + 1)
number_found file rest numbers n h t s =
    let others = row_numbers (n + 1) (lines_of (behind 10 rest)) in
    s ∙ (ap (λ (x : List ℕ). numbers ++ x) (first_number rest n false h t) ∙ sym (append_assoc numbers ((n + 1) ∷ []) others))

no_numbers : (n : ℕ) → row_numbers n (lines_of []) ≡ []
unfolding lines_of
no_numbers n = refl

pub numbers_all : (file rest numbers : List ℕ) (n : ℕ) → rest ≡ [] → NumbersSoFar file rest numbers n → numbers ≡ row_numbers 0 (lines_of file)
numbers_all file rest numbers n none s = sym (s ∙ ap (λ (x : List ℕ). numbers ++ x) (ap (λ (x : List ℕ). row_numbers n (lines_of x)) none ∙ no_numbers n) ∙ append-nil numbers)

-- ---- the rows that are refused

abbrev pub RefusedSoFar : List RefusedRow → List RefusedRow → ℕ → State → List Event → List ℕ → Type 0
RefusedSoFar whole rows due s events lines = whole ≡ rows ++ refused_rows_from due s events lines

more_by : (whole rows rows' : List RefusedRow) (due due' : ℕ) (s s' : State) (e : Event) (es : List Event) (line : ℕ) (lines : List ℕ) → RefusedSoFar whole rows due s (e ∷ es) (line ∷ lines)
    → rows' ≡ rows ++ refused_by e due line s → s' ≡ ported e s → due' ≡ later e due → RefusedSoFar whole rows' due' s' es lines
more_by whole rows rows' due due' s s' e es line lines so pushed stands moves =
    rw (pushed, stands, moves) (so ∙ sym (append_assoc rows (refused_by e due line s) (refused_rows_from (later e due) (ported e s) es lines)))

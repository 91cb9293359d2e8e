-- The lines of an event file, one after the other.
use Rattle.std.proofs.Common.{◌≡◌, ℕ, ◌+◌, ◌<◌, true, false, List, [], ◌++◌, length, Option, Some, None, refl, sym, ◌∙◌, ap, append_assoc, arith}
use Rattle.std.{specs.Option.option_map, proofs.lemmas.List.append-nil}
use Rattle.of_switch.specs.declared.event.Event.{Event}
use Rattle.of_text.{specs.Lines.lines_of, specs.Lines.before, specs.Lines.behind, proofs.TextLemmas.first_line}
use Rattle.of_replay.specs.Rows.{Rows, row_of_line}
use Rattle.of_sockets.specs.FileRows.{Pushes, file_row, file_rows, file_row_and}

pub record RowsSoFar (file rest : List ℕ) (events : List Event) (number : ℕ) : Type 0 where
  pub events_are : (file_rows (lines_of file)).events ≡ events ++ (file_rows (lines_of rest)).events
  pub bad_is : (file_rows (lines_of file)).bad ≡ option_map (λ n. n + number) (file_rows (lines_of rest)).bad

plus_none : (o : Option ℕ) → option_map (λ n. n + 0) o ≡ o
plus_none None = refl
plus_none (Some n) = ap Some (omega arith)

plus_more : (o : Option ℕ) (k : ℕ) → option_map (λ n. n + k) (option_map (λ n. n + 1) o) ≡ option_map (λ n. n + (k + 1)) o
plus_more None k = refl
plus_more (Some n) k = ap Some (omega arith)

first_row : (rest : List ℕ) (row : Option (List Event)) → 0 < length rest → file_row (row_of_line (before 10 rest)) ≡ row → file_rows (lines_of rest) ≡ file_row_and row (file_rows (lines_of (behind 10 rest)))
first_row rest row h e = ap file_rows (first_line rest h) ∙ ap (λ (x : Option (List Event)). file_row_and x (file_rows (lines_of (behind 10 rest)))) e

more_by : (file rest : List ℕ) (row : Option (List Event)) (events events' : List Event) (number : ℕ) → 0 < length rest → file_row (row_of_line (before 10 rest)) ≡ row → RowsSoFar file rest events number → Pushes true row events events'
    → RowsSoFar file (behind 10 rest) events' (number + 1)
more_by file rest None events events' number h e s p = absurd p
more_by file rest (Some es) events events' number h e s p =
    let others = file_rows (lines_of (behind 10 rest)) in
    let first = first_row rest (Some es) h e in
    record {
      events_are = s.events_are ∙ (ap (λ (x : Rows). events ++ x.events) first ∙ (sym (append_assoc events es others.events) ∙ ap (λ (x : List Event). x ++ others.events) (sym p)));
      bad_is = s.bad_is ∙ (ap (λ (x : Rows). option_map (λ n. n + number) x.bad) first ∙ plus_more others.bad number);
    }

pub rows_more : (file rest : List ℕ) (events events' : List Event) (number : ℕ) → 0 < length rest → RowsSoFar file rest events number → Pushes true (file_row (row_of_line (before 10 rest))) events events'
    → RowsSoFar file (behind 10 rest) events' (number + 1)
rows_more file rest events events' number h s p = more_by file rest (file_row (row_of_line (before 10 rest))) events events' number h refl s p

bad_by : (file rest : List ℕ) (row : Option (List Event)) (events events' : List Event) (number : ℕ) → 0 < length rest → file_row (row_of_line (before 10 rest)) ≡ row → RowsSoFar file rest events number → Pushes false row events events'
    → (file_rows (lines_of file)).bad ≡ Some (number + 1)
bad_by file rest (Some es) events events' number h e s p = absurd p
bad_by file rest None events events' number h e s p =
    s.bad_is ∙ (ap (λ (x : Rows). option_map (λ n. n + number) x.bad) (first_row rest None h e) ∙ ap Some (omega arith))

pub rows_bad : (file rest : List ℕ) (events events' : List Event) (number : ℕ) → 0 < length rest → RowsSoFar file rest events number → Pushes false (file_row (row_of_line (before 10 rest))) events events'
    → (file_rows (lines_of file)).bad ≡ Some (number + 1)
rows_bad file rest events events' number h s p = bad_by file rest (file_row (row_of_line (before 10 rest))) events events' number h refl s p

no_rows : file_rows (lines_of []) ≡ record { events = []; bad = None }
unfolding lines_of
no_rows = refl

pub rows_all : (file rest : List ℕ) (events : List Event) (number : ℕ) → rest ≡ [] → RowsSoFar file rest events number → ((file_rows (lines_of file)).bad ≡ None) × (events ≡ (file_rows (lines_of file)).events)
rows_all file rest events number none s =
    let last : file_rows (lines_of rest) ≡ record { events = []; bad = None } = ap (λ (x : List ℕ). file_rows (lines_of x)) none ∙ no_rows in (
      s.bad_is ∙ ap (λ (x : Rows). option_map (λ n. n + number) x.bad) last,
      sym (s.events_are ∙ (ap (λ (x : Rows). events ++ x.events) last ∙ append-nil events)),
    )

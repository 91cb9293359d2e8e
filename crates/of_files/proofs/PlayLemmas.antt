-- The lines of an event file, played one after the other.
use Rattle.std.proofs.Common.{◌≡◌, ℕ, ◌+◌, ◌-◌, ◌<◌, ◌≤◌, zero, suc, true, false, List, [], ◌∷◌, ◌++◌, length, take, Option, Some, None, refl, sym, ◌∙◌, ap, arith}
use Rattle.std.{specs.Option.option_map, proofs.lemmas.Bool.Decides.nat_tests}
use Rattle.of_switch.specs.{declared.event.Event.Event, State.State, State.start, Runs.run}
use Rattle.of_text.{specs.Lines.lines_of, specs.Lines.before, specs.Lines.behind, proofs.TextLemmas.first_line}
use Rattle.of_replay.specs.Rows.{Rows, events_in, row_and, row_of_line, rows_of_lines}
use Rattle.of_replay.specs.{FileRuns.state_after_rows, RowTexts.row_happened}
use Rattle.of_files.specs.Playing.{PlaysLine, first_lines, were_all}

-- the lines that are asked for, where so many came before these
abbrev lines_left : Option ℕ → ℕ → List (List ℕ) → List (List ℕ)
lines_left None number lines = lines
lines_left (Some n) number lines = take (n - number) lines

abbrev pub IsWithin : Option ℕ → ℕ → Type 0
IsWithin None number = Unit {0}
IsWithin (Some n) number = number ≤ n

abbrev rows_in : Option ℕ → List ℕ → Rows
rows_in most file = rows_of_lines (first_lines most (lines_of file))

abbrev rows_left : Option ℕ → ℕ → List ℕ → Rows
rows_left most number rest = rows_of_lines (lines_left most number (lines_of rest))

-- of a file this much is still to be played, from a state after so many lines
pub record PlayedSoFar (most : Option ℕ) (file rest : List ℕ) (s : State) (number : ℕ) : Type 0 where
  pub within : IsWithin most number
  pub state_is : state_after_rows (rows_in most file) ≡ (run (rows_left most number rest).events s).state
  pub bad_is : (rows_in most file).bad ≡ option_map (λ n. n + number) (rows_left most number rest).bad

plus_none : (o : Option ℕ) → option_map (λ n. n + 0) o ≡ o
plus_none None = refl
plus_none (Some n) = ap Some (omega arith)

plus_more : (o : Option ℕ) (k : ℕ) → option_map (λ n. n + k) (option_map (λ n. n + 1) o) ≡ option_map (λ n. n + (k + 1)) o
plus_more None k = refl
plus_more (Some n) k = ap Some (omega arith)

within_first : (most : Option ℕ) → IsWithin most 0
within_first None = tt
within_first (Some n) = omega arith

left_first : (most : Option ℕ) (lines : List (List ℕ)) → lines_left most 0 lines ≡ first_lines most lines
left_first None lines = refl
left_first (Some n) lines = ap (λ (k : ℕ). take k lines) (let same : n - 0 ≡ n = omega arith in same)

pub play_begins : (most : Option ℕ) (file : List ℕ) (s : State) → s ≡ start 1 → PlayedSoFar most file file s 0
play_begins most file s e =
    let same : rows_left most 0 file ≡ rows_in most file = ap rows_of_lines (left_first most (lines_of file)) in
    record {
      within = within_first most;
      state_is = ap (λ (x : State). (run (rows_in most file).events x).state) (sym e) ∙ ap (λ (r : Rows). (run r.events s).state) (sym same);
      bad_is = sym (plus_none (rows_in most file).bad) ∙ ap (λ (r : Rows). option_map (λ n. n + 0) r.bad) (sym same);
    }

-- one of the lines that are left
left_more : (most : Option ℕ) (number : ℕ) (line : List ℕ) (lines : List (List ℕ)) → IsWithin most number → were_all most number ≡ false → lines_left most number (line ∷ lines) ≡ line ∷ lines_left most (number + 1) lines
left_more None number line lines within others = refl
left_more (Some n) number line lines within others =
    let other : n - number ≡ suc (n - (number + 1)) = grind (arith, nat_tests, within, others) in
    ap (λ (k : ℕ). take k (line ∷ lines)) other

within_more : (most : Option ℕ) (number : ℕ) → IsWithin most number → were_all most number ≡ false → IsWithin most (number + 1)
within_more None number within others = tt
within_more (Some n) number within others = grind (arith, nat_tests, within, others)

none_left : (most : Option ℕ) (number : ℕ) (lines : List (List ℕ)) → were_all most number ≡ true → lines_left most number lines ≡ []
none_left None number lines all = absurd cc
none_left (Some n) number lines all = let none : n - number ≡ 0 = grind (arith, nat_tests, all) in ap (λ (k : ℕ). take k lines) none

first_row : (most : Option ℕ) (number : ℕ) (rest : List ℕ) (row : Option (Option Event)) → 0 < length rest → IsWithin most number → were_all most number ≡ false → row_of_line (before 10 rest) ≡ row
    → rows_left most number rest ≡ row_and row (rows_left most (number + 1) (behind 10 rest))
first_row most number rest row h within others e =
    ap (λ (ls : List (List ℕ)). rows_of_lines (lines_left most number ls)) (first_line rest h)
    ∙ (ap rows_of_lines (left_more most number (before 10 rest) (lines_of (behind 10 rest)) within others)
    ∙ ap (λ (x : Option (Option Event)). row_and x (rows_left most (number + 1) (behind 10 rest))) e)

-- a row, and then the events of others
row_then : (row : Option Event) (es : List Event) (s : State) → (run (events_in row ++ es) s).state ≡ (run es (row_happened s row).state).state
row_then None es s = refl
row_then (Some event) es s = refl

more_by : (most : Option ℕ) (file rest : List ℕ) (row : Option (Option Event)) (s t : State) (number : ℕ) → 0 < length rest → were_all most number ≡ false → row_of_line (before 10 rest) ≡ row → PlayedSoFar most file rest s number
    → PlaysLine true row s t → PlayedSoFar most file (behind 10 rest) t (number + 1)
more_by most file rest None s t number h others e so p = absurd p
more_by most file rest (Some row) s t number h others e so p =
    let next = rows_left most (number + 1) (behind 10 rest) in
    let first = first_row most number rest (Some row) h so.within others e in
    record {
      within = within_more most number so.within others;
      state_is = so.state_is ∙ (ap (λ (x : Rows). (run x.events s).state) first ∙ (row_then row next.events s ∙ ap (λ (x : State). (run next.events x).state) (sym p)));
      bad_is = so.bad_is ∙ (ap (λ (x : Rows). option_map (λ n. n + number) x.bad) first ∙ plus_more next.bad number);
    }

pub play_more : (most : Option ℕ) (file rest : List ℕ) (s t : State) (number : ℕ) → 0 < length rest → were_all most number ≡ false → PlayedSoFar most file rest s number → PlaysLine true (row_of_line (before 10 rest)) s t
    → PlayedSoFar most file (behind 10 rest) t (number + 1)
play_more most file rest s t number h others so p = more_by most file rest (row_of_line (before 10 rest)) s t number h others refl so p

bad_by : (most : Option ℕ) (file rest : List ℕ) (row : Option (Option Event)) (s t : State) (number : ℕ) → 0 < length rest → were_all most number ≡ false → row_of_line (before 10 rest) ≡ row → PlayedSoFar most file rest s number
    → PlaysLine false row s t → (rows_in most file).bad ≡ Some (number + 1)
bad_by most file rest (Some row) s t number h others e so p = absurd p
bad_by most file rest None s t number h others e so p =
    so.bad_is ∙ (ap (λ (x : Rows). option_map (λ n. n + number) x.bad) (first_row most number rest None h so.within others e) ∙ ap Some (omega arith))

pub play_bad : (most : Option ℕ) (file rest : List ℕ) (s t : State) (number : ℕ) → 0 < length rest → were_all most number ≡ false → PlayedSoFar most file rest s number → PlaysLine false (row_of_line (before 10 rest)) s t
    → (rows_in most file).bad ≡ Some (number + 1)
play_bad most file rest s t number h others so p = bad_by most file rest (row_of_line (before 10 rest)) s t number h others refl so p

-- no line is left
ends_by : (most : Option ℕ) (file rest : List ℕ) (s : State) (number : ℕ) → lines_left most number (lines_of rest) ≡ [] → PlayedSoFar most file rest s number → ((rows_in most file).bad ≡ None) × (s ≡ state_after_rows (rows_in most file))
ends_by most file rest s number none so =
    let last : rows_left most number rest ≡ record { events = []; bad = None } = ap rows_of_lines none in (
      so.bad_is ∙ ap (λ (x : Rows). option_map (λ n. n + number) x.bad) last,
      sym (so.state_is ∙ ap (λ (x : Rows). (run x.events s).state) last),
    )

pub play_stops : (most : Option ℕ) (file rest : List ℕ) (s : State) (number : ℕ) → were_all most number ≡ true → PlayedSoFar most file rest s number → ((rows_in most file).bad ≡ None) × (s ≡ state_after_rows (rows_in most file))
play_stops most file rest s number all so = ends_by most file rest s number (none_left most number (lines_of rest) all) so

take_none : (k : ℕ) → take k (lines_of []) ≡ []
unfolding lines_of
take_none zero = refl
take_none (suc k) = refl

no_lines : (most : Option ℕ) (number : ℕ) → lines_left most number (lines_of []) ≡ []
unfolding lines_of
no_lines None number = refl
no_lines (Some n) number = take_none (n - number)

pub play_ends : (most : Option ℕ) (file rest : List ℕ) (s : State) (number : ℕ) → rest ≡ [] → PlayedSoFar most file rest s number → ((rows_in most file).bad ≡ None) × (s ≡ state_after_rows (rows_in most file))
play_ends most file rest s number none so =
    ends_by most file rest s number (ap (λ (x : List ℕ). lines_left most number (lines_of x)) none ∙ no_lines most number) so

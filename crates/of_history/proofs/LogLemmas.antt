-- The lines of a log, one after the other.
use Rattle.std.proofs.Common.{◌≡◌, ℕ, ◌+◌, ◌<◌, List, [], ◌++◌, length, Option, Some, None, refl, sym, ◌∙◌, ap, append_assoc}
use Rattle.std.proofs.lemmas.List.{append-nil}
use Rattle.of_text.{specs.Lines.before, specs.Lines.behind, specs.Lines.lines_of, proofs.TextLemmas.first_line}
use Rattle.of_switch.specs.{declared.event.Event.Event, State.State}
use Rattle.of_replay.specs.{Rows.row_of_line, RowTexts.RowText, RowTexts.row_happened, RowTexts.told_from}
use Rattle.of_history.specs.Changes.{bad_from}

-- ---- the first line of those that are left

module _ (tale : RowText) (n : ℕ) (rest line after : List ℕ) (s : State) (some : 0 < length rest) (first : line ≡ before 10 rest) (later : after ≡ behind 10 rest) where
  -- it is bad
  pub bad_told : row_of_line line ≡ None → told_from tale n (lines_of rest) s ≡ []
  bad_told bad = ap (λ (ls : List (List ℕ)). told_from tale n ls s) (first_line rest some) ∙ (rw (← first, bad) refl)

  pub bad_here : row_of_line line ≡ None → bad_from n (lines_of rest) ≡ Some n
  bad_here bad = ap (bad_from n) (first_line rest some) ∙ (rw (← first, bad) refl)

  -- it is a row
  pub row_told : (row : Option Event) → row_of_line line ≡ Some row → told_from tale n (lines_of rest) s ≡ tale n s line row ++ told_from tale (n + 1) (lines_of after) (row_happened s row).state
  row_told row is = ap (λ (ls : List (List ℕ)). told_from tale n ls s) (first_line rest some) ∙ (rw (← first, ← later, is) refl)

  pub row_passed : (row : Option Event) → row_of_line line ≡ Some row → bad_from n (lines_of rest) ≡ bad_from (n + 1) (lines_of after)
  row_passed row is = ap (bad_from n) (first_line rest some) ∙ (rw (← first, ← later, is) refl)

  -- what is said so far
  pub said_more : (row : Option Event) (out new all : List ℕ) (t : State) → row_of_line line ≡ Some row → new ≡ out ++ tale n s line row → t ≡ (row_happened s row).state → out ++ told_from tale n (lines_of rest) s ≡ all → new ++ told_from tale (n + 1) (lines_of after) t ≡ all
  said_more row out new all t is more goes so_far =
      rw (more, goes)
      (append_assoc out (tale n s line row) (told_from tale (n + 1) (lines_of after) (row_happened s row).state)
      ∙ (ap (λ (x : List ℕ). out ++ x) (sym (row_told row is)) ∙ so_far))

  pub said_bad : (out all : List ℕ) → row_of_line line ≡ None → out ++ told_from tale n (lines_of rest) s ≡ all → out ≡ all
  said_bad out all bad so_far = sym (append-nil out) ∙ (ap (λ (x : List ℕ). out ++ x) (sym (bad_told bad)) ∙ so_far)

-- ---- no line is left

pub said_all : (tale : RowText) (n : ℕ) (rest : List ℕ) (s : State) (out all : List ℕ) → rest ≡ [] → out ++ told_from tale n (lines_of rest) s ≡ all → out ≡ all
unfolding lines_of
said_all tale n rest s out all none so_far = sym (append-nil out) ∙ (rw none at so_far)

pub none_bad : (n : ℕ) (rest : List ℕ) → rest ≡ [] → bad_from n (lines_of rest) ≡ None
unfolding lines_of
none_bad n rest none = rw none refl

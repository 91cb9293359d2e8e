-- The lines of a text, one after the other.
use Rattle.std.proofs.Common.{◌≡◌, ℕ, ◌+◌, ◌<◌, Bool, true, false, List, [], ◌++◌, length, refl, sym, ap, ◌∙◌, append_assoc}
use Rattle.std.{specs.Prelude.Some, specs.Prelude.None, proofs.lemmas.List.append-nil}
use Rattle.of_text.{specs.Lines.lines_of, specs.Lines.before, specs.Lines.behind, specs.Lines.is_passed, proofs.TextLemmas.first_line}
use Rattle.of_files.specs.{FlowLines.begins_flow_of_table, FlowLines.number_if, FlowLines.numbers_from, Contents.first_counted}

pub next_number : (table n : ℕ) (b : Bool) (numbers new rest line after all : List ℕ) → 0 < length rest → line ≡ before 10 rest → after ≡ behind 10 rest → b ≡ begins_flow_of_table table line
    → new ≡ numbers ++ number_if b (n + 1) → numbers ++ numbers_from table n (lines_of rest) ≡ all → new ++ numbers_from table (n + 1) (lines_of after) ≡ all
next_number table n b numbers new rest line after all h l a is e so_far =
    rw (e, is, l, a)
    (append_assoc numbers (number_if (begins_flow_of_table table (before 10 rest)) (n + 1)) (numbers_from table (n + 1) (lines_of (behind 10 rest)))
    ∙ (ap (λ (x : List ℕ). numbers ++ x) (sym (ap (numbers_from table n) (first_line rest h))) ∙ so_far))

pub no_more : (table n : ℕ) (numbers rest all : List ℕ) → rest ≡ [] → numbers ++ numbers_from table n (lines_of rest) ≡ all → numbers ≡ all
unfolding lines_of
no_more table n numbers rest all none so_far = sym (append-nil numbers) ∙ (rw none at so_far)

-- ---- the first line that counts

pub counted_here : (rest : List ℕ) → 0 < length rest → is_passed (before 10 rest) ≡ false → first_counted (lines_of rest) ≡ Some (before 10 rest)
counted_here rest h b = ap first_counted (first_line rest h) ∙ rw b refl

pub passed_here : (rest : List ℕ) → 0 < length rest → is_passed (before 10 rest) ≡ true → first_counted (lines_of rest) ≡ first_counted (lines_of (behind 10 rest))
passed_here rest h b = ap first_counted (first_line rest h) ∙ rw b refl

pub none_counted : (rest : List ℕ) → rest ≡ [] → first_counted (lines_of rest) ≡ None
unfolding lines_of
none_counted rest none = ap (λ (x : List ℕ). first_counted (lines_of x)) none

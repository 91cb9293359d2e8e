-- Whether a name is one of the rows of a table.
use Rattle.std.proofs.Common.{◌≡◌, ℕ, ◌<◌, true, false, List, [], length, refl, sym, ap, ◌∙◌}
use Rattle.std.specs.{Prelude.◌||◌, Str.bytes_eq}
use Rattle.of_text.{specs.Lines.before, specs.Lines.behind, specs.Lines.lines_of, proofs.TextLemmas.first_line}
use Rattle.of_shadowing.specs.Conditions.{is_row_of}

row_next : (name rest : List ℕ) → 0 < length rest → is_row_of (lines_of rest) name ≡ (bytes_eq (before 10 rest) name || is_row_of (lines_of (behind 10 rest)) name)
row_next name rest h = ap (λ rows. is_row_of rows name) (first_line rest h)

pub no_row : (name rest : List ℕ) → rest ≡ [] → is_row_of (lines_of rest) name ≡ false
unfolding lines_of
no_row name rest e = rw e refl

pub row_here : (name rest row : List ℕ) → 0 < length rest → row ≡ before 10 rest → bytes_eq row name ≡ true → is_row_of (lines_of rest) name ≡ true
row_here name rest row h r e =
    let so : bytes_eq (before 10 rest) name ≡ true = ap (λ (x : List ℕ). bytes_eq x name) (sym r) ∙ e in
    row_next name rest h ∙ rw so refl

pub row_later : (name rest row after : List ℕ) → 0 < length rest → row ≡ before 10 rest → after ≡ behind 10 rest → bytes_eq row name ≡ false → is_row_of (lines_of rest) name ≡ is_row_of (lines_of after) name
row_later name rest row after h r a e =
    let so : bytes_eq (before 10 rest) name ≡ false = ap (λ (x : List ℕ). bytes_eq x name) (sym r) ∙ e in
    row_next name rest h ∙ rw (so, a) refl

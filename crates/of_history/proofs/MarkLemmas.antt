-- Lines of two texts.
use Rattle.std.proofs.Common.{◌≡◌, ℕ, ◌<◌, Bool, true, false, List, [], ◌∷◌, ◌++◌, length, Result, Ok, Err, refl, sym, ap, ◌∙◌, append_assoc}
use Rattle.std.{specs.Prelude.OnOk, specs.List.flat_map, specs.Str.bytes_eq, proofs.lemmas.List.append-nil}
use Rattle.of_text.{specs.Lines.lines_of, specs.Lines.before, specs.Lines.behind, proofs.TextLemmas.first_line}
use Rattle.of_history.specs.Changes.{kept_line, marked_lines, other_lines}

-- ---- lines behind a mark

pub next_line : (f : List ℕ → List ℕ) (out new rest line after all : List ℕ) → 0 < length rest → line ≡ before 10 rest → after ≡ behind 10 rest → new ≡ out ++ f line → out ++ flat_map f (lines_of rest) ≡ all → new ++ flat_map f (lines_of after) ≡ all
next_line f out new rest line after all h l a n so_far =
    rw (n, l, a)
    (append_assoc out (f (before 10 rest)) (flat_map f (lines_of (behind 10 rest)))
    ∙ (ap (λ (x : List ℕ). out ++ x) (sym (ap (flat_map f) (first_line rest h))) ∙ so_far))

pub no_line : (f : List ℕ → List ℕ) (out rest all : List ℕ) → rest ≡ [] → out ++ flat_map f (lines_of rest) ≡ all → out ≡ all
unfolding lines_of
no_line f out rest all none so_far = sym (append-nil out) ∙ (rw none at so_far)

-- ---- both texts

-- the first lines are the same
pub same_lines : (old new : List ℕ) → 0 < length old → 0 < length new → bytes_eq (before 10 old) (before 10 new) ≡ true →
    marked_lines (lines_of old) (lines_of new) ≡ kept_line (before 10 old) ++ marked_lines (lines_of (behind 10 old)) (lines_of (behind 10 new))
same_lines old new h k same = rw (first_line old h, first_line new k, same) refl

pub other_first : (old new : List ℕ) → 0 < length old → 0 < length new → bytes_eq (before 10 old) (before 10 new) ≡ false →
    marked_lines (lines_of old) (lines_of new) ≡ other_lines (lines_of old) (lines_of new)
other_first old new h k other = rw (first_line old h, first_line new k, other) refl

pub no_old : (old new : List ℕ) → old ≡ [] → marked_lines (lines_of old) (lines_of new) ≡ other_lines (lines_of old) (lines_of new)
unfolding lines_of
no_old old new none = rw none refl

pub no_new : (old new : List ℕ) → new ≡ [] → marked_lines (lines_of old) (lines_of new) ≡ other_lines (lines_of old) (lines_of new)
unfolding lines_of
no_new old new none = rw none (none_in (lines_of old))
  where
    none_in : (lines : List (List ℕ)) → marked_lines lines [] ≡ other_lines lines []
    none_in [] = refl
    none_in (l ∷ ls) = refl

pub ends_with : {E : Type 0} (r : Result Unit E) (out new all whole others : List ℕ) → whole ≡ others → OnOk r (new ≡ out ++ others) → out ++ whole ≡ all → OnOk r (new ≡ all)
ends_with (Ok x) out new all whole others same n so_far = n ∙ (ap (λ (x : List ℕ). out ++ x) (sym same) ∙ so_far)
ends_with (Err e) out new all whole others same n so_far = tt

pub goes_on : (out new old fresh line all : List ℕ) → 0 < length old → 0 < length fresh → line ≡ before 10 old → bytes_eq (before 10 old) (before 10 fresh) ≡ true → new ≡ out ++ kept_line line → out ++ marked_lines (lines_of old) (lines_of fresh) ≡ all →
    new ++ marked_lines (lines_of (behind 10 old)) (lines_of (behind 10 fresh)) ≡ all
goes_on out new old fresh line all h k l same n so_far =
    rw (n, l)
    (append_assoc out (kept_line (before 10 old)) (marked_lines (lines_of (behind 10 old)) (lines_of (behind 10 fresh)))
    ∙ (ap (λ (x : List ℕ). out ++ x) (sym (same_lines old fresh h k same)) ∙ so_far))

pub same_test : (old fresh line other : List ℕ) (result b : Bool) → line ≡ before 10 old → other ≡ before 10 fresh → result ≡ bytes_eq line other → result ≡ b → bytes_eq (before 10 old) (before 10 fresh) ≡ b
same_test old fresh line other result b l m is t = rw (← l, ← m) (sym is ∙ t)

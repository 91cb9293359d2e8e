-- The lines of a text as strings.
use Rattle.std.proofs.Common.{◌≡◌, ℕ, ◌<◌, List, [], ◌∷◌, ◌++◌, length, Result, Ok, Err, sym, ap, ◌∙◌, append_assoc}
use Rattle.std.{specs.Prelude.OnOk, specs.List.flat_map, proofs.lemmas.List.append-nil}
use Rattle.of_text.{specs.Lines.lines_of, specs.Lines.before, specs.Lines.behind, proofs.TextLemmas.first_line}
use Rattle.of_json.specs.Parts.{listed}

abbrev further : (List ℕ → List ℕ) → List ℕ → List ℕ
further f x = 44 ∷ f x

pub next_string : (f : List ℕ → List ℕ) (out mid new rest line after all : List ℕ) → 0 < length rest → line ≡ before 10 rest → after ≡ behind 10 rest → mid ≡ out ++ 44 ∷ [] → new ≡ mid ++ f line → out ++ flat_map (further f) (lines_of rest) ≡ all → new ++ flat_map (further f) (lines_of after) ≡ all
next_string f out mid new rest line after all h l a m n so_far =
    rw (n, m, l, a)
    (append_assoc (out ++ 44 ∷ []) (f (before 10 rest)) (flat_map (further f) (lines_of (behind 10 rest)))
    ∙ (append_assoc out (44 ∷ []) (f (before 10 rest) ++ flat_map (further f) (lines_of (behind 10 rest)))
    ∙ (ap (λ (x : List ℕ). out ++ x) (sym (ap (flat_map (further f)) (first_line rest h))) ∙ so_far)))

pub no_strings : (f : List ℕ → List ℕ) (out rest all : List ℕ) → rest ≡ [] → out ++ flat_map (further f) (lines_of rest) ≡ all → out ≡ all
unfolding lines_of
no_strings f out rest all none so_far = sym (append-nil out) ∙ (rw none at so_far)

pub none_listed : (f : List ℕ → List ℕ) (out text : List ℕ) → text ≡ [] → out ≡ out ++ listed f (lines_of text)
unfolding lines_of
none_listed f out text none = rw none (sym (append-nil out))

pub some_listed : {E : Type 0} (f : List ℕ → List ℕ) (r : Result Unit E) (out mid new text line after : List ℕ) → 0 < length text → line ≡ before 10 text → after ≡ behind 10 text → mid ≡ out ++ f line → OnOk r (new ≡ mid ++ flat_map (further f) (lines_of after)) → OnOk r (new ≡ out ++ listed f (lines_of text))
some_listed f (Ok x) out mid new text line after h l a m n =
    n ∙ (ap (λ (xs : List ℕ). xs ++ flat_map (further f) (lines_of after)) m
    ∙ (append_assoc out (f line) (flat_map (further f) (lines_of after))
    ∙ ap (λ (xs : List ℕ). out ++ xs) (rw (l, a) (sym (ap (listed f) (first_line text h))))))
some_listed f (Err e) out mid new text line after h l a m n = tt

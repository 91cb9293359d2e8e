-- Words behind words.
use Rattle.std.proofs.Common.{◌≡◌, ℕ, ◌<◌, List, [], ◌++◌, length, Result, Ok, Err, sym, ap, ◌∙◌, append_assoc}
use Rattle.std.{specs.Prelude.OnOk, specs.Prelude.if◌then◌else◌, specs.Result.is_ok, specs.List.flat_map, proofs.lemmas.List.append-nil}
use Rattle.of_text.{specs.Lines.before, specs.Lines.lines_of, specs.Lines.behind as behind_end, proofs.TextLemmas.first_line}

-- one part more behind the words so far
pub behind : (out words part mid new : List ℕ) → mid ≡ out ++ words → new ≡ mid ++ part → new ≡ out ++ (words ++ part)
behind out words part mid new m n = n ∙ (ap (λ (xs : List ℕ). xs ++ part) m ∙ append_assoc out words part)

-- the same of the last call
pub ends : {E : Type 0} (r : Result Unit E) (out words part mid new : List ℕ) → mid ≡ out ++ words → OnOk r (new ≡ mid ++ part) → OnOk r (new ≡ out ++ (words ++ part))
ends (Ok x) out words part mid new m n = behind out words part mid new m n
ends (Err e) out words part mid new m n = tt

pub last_part : {E : Type 0} (r : Result Unit E) (mid part new : List ℕ) → new ≡ (if is_ok r then mid ++ part else mid) → OnOk r (new ≡ mid ++ part)
last_part (Ok x) mid part new n = n
last_part (Err e) mid part new n = tt

-- ---- the lines of a text, one after the other

pub one_line : (f : List ℕ → List ℕ) (out new rest line after all : List ℕ) → 0 < length rest → line ≡ before 10 rest → after ≡ behind_end 10 rest → new ≡ out ++ f line → out ++ flat_map f (lines_of rest) ≡ all → new ++ flat_map f (lines_of after) ≡ all
one_line f out new rest line after all h l a n so_far =
    rw (n, l, a)
    (append_assoc out (f (before 10 rest)) (flat_map f (lines_of (behind_end 10 rest)))
    ∙ (ap (λ (xs : List ℕ). out ++ xs) (sym (ap (flat_map f) (first_line rest h))) ∙ so_far))

pub no_line : (f : List ℕ → List ℕ) (out rest all : List ℕ) → rest ≡ [] → out ++ flat_map f (lines_of rest) ≡ all → out ≡ all
unfolding lines_of
no_line f out rest all none so_far = sym (append-nil out) ∙ (rw none at so_far)

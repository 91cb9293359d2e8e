-- Requirements of a file, one line after the other.
use Rattle.std.proofs.Common.{◌≡◌, ◌<◌, ◌+◌, ℕ, List, [], ◌∷◌, ◌++◌, length, Result, Ok, Err, refl, sym, ap, ◌∙◌}
use Rattle.std.proofs.lemmas.List.{append_assoc, append-nil}
use Rattle.of_lines.specs.Lines.{before, behind, lines_of}
use Rattle.of_text.proofs.TextLemmas.{first_line}
use Rattle.of_ovs_words.specs.Outcomes.{◌>>=◌}
use Rattle.of_require.specs.RequirementFiles.{FileRefusal, SaidLine, StopsAt, line_said, lines_said}
use Rattle.of_require.specs.{declared.refusal.NoRequirement.NoRequirement, declared.refusal.NoRequirement.TheVariants.NoMemory, declared.refusal.NoRequirement.TheVariants.Refused}
use Rattle.of_require.proofs.ReadingLemmas.{behind_said}

joined : (done own : List SaidLine) (outcome : Result (List SaidLine) FileRefusal) → behind_said done (outcome >>= λ others. Ok (own ++ others)) ≡ behind_said (done ++ own) outcome
joined done own (Ok others) = ap Ok (sym (append_assoc done own others))
joined done own (Err e) = refl

same_lines : (a b : List SaidLine) (outcome : Result (List SaidLine) FileRefusal) → outcome ≡ Ok a → outcome ≡ Ok b → a ≡ b
same_lines a b outcome one other = cc

after_line : (done new : List SaidLine) (outcome rest : Result (List SaidLine) FileRefusal) → behind_said done outcome ≡ Ok new
    → behind_said done (outcome >>= λ own. rest >>= λ others. Ok (own ++ others)) ≡ behind_said new rest
after_line done new (Ok own) rest is = joined done own rest ∙ ap (λ (l : List SaidLine). behind_said l rest) (same_lines (done ++ own) new (Ok (done ++ own)) refl is)
after_line done new (Err e) rest is = absurd cc

module _ (done : List SaidLine) (number : ℕ) (rest : List ℕ) (some : 0 < length rest) where
  lines_next : behind_said done (lines_said number (lines_of rest)) ≡ behind_said done (lines_said number (before 10 rest ∷ lines_of (behind 10 rest)))
  lines_next = ap (λ (ls : List (List ℕ)). behind_said done (lines_said number ls)) (first_line rest some)

  pub lines_more : (line after : List ℕ) (new : List SaidLine) → line ≡ before 10 rest → after ≡ behind 10 rest → behind_said done (line_said number line) ≡ Ok new
      → behind_said done (lines_said number (lines_of rest)) ≡ behind_said new (lines_said (number + 1) (lines_of after))
  lines_more line after new l a is =
      lines_next
      ∙ (after_line done new (line_said number (before 10 rest)) (lines_said (number + 1) (lines_of (behind 10 rest))) (ap (λ (t : List ℕ). behind_said done (line_said number t)) (sym l) ∙ is)
      ∙ ap (λ (t : List ℕ). behind_said new (lines_said (number + 1) (lines_of t))) (sym a))

  pub lines_stop : (line : List ℕ) (stop : NoRequirement) → line ≡ before 10 rest → StopsAt (line_said number line) number stop → StopsAt (behind_said done (lines_said number (lines_of rest))) number stop
  lines_stop line NoMemory l h = tt
  lines_stop line (Refused r) l h = lines_next ∙ rw (ap (line_said number) (sym l) ∙ h) refl

pub lines_end : (done : List SaidLine) (number : ℕ) (rest : List ℕ) → rest ≡ [] → behind_said done (lines_said number (lines_of rest)) ≡ Ok done
unfolding lines_of
lines_end done number rest e = rw e (ap Ok (append-nil done))

pub same_end : {A : Type 0} (a b : Result A FileRefusal) (number : ℕ) (stop : NoRequirement) → a ≡ b → StopsAt b number stop → StopsAt a number stop
same_end a b number NoMemory e h = tt
same_end a b number (Refused r) e h = e ∙ h

-- Lines that a text has.
use Rattle.std.proofs.Common.{◌≡◌, ℕ, ◌<◌, ◌||◌, Bool, true, false, List, [], length, refl, sym, ◌∙◌}
use Rattle.std.specs.{Prelude.IsTrue, Str.bytes_eq}
use Rattle.of_text.{specs.Lines.lines_of, specs.Lines.before, specs.Lines.behind, proofs.TextLemmas.first_line}
use Rattle.of_history.specs.Changes.{HasLinesOf, has_line}

or_later : (b c : Bool) → IsTrue c → IsTrue (b || c)
or_later true c h = refl
or_later false c h = h

-- the first line of those that are left is another one, or this one
module _ (rest : List ℕ) (some : 0 < length rest) where
  later_line : (line : List ℕ) → IsTrue (has_line (behind 10 rest) line) → IsTrue (has_line rest line)
  later_line line there = rw (first_line rest some) (or_later (bytes_eq line (before 10 rest)) (has_line (behind 10 rest) line) there)

  pub later_within : (text after : List ℕ) → after ≡ behind 10 rest → HasLinesOf text rest → HasLinesOf text after
  later_within text after is within line there = within line (later_line line (rw is at there))

  pub other_line : (line first after : List ℕ) (same : Bool) → first ≡ before 10 rest → after ≡ behind 10 rest → same ≡ bytes_eq line first → same ≡ false → has_line rest line ≡ has_line after line
  other_line line first after same f a is differs = let other : bytes_eq line (before 10 rest) ≡ false = rw (← f) (sym is ∙ differs) in rw (first_line rest some, other, a) refl

  pub this_line : (line first : List ℕ) (same : Bool) → first ≡ before 10 rest → same ≡ bytes_eq line first → same ≡ true → IsTrue (has_line rest line)
  this_line line first same f is agrees = let own : bytes_eq line (before 10 rest) ≡ true = rw (← f) (sym is ∙ agrees) in rw (first_line rest some, own) refl

-- none is left
pub nothing_there : (rest line : List ℕ) → rest ≡ [] → has_line rest line ≡ false
unfolding lines_of
nothing_there rest line none = rw none refl

-- Where two ways part.
use Rattle.std.proofs.Common.{◌≡◌, ℕ, ◌<◌, Bool, true, false, List, [], length, refl, sym, ◌∙◌}
use Rattle.std.specs.Str.{bytes_eq}
use Rattle.of_text.{specs.Lines.lines_of, specs.Lines.before, specs.Lines.behind, proofs.TextLemmas.first_line}
use Rattle.of_history.specs.Reasons.{is_lookup, parts_at_lookup}

abbrev Parts : List ℕ → List ℕ → Bool
Parts old new = parts_at_lookup (lines_of old) (lines_of new)

-- a line is left of the old way
module _ (old new line : List ℕ) (some : 0 < length old) (first : line ≡ before 10 old) where
  pub ended_new : new ≡ [] → Parts old new ≡ is_lookup line
  unfolding lines_of
  ended_new none = rw (first_line old some, none, ← first) refl

  pub other_line : 0 < length new → (other : List ℕ) (same : Bool) → other ≡ before 10 new → same ≡ bytes_eq line other → same ≡ false → Parts old new ≡ is_lookup line
  other_line more other same second is differs = let test : bytes_eq line other ≡ false = sym is ∙ differs in rw (first_line old some, first_line new more, ← first, ← second, test) refl

  pub same_line : 0 < length new → (other rest others : List ℕ) (same : Bool) → other ≡ before 10 new → rest ≡ behind 10 old → others ≡ behind 10 new →
      same ≡ bytes_eq line other → same ≡ true → Parts old new ≡ Parts rest others
  same_line more other rest others same second r s is agrees = let test : bytes_eq line other ≡ true = sym is ∙ agrees in rw (first_line old some, first_line new more, ← first, ← second, test, r, s) refl

-- none is left
pub ended_old : (old new : List ℕ) → old ≡ [] → Parts old new ≡ false
unfolding lines_of
ended_old old new none = rw none refl

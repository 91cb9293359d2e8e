-- The range of places outside which no element passes a test: inner definitions, which no public contract cites.
use Rattle.std.specs.Prelude.{◌≡◌, ◌≤◌, ℕ, Bool, false, List, length, take, drop}
use Rattle.std.specs.List.{list_any}

-- none before the first place and none from the end on passes
pub record Outside {X : Type 0} (p : X → Bool) (xs : List X) (first end : ℕ) : Type 0 where
  pub order : first ≤ end
  pub within : end ≤ length xs
  pub before : list_any p (take first xs) ≡ false
  pub behind : list_any p (drop end xs) ≡ false

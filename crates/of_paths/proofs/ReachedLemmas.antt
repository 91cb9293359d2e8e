-- The states of the sets that are left.
use Rattle.std.proofs.Common.{◌≡◌, ℕ, zero, suc, List, [], ◌∷◌, ◌++◌, sym, subst, arith, inl, inr, ◌⊎◌, reverse}
use Rattle.std.{specs.List.Contains, proofs.lemmas.List.reverse-append}
use Rattle.std.proofs.lemmas.List.Elements.{Contains-append_cases, Contains-append_left, Contains-push, Contains-push_cases}
use Rattle.of_oxm.specs.declared.match_field.MatchField.{MatchField}
use Rattle.of_machine.specs.TheWorld.{TheWorld}
use Rattle.of_symbolic_run.specs.{declared.dividing.Case.Case, NextStates.AreNextStates, NextStates.IsFirstState, NextStates.IsStateAfter}
use Rattle.of_paths.specs.{declared.path.Path.Path, Paths.IsOfRun, Reasons.AreCaseSteps, Reasons.AreLeftAfter, Reasons.IsCaseStep}

-- ---- the other way round

pub from_reverse : {X : Type 0} (xs : List X) (y : X) → Contains (reverse xs) y → Contains xs y
from_reverse [] y h = h
from_reverse {X = X} (x ∷ xs) y h = by_place (λ k. from_reverse xs y k) (Contains-push_cases (reverse xs) x y (subst (λ (l : List X). Contains l y) (reverse-append (x ∷ []) xs) h))
  where
    by_place : (Contains (reverse xs) y → Contains xs y) → Contains (reverse xs) y ⊎ (x ≡ y) → Contains (x ∷ xs) y
    by_place from (inl before) = (let k = from before in (suc k.0, omega (arith, k.1), k.2))
    by_place from (inr same) = (0, omega arith, same)

pub to_reverse : {X : Type 0} (xs : List X) (y : X) → Contains xs y → Contains (reverse xs) y
to_reverse [] y h = h
to_reverse {X = X} (x ∷ xs) y (zero, lt, is) = subst (λ (l : List X). Contains l y) (sym (reverse-append (x ∷ []) xs)) (subst (λ (z : X). Contains (reverse xs ++ x ∷ []) z) is (Contains-push (reverse xs) x))
to_reverse {X = X} (x ∷ xs) y (suc k, lt, is) = subst (λ (l : List X). Contains l y) (sym (reverse-append (x ∷ []) xs)) (Contains-append_left (reverse xs) (x ∷ []) y (to_reverse xs y (k, omega (arith, lt), is)))

-- ---- each state follows from the first one

pub record IsReached (w : TheWorld) (c : Case) : Type 0 where
  pub taken : ℕ
  pub after : IsStateAfter w taken c.state

module _ (w : TheWorld) where
  abbrev AreReached : List Case → Type 0
  AreReached cases = (c : Case) → Contains cases c → IsReached w c

  first_reached : (first : Case) → IsFirstState first.state → AreReached (first ∷ [])
  first_reached first begins c there = elim (Contains-push_cases [] first c there) as (λ x. IsReached w c) [
    | inl before ↦ absurd (omega (arith, before.1))
    | inr same ↦ subst (IsReached w) same (record { taken = 0; after = begins })
  ]

  next_reached : (old : Case) (cases : List Case) → IsReached w old → AreNextStates w old.state cases → AreReached (reverse cases)
  next_reached old cases h next c there = record { taken = suc h.taken; after = (old.state, h.after, next.each c (from_reverse cases c there)) }

  moved_reached : (others : List Case) (old : Case) (cases : List Case) → AreReached (others ++ old ∷ []) → AreNextStates w old.state cases → AreReached (others ++ reverse cases)
  moved_reached others old cases h next c there = elim (Contains-append_cases others (reverse cases) c there) as (λ x. IsReached w c) [
    | inl before ↦ h c (Contains-append_left others (old ∷ []) c before)
    | inr new ↦ next_reached old cases (h old (Contains-push others old)) next c new
  ]

  others_reached : (others : List Case) (old : Case) → AreReached (others ++ old ∷ []) → AreReached others
  others_reached others old h c there = h c (Contains-append_left others (old ∷ []) c there)

  step_reached : (before end : List Case) → AreReached before → IsCaseStep w before end → AreReached end
  step_reached before end h (IsCaseStep.moved others old cases is more are next) = subst AreReached (sym more) (moved_reached others old cases (subst AreReached is h) next)
  step_reached before end h (IsCaseStep.ended old is done) = others_reached end old (subst AreReached is h)
  step_reached before end h (IsCaseStep.unknown old is unknown) = others_reached end old (subst AreReached is h)

  steps_reached : (first : Case) → IsFirstState first.state → (n : ℕ) (end : List Case) → AreCaseSteps w first n end → AreReached end
  steps_reached first begins zero end h = subst AreReached (sym h) (first_reached first begins)
  steps_reached first begins (suc n) end h = step_reached h.0 end (steps_reached first begins n h.0 h.1) h.2

  -- a set whose run is at its end
  pub last_of_run : (within : List MatchField) (taken : ℕ) (cases : List Case) (old : Case) (p : Path) → AreLeftAfter w within taken (cases ++ old ∷ []) → old.state.tasks.items ≡ [] → p.steps.items ≡ old.state.steps.items → p.emitted.items ≡ old.state.emitted.items → IsOfRun w p
  last_of_run within taken cases old p left done steps emitted =
      let reached = steps_reached left.first left.begins.begins taken (cases ++ old ∷ []) left.steps old (Contains-push cases old) in
      record { taken = reached.taken; state = old.state; reached = reached.after; ended = done; steps = steps; emitted = emitted }

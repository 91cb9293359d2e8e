-- The steps that the runs of all frames took together.
use Rattle.std.proofs.Common.{◌≡◌, ◌≤◌, ◌+◌, ℕ, suc, List, [], ◌∷◌, ◌++◌, refl, reverse, subst, arith}
use Rattle.of_oxm.specs.declared.match_field.MatchField.{MatchField}
use Rattle.of_machine.specs.TheWorld.{TheWorld}
use Rattle.of_symbolic_run.specs.{declared.dividing.Case.Case, Cases.AreCases, NextStates.AreNextStates, Sides.IsUnknownLookup}
use Rattle.of_paths.specs.Reasons.{AreCaseSteps, AreLeftAfter, IsCaseStep}

pub at_most : (taken left steps : ℕ) → taken + left ≡ steps → taken ≤ steps
at_most taken left steps counted = omega (arith, counted)

pub all_taken : (taken left steps : ℕ) → taken + left ≡ steps → left ≤ 0 → taken ≡ steps
all_taken taken left steps counted none = omega (arith, counted, none)

module _ (w : TheWorld) (within : List MatchField) (taken : ℕ) where
  one_more : (before after : List Case) → AreLeftAfter w within taken before → IsCaseStep w before after → AreLeftAfter w within (taken + 1) after
  one_more before after h step = record {
    first = h.first;
    begins = h.begins;
    steps = subst (λ (n : ℕ). AreCaseSteps w h.first n after) (let e : suc taken ≡ taken + 1 = omega arith in e) (before, h.steps, step);
  }

  module _ (cases : List Case) (old : Case) (left : AreLeftAfter w within taken (cases ++ old ∷ [])) where
    pub step_taken : (more : List Case) → AreCases w old.frames old.state more → AreNextStates w old.state more → AreLeftAfter w within (taken + 1) (cases ++ reverse more)
    step_taken more are next = one_more (cases ++ old ∷ []) (cases ++ reverse more) left (IsCaseStep.moved cases old more refl refl are next)

    pub step_ended : old.state.tasks.items ≡ [] → AreLeftAfter w within (taken + 1) cases
    step_ended done = one_more (cases ++ old ∷ []) cases left (IsCaseStep.ended old refl done)

    pub step_unknown : IsUnknownLookup old.frames.inner w old.state → AreLeftAfter w within (taken + 1) cases
    step_unknown unknown = one_more (cases ++ old ∷ []) cases left (IsCaseStep.unknown old refl unknown)

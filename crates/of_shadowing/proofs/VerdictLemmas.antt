-- One finding more.
use Rattle.std.proofs.Common.{◌≡◌, ℕ, ◌+◌, ◌<◌, ◌≤◌, zero, suc, Option, Some, List, [], ◌∷◌, ◌++◌, length, refl, sym, ap, subst, ◌∙◌, arith}
use Rattle.std.specs.Prelude.{IfSome, slice_get}
use Rattle.of_check.specs.declared.finding.Finding.{Finding}
use Rattle.of_shadowing.specs.{declared.listed_flow.ListedFlow.ListedFlow, Shadows.AreVerdicts, Shadows.IsFindingOn, Shadows.FlowVerdictHolds}

-- one finding on each of the first flows
pub record AreVerdictsBelow (flows : List ListedFlow) (steps : ℕ) (findings : List Finding) (n : ℕ) : Type 0 where
  pub count : length findings ≡ n
  pub within : n ≤ length flows
  pub each : (k : ℕ) (f : Finding) → slice_get findings k ≡ Some f → IsFindingOn flows steps k f

pub no_verdicts : (flows : List ListedFlow) (steps : ℕ) → AreVerdictsBelow flows steps [] 0
no_verdicts flows steps = record { count = refl; within = omega arith; each = none }
  where
    none : (k : ℕ) (f : Finding) → slice_get [] k ≡ Some f → IsFindingOn flows steps k f
    none zero f e = absurd cc
    none (suc k) f e = absurd cc

-- what holds of the elements of a list and of one more
later : (P : ℕ → Finding → Type 0) (fs : List Finding) (f : Finding) → ((k : ℕ) (g : Finding) → slice_get fs k ≡ Some g → P k g) → P (length fs) f → (k : ℕ) (g : Finding) → slice_get (fs ++ f ∷ []) k ≡ Some g → P k g
later P [] f all last zero g e = (let same : f ≡ g = cc in subst (P 0) same last)
later P [] f all last (suc zero) g e = absurd cc
later P [] f all last (suc (suc k)) g e = absurd cc
later P (h ∷ fs) f all last zero g e = all 0 g e
later P (h ∷ fs) f all last (suc k) g e = later (λ i. P (suc i)) fs f (λ i. all (suc i)) last k g e

longer : (fs : List Finding) (f : Finding) → length (fs ++ f ∷ []) ≡ length fs + 1
longer [] f = refl
longer (h ∷ fs) f = let l = longer fs f in omega (arith, l)

pub one_more : (flows : List ListedFlow) (steps : ℕ) (fs : List Finding) (n : ℕ) (f : Finding) (own : ListedFlow) → slice_get flows n ≡ Some own → n < length flows → AreVerdictsBelow flows steps fs n → f.place ≡ n → f.table ≡ own.table → FlowVerdictHolds flows n steps f.verdict → AreVerdictsBelow flows steps (fs ++ f ∷ []) (n + 1)
one_more flows steps fs n f own there lt h place table holds = record {
  count = longer fs f ∙ ap (λ (i : ℕ). i + 1) h.count;
  within = omega (arith, lt);
  each = later (IsFindingOn flows steps) fs f h.each (subst (λ (i : ℕ). IsFindingOn flows steps i f) (sym h.count) this);
}
  where
    this : IsFindingOn flows steps n f
    this = record { place = place; table = subst (λ (o : Option ListedFlow). IfSome o (λ x. f.table ≡ x.table)) (sym there) table; holds = holds }

pub all_done : (flows : List ListedFlow) (steps : ℕ) (fs : List Finding) (n : ℕ) → length flows ≤ n → AreVerdictsBelow flows steps fs n → AreVerdicts flows steps fs
all_done flows steps fs n le h = record { count = h.count ∙ omega (arith, le, h.within); each = h.each }

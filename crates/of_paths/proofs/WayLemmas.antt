-- The ways of classes.
use Rattle.std.proofs.Common.{◌≡◌, ◌<◌, ◌≤◌, ◌+◌, ℕ, zero, suc, List, [], ◌∷◌, ◌++◌, length, get_or, map, Some, sym, ap, ◌∙◌, arith, inl, inr, ◌⊎◌}
use Rattle.std.{specs.Prelude.slice_get, specs.List.Contains, proofs.lemmas.List.Elements.Contains-push_cases, proofs.lemmas.List.length-map, proofs.lemmas.Option.slice_get-get_or}
use Rattle.std.proofs.Math.Nat.{eq-or-lt_of_le}
use Rattle.of_machine.specs.declared.data.Step.{Step}
use Rattle.of_paths.specs.{declared.path.PathClass.PathClass, Ways.AreApart, Ways.class_way}

-- the way of the class at a place
pub way_at : (cs : List PathClass) (i : ℕ) (x : PathClass) → x ≡ get_or cs i x → i < length cs → slice_get (map class_way cs) i ≡ Some (class_way x)
way_at [] i x is lt = absurd (omega (arith, lt))
way_at (c ∷ cs) zero x is lt = ap (λ (y : PathClass). Some (class_way y)) (sym is)
way_at (c ∷ cs) (suc i) x is lt = way_at cs i x is (omega (arith, lt))

-- no class so far has the way
abbrev pub HasNoneSoFar : List (List Step) → ℕ → List Step → Type 0
HasNoneSoFar ways i way = (k : ℕ) → k < i → slice_get ways k ≡ Some way → ⊥

pub none_more : (ways : List (List Step)) (i : ℕ) (way own : List Step) → slice_get ways i ≡ Some own → (own ≡ way → ⊥) → HasNoneSoFar ways i way → HasNoneSoFar ways (i + 1) way
none_more ways i way own at other so_far k lt is = by_place (eq-or-lt_of_le (omega (arith, lt)))
  where
    by_place : (k ≡ i) ⊎ (k < i) → ⊥
    by_place (inr before) = so_far k before is
    by_place (inl same) = other (let two : Some own ≡ Some way = sym at ∙ ap (slice_get ways) (sym same) ∙ is in cc)

pub none_of_all : (ways : List (List Step)) (i : ℕ) (way : List Step) → length ways ≤ i → HasNoneSoFar ways i way → Contains ways way → ⊥
none_of_all ways i way le none there = none there.0 (omega (arith, le, there.1)) (slice_get-get_or ways there.0 way there.1 ∙ ap (λ (x : List Step). Some x) there.2)

pub apart_more : (ways : List (List Step)) (way : List Step) → (Contains ways way → ⊥) → AreApart ways → AreApart (ways ++ way ∷ [])
apart_more [] way other are = (λ h. absurd (omega (arith, h.1)), tt)
apart_more (x ∷ ways) way other are = (
  λ h. by_place (Contains-push_cases ways way x h),
  apart_more ways way (λ h. other (suc h.0, omega (arith, h.1), h.2)) are.1,
)
  where
    by_place : Contains ways x ⊎ (way ≡ x) → ⊥
    by_place (inl before) = are.0 before
    by_place (inr same) = other (0, omega arith, sym same)

pub all_looked_at : (cs : List PathClass) (i : ℕ) (way : List Step) → length cs ≤ i → HasNoneSoFar (map class_way cs) i way → Contains (map class_way cs) way → ⊥
all_looked_at cs i way le none = none_of_all (map class_way cs) i way (omega (arith, le, length-map cs class_way)) none

-- a place at which there is a way
pub is_inside : (cs : List PathClass) (i : ℕ) (way : List Step) → slice_get (map class_way cs) i ≡ Some way → i < length cs
is_inside [] i way h = absurd cc
is_inside (c ∷ cs) zero way h = omega arith
is_inside (c ∷ cs) (suc i) way h = omega (arith, is_inside cs i way h)

pub is_at_place : (cs : List PathClass) (i : ℕ) (x : PathClass) (way : List Step) → x ≡ get_or cs i x → i < length cs → slice_get (map class_way cs) i ≡ Some way → class_way x ≡ way
is_at_place cs i x way is lt h = let two : Some (class_way x) ≡ Some way = sym (way_at cs i x is lt) ∙ h in cc

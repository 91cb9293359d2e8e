-- Two walks side by side, which go on as long as both have the same.
use Rattle.std.proofs.Common.{◌≡◌, ℕ, ◌+◌, ◌<◌, Bool, true, false, List, [], ◌∷◌, length, drop, get_or, Option, Some, None, Decides, refl, sym, ap, ◌∙◌, arith}
use Rattle.std.{specs.Prelude.not, specs.Option.IfNone, specs.Option.IfSome, specs.Option.MatchOption, specs.Option.is_some, proofs.lemmas.List.drop_more}

-- whether the whole lists are the same is whether what is left of them is
pub record SameIfLeft {X : Type 0} (whole other xs ys : List X) : Type 0 where
  pub left : whole ≡ other → xs ≡ ys
  pub back : xs ≡ ys → whole ≡ other

module _ {X : Type 0} (whole other xs ys : List X) (so_far : SameIfLeft whole other xs ys) where
  pub pairing_goes_on : (x y : X) (xs' ys' : List X) → xs ≡ x ∷ xs' → ys ≡ y ∷ ys' → x ≡ y → SameIfLeft whole other xs' ys'
  pairing_goes_on x y xs' ys' e f same = record {
    left = λ h. (let g : x ∷ xs' ≡ y ∷ ys' = sym e ∙ so_far.left h ∙ f in cc);
    back = λ h. so_far.back (let g : x ∷ xs' ≡ y ∷ ys' = cc in e ∙ g ∙ sym f);
  }

  pub pairing_parts : (x y : X) (xs' ys' : List X) → xs ≡ x ∷ xs' → ys ≡ y ∷ ys' → ¬ (x ≡ y) → ¬ (whole ≡ other)
  pairing_parts x y xs' ys' e f differ h = differ (let g : x ∷ xs' ≡ y ∷ ys' = sym e ∙ so_far.left h ∙ f in cc)

  pub first_longer : (x : X) (xs' : List X) → xs ≡ x ∷ xs' → ys ≡ [] → ¬ (whole ≡ other)
  first_longer x xs' e f h = let g : x ∷ xs' ≡ [] = sym e ∙ so_far.left h ∙ f in absurd cc

  pub second_longer : (y : X) (ys' : List X) → xs ≡ [] → ys ≡ y ∷ ys' → ¬ (whole ≡ other)
  second_longer y ys' e f h = let g : [] ≡ y ∷ ys' = sym e ∙ so_far.left h ∙ f in absurd cc

  pub pairing_ends : xs ≡ [] → ys ≡ [] → whole ≡ other
  pairing_ends e f = so_far.back (e ∙ sym f)

  -- the first is at its end, and so is the second if it gives no more
  pub pairing_decided : xs ≡ [] → {Y : Type 0} (now : Y → X) (P : Type 0) → (P → ys ≡ []) → (r : Option Y) (ys' : List X) → MatchOption r P (λ y. ys ≡ now y ∷ ys') → (b : Bool) → is_some r ≡ not b → Decides b (whole ≡ other)
  pairing_decided e now P none None ys' done true is = (λ h. pairing_ends e (none done), λ h. refl)
  pairing_decided e now P none None ys' done false is = absurd cc
  pairing_decided e now P none (Some y) ys' goes true is = absurd cc
  pairing_decided e now P none (Some y) ys' goes false is = (λ h. absurd cc, λ h. absurd (second_longer (now y) ys' e goes h))

  pub pairing_told : xs ≡ [] → {Y : Type 0} (now : Y → X) (behind : Y → List X) (Q : Y → Type 0) → (r : Option Y) → IfSome r (λ y. (ys ≡ now y ∷ behind y) × Q y) → IfNone r (ys ≡ []) → (b : Bool) → is_some r ≡ not b → Decides b (whole ≡ other)
  pairing_told e now behind Q None some none true is = (λ h. pairing_ends e none, λ h. refl)
  pairing_told e now behind Q None some none false is = absurd cc
  pairing_told e now behind Q (Some y) some none true is = absurd cc
  pairing_told e now behind Q (Some y) some none false is = (λ h. absurd cc, λ h. absurd (second_longer (now y) (behind y) e some.0 h))

-- ---- slices

pub no_elements : {X : Type 0} (xs : List X) → length xs ≡ 0 → xs ≡ []
no_elements [] e = refl
no_elements (x ∷ xs) e = absurd (omega arith)

pub at_index : {X : Type 0} (xs : List X) (i : ℕ) (x : X) → i < length xs → x ≡ get_or xs i x → drop i xs ≡ x ∷ drop (i + 1) xs
at_index xs i x lt is = drop_more xs i x lt ∙ ap (λ y. y ∷ drop (i + 1) xs) (sym is)

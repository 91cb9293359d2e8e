-- The regions with which a search begins.
use Rattle.std.proofs.Common.{◌≡◌, ℕ, zero, suc, get_or, ◌⊎◌, ◌<◌, ◌≤◌, ◌+◌, true, List, [], ◌∷◌, ◌++◌, length, Option, Some, None, refl, subst, arith, inl, inr}
use Rattle.std.{specs.Prelude.IfSome, specs.List.Contains, proofs.lemmas.List.length-append}
use Rattle.std.proofs.lemmas.List.Elements.{Contains-append_cases, Contains-append_left, Contains-append_right, Contains-push_cases}
use Rattle.of_layers.specs.declared.field.Field.{Field}
use Rattle.of_oxm.specs.{declared.match_field.MatchField.MatchField, Relations.matches_map}
use Rattle.of_frames.specs.{declared.shape.Shape.Shape, declared.shape.Tagging.Tagging, declared.shape.Tagging.TheVariants.Untagged, declared.shape.Tagging.TheVariants.Tagged}
use Rattle.of_frames.specs.Rules.{HasShape, IsTagging}
use Rattle.of_regions.specs.{declared.region.Region.Region, Regions.InRegion, Regions.InOneRegion, Searching.InSome, Starting.IsBegun, Starting.region_list}

none_of : (x : Region) → Contains [] x → ⊥
none_of x c = absurd (omega (arith, c.1))

one_of : (a x : Region) → Contains (a ∷ []) x → a ≡ x
one_of a x c = elim (Contains-push_cases [] a x c) as (λ w. a ≡ x) [ inl none ↦ absurd (none_of x none) | inr e ↦ e ]

module _ (own : List MatchField) where
  -- a region in which the match matches all
  abbrev IsMatched : Region → Type 0
  IsMatched r = (fields : Field → Option ℕ) → InRegion r fields → matches_map own fields ≡ true

  listed_few : (a : Option Region) → length (region_list a) ≤ 1
  listed_few None = omega arith
  listed_few (Some r) = omega arith

  listed_matched : (a : Option Region) → IfSome a IsMatched → (r : Region) → Contains (region_list a) r → IsMatched r
  listed_matched None h r c = absurd (none_of r c)
  listed_matched (Some x) h r c = subst IsMatched (one_of x r c) h

  listed_in : (a : Option Region) (fields : Field → Option ℕ) → InOneRegion a fields → InSome (region_list a) fields
  listed_in None fields h = absurd h
  listed_in (Some r) fields h = (r, (0, omega arith, refl), h)

  in_left : (old new : List Region) (fields : Field → Option ℕ) → InSome old fields → InSome (old ++ new) fields
  in_left old new fields h = (h.0, Contains-append_left old new h.0 h.1, h.2)

  in_right : (old new : List Region) (fields : Field → Option ℕ) → InSome new fields → InSome (old ++ new) fields
  in_right old new fields h = (h.0, Contains-append_right old new h.0 h.1, h.2)

  pub one_begun : (s : Shape) (old : List Region) (a : Option Region) → IfSome a IsMatched → ((fields : Field → Option ℕ) → matches_map own fields ≡ true → HasShape s fields → Unit {0} → InOneRegion a fields) → IsBegun own s old (old ++ region_list a)
  one_begun s old a matched all = record {
    few = omega (arith, listed_few a, length-append old (region_list a));
    kept = λ r c. Contains-append_left old (region_list a) r c;
    matched = λ r c. elim (Contains-append_cases old (region_list a) r c) as (λ w. Contains old r ⊎ IsMatched r) [ inl x ↦ inl x | inr x ↦ inr (listed_matched a matched r x) ];
    all = λ t fields g h m. in_right old (region_list a) fields (listed_in a fields (all fields m g tt));
  }

  pub two_begun : (s : Shape) (old : List Region) (a b : Option Region) → IfSome a IsMatched → ((fields : Field → Option ℕ) → matches_map own fields ≡ true → HasShape s fields → IsTagging Tagged fields → InOneRegion a fields)
      → IfSome b IsMatched → ((fields : Field → Option ℕ) → matches_map own fields ≡ true → HasShape s fields → IsTagging Untagged fields → InOneRegion b fields) → IsBegun own s old ((old ++ region_list a) ++ region_list b)
  two_begun s old a b matched_a all_a matched_b all_b = record {
    few = omega (arith, listed_few a, listed_few b, length-append old (region_list a), length-append (old ++ region_list a) (region_list b));
    kept = λ r c. Contains-append_left (old ++ region_list a) (region_list b) r (Contains-append_left old (region_list a) r c);
    matched = λ r c. elim (Contains-append_cases (old ++ region_list a) (region_list b) r c) as (λ w. Contains old r ⊎ IsMatched r) [
      | inl x ↦ elim (Contains-append_cases old (region_list a) r x) as (λ w. Contains old r ⊎ IsMatched r) [ inl y ↦ inl y | inr y ↦ inr (listed_matched a matched_a r y) ]
      | inr x ↦ inr (listed_matched b matched_b r x)
    ];
    all = λ t fields g h m. by_tagging t fields g h m;
  }
    where
      by_tagging : (t : Tagging) (fields : Field → Option ℕ) → HasShape s fields → IsTagging t fields → matches_map own fields ≡ true → InSome ((old ++ region_list a) ++ region_list b) fields
      by_tagging Tagged fields g h m = in_left (old ++ region_list a) (region_list b) fields (in_right old (region_list a) fields (listed_in a fields (all_a fields m g h)))
      by_tagging Untagged fields g h m = in_right (old ++ region_list a) (region_list b) fields (listed_in b fields (all_b fields m g h))

  pub still_in : (s : Shape) (old new : List Region) → IsBegun own s old new → (fields : Field → Option ℕ) → InSome old fields → InSome new fields
  still_in s old new b fields h = (h.0, b.kept h.0 h.1, h.2)

  pub still_matched : (s : Shape) (old new : List Region) → IsBegun own s old new → ((r : Region) → Contains old r → IsMatched r) → (r : Region) → Contains new r → IsMatched r
  still_matched s old new b h r c = elim (b.matched r c) as (λ w. IsMatched r) [ inl x ↦ h r x | inr x ↦ x ]

-- within a list another default is the same
pub same_or : {X : Type 0} (xs : List X) (i : ℕ) (a b : X) → i < length xs → get_or xs i a ≡ get_or xs i b
same_or [] i a b lt = absurd (omega (arith, lt))
same_or (x ∷ xs) zero a b lt = refl
same_or (x ∷ xs) (suc i) a b lt = same_or xs i a b (omega (arith, lt))

-- The rows of a cache, of which the last one comes first or goes.
use Rattle.std.proofs.Common.{◌≡◌, ℕ, ◌+◌, ◌<◌, ◌≤◌, Bool, true, false, cond, not, List, [], ◌∷◌, ◌++◌, length, Option, Some, refl, sym, ◌∙◌, ap, subst, arith, append-nil, append_assoc, length-append}
use Rattle.std.specs.{Prelude.filter, Prelude.◌||◌, List.AllByRecursion, List.IsDistinct, List.list_any, Option.option_map_or, Map.keys_of, Map.lookup_entry, Map.remove_entry}
use Rattle.std.proofs.lemmas.Map.Keys.{IsDistinct-head, IsDistinct-tail}
use Rattle.lru.{specs.LruCache.promoted, proofs.Splits.cut_last, proofs.Splits.last_from}
use Rattle.of_cache.specs.{declared.region.Region.Region, Listed.is_same_region, SameRegion.equal_regions, SameRegion.region_itself}

-- ---- the last row comes first

ends_differ : {A : Type 0} (x : Region) (es : List (Region × A)) (e : Region × A) → AllByRecursion (λ y. is_same_region x y ≡ false) (keys_of (es ++ e ∷ [])) → is_same_region x e.0 ≡ false
ends_differ x [] e h = h.0
ends_differ x (y ∷ es) e h = ends_differ x es e h.1

other_way : (x y : Region) → is_same_region x y ≡ false → is_same_region y x ≡ false
other_way x y h = by_test (is_same_region y x) refl
  where
    by_test : (b : Bool) → is_same_region y x ≡ b → b ≡ false
    by_test true e = absurd (let f : is_same_region x x ≡ false = subst (λ (z : Region). is_same_region x z ≡ false) (equal_regions y x e) h in let g : true ≡ false = sym (region_itself x) ∙ f in cc)
    by_test false e = refl

last_entry_is : {A : Type 0} (es : List (Region × A)) (e : Region × A) → IsDistinct is_same_region (keys_of (es ++ e ∷ [])) → lookup_entry (is_same_region e.0) (es ++ e ∷ []) ≡ Some e
last_entry_is [] e d = rw (region_itself e.0) refl
last_entry_is (x ∷ es) e d = rw (other_way x.0 e.0 (ends_differ x.0 es e (IsDistinct-head is_same_region x.0 (keys_of (es ++ e ∷ [])) d))) (last_entry_is es e (IsDistinct-tail is_same_region x.0 (keys_of (es ++ e ∷ [])) d))

last_removed : {A : Type 0} (es : List (Region × A)) (e : Region × A) → IsDistinct is_same_region (keys_of (es ++ e ∷ [])) → remove_entry (is_same_region e.0) (es ++ e ∷ []) ≡ es
last_removed [] e d = rw (region_itself e.0) refl
last_removed (x ∷ es) e d = rw (other_way x.0 e.0 (ends_differ x.0 es e (IsDistinct-head is_same_region x.0 (keys_of (es ++ e ∷ [])) d))) (ap (λ ys. x ∷ ys) (last_removed es e (IsDistinct-tail is_same_region x.0 (keys_of (es ++ e ∷ [])) d)))

pub promoted_last : {A : Type 0} (all es : List (Region × A)) (e : Region × A) (region : Region) → all ≡ es ++ e ∷ [] → region ≡ e.0 → IsDistinct is_same_region (keys_of all) → promoted (is_same_region region) all ≡ e ∷ es
promoted_last {A} all es e region is same d =
    let d' : IsDistinct is_same_region (keys_of (es ++ e ∷ [])) = subst (λ (xs : List (Region × A)). IsDistinct is_same_region (keys_of xs)) is d in
    rw (is, same) (
    ap (λ (o : Option (Region × A)). option_map_or (λ f. f ∷ remove_entry (is_same_region e.0) (es ++ e ∷ [])) o (es ++ e ∷ [])) (last_entry_is es e d')
    ∙ ap (λ (xs : List (Region × A)). e ∷ xs) (last_removed es e d'))

-- ---- so many turns

-- those after a place have turned: the ones that stay stand first
pub record AreTurned {X : Type 0} (stays : X → Bool) (first now : List X) (turns : ℕ) : Type 0 where
  pub before : List X
  pub after : List X
  pub parts : first ≡ before ++ after
  pub count : length after ≡ turns
  pub is : now ≡ filter stays after ++ before

pub none_turned : {X : Type 0} (stays : X → Bool) (xs : List X) → AreTurned stays xs xs 0
none_turned stays xs = record { before = xs; after = []; parts = sym (append-nil xs); count = refl; is = refl }

pub one_turned : {X : Type 0} (stays goes : X → Bool) (first now new : List X) (turns : ℕ) → ((x : X) → stays x ≡ not (goes x)) → turns < length first → AreTurned stays first now turns
    → ((before : List X) (x : X) → now ≡ before ++ x ∷ [] → new ≡ cond (goes x) before (x ∷ before)) → AreTurned stays first new (turns + 1)
one_turned {X} stays goes first now new turns opposite lt t step = by_before t.before t.parts t.is
  where
    kept : (x : X) (b : Bool) → goes x ≡ b → (xs ys : List X) → cond b (xs ++ ys) (x ∷ (xs ++ ys)) ≡ cond (stays x) (x ∷ xs) xs ++ ys
    kept x true e xs ys = let s : stays x ≡ false = opposite x ∙ ap not e in rw s refl
    kept x false e xs ys = let s : stays x ≡ true = opposite x ∙ ap not e in rw s refl

    by_before : (before : List X) → first ≡ before ++ t.after → now ≡ filter stays t.after ++ before → AreTurned stays first new (turns + 1)
    by_before [] parts is = absurd (let n : length first ≡ length t.after = ap length parts in omega (arith, t.count))
    by_before (b ∷ bs) parts is =
        let cut = cut_last b bs in
        let x = last_from b bs in
        let us = cut.0 in
        record {
          before = us;
          after = x ∷ t.after;
          parts = parts ∙ ap (λ (ys : List X). ys ++ t.after) cut.1 ∙ append_assoc us (x ∷ []) t.after;
          count = (let n = t.count in omega arith);
          is = step (filter stays t.after ++ us) x (is ∙ ap (λ (ys : List X). filter stays t.after ++ ys) cut.1 ∙ sym (append_assoc (filter stays t.after) us (x ∷ []))) ∙ kept x (goes x) refl (filter stays t.after) us;
        }

pub all_turned : {X : Type 0} (stays : X → Bool) (first now : List X) (turns : ℕ) → length first ≤ turns → AreTurned stays first now turns → now ≡ filter stays first
all_turned {X} stays first now turns le t = by_before t.before t.parts t.is
  where
    by_before : (before : List X) → first ≡ before ++ t.after → now ≡ filter stays t.after ++ before → now ≡ filter stays first
    by_before [] parts is = is ∙ append-nil (filter stays t.after) ∙ ap (filter stays) (sym parts)
    by_before (b ∷ bs) parts is = absurd (let n : length first ≡ length ((b ∷ bs) ++ t.after) = ap length parts in omega (arith, t.count, length-append (b ∷ bs) t.after))

-- ---- no row goes

pub none_goes : {X : Type 0} (goes : X → Bool) (xs : List X) → list_any goes xs ≡ false → xs ≡ filter (λ x. not (goes x)) xs
none_goes goes [] h = refl
none_goes {X} goes (x ∷ xs) h = by_test (goes x) h (none_goes goes xs)
  where
    by_test : (b : Bool) → (b || list_any goes xs) ≡ false → (list_any goes xs ≡ false → xs ≡ filter (λ y. not (goes y)) xs) → x ∷ xs ≡ cond (not b) (x ∷ filter (λ y. not (goes y)) xs) (filter (λ y. not (goes y)) xs)
    by_test true h later = absurd cc
    by_test false h later = ap (λ (ys : List X). x ∷ ys) (later h)

use Rattle.std.proofs.Common.{◌≡◌, ℕ, zero, suc, List, [], ◌∷◌, Option, take, refl, ap, ◌∙◌}
use Rattle.lru.specs.LruCache.{LruCache, lru_cache}
use Rattle.of_cache.{specs.declared.region.Region.Region, specs.Regions.AnsweredRegion, proofs.Changing.none_right, proofs.Masks.no_masks_of}
use Rattle.of_cache.proofs.cached.Cached.with_rows.Goals as goal

none_taken : (n : ℕ) (rows : List AnsweredRegion) → rows ≡ [] → take n rows ≡ []
none_taken n [] e = by_count n
  where
    by_count : (n : ℕ) → take {A = AnsweredRegion} n [] ≡ []
    by_count zero = refl
    by_count (suc n) = refl
none_taken n (row ∷ rows) e = absurd cc

still_empty : {old new : LruCache Region (Option (ℕ × ℕ))} {n m : ℕ} → old ≡ lru_cache [] n → new ≡ lru_cache (take m old.entries) m → new.entries ≡ []
still_empty {old} {new} {n} {m} o r = ap (λ (x : LruCache Region (Option (ℕ × ℕ))). x.entries) r ∙ none_taken m old.entries (ap (λ (x : LruCache Region (Option (ℕ × ℕ))). x.entries) o)

pub invariant_of-result : goal.invariant_of-result
invariant_of-result g c =
    let rows = c.resize.new.self in
    let none = still_empty c.in_ok-rows.ensures c.resize.ensures in
    (none_right (g.L.Lookup.content c.args.inner) rows.entries none, no_masks_of c.new-3.result.items rows.entries c.new-3.ensures.items none)

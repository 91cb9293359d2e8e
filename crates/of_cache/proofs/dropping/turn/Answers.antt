use Rattle.std.proofs.Common.{◌≡◌, ℕ, ◌∷◌, Bool, cond, Option, Some, sym, ◌∙◌, ap}
use Rattle.lru.specs.LruCache.{LruCache}
use Rattle.of_cache.{specs.declared.region.Region.Region, specs.Causes.goes, proofs.Turning.promoted_last}
use Rattle.of_cache.proofs.dropping.turn.Goals as goal

record ArePairs (a b : Region) (p q : Bool) : Type 0 where
  first : a ≡ b
  other : p ≡ q

some_pair : (a b : Region) (p q : Bool) → ◌≡◌ {A = Option (Region × Bool)} (Some (a, p)) (Some (b, q)) → ArePairs a b p q
some_pair a b p q e = let s : ◌≡◌ {A = Region × Bool} (a, p) (b, q) = cc in record { first = ap (λ (x : Region × Bool). x.0) s; other = ap (λ (x : Region × Bool). x.1) s }

pub returns-else-ends-clause-entries : goal.returns-else-ends-clause-entries
returns-else-ends-clause-entries c = λ before row e.
    let both = some_pair c.in-Some.region row.0 c.in-Some.ends (goes c.args.cause.now row) (sym c.in-Some.is ∙ c.last_of.ensures before row e) in
    ap (λ (x : LruCache Region (Option (ℕ × ℕ))). x.entries) c.promote.ensures.entries
    ∙ promoted_last c.args.rows.now.entries before row c.in-Some.region e both.first c.len-len.ensures.valid.0
    ∙ ap (λ (b : Bool). cond b before (row ∷ before)) (sym c.if-ends.false ∙ both.other)

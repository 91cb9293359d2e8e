use Rattle.std.proofs.Common.{◌≡◌, ℕ, true, false, Option, sym, ◌∙◌, ap}
use Rattle.std.specs.{Option.option_map_or, Option.option_copied, Map.lookup}
use Rattle.lru.specs.LruCache.{LruCache}
use Rattle.of_cache.{specs.declared.region.Region.Region, specs.Causes.goes, specs.Listed.is_same_region, proofs.Popping.dropped}
use Rattle.of_cache.proofs.dropping.drop_row.Goals.{in-Some, in-None}
use Rattle.of_cache.proofs.dropping.drop_row.Goals as goal

pub returns-then-is_dropped-clause-entries : goal.returns-then-is_dropped-clause-entries
returns-then-is_dropped-clause-entries c =
    let won : c.match-peek.is_dropped ≡ option_map_or (λ a. goes c.args.cause.now (c.args.region.now, a)) (lookup (is_same_region c.args.region.now) c.args.rows.now.entries) false = elim c.match-peek.branch [
      | in-Some w ↦ w.is_dropped-is ∙ w.goes-is_dropped.ensures ∙ ap (λ (o : Option (Option (ℕ × ℕ))). option_map_or (λ a. goes c.args.cause.now (c.args.region.now, a)) o false) (sym (ap option_copied w.in-Some.is) ∙ c.peek.ensures)
      | in-None w ↦ w.is_dropped-is ∙ ap (λ (o : Option (Option (ℕ × ℕ))). option_map_or (λ a. goes c.args.cause.now (c.args.region.now, a)) o false) (sym (ap option_copied w.in-None.is) ∙ c.peek.ensures)
    ] in
    ap (λ (x : LruCache Region (Option (ℕ × ℕ))). x.entries) c.pop.ensures.entries
    ∙ dropped (λ a. goes c.args.cause.now (c.args.region.now, a)) c.args.region.now c.args.rows.now.entries true c.len-len.ensures.valid.0 (sym c.if-is_dropped.true ∙ won)

pub returns-else-is_dropped-clause-entries : goal.returns-else-is_dropped-clause-entries
returns-else-is_dropped-clause-entries c =
    let won : c.match-peek.is_dropped ≡ option_map_or (λ a. goes c.args.cause.now (c.args.region.now, a)) (lookup (is_same_region c.args.region.now) c.args.rows.now.entries) false = elim c.match-peek.branch [
      | in-Some w ↦ w.is_dropped-is ∙ w.goes-is_dropped.ensures ∙ ap (λ (o : Option (Option (ℕ × ℕ))). option_map_or (λ a. goes c.args.cause.now (c.args.region.now, a)) o false) (sym (ap option_copied w.in-Some.is) ∙ c.peek.ensures)
      | in-None w ↦ w.is_dropped-is ∙ ap (λ (o : Option (Option (ℕ × ℕ))). option_map_or (λ a. goes c.args.cause.now (c.args.region.now, a)) o false) (sym (ap option_copied w.in-None.is) ∙ c.peek.ensures)
    ] in
    dropped (λ a. goes c.args.cause.now (c.args.region.now, a)) c.args.region.now c.args.rows.now.entries false c.len-len.ensures.valid.0 (sym c.if-is_dropped.false ∙ won)

use Rattle.std.proofs.Common.{◌≡◌, List, [], ◌∷◌, map, refl, ap, ◌∙◌}
use Rattle.std.{specs.Map.Iter.deref_pair, proofs.lemmas.Map.Iter.iter_end}
use Rattle.of_cache.specs.Held.{shown_row}
use Rattle.of_cache.proofs.cached.rows_of.Goals as goal

map_twice : {X Y Z : Type 0} (f : X → Y) (g : Y → Z) (xs : List X) → map (λ x. g (f x)) xs ≡ map g (map f xs)
map_twice f g [] = refl
map_twice {X} {Y} {Z} f g (x ∷ xs) = ap (λ (ys : List Z). g (f x) ∷ ys) (map_twice f g xs)

pub returns : goal.returns
returns c =
    let e : map deref_pair c.loop-region.yielded ≡ c.args.rows.now.entries = (iter_end deref_pair c.args.rows.now.entries c.loop-region.yielded c.into_iter-region-iterator.result c.loop-region.region-iterator c.next.new.self c.next.result (c.into_iter-region-iterator.ensures.into_iter_gives ∙ c.iter-region-items.ensures.rest) c.loop-region.yielded_by c.in-None.is c.next.ensures.steps).0 in
    c.loop-region.invariant ∙ map_twice deref_pair shown_row c.loop-region.yielded ∙ ap (map shown_row) e

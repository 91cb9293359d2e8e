use Rattle.std.proofs.Common.{◌≡◌, ℕ, ◌-◌, List, ◌∷◌, take, Option, sym, ◌∙◌, subst, ◌⊎◌}
use Rattle.lru.specs.LruCache.{LruCache}
use Rattle.of_headers.specs.FieldMap.{value}
use Rattle.of_oxm.specs.declared.masks.FieldMask.{FieldMask}
use Rattle.of_cache.specs.{declared.region.Region.Region, Regions.region_of, Kept.AreSoundRegions, Finding.NoneHolds, Listed.AreListed, Listed.AreMasks}
use Rattle.of_cache.proofs.{Changing.hit_right, Changing.hit_answers, Changing.stored_right, Changing.stored_found, Masks.masks_moved, Splitting.absent}
use Rattle.of_cache.proofs.cached.CachedLookup.winner.Goals as goal

pub find-requires : goal.find-requires
find-requires g c = subst (λ (ms : List FieldMask). AreListed ms c.self.inside.rows.entries) (sym c.deref.ensures.value) c.self.invariant.1.listed

pub invariant_of-self : goal.invariant_of-self
invariant_of-self g c =
    let old = c.self.inside in
    let moved = c.in-Some.ensures.hit.moved in (
      hit_right (g.L.Lookup.content old.inner) old.rows.entries c.find.new.rows.entries (value c.args.key.now) moved c.self.invariant.0,
      masks_moved old.masks.items old.rows.entries c.find.new.rows.entries (value c.args.key.now) moved c.self.invariant.1,
    )

pub store-requires-clause-masks : goal.store-requires-clause-masks
store-requires-clause-masks g c =
    subst (λ (x : LruCache Region (Option (ℕ × ℕ))). AreMasks c.self.inside.masks.items x.entries) (sym c.in-None.ensures.same) c.self.invariant.1

pub store-requires-clause-new : goal.store-requires-clause-new
store-requires-clause-new g c =
    absent c.find.new.rows.entries (value c.args.key.now) (region_of c.region-number.result.1 c.masked.result)
    (subst (λ (x : LruCache Region (Option (ℕ × ℕ))). NoneHolds x.entries (value c.args.key.now)) (sym c.in-None.ensures.same) c.in-None.ensures.none) c.masked.ensures

pub invariant_of-self-in-None : goal.invariant_of-self-in-None
invariant_of-self-in-None g c =
    let content = g.L.Lookup.content c.self.inside.inner in
    let sound : AreSoundRegions content c.find.new.rows.entries = subst (λ (x : LruCache Region (Option (ℕ × ℕ))). AreSoundRegions content x.entries) (sym c.in-None.ensures.same) c.self.invariant.0 in (
      stored_right content c.find.new.rows c.store.new.rows c.region-number.result.1 (value c.args.key.now) c.masked.result c.answer_of-answer.result sound c.region-number.ensures.alike c.masked.ensures
          (c.answer_of-answer.ensures (value c.args.key.now) c.region-number.ensures.answer) c.store.ensures.rows,
      c.store.ensures.masks,
    )

pub returns-in-Some-clause-answer : goal.returns-in-Some-clause-answer
returns-in-Some-clause-answer g c =
    let old = c.self.inside in
    rw (← c.self.view_is) (c.number_in.ensures ∙ hit_answers (g.L.Lookup.content old.inner) old.rows.entries c.find.new.rows.entries (value c.args.key.now) c.in-Some.answer c.in-Some.ensures.hit c.self.invariant.0)

pub returns-in-None-clause-rows : goal.returns-in-None-clause-rows
returns-in-None-clause-rows g c =
    let old = c.self.inside in
    let region = region_of c.region-number.result.1 c.masked.result in
    let rows = c.store.new.rows in
    let stored = subst (λ (x : LruCache Region (Option (ℕ × ℕ))). (rows.entries ≡ x.entries) ⊎ (rows.entries ≡ (region, c.answer_of-answer.result) ∷ take (x.cap - 1) x.entries)) c.in-None.ensures.same c.store.ensures.rows in
    rw (← c.self.view_is) (stored_found old.rows rows region c.answer_of-answer.result (g.L.Lookup.looked (g.L.Lookup.content old.inner) (value c.args.key.now)) (value c.args.key.now) c.in-None.ensures.none c.region-number.ensures.mask c.masked.ensures stored)

use Rattle.std.proofs.Common.{◌≡◌, ℕ, ◌+◌, Option, Some, None, take, take_all, refl, sym, ◌∙◌, ap, subst}
use Rattle.std.specs.{Map.lookup, List.Contains}
use Rattle.lru.specs.LruCache.{LruCache}
use Rattle.of_headers.specs.FieldMap.{value}
use Rattle.of_cache.proofs.Splitting.{NoneUnder, hit, untouched, none_at_first, none_more, none_holds}
use Rattle.of_cache.specs.{declared.region.Region.Region, Finding.IsHit, Finding.NoneHolds, Listed.is_same_region, Regions.region_of}
use Rattle.of_cache.proofs.keeping.find_by_mask.Goals as goal

pub loop-mask-init : goal.loop-mask-init
loop-mask-init c = record { same = refl; none = none_at_first c.args.masks.now c.args.rows.now.entries (value c.args.key.now) }

pub loop-mask-preserved : goal.loop-mask-preserved
loop-mask-preserved c =
    let region = region_of c.mask-item.result c.masked.result in
    let old = c.loop-mask.rows in
    let missed : None ≡ lookup (is_same_region region) old.entries = sym c.in_default.is ∙ c.touch.ensures.answer in
    let same : c.touch.new.rows ≡ old = untouched old c.touch.new.rows region missed c.touch.ensures.rows in
    record {
      same = same ∙ c.loop-mask.invariant.same;
      none = subst (λ (x : LruCache Region (Option (ℕ × ℕ))). NoneUnder (take (c.loop-mask.mask-index + 1) c.args.masks.now) x.entries (value c.args.key.now)) (sym same)
          (none_more c.args.masks.now old.entries (value c.args.key.now) c.loop-mask.mask-index c.mask-item.result region c.loop-mask-test.true c.mask-item.is refl c.masked.ensures missed c.loop-mask.invariant.none);
    }

pub returns-in-Some-clause-hit : goal.returns-in-Some-clause-hit
returns-in-Some-clause-hit c =
    let region = region_of c.mask-item.result c.masked.result in
    let old = c.loop-mask.rows in
    let found : Some c.in-Some.answer ≡ lookup (is_same_region region) old.entries = sym c.in-Some.is ∙ c.touch.ensures.answer in
    subst (λ (x : LruCache Region (Option (ℕ × ℕ))). IsHit x.entries c.touch.new.rows.entries (value c.args.key.now) c.in-Some.answer) c.loop-mask.invariant.same
    (hit old c.touch.new.rows region (value c.args.key.now) c.in-Some.answer found c.touch.ensures.rows c.masked.ensures)

pub returns-in-Some-clause-capacity : goal.returns-in-Some-clause-capacity
returns-in-Some-clause-capacity c =
    ap (λ (x : LruCache Region (Option (ℕ × ℕ))). x.cap) c.touch.ensures.rows ∙ ap (λ (x : LruCache Region (Option (ℕ × ℕ))). x.cap) c.loop-mask.invariant.same

pub returns-clause-none : goal.returns-clause-none
returns-clause-none c =
    subst (λ (x : LruCache Region (Option (ℕ × ℕ))). NoneHolds x.entries (value c.args.key.now)) c.loop-mask.invariant.same
    (none_holds (take c.loop-mask.mask-index c.args.masks.now) c.args.masks.now c.loop-mask.rows.entries (value c.args.key.now) (take_all c.loop-mask.mask-index c.args.masks.now c.loop-mask-test.false)
    (λ row d. c.requires row (subst (λ (x : LruCache Region (Option (ℕ × ℕ))). Contains x.entries row) c.loop-mask.invariant.same d)) c.loop-mask.invariant.none)

use Rattle.std.proofs.Common.{refl, take_all, ◌∙◌}
use Rattle.of_cache.{specs.Regions.region_of, proofs.Popping.none_by, proofs.Popping.more_by, proofs.Popping.all_by, proofs.Popping.at_place}
use Rattle.of_cache.proofs.beaten.drop_beaten.Goals as goal

pub loop-each-init : goal.loop-each-init
loop-each-init c = record { dropped = none_by c.args.mask.now c.args.key.now c.args.priority c.args.rows.now.entries; capacity = refl }

pub loop-each-preserved : goal.loop-each-preserved
loop-each-preserved c = record {
  dropped = more_by c.args.mask.now c.args.key.now c.args.priority c.loop-each.each-index c.args.masks.now c.each-item.result (region_of c.each-item.result c.masked.result) c.args.rows.now.entries c.loop-each.rows.entries c.drop_row.new.rows.entries
      c.loop-each-test.true c.each-item.is refl c.masked.ensures
      (c.are_within.ensures c.if-not-are_within.false c.each-item.result (at_place c.args.masks.now c.loop-each.each-index c.each-item.result c.loop-each-test.true c.each-item.is))
      c.requires.regions c.loop-each.invariant.dropped c.drop_row.ensures.entries;
  capacity = c.drop_row.ensures.capacity ∙ c.loop-each.invariant.capacity;
}

pub returns-clause-entries : goal.returns-clause-entries
returns-clause-entries c = all_by c.args.mask.now c.args.key.now c.args.priority c.args.masks.now _ c.args.rows.now.entries c.loop-each.rows.entries (take_all c.loop-each.each-index c.args.masks.now c.loop-each-test.false) c.requires.listed c.loop-each.invariant.dropped

pub returns-clause-capacity : goal.returns-clause-capacity
returns-clause-capacity c = c.loop-each.invariant.capacity

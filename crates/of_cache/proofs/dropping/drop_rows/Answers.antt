use Rattle.std.proofs.Common.{refl, ◌∙◌}
use Rattle.of_cache.{specs.Causes.goes, proofs.Turning.none_goes, proofs.Popping.same_staying_without}
use Rattle.of_cache.proofs.dropping.drop_rows.Goals as goal

pub loop-dropped-init : goal.loop-dropped-init
loop-dropped-init c = record { same = refl; capacity = refl }

pub loop-dropped-preserved : goal.loop-dropped-preserved
loop-dropped-preserved c = record {
  same = same_staying_without c.args.cause.now c.in-Some.region c.loop-dropped.rows.entries c.drop_row.new.rows.entries c.drop_row.ensures.entries ∙ c.loop-dropped.invariant.same;
  capacity = c.drop_row.ensures.capacity ∙ c.loop-dropped.invariant.capacity;
}

pub returns-in-None-clause-entries : goal.returns-in-None-clause-entries
returns-in-None-clause-entries c = none_goes (goes c.args.cause.now) c.loop-dropped.rows.entries c.in-None.ensures ∙ c.loop-dropped.invariant.same

pub returns-in-None-clause-capacity : goal.returns-in-None-clause-capacity
returns-in-None-clause-capacity c = c.loop-dropped.invariant.capacity

pub returns-clause-entries : goal.returns-clause-entries
returns-clause-entries c = c.turn_all.ensures.entries ∙ c.loop-dropped.invariant.same

pub returns-clause-capacity : goal.returns-clause-capacity
returns-clause-capacity c = c.turn_all.ensures.capacity ∙ c.loop-dropped.invariant.capacity

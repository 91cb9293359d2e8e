use Rattle.std.proofs.Common.{not, refl, arith, ◌∙◌}
use Rattle.of_cache.{specs.Causes.goes, specs.Regions.AnsweredRegion, proofs.Turning.none_turned, proofs.Turning.one_turned, proofs.Turning.all_turned}
use Rattle.of_cache.proofs.dropping.turn_all.Goals as goal

pub loop-turned-init : goal.loop-turned-init
loop-turned-init c = record { turned = none_turned (λ (row : AnsweredRegion). not (goes c.args.cause.now row)) c.args.rows.now.entries; capacity = refl }

pub loop-turned-preserved : goal.loop-turned-preserved
loop-turned-preserved c = record {
  turned = one_turned (λ (row : AnsweredRegion). not (goes c.args.cause.now row)) (goes c.args.cause.now) c.args.rows.now.entries c.loop-turned.rows.entries c.turn.new.rows.entries c.loop-turned._turned (λ x. refl) (omega (arith, c.len-turned-end.ensures.len)) c.loop-turned.invariant.turned c.turn.ensures.entries;
  capacity = c.turn.ensures.capacity ∙ c.loop-turned.invariant.capacity;
}

pub returns-clause-entries : goal.returns-clause-entries
returns-clause-entries c = all_turned (λ (row : AnsweredRegion). not (goes c.args.cause.now row)) c.args.rows.now.entries c.loop-turned.rows.entries c.loop-turned._turned (omega (arith, c.len-turned-end.ensures.len)) c.loop-turned.invariant.turned

pub returns-clause-capacity : goal.returns-clause-capacity
returns-clause-capacity c = c.loop-turned.invariant.capacity

use Rattle.std.proofs.Common.{◌<◌, get_or, below_more, subst, sym, ◌∙◌, arith}
use Rattle.of_frames.specs.{declared.shape.Shape.TheVariants.Bare, Rules.HasShape}
use Rattle.of_regions.specs.Starting.{IsBegun}
use Rattle.of_regions.proofs.StartLemmas.{same_or, still_in, still_matched}
use Rattle.of_regions.proofs.starting.regions_of.Goals as goal

pub loop-shape-preserved : goal.loop-shape-preserved
loop-shape-preserved c =
    let own = c.args.own.now in
    let old = c.loop-shape.regions.items in
    let new = c.push_shape.new.regions.items in
    let here = get_or c.shapes-shape-items.result.now c.loop-shape.shape-index Bare in
    let more : IsBegun own here old new = c.in_ok-push_shape.ensures in
    record {
      all = c.loop-shape.invariant.all;
      ten = c.loop-shape.invariant.ten;
      few = omega (arith, c.loop-shape.invariant.few, more.few);
      matched = still_matched own here old new more c.loop-shape.invariant.matched;
      done = below_more _ _ (λ i lt s is t fields g h m. still_in own here old new more fields (c.loop-shape.invariant.done i lt s is t fields g h m))
          (λ s is t fields g h m. more.all t fields (subst (λ x. HasShape x fields) (sym is ∙ same_or c.shapes-shape-items.result.now c.loop-shape.shape-index s Bare c.loop-shape-test.true) g) h m);
    }

pub returns : goal.returns
returns c = record {
  few = omega (arith, c.loop-shape.invariant.few, c.loop-shape.invariant.ten, c.loop-shape.auto.shape-index-end);
  matched = c.loop-shape.invariant.matched;
  all = λ s t fields g h m.
      let place = c.loop-shape.invariant.all s in
      let within : place.0 < c.loop-shape.shape-index = omega (arith, place.1, c.loop-shape-test.false) in
      c.loop-shape.invariant.done place.0 within s place.2 t fields g h m;
}

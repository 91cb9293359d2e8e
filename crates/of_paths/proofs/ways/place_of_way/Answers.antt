use Rattle.std.proofs.Common.{map}
use Rattle.of_paths.{specs.Ways.class_way, specs.Ways.way_of, proofs.WayLemmas.all_looked_at, proofs.WayLemmas.none_more, proofs.WayLemmas.way_at}
use Rattle.of_paths.proofs.ways.place_of_way.Goals as goal

pub loop-index-preserved : goal.loop-index-preserved
loop-index-preserved c =
    let classes = c.args.classes.now in
    let x = c.index-classes-index.result in
    none_more (map class_way classes) c.loop-index.index (way_of c.args.steps.now) (class_way x) (way_at classes c.loop-index.index x c.index-classes-index.is c.loop-index-test.true)
    (λ same. let yes = c.has_way.ensures.1 same in let no = c.if-has_way.false in absurd cc) c.loop-index.invariant

pub returns-clause-none : goal.returns-clause-none
returns-clause-none c = all_looked_at c.args.classes.now c.loop-index.index (way_of c.args.steps.now) c.loop-index-test.false c.loop-index.invariant

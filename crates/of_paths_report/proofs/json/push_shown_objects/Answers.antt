use Rattle.of_paths_report.{specs.PathsJson.class_object, proofs.JsonLemmas.all_shown}
use Rattle.of_paths_report.proofs.json.push_shown_objects.Goals as goal

pub returns : goal.returns
returns g c = all_shown c.loop-class.begun (class_object c.args.switch.now.core.forwarding) c.args.to c.args.classes.now c.loop-class.class-index c.loop-class.out.items _ c.loop-class-test.false c.loop-class.invariant

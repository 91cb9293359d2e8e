use Rattle.std.proofs.Common.{◌≡◌, ◌++◌, drop}
use Rattle.of_json.specs.Parts.{listed}
use Rattle.of_paths_report.specs.PathsJson.{class_object, listed_behind, shown_classes}
use Rattle.of_paths_report.proofs.json.push_shown_objects.Given as goal

abbrev pub invariant-loop-class : goal.invariant-loop-class
invariant-loop-class g l =
    let object = class_object l.switch.core.forwarding in
    l.out.items ++ listed_behind l.begun object (shown_classes l.to (drop l.class-index l.classes))
    ≡ l.fn.out.items ++ listed object (shown_classes l.to l.classes)

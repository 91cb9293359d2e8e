use Rattle.std.{specs.List.flat_map, proofs.Common.◌≡◌, proofs.Common.◌++◌, proofs.Common.drop}
use Rattle.of_text.specs.Views.{view}
use Rattle.of_check.specs.Remarks.{ingress_remarks}
use Rattle.of_check.proofs.remarks.push_ports.Given as goal

abbrev pub invariant-loop-e : goal.invariant-loop-e
invariant-loop-e l =
    let instructions = (view l.flow).instructions in
    l.out.items ++ flat_map (ingress_remarks l.table l.place instructions) (drop l.e-index l.flow.fields.items) ≡ l.fn.out.items ++ flat_map (ingress_remarks l.table l.place instructions) l.flow.fields.items

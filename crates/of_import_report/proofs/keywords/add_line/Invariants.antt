use Rattle.std.{specs.List.fold, proofs.Common.◌≡◌, proofs.Common.drop}
use Rattle.of_import_report.specs.{Keywords.with_keyword, Views.view_names}
use Rattle.of_import_report.proofs.keywords.add_line.Given as goal

abbrev pub invariant-loop-fault : goal.invariant-loop-fault
invariant-loop-fault l = fold with_keyword (view_names l.names.items) (drop l.fault-index l.line.faults.items) ≡ fold with_keyword (view_names l.fn.names.items) l.line.faults.items

use Rattle.std.{specs.List.fold, proofs.Common.◌≡◌, proofs.Common.drop}
use Rattle.of_import_report.specs.{Keywords.keywords_in, Keywords.keywords_with_line, Views.view_names}
use Rattle.of_import_report.proofs.keywords.keywords.Given as goal

abbrev pub invariant-loop-line : goal.invariant-loop-line
invariant-loop-line l = fold keywords_with_line (view_names l.names.items) (drop l.line-index l.faults) ≡ keywords_in l.faults

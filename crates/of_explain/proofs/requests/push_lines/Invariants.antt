use Rattle.std.{specs.List.AllByRecursion, proofs.Common.◌≡◌, proofs.Common.◌++◌, proofs.Common.drop}
use Rattle.of_text.specs.Rows.{Fits}
use Rattle.of_explain.specs.Requests.{row_lines}
use Rattle.of_explain.proofs.requests.push_lines.Given as goal

abbrev pub invariant-loop-row : goal.invariant-loop-row
invariant-loop-row l = record {
  fits : AllByRecursion Fits (drop l.row-index l.rows);
  text : l.out.items ++ row_lines (drop l.row-index l.rows) ≡ l.fn.out.items ++ row_lines l.rows;
}

use Rattle.std.{specs.List.AllByRecursion, proofs.Common.◌≡◌, proofs.Common.◌++◌, proofs.Common.drop}
use Rattle.of_text.specs.Rows.{Fits}
use Rattle.of_explain.specs.Replies.{deeper_lines}
use Rattle.of_explain.proofs.replies.push_deeper_lines.Given as goal

abbrev pub invariant-loop-row : goal.invariant-loop-row
invariant-loop-row l = record {
  fits : AllByRecursion Fits (drop l.row-index l.rows);
  text : l.out.items ++ deeper_lines (drop l.row-index l.rows) ≡ l.fn.out.items ++ deeper_lines l.rows;
}

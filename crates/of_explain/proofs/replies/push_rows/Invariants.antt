use Rattle.std.{specs.List.flat_map, proofs.Common.◌≡◌, proofs.Common.◌++◌, proofs.Common.length}
use Rattle.of_explain.specs.Replies.{reply_row, rows_of_reply}
use Rattle.of_explain.proofs.replies.push_rows.Given as goal

abbrev pub invariant-loop-size : goal.invariant-loop-size
invariant-loop-size l = l.out.items ++ flat_map (reply_row l.kind) (rows_of_reply l.kind l.rest) ≡ l.fn.out.items ++ flat_map (reply_row l.kind) (rows_of_reply l.kind l.fn.body)

abbrev pub decreases-loop-size : goal.decreases-loop-size
decreases-loop-size l = length l.rest

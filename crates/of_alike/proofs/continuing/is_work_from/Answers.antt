use Rattle.std.proofs.Common.{subst}
use Rattle.of_alike.{specs.Agreeing.IsNoTable, proofs.AgreeingRuns.is_no_table}
use Rattle.of_alike.proofs.continuing.is_work_from.Goals as goal

pub returns-in-Act : goal.returns-in-Act
returns-in-Act c = λ e. rw c.in-Act.is (subst IsNoTable c.get-in-Act.ensures.is (is_no_table c.get-in-Act.result c.get-in-Act.ensures.served))

use Rattle.std.{specs.List.list_any, proofs.Common.◌≡◌, proofs.Common.false, proofs.Common.take}
use Rattle.of_check.specs.Actions.{some_writes_sending}
use Rattle.of_check.proofs.actions.is_written_before.Given as goal

abbrev pub invariant-loop-earlier : goal.invariant-loop-earlier
invariant-loop-earlier l = list_any some_writes_sending (take l.earlier l.config.tables) ≡ false

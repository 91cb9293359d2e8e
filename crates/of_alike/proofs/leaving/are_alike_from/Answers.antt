use Rattle.std.proofs.Common.{refl}
use Rattle.of_alike.proofs.leaving.are_alike_from.Goals as goal

pub returns-then-leave_alike_from : goal.returns-then-leave_alike_from
returns-then-leave_alike_from c = λ yes frame within. c.if-leave_alike_from.ensures refl frame

pub returns-else-leave_alike_from : goal.returns-else-leave_alike_from
returns-else-leave_alike_from c = λ yes frame within. absurd (c.has_none_from.ensures yes frame within)

use Rattle.std.proofs.Common.{refl}
use Rattle.of_diff.proofs.stepping.look_up_in_both.Goals as goal

pub leave_alike-requires : goal.leave_alike-requires
leave_alike-requires g c = rw c.port_list.ensures c.known_world.ensures.rising

pub returns-in-Some : goal.returns-in-Some
returns-in-Some g c = λ steps. (
  (rw c.in-Some.is at c.in_ok-pairs.ensures.pairs) c.args.compared (rw (c.port_list.ensures, c.deref.ensures.value, c.deref-then-are_at_table_before.ensures.value) at (c.if-leave_alike.ensures refl)),
  rw c.in-Some.is at c.in_ok-pairs.ensures.next,
)

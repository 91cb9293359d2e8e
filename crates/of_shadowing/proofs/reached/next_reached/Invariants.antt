use Rattle.std.{specs.Prelude.find, proofs.Common.◌≡◌, proofs.Common.drop}
use Rattle.of_shadowing.specs.Reached.{is_led_from_others}
use Rattle.of_shadowing.proofs.reached.next_reached.Given as goal

abbrev pub invariant-loop-table : goal.invariant-loop-table
invariant-loop-table l = find (is_led_from_others l.flows l.tables) (drop l.table-index l.tables) ≡ find (is_led_from_others l.flows l.tables) l.tables

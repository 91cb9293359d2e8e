use Rattle.std.proofs.Common.{◌≡◌, map, take}
use Rattle.of_replay.specs.Loaded.{port_up as port_event}
use Rattle.of_replay.proofs.loading.ports_up.Given as goal

abbrev pub invariant-loop-number : goal.invariant-loop-number
invariant-loop-number l = l.events.items ≡ map port_event (take l.number-index l.numbers)

use Rattle.std.proofs.Common.{◌≡◌, ◌++◌, map, take}
use Rattle.of_switch.specs.declared.event.Event.TheVariants.{Chunk}
use Rattle.of_files.proofs.beginning.push_messages.Given as goal

abbrev pub invariant-loop-message : goal.invariant-loop-message
invariant-loop-message l = l.events.items ≡ l.fn.events.items ++ map Chunk (take l.message-index l.messages)

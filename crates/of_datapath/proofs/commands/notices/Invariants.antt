use Rattle.std.proofs.Common.{◌≡◌, take}
use Rattle.of_table.specs.Selecting.{notices_of}
use Rattle.of_datapath.specs.Commands.{notice_effects}
use Rattle.of_datapath.proofs.commands.notices.Given as goal

abbrev pub invariant-loop-one : goal.invariant-loop-one
invariant-loop-one l = l.effects.items ≡ notice_effects l.heard l.now (notices_of (take l.one-index l.removed))

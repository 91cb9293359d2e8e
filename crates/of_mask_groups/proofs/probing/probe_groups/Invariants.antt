use Rattle.std.proofs.Common.{take}
use Rattle.of_headers.specs.FieldMap.{value}
use Rattle.of_mask_groups.specs.Probed.{AreProbed}
use Rattle.of_mask_groups.proofs.probing.probe_groups.Given as goal

-- the groups before are probed
abbrev pub invariant-loop-group : goal.invariant-loop-group
invariant-loop-group l = AreProbed l.entries (value l.key) (take l.group-index l.groups) l.best l.probes

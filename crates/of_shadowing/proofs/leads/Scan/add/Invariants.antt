use Rattle.std.{specs.List.fold, proofs.Common.◌≡◌, proofs.Common.take}
use Rattle.of_shadowing.specs.Leads.{view_scan, with_byte}
use Rattle.of_shadowing.proofs.leads.Scan.add.Given as goal

abbrev pub invariant-loop-byte : goal.invariant-loop-byte
invariant-loop-byte l = view_scan l.self ≡ fold with_byte (view_scan l.fn.self) (take l.byte-index l.action)

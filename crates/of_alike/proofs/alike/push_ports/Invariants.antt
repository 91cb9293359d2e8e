use Rattle.std.{specs.List.Contains, proofs.Common.ℕ, proofs.Common.take}
use Rattle.of_alike.proofs.AlikeLemmas.{IsListedOrSilent}
use Rattle.of_alike.proofs.alike.push_ports.Given as goal

abbrev pub invariant-loop-item : goal.invariant-loop-item
invariant-loop-item l = record {
  kept : (q : ℕ) → Contains l.initial.ports.items q → Contains l.ports.items q;
  all : (q : ℕ) → IsListedOrSilent l.ports.items (take l.item-index l.items) q;
}

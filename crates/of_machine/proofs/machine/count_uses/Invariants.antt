use Rattle.std.{specs.Prelude.map, proofs.Common.◌≡◌, proofs.Common.◌++◌, proofs.Common.take}
use Rattle.of_machine.specs.declared.data.Count.TheVariants.{Bucket}
use Rattle.of_machine.proofs.machine.count_uses.Given as goal

abbrev pub invariant-loop-place : goal.invariant-loop-place
invariant-loop-place l = record {
  counts : l.outcome.counts.items ≡ l.initial.outcome.counts.items ++ map (λ place. Bucket l.group place l.bytes) (take l.place-index l.places);
  items : l.outcome.items.items ≡ l.initial.outcome.items.items;
}

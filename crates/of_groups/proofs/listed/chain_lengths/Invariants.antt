use Rattle.std.{specs.Prelude.map, proofs.Common.◌≡◌, proofs.Common.take}
use Rattle.of_groups.{specs.declared.group.Group.Group, proofs.MarkLemmas.length_at}
use Rattle.of_groups.proofs.listed.chain_lengths.Given as goal

abbrev pub invariant-loop-group : goal.invariant-loop-group
invariant-loop-group l = l.lengths.items ≡ map (λ (g : Group). length_at l.groups l.there.items l.one.items l.two.items l.three.items g.id) (take l.group-index l.groups)

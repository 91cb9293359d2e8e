use Rattle.std.proofs.Common.{◌+◌, ◌%◌, ◌^◌}
use Rattle.of_groups.{specs.declared.group.Group.Group, proofs.CountLemmas.sound_at, proofs.CountLemmas.keeps_counters}
use Rattle.of_groups.proofs.groups.Groups.count.Goals as goal

pub invariant_of-self : goal.invariant_of-self
invariant_of-self c =
    sound_at c.args.id (λ (g : Group). record g { packets = (g.packets + 1) % 2 ^ 64; bytes = (g.bytes + c.args.bytes) % 2 ^ 64 }) c.self.inside.groups.items _
    (λ g. keeps_counters g ((g.packets + 1) % 2 ^ 64) ((g.bytes + c.args.bytes) % 2 ^ 64)) c.self.invariant c.count_group.ensures

use Rattle.of_groups.{specs.declared.group.Group.Group, specs.Buckets.used_at, proofs.CountLemmas.sound_at, proofs.CountLemmas.keeps_used}
use Rattle.of_groups.proofs.groups.Groups.count_bucket.Goals as goal

pub invariant_of-self : goal.invariant_of-self
invariant_of-self c =
    sound_at c.args.id (λ (g : Group). record g { buckets = used_at c.args.place c.args.bytes g.buckets }) c.self.inside.groups.items _
    (λ g. keeps_used g c.args.place c.args.bytes) c.self.invariant c.count_use_of.ensures

use Rattle.of_actions.specs.Supported.{is_supported}
use Rattle.std.proofs.Common.{false}
use Rattle.of_action_set.{specs.Sets.rank, specs.Storage.items_in, proofs.Ranked.rising_put, proofs.Ranked.all_put}
use Rattle.of_action_set.proofs.action_set.ActionSet.put.Goals as goal

pub invariant_of-self : goal.invariant_of-self
invariant_of-self c =
    let old = rw c.in-Some.is at c.self.invariant in
    rw c.put.ensures (
      rising_put rank c.args.action (items_in c.in-Some.stored) old.0,
      all_put rank (is_supported false) c.args.action (items_in c.in-Some.stored) c.requires old.1,
    )

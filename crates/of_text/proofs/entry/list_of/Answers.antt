use Rattle.std.proofs.Common.{false}
use Rattle.of_actions.proofs.ActionLists.{served_wider}
use Rattle.of_text.proofs.entry.list_of.Goals as goal

pub action_list-requires : goal.action_list-requires
action_list-requires c = rw c.in_ok-copy.ensures (served_wider false c.args.actions.now.items c.requires)

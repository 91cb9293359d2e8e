use Rattle.of_datapath.proofs.GroupWorlds.{none_absent}
use Rattle.of_datapath.proofs.commands.is_to_absent_group.Goals as goal

pub returns-in-Group : goal.returns-in-Group
returns-in-Group c = rw c.in-Group.is (none_absent c.in-Group.group c.args.groups.now c.group.result c.is_none.result c.is_none.ensures c.group.ensures)

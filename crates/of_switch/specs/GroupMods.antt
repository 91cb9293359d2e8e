-- Why a GROUP_MOD is refused, by the groups that exist (OpenFlow 1.3.5, 6.5, 7.3.4.2 and 7.4.4).
use Rattle.std.specs.Prelude.{ℕ, Bool, true, List, [], ◌∷◌, Option, Some, None}
use Rattle.of_wire.specs.declared.code.Code.{Code}
use Rattle.of_groups.specs.{declared.group.Group.Group, declared.group_fault.GroupFault.GroupFault, Groups.modified_group, Groups.new_group}
use Rattle.of_groups.specs.Faults.{add_fault, code_of, delete_fault, modify_fault}
use Rattle.of_messages.specs.declared.group_mod.GroupMod.{GroupMod}
use Rattle.of_messages.specs.declared.group_mod.GroupMod.TheVariants.{Add, Modify, Delete}

-- at the moment `now`, when a group that is added is created
abbrev pub group_mod_fault : GroupMod → ℕ → List Group → Option GroupFault
group_mod_fault (Add g) now groups = add_fault (new_group g.id g.kind g.buckets now) groups
group_mod_fault (Modify g) now groups = modify_fault (modified_group g.id g.kind g.buckets groups) groups
group_mod_fault (Delete which) now groups = delete_fault which groups

abbrev pub with_code : Option Code → List (Bool × Code)
with_code None = []
with_code (Some code) = (true, code) ∷ []

-- the fault of a change of groups, as the only refusal
abbrev pub refused_for : Option GroupFault → List (Bool × Code)
refused_for None = []
refused_for (Some fault) = with_code (code_of fault)

-- Why a change of groups is refused (OpenFlow 1.3.5, 6.5 and 7.4.4), in the written order. What the message alone decides was refused before.
use Rattle.std.specs.Prelude.{ℕ, ◌==◌, nat_le, Bool, false, not, List, length, Option, Some, None, Result, Ok, Err, if◌then◌else◌}
use Rattle.std.specs.List.{list_any}
use Rattle.of_wire.specs.declared.codes.TheConstants.{OFPBAC_BAD_OUT_GROUP, OFPGMFC_BAD_WATCH, OFPGMFC_CHAINED_GROUP, OFPGMFC_GROUP_EXISTS, OFPGMFC_INVALID_GROUP, OFPGMFC_LOOP, OFPGMFC_OUT_OF_GROUPS, OFPGMFC_UNKNOWN_GROUP}
use Rattle.of_wire.specs.{declared.limits.TheConstants.MOST_GROUPS, declared.code.Code.Code}
use Rattle.of_groups.specs.declared.group_fault.GroupFault.TheVariants.{BadWatch, NotOneBucket, Exists, Full, Unknown, AbsentGroup, AbsentWatch, LongChain, Named, NoMemory}
use Rattle.of_groups.specs.{declared.bucket.Bucket.Bucket, declared.group.Group.Group, declared.group.GroupKind.GroupKind}
use Rattle.of_groups.specs.declared.group.GroupKind.TheVariants.{All, Indirect, FastFailover}
use Rattle.of_groups.specs.{declared.group_fault.GroupFault.GroupFault, Buckets.is_badly_watched, Buckets.any_sends, Groups.is_there, Groups.any_watches, Groups.names, Groups.with_group}
use Rattle.of_groups.specs.Chains.{is_long}

-- each fault as an error; running out of memory is none
abbrev pub code_of : GroupFault → Option Code
code_of BadWatch = Some OFPGMFC_BAD_WATCH
code_of NotOneBucket = Some OFPGMFC_INVALID_GROUP
code_of Exists = Some OFPGMFC_GROUP_EXISTS
code_of Full = Some OFPGMFC_OUT_OF_GROUPS
code_of Unknown = Some OFPGMFC_UNKNOWN_GROUP
code_of AbsentGroup = Some OFPBAC_BAD_OUT_GROUP
code_of AbsentWatch = Some OFPGMFC_BAD_WATCH
code_of LongChain = Some OFPGMFC_LOOP
code_of Named = Some OFPGMFC_CHAINED_GROUP
code_of NoMemory = None

-- the fault in a result; running out of memory is none
abbrev pub fault_in : {A : Type 0} → Result A GroupFault → Option GroupFault
fault_in (Ok x) = None
fault_in (Err BadWatch) = Some BadWatch
fault_in (Err NotOneBucket) = Some NotOneBucket
fault_in (Err Exists) = Some Exists
fault_in (Err Full) = Some Full
fault_in (Err Unknown) = Some Unknown
fault_in (Err AbsentGroup) = Some AbsentGroup
fault_in (Err AbsentWatch) = Some AbsentWatch
fault_in (Err LongChain) = Some LongChain
fault_in (Err Named) = Some Named
fault_in (Err NoMemory) = None

-- some bucket of FAST-FAILOVER watches what cannot be watched, or nothing; the other types ignore what is watched
abbrev pub is_bad_watch : GroupKind → List Bucket → Bool
is_bad_watch All buckets = false
is_bad_watch Indirect buckets = false
is_bad_watch FastFailover buckets = list_any is_badly_watched buckets

-- an INDIRECT group has one bucket
abbrev pub is_not_one : GroupKind → List Bucket → Bool
is_not_one All buckets = false
is_not_one Indirect buckets = not (length buckets == 1)
is_not_one FastFailover buckets = false

abbrev pub is_absent : List Group → ℕ → Bool
is_absent groups n = not (is_there n groups)

-- the groups that it names, among the groups after the change: the group itself counts as existing
abbrev pub naming_fault : Group → List Group → Option GroupFault
naming_fault g after =
    if any_sends (is_absent after) g.buckets then Some AbsentGroup
    else if any_watches (is_absent after) g.kind g.buckets then Some AbsentWatch
    else if is_long after then Some LongChain
    else None

abbrev pub add_fault : Group → List Group → Option GroupFault
add_fault g groups =
    if is_bad_watch g.kind g.buckets then Some BadWatch
    else if is_not_one g.kind g.buckets then Some NotOneBucket
    else if is_there g.id groups then Some Exists
    else if nat_le MOST_GROUPS (length groups) then Some Full
    else naming_fault g (with_group g groups)

abbrev pub modify_fault : Group → List Group → Option GroupFault
modify_fault g groups =
    if is_bad_watch g.kind g.buckets then Some BadWatch
    else if is_not_one g.kind g.buckets then Some NotOneBucket
    else if is_absent groups g.id then Some Unknown
    else naming_fault g (with_group g groups)

-- a group that another one names stays; all groups may be deleted at once
abbrev pub delete_fault : Option ℕ → List Group → Option GroupFault
delete_fault None groups = None
delete_fault (Some n) groups = if list_any (names n) groups then Some Named else None

-- GROUPS AS LINES (ovs-ofctl(8)): what has its default is not written.
use Rattle.std.specs.Prelude.{ℕ, List, [], ◌∷◌, ◌++◌, codes, decimal}
use Rattle.std.specs.List.{flat_map}
use Rattle.of_wire.specs.declared.limits.TheConstants.{OFPG_ANY, OFPP_ANY}
use Rattle.of_groups.specs.declared.group.GroupKind.{GroupKind}
use Rattle.of_groups.specs.declared.group.GroupKind.TheVariants.{All, Indirect, FastFailover}
use Rattle.of_text.specs.Groups.{TextBucket, TextGroup}
use Rattle.of_ovs_text.specs.{Parts.unless_default, Actions.actions_in_words_of}

abbrev pub kind_in_words : GroupKind → List ℕ
kind_in_words All = codes "all"
kind_in_words Indirect = codes "indirect"
kind_in_words FastFailover = codes "ff"

unfoldable pub bucket_in_words : TextBucket → List ℕ
bucket_in_words b =
    codes ",bucket=" ++ unless_default (codes "weight:") 0 b.head.weight ++ unless_default (codes "watch_port:") OFPP_ANY b.head.watch_port
    ++ unless_default (codes "watch_group:") OFPG_ANY b.head.watch_group ++ codes "actions=" ++ actions_in_words_of b.actions

-- A GROUP: `group_id=1,type=ff,bucket=watch_port:2,actions=output:2`
unfoldable pub group_line : TextGroup → List ℕ
group_line g = codes "group_id=" ++ decimal g.head.id ++ codes ",type=" ++ kind_in_words g.head.kind ++ flat_map bucket_in_words g.buckets ++ 10 ∷ []

-- GROUP_MOD (OpenFlow 1.3.5, 7.3.4.2): its command, the group's type and number, and its buckets.
use Rattle.std.specs.Prelude.{ℕ, ◌+◌, ◌==◌, nat_lt, Bool, List, [], ◌∷◌, drop, Option, Some, None, Result, Ok, Err, if◌then◌else◌}
use Rattle.of_wire.specs.declared.limits.TheConstants.{OFPG_ALL, OFPG_MAX}
use Rattle.of_wire.specs.declared.codes.TheConstants.{OFPBRC_BAD_LEN, OFPGMFC_BAD_COMMAND, OFPGMFC_BAD_TYPE, OFPGMFC_INVALID_GROUP}
use Rattle.of_wire.specs.declared.code.Code.{Code}
use Rattle.of_groups.specs.declared.group.GroupKind.{GroupKind}
use Rattle.of_groups.specs.declared.group.GroupKind.TheVariants.{All, Indirect, FastFailover}
use Rattle.of_messages.specs.{declared.group_mod.NewGroup.NewGroup, declared.group_mod.GroupCommand.GroupCommand, declared.group_mod.GroupMod.GroupMod}
use Rattle.of_messages.specs.{declared.group_mod.GroupMod.TheVariants.Add, declared.group_mod.GroupMod.TheVariants.Modify, declared.group_mod.GroupMod.TheVariants.Delete, Buckets.buckets_said}
use Rattle.of_messages.specs.declared.group_mod.GroupCommand.TheVariants as command
use Rattle.of_formats.specs.{Reading.◌>>=◌, Reading.unless, Reading.known, Structs.numbers, Structs.size}
use Rattle.of_formats.specs.Tables as tables

-- OFPGT_ALL, OFPGT_INDIRECT and OFPGT_FF
unfoldable pub group_kind_of : ℕ → Option GroupKind
group_kind_of n = if n == 0 then Some All else (if n == 2 then Some Indirect else (if n == 3 then Some FastFailover else None))

unfoldable pub command_of_group_mod : ℕ → Option GroupCommand
command_of_group_mod n = if n == 0 then Some command.Add else (if n == 1 then Some command.Modify else (if n == 2 then Some command.Delete else None))

-- above OFPG_MAX
abbrev pub is_above : ℕ → Bool
is_above number = nat_lt OFPG_MAX number

-- OFPGMFC_INVALID_GROUP, OFPGMFC_BAD_TYPE, and then the refusal of its buckets
abbrev pub group_of : ℕ → ℕ → List ℕ → Result NewGroup Code
group_of type id rest = do
  good ← unless ((is_above id, OFPGMFC_INVALID_GROUP) ∷ [])
  kind ← known (group_kind_of type) OFPGMFC_BAD_TYPE
  buckets ← buckets_said rest
  Ok (record { id = id; kind = kind; buckets = buckets })

-- of one group, or of all; its type and buckets are not read
abbrev pub delete_of : ℕ → Result GroupMod Code
delete_of number =
    if number == OFPG_ALL then Ok (Delete None)
    else (if is_above number then Err OFPGMFC_INVALID_GROUP else Ok (Delete (Some number)))

abbrev pub group_mod_for : GroupCommand → ℕ → ℕ → List ℕ → Result GroupMod Code
group_mod_for command.Add type id rest = group_of type id rest >>= λ g. Ok (Add g)
group_mod_for command.Modify type id rest = group_of type id rest >>= λ g. Ok (Modify g)
group_mod_for command.Delete type id rest = delete_of id

-- OFPGMFC_BAD_COMMAND, and then by the command
abbrev pub group_mod_by : List ℕ → List ℕ → Result GroupMod Code
group_mod_by (c ∷ type ∷ id ∷ []) rest = known (command_of_group_mod c) OFPGMFC_BAD_COMMAND >>= λ command. group_mod_for command type id rest
group_mod_by other rest = Err OFPBRC_BAD_LEN

abbrev pub group_mod_of : List ℕ → Result GroupMod Code
group_mod_of m = group_mod_by (numbers tables.group_mod 8 m) (drop (8 + size tables.group_mod) m)

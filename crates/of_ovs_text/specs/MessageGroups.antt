-- GROUP_MOD IN WORDS (OpenFlow 1.3.5, 7.3.4.2): what `ovs-ofctl` reads as a group, behind a command.
use Rattle.std.specs.Prelude.{ℕ, ◌^◌, List, [], ◌∷◌, ◌++◌, codes, Option, Some, None, Ok, Err, if◌then◌else◌}
use Rattle.std.specs.{Option.option_map, Str.bytes_eq}
use Rattle.of_wire.specs.{declared.code.Code.Code, declared.limits.TheConstants.OFPG_ALL}
use Rattle.of_formats.specs.{declared.messages.TheConstants.GROUP_MOD, Structs.written}
use Rattle.of_formats.specs.Tables as tables
use Rattle.of_groups.specs.{Buckets.are_fit, Groups.kind_number}
use Rattle.of_text.specs.{First.first_refusal, Groups.TextGroup, Groups.buckets_of}
use Rattle.of_messages.specs.{CanonicalGroups.canonical_buckets, Written.message}
use Rattle.of_ovs_words.specs.{Numbers.number_in, Words.word_name, Words.word_value}
use Rattle.of_ovs_lines.specs.LineContents as contents
use Rattle.of_ovs_lines.specs.LineContents.{LineContent}
use Rattle.of_ovs_text.specs.{declared.group.Command.Command, declared.group.Command.TheVariants.Add, declared.group.Command.TheVariants.Modify, declared.group.Command.TheVariants.Delete}
use Rattle.of_ovs_text.specs.{Cutting.behind_command, Cutting.leading_word, MessageFlows.content_of_line, Reasons.BytesOrReason, Reasons.Faults, Reasons.reason_of_refusal, Reasons.reason_of_word}

-- OFPGC_*
unfoldable pub group_command_named : List ℕ → Option Command
group_command_named word =
    if bytes_eq word (codes "add") then Some Add
    else if bytes_eq word (codes "modify") then Some Modify
    else if bytes_eq word (codes "delete") then Some Delete
    else None

abbrev pub group_command : List ℕ → Command × List ℕ
group_command text = behind_command Add text (group_command_named (leading_word text))

-- its command, the type of the group and its number, and the bytes of its buckets
abbrev pub group_mod_bytes : ℕ → ℕ → ℕ → ℕ → List ℕ → List ℕ
group_mod_bytes xid command type id buckets = message GROUP_MOD xid (written tables.group_mod (command ∷ type ∷ id ∷ []) ++ buckets)

-- the refusal of a group as the only one of a switch
abbrev pub group_refusal : TextGroup → Option Code
group_refusal g = option_map (λ r. r.1) (first_refusal (g ∷ []) [])

-- what GROUP_MODs cannot say is refused: more than 16 buckets, more than 64 actions, or actions that are not supported
unfoldable pub group_mod_said : ℕ → ℕ → TextGroup → BytesOrReason
group_mod_said xid command g =
    if are_fit (buckets_of g) then Ok (group_mod_bytes xid command (kind_number g.head.kind) g.head.id (canonical_buckets (buckets_of g)))
    else Err (reason_of_refusal (group_refusal g))

abbrev pub group_content_said : ℕ → ℕ → List ℕ → LineContent → BytesOrReason
group_content_said xid command words (contents.Group g) = group_mod_said xid command g
group_content_said xid command words (contents.Refused faults) = Err (Faults faults)
group_content_said xid command words other = Err (reason_of_word words)

-- the number of a group: group_id=N, or all
unfoldable pub group_number_in : List ℕ → Option ℕ
group_number_in word =
    if bytes_eq word (codes "all") then Some OFPG_ALL
    else if bytes_eq (word_name word) (codes "group_id") then number_in (2 ^ 32) (word_value word)
    else None

-- its type is not read (6.5)
abbrev pub delete_said : ℕ → Option ℕ → List ℕ → BytesOrReason
delete_said xid (Some id) word = Ok (group_mod_bytes xid 2 0 id [])
delete_said xid None word = Err (reason_of_word word)

abbrev pub commanded_group : ℕ → Command → List ℕ → BytesOrReason
commanded_group xid Add words = group_content_said xid 0 words (content_of_line words)
commanded_group xid Modify words = group_content_said xid 1 words (content_of_line words)
commanded_group xid Delete words = delete_said xid (group_number_in words) words

-- [COMMAND] WORDS
unfoldable pub group_words_said : ℕ → List ℕ → BytesOrReason
group_words_said xid text = commanded_group xid (group_command text).0 (group_command text).1

-- WHAT THE WORDS OF A LINE SAY OF A FLOW, one after the other (ovs-ofctl(8)).
use Rattle.std.specs.Prelude.{ℕ, ◌^◌, ◌==◌, ◌&&◌, ◌||◌, not, nat_eq, nat_lt, Bool, true, false, List, [], ◌∷◌, ◌++◌, codes, length, bit_or, Option, Some, None, Result, Ok, Err, if◌then◌else◌}
use Rattle.std.specs.{List.starts_with, Str.bytes_eq, Str.str_eq_ignore_ascii_case}
use Rattle.of_oxm.specs.declared.match_field.MatchField.{MatchField}
use Rattle.of_actions.specs.declared.action.Action.{Action}
use Rattle.of_lines.specs.declared.row.FlowHead.{FlowHead}
use Rattle.of_text.specs.Lines.{before, behind}
use Rattle.of_ovs_words.specs.{declared.why.Why.Why, declared.head_word.HeadWord.HeadWord, declared.head_word.Part.Part, declared.protocol_word.ProtocolWord.ProtocolWord}
use Rattle.of_ovs_words.specs.{declared.field_word.FieldWord.FieldWord, declared.action_word.ActionWord.ActionWord, declared.action_word.Verb.Verb}
use Rattle.of_ovs_words.specs.{Words.word_name, Words.word_value, Words.words_from, Outcomes.◌>>=◌, Outcomes.numbered, HeadWords.head_named, ProtocolWords.protocol_named}
use Rattle.of_ovs_words.specs.{FieldWords.field_word_named, ActionWords.action_named, Matches.with_match_field, Matches.with_protocol}
use Rattle.of_ovs_words.specs.Actions.{actions_in_words, is_word_of, with_action_in_word}
use Rattle.of_ovs_words.specs.declared.why.Why.TheVariants as whys
use Rattle.of_ovs_words.specs.declared.head_word.Part.TheVariants as parts
use Rattle.of_ovs_words.specs.declared.action_word.Verb.TheVariants as verbs
use Rattle.of_wire.specs.declared.limits.TheConstants.{TABLES}
use Rattle.of_ovs_lines.specs.declared.mode.Mode.{Mode}

-- a word that is refused, and why
pub record Refusal : Type 0 where
  pub word : List ℕ
  pub why : Why

pub record PartialFlow : Type 0 where
  pub mode : Mode
  pub head : FlowHead
  pub settings : List MatchField
  -- the words are actions
  pub in_actions : Bool
  pub apply : List Action
  -- the only action is `drop`
  pub dropped : Bool
  pub clears : Bool
  pub writes : Bool
  pub write : List Action
  pub metadata : Option (ℕ × ℕ)
  pub goto : Option ℕ
  -- which instruction came last: 0 actions that are applied, then in execution order
  pub stage : ℕ
  -- actions that are left out
  pub left : List (List ℕ)
  -- the table to go to is that of `resubmit`
  pub resubmits : Bool
  -- what a dump counted of the flow, as words
  pub counters : List (List ℕ)
  pub faults : List Refusal

-- a flow of which nothing is said: OFP_DEFAULT_PRIORITY, and all else 0
abbrev pub blank : Mode → PartialFlow
blank mode = record { mode = mode; head = record { table = 0; priority = 32768; cookie = 0; idle = 0; hard = 0; flags = 0 }; settings = []; in_actions = false; apply = []; dropped = false; clears = false; writes = false; write = []; metadata = None; goto = None; stage = 0; left = []; resubmits = false; counters = []; faults = [] }

-- a word that is refused changes nothing else
abbrev pub next_or_fault : PartialFlow → List ℕ → Result PartialFlow Why → PartialFlow
next_or_fault s word (Ok next) = next
next_or_fault s word (Err why) = record s { faults = s.faults ++ record { word = word; why = why } ∷ [] }

-- ---- beside its match and its actions

abbrev pub with_flag : FlowHead → ℕ → List ℕ → Result FlowHead Why
with_flag h bit value = if length value == 0 then Ok (record h { flags = bit_or h.flags bit }) else Err whys.Value

-- a table that this switch has, or any if tables get other numbers
abbrev pub table_in : Mode → List ℕ → Result ℕ Why
table_in mode value = numbered 256 value >>= λ n. if mode.renumber || nat_lt n TABLES then Ok n else Err whys.Table

unfoldable pub head_after : Mode → FlowHead → Part → List ℕ → Result FlowHead Why
head_after mode h parts.Cookie value = numbered (2 ^ 64) value >>= λ n. Ok (record h { cookie = n })
head_after mode h parts.Table value = table_in mode value >>= λ n. Ok (record h { table = n })
head_after mode h parts.Priority value = numbered 65536 value >>= λ n. Ok (record h { priority = n })
head_after mode h parts.Idle value = numbered 65536 value >>= λ n. Ok (record h { idle = n })
head_after mode h parts.Hard value = numbered 65536 value >>= λ n. Ok (record h { hard = n })
head_after mode h (parts.Flag bit) value = with_flag h bit value
head_after mode h parts.Passed value = Ok h
head_after mode h parts.Command value = Err whys.Command

-- ---- its instructions

-- VALUE or VALUE/MASK
abbrev pub mask_of_metadata : List ℕ → Result ℕ Why
mask_of_metadata word = if length word == 0 then Ok 18446744073709551615 else numbered (2 ^ 64) word

abbrev pub metadata_and_mask_in : List ℕ → Result (ℕ × ℕ) Why
metadata_and_mask_in value = do
  v ← numbered (2 ^ 64) (before 47 value)
  m ← mask_of_metadata (behind 47 value)
  Ok (v, m)

abbrev pub without_value : List ℕ → Result (Unit {0}) Why
without_value value = if length value == 0 then Ok tt else Err whys.Unknown

-- the instruction of that place may come now: after those before it, once, and not beside `drop`
abbrev pub may_follow : PartialFlow → ℕ → Result (Unit {0}) Why
may_follow s place =
    if s.dropped then Err whys.Alone
    else if nat_lt place s.stage then Err whys.Order
    else if place == s.stage then Err whys.Twice
    else Ok tt

-- resubmit(,TABLE), as GOTO_TABLE; it is an action, so no other instruction comes before it
abbrev pub later_table : PartialFlow → List ℕ → Result ℕ Why
later_table s value =
    if nat_lt 0 s.stage then Err whys.Order
    else if not (length (before 44 value) == 0) then Err whys.Backward
    else table_in s.mode (behind 44 value) >>= λ n. if nat_lt s.head.table n then Ok n else Err whys.Backward

-- to NORMAL or LOCAL
abbrev pub is_such_port : List ℕ → Bool
is_such_port text = str_eq_ignore_ascii_case text (codes "normal") || str_eq_ignore_ascii_case text (codes "local")

abbrev pub is_output_verb : Verb → Bool
is_output_verb verbs.Output = true
is_output_verb other = false

abbrev pub may_be_left : List ℕ → Bool
may_be_left word = is_such_port word || (is_word_of is_output_verb word && is_such_port (word_value word))

-- an action that is applied
abbrev pub with_applied : PartialFlow → List ℕ → Result PartialFlow Why
with_applied s word =
    if nat_lt 0 s.stage then Err whys.Order
    else if s.mode.skip && may_be_left word then Ok (record s { left = s.left ++ word ∷ [] })
    else with_action_in_word s.settings [] s.dropped s.apply word >>= λ r. Ok (record s { dropped = r.0; apply = r.1 })

-- without actions it is no instruction, as ovs-ofctl sends it
abbrev pub with_write : PartialFlow → List ℕ → Result PartialFlow Why
with_write s value = may_follow s 2 >>= λ _. actions_in_words s.settings s.apply [] (words_from 0 value) >>= λ actions. Ok (record s { stage = 2; writes = not (length actions == 0); write = actions })

unfoldable pub with_instruction : PartialFlow → Verb → List ℕ → Result PartialFlow Why
with_instruction s verbs.Clear word = may_follow s 1 >>= λ _. without_value (word_value word) >>= λ _. Ok (record s { stage = 1; clears = true })
with_instruction s verbs.Write word = with_write s (word_value word)
with_instruction s verbs.Metadata word = may_follow s 3 >>= λ _. metadata_and_mask_in (word_value word) >>= λ m. Ok (record s { stage = 3; metadata = Some m })
with_instruction s verbs.Goto word = may_follow s 4 >>= λ _. table_in s.mode (word_value word) >>= λ n. Ok (record s { stage = 4; goto = Some n })
with_instruction s verbs.Resubmit word = may_follow s 4 >>= λ _. later_table s (word_value word) >>= λ n. Ok (record s { stage = 4; goto = Some n; resubmits = true })
with_instruction s other word = with_applied s word

-- ---- words

abbrev pub with_named_action : PartialFlow → Option ActionWord → List ℕ → Result PartialFlow Why
with_named_action s (Some named) word = with_instruction s named.verb word
with_named_action s None word = with_applied s word

abbrev pub with_flow_action : PartialFlow → List ℕ → Result PartialFlow Why
with_flow_action s word = with_named_action s (action_named (word_name word)) word

abbrev pub with_field_word : PartialFlow → Option FieldWord → List ℕ → Result PartialFlow Why
with_field_word s None value = Err whys.Unknown
with_field_word s (Some word) value = with_match_field s.settings word value >>= λ settings. Ok (record s { settings = settings })

abbrev pub with_protocol_word : PartialFlow → Option ProtocolWord → List ℕ → List ℕ → Result PartialFlow Why
with_protocol_word s None name value = with_field_word s (field_word_named name) value
with_protocol_word s (Some word) name value = with_protocol s.settings word value >>= λ settings. Ok (record s { settings = settings })

abbrev pub with_part : PartialFlow → Option HeadWord → List ℕ → List ℕ → Result PartialFlow Why
with_part s None name value = with_protocol_word s (protocol_named name) name value
with_part s (Some word) name value = head_after s.mode s.head word.part value >>= λ head. Ok (record s { head = head })

-- a word before the actions
unfoldable pub with_head_word : PartialFlow → List ℕ → List ℕ → Result PartialFlow Why
with_head_word s name value = with_part s (head_named name) name value

abbrev pub with_other_word : PartialFlow → List ℕ → PartialFlow
with_other_word s word = next_or_fault s word (with_head_word s (word_name word) (word_value word))

-- what a dump says of the packets of a flow, and of its age
abbrev pub is_counter : List ℕ → Bool
is_counter name = bytes_eq name (codes "duration") || bytes_eq name (codes "n_packets") || bytes_eq name (codes "n_bytes")

abbrev pub with_counter : PartialFlow → List ℕ → PartialFlow
with_counter s word = if is_counter (word_name word) then record s { counters = s.counters ++ word ∷ [] } else s

-- an action or an instruction, if it is one
abbrev pub with_action_word : PartialFlow → List ℕ → PartialFlow
with_action_word s word = next_or_fault s word (with_flow_action s word)

-- the first of them is behind `actions=`
abbrev pub with_first_action : PartialFlow → List ℕ → PartialFlow
with_first_action s value = if length value == 0 then record s { in_actions = true } else with_action_word (record s { in_actions = true }) value

-- a word behind which the words are actions; ovs-ofctl wants the sign
abbrev pub begins_actions : List ℕ → Bool
begins_actions word = starts_with nat_eq word (codes "actions=") || starts_with nat_eq word (codes "action=")

-- ONE MORE WORD of a flow
unfoldable pub with_flow_word : PartialFlow → List ℕ → PartialFlow
with_flow_word s word =
    if s.in_actions then with_action_word s word
    else if begins_actions word then with_first_action s (word_value word)
    else with_other_word (with_counter s word) word

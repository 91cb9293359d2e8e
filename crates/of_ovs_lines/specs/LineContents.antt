-- WHAT A LINE SAYS (ovs-ofctl(8)): a flow, a group, nothing, or words that are refused.
use Rattle.std.specs.Prelude.{ℕ, ◌==◌, ◌&&◌, ◌||◌, Bool, List, [], ◌∷◌, codes, is_some, length, not, Option, Some, None, Result, Ok, Err, if◌then◌else◌}
use Rattle.std.specs.{List.fold, Str.bytes_eq}
use Rattle.of_text.specs.{Flows.Flow as TextFlow, Groups.TextGroup, Lines.before}
use Rattle.of_ovs_words.specs.Words.{after_word, is_gap, word_name, word_in, words_from}
use Rattle.of_ovs_words.specs.{declared.why.Why.Why, ProtocolWords.protocol_named}
use Rattle.of_ovs_lines.specs.PartialFlows.{PartialFlow, Refusal, begins_actions, blank, with_flow_word}
use Rattle.of_ovs_lines.specs.PartialGroups.{PartialGroup, is_other_command, no_group, with_group_word, finished_group}
use Rattle.of_ovs_lines.specs.{declared.mode.Mode.Mode, Finished.finished_flow, Finished.in_numbers, Finished.refusal_of}

-- what a flow text does not have: actions that are left out, whether GOTO_TABLE is the line's `resubmit`, and counters
pub record Marks : Type 0 where
  pub left : List (List ℕ)
  pub resubmits : Bool
  pub counters : List (List ℕ)

pub data LineContent : Type 0 where
  Nothing : LineContent
  Group : (group : TextGroup) → LineContent
  Flow : (flow : TextFlow) (marks : Marks) → LineContent
  Refused : (faults : List Refusal) → LineContent

-- after words more, of which empty ones are passed over
abbrev pub with_words : {S : Type 0} → (S → List ℕ → S) → S → List (List ℕ) → S
with_words step s [] = s
with_words step s (w ∷ ws) = if length w == 0 then with_words step s ws else with_words step (step s w) ws

-- without white space before it, and without a comment
abbrev pub trimmed : List ℕ → List ℕ
trimmed [] = []
trimmed (b ∷ bs) = if is_gap b then trimmed bs else b ∷ bs

abbrev pub without_comment : List ℕ → List ℕ
without_comment line = trimmed (before 35 line)

-- OFPST_FLOW reply (OF1.3) (xid=0x2):
abbrev pub is_heading : List ℕ → Bool
is_heading text = bytes_eq (before 95 text) (codes "OFPST") || bytes_eq (before 95 text) (codes "NXST")

-- all words that are refused, or else why they are no flow
abbrev pub flow_unless : Option Refusal → PartialFlow → LineContent
flow_unless (Some refusal) s = Refused (refusal ∷ [])
flow_unless None s = Flow (finished_flow s) (record { left = s.left; resubmits = s.resubmits; counters = s.counters })

unfoldable pub flow_content : PartialFlow → LineContent
flow_content s = if length s.faults == 0 then flow_unless (refusal_of s) s else Refused s.faults

-- ---- the words of a match that say a protocol are read before the others, whose fields depend on it

abbrev pub says_protocol : List ℕ → Bool
says_protocol word =
    is_some (protocol_named (word_name word)) || bytes_eq (word_name word) (codes "dl_type") || bytes_eq (word_name word) (codes "eth_type")
    || bytes_eq (word_name word) (codes "nw_proto") || bytes_eq (word_name word) (codes "ip_proto") || bytes_eq (word_name word) (codes "arp_op")

abbrev pub words_before_actions : List (List ℕ) → List (List ℕ)
words_before_actions [] = []
words_before_actions (w ∷ ws) = if begins_actions w then [] else w ∷ words_before_actions ws

abbrev pub with_word_of_protocol : PartialFlow → List ℕ → PartialFlow
with_word_of_protocol s word = if says_protocol word then with_flow_word s word else s

abbrev pub with_later_word : PartialFlow → List ℕ → PartialFlow
with_later_word s word = if not s.in_actions && says_protocol word then s else with_flow_word s word

abbrev pub with_all_words : PartialFlow → List (List ℕ) → PartialFlow
with_all_words s words = with_words with_later_word (fold with_word_of_protocol s (words_before_actions words)) words

abbrev pub parsed_flow : Mode → List ℕ → List ℕ → LineContent
parsed_flow mode numbers text = flow_content (in_numbers numbers (with_all_words (blank mode) (words_from 0 text)))

abbrev pub group_or_why : Result TextGroup Why → LineContent
group_or_why (Ok group) = Group group
group_or_why (Err why) = Refused (record { word = codes "type"; why = why } ∷ [])

unfoldable pub group_content : PartialGroup → LineContent
group_content s = if length s.faults == 0 then group_or_why (finished_group s) else Refused s.faults

abbrev pub parsed_group : List ℕ → LineContent
parsed_group text = group_content (with_words with_group_word no_group (words_from 0 text))

-- a group, also behind a command: `group_id=..`, `type=..`, `add group_id=..`
abbrev pub is_command_name : List ℕ → Bool
is_command_name word = bytes_eq word (codes "add") || is_other_command word

abbrev pub names_group_id : List ℕ → Bool
names_group_id text = bytes_eq (word_name text) (codes "group_id") || bytes_eq (word_name text) (codes "type")

abbrev pub begins_group : List ℕ → Bool
begins_group text = names_group_id text || (is_command_name (word_in 0 text) && names_group_id (trimmed (after_word 0 text)))

abbrev pub parsed_text : Mode → List ℕ → List ℕ → LineContent
parsed_text mode numbers text =
    if length text == 0 || is_heading text then Nothing
    else if begins_group text then parsed_group text
    else parsed_flow mode numbers text

-- WHAT A LINE SAYS, or all its words that are refused; tables get the numbers of the list
unfoldable pub parsed_line : Mode → List ℕ → List ℕ → LineContent
parsed_line mode numbers line = parsed_text mode numbers (without_comment line)

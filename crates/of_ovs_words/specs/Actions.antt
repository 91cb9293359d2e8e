-- WHAT A WORD SAYS AS AN ACTION (ovs-actions(7)), beside the settings of the flow's match.
use Rattle.std.specs.Prelude.{ℕ, ◌+◌, ◌-◌, ◌^◌, ◌==◌, ◌&&◌, ◌||◌, nat_le, min, not, Bool, true, false, List, [], ◌∷◌, ◌++◌, codes, length, Option, Some, None, Result, Ok, Err, if◌then◌else◌}
use Rattle.std.specs.{Option.option_map_or, List.fold, Str.bytes_eq}
use Rattle.of_layers.specs.{declared.field.Field.Field, declared.field.Field.TheVariants.VlanVid, Reading.is_tag_type}
use Rattle.of_oxm.specs.declared.match_field.MatchField.{MatchField}
use Rattle.of_actions.specs.declared.action.Action.{Action}
use Rattle.of_actions.specs.declared.action.Action.TheVariants as actions
use Rattle.of_ovs_words.specs.declared.action_word.Verb.TheVariants.{Output, Controller, Group, Drop, PushVlan, PopVlan, SetField, Mod, Tag, DecTtl, SetTtl}
use Rattle.of_ovs_words.specs.Outcomes.{◌>>=◌, value_or_why, numbered, one, through_words}
use Rattle.of_ovs_words.specs.{declared.why.Why.Why, declared.field_word.FieldWord.FieldWord, declared.field_word.Form.Form, declared.field_word.Target.Target}
use Rattle.of_ovs_words.specs.{declared.field_word.Form.TheVariants.Vlan, declared.action_word.ActionWord.ActionWord, declared.action_word.Verb.Verb}
use Rattle.of_ovs_words.specs.{Words.word_name, Words.word_value, Words.words_from, Numbers.number_in, Ports.port_in, FieldWords.field_word_named}
use Rattle.of_ovs_words.specs.{Settings.field_for, Settings.fitting_in, Settings.last_of, ActionWords.action_named}
use Rattle.of_ovs_words.specs.declared.why.Why.TheVariants as whys
use Rattle.of_lines.specs.Lines.{before, behind}
use Rattle.of_wire.specs.declared.limits.TheConstants.{OFPCML_NO_BUFFER, OFPP_CONTROLLER}

-- a whole packet for the controller (OpenFlow 1.3.5, 7.2.5)
abbrev pub output_to : ℕ → Action
output_to port = actions.Output port (if port == OFPP_CONTROLLER then OFPCML_NO_BUFFER else 0)

-- a word of controller(max_len=128,id=0,reason=action): only the length may differ from what a controller of OpenFlow 1.3 gets
unfoldable pub with_key : ℕ → List ℕ → Result ℕ Why
with_key len word =
    if bytes_eq (word_name word) (codes "max_len") then numbered 65536 (word_value word)
    else if bytes_eq (word_name word) (codes "id") && bytes_eq (word_value word) (codes "0") then Ok len
    else if bytes_eq (word_name word) (codes "reason") && bytes_eq (word_value word) (codes "action") then Ok len
    else Err whys.Unknown

-- CONTROLLER, CONTROLLER:128 or controller(max_len=128)
abbrev pub max_len_by : Option ℕ → List ℕ → Result ℕ Why
max_len_by (Some n) value = Ok n
max_len_by None value = through_words with_key OFPCML_NO_BUFFER (words_from 0 value)

abbrev pub length_in : List ℕ → Result ℕ Why
length_in value = max_len_by (number_in 65536 value) value

abbrev pub controller_in : List ℕ → Result Action Why
controller_in value = length_in value >>= λ n. Ok (actions.Output OFPP_CONTROLLER n)

abbrev pub push_vlan_in : List ℕ → Result Action Why
push_vlan_in value = numbered 65536 value >>= λ n. if is_tag_type n then Ok (actions.PushVlan n) else Err whys.Value

abbrev pub is_vlan : Form → Bool
is_vlan Vlan = true
is_vlan other = false

-- a value that a field is set to: a tag stays a tag
abbrev pub new_value : Form → Field → List ℕ → Result ℕ Why
new_value form f value = fitting_in form f value >>= λ n. if is_vlan form && n == 0 then Err whys.Value else Ok n

abbrev pub set_field_by : List MatchField → Target → Form → List ℕ → Result Action Why
set_field_by settings target form value = do
  f ← value_or_why whys.Protocol (field_for target settings)
  n ← new_value form f value
  Ok (actions.SetField f n)

abbrev pub set_named : List MatchField → List ℕ → Option FieldWord → Result Action Why
set_named settings value None = Err whys.Unknown
set_named settings value (Some word) = set_field_by settings word.target word.form value

-- VALUE->FIELD: the name of the field behind the minus sign
abbrev pub arrow_target : List ℕ → List ℕ
arrow_target [] = []
arrow_target (b ∷ name) = if b == 62 then name else []

abbrev pub set_field_in : List MatchField → List ℕ → Result Action Why
set_field_in settings value = set_named settings (before 45 value) (field_word_named (arrow_target (behind 45 value)))

abbrev pub ttl_in : List ℕ → Result Action Why
ttl_in value = numbered 256 value >>= λ n. Ok (actions.SetNwTtl n)

abbrev pub group_in : List ℕ → Result Action Why
group_in value = numbered (2 ^ 32) value >>= λ n. Ok (actions.Group n)

-- to a port; this is why, where the word is none
abbrev pub output_in : Why → List ℕ → Result Action Why
output_in why word = port_in why word >>= λ port. Ok (output_to port)

-- output:2; output(port=2,max_len=100) truncates the packet
abbrev pub truncates : List ℕ → Bool
truncates value = bytes_eq (word_name value) (codes "port") || bytes_eq (word_name value) (codes "max_len")

abbrev pub output_at : List ℕ → Result Action Why
output_at value = if truncates value then Err whys.Truncates else output_in whys.PortName value

-- a word without a value
abbrev pub action_without_value : List ℕ → Option Action → Result (Option Action) Why
action_without_value value action = if length value == 0 then Ok action else Err whys.Unknown

abbrev pub some : Result Action Why → Result (Option Action) Why
some r = r >>= λ action. Ok (Some action)

-- the action of a verb; none of `drop`
unfoldable pub verb_action : List MatchField → Verb → List ℕ → Result (Option Action) Why
verb_action settings Output value = some (output_at value)
verb_action settings Controller value = some (controller_in value)
verb_action settings Group value = some (group_in value)
verb_action settings Drop value = action_without_value value None
verb_action settings PushVlan value = some (push_vlan_in value)
verb_action settings PopVlan value = action_without_value value (Some actions.PopVlan)
verb_action settings SetField value = some (set_field_in settings value)
verb_action settings (Mod target form) value = some (set_field_by settings target form value)
verb_action settings (Tag target form) value = some (set_field_by settings target form value)
verb_action settings DecTtl value = action_without_value value (Some actions.DecNwTtl)
verb_action settings SetTtl value = some (ttl_in value)
verb_action settings other value = Err whys.Unknown

-- a word that is no verb: a port
abbrev pub sent_to_port : List ℕ → Result (Option Action) Why
sent_to_port word = some (output_in whys.Unknown word)

abbrev pub named_action : List MatchField → Option ActionWord → List ℕ → Result (Option Action) Why
named_action settings (Some named) word = verb_action settings named.verb (word_value word)
named_action settings None word = sent_to_port word

abbrev pub action_in_word : List MatchField → List ℕ → Result (Option Action) Why
action_in_word settings word = named_action settings (action_named (word_name word)) word

-- ---- a tag before the action

-- the match says that there is a tag
abbrev pub is_matched : List MatchField → Bool
is_matched settings = option_map_or (λ e. nat_le 4096 e.value) (last_of VlanVid settings) false

-- HOW MANY TAGS there are after an action, of so many before it (of more than 128 only 128 are counted)
abbrev pub tags_after : ℕ → Action → ℕ
tags_after n (actions.PushVlan type) = min 128 (n + 1)
tags_after n actions.PopVlan = n - 1
tags_after n other = n

-- after the actions of the lists before, and of this one so far
abbrev pub tags_after_actions : List MatchField → List Action → List Action → ℕ
tags_after_actions settings earlier done = fold tags_after (fold tags_after (if is_matched settings then 1 else 0) earlier) done

abbrev pub is_tag : Verb → Bool
is_tag (Tag target form) = true
is_tag other = false

abbrev pub is_drop : Verb → Bool
is_drop Drop = true
is_drop other = false

-- the word is one of such a verb
abbrev pub is_word_of : (Verb → Bool) → List ℕ → Bool
is_word_of test word = option_map_or (λ named. test named.verb) (action_named (word_name word)) false

abbrev pub tags : List ℕ → Bool
tags word = is_word_of is_tag word

abbrev pub is_drop_word : List ℕ → Bool
is_drop_word word = is_word_of is_drop word

-- ---- actions one after the other

abbrev pub tag_first : List MatchField → List Action → List Action → List ℕ → List Action
tag_first settings earlier done word = if tags word && tags_after_actions settings earlier done == 0 then actions.PushVlan 0x8100 ∷ [] else []

-- `drop` with another action
abbrev pub is_beside_drop : Bool → List Action → List ℕ → Bool
is_beside_drop dropped done word = dropped || (is_drop_word word && not (length done == 0))

-- THE ACTIONS after a word more, and whether it was `drop`; after `drop` there is none
unfoldable pub with_action_in_word : List MatchField → List Action → Bool → List Action → List ℕ → Result (Bool × List Action) Why
with_action_in_word settings earlier dropped done word =
    if is_beside_drop dropped done word then Err whys.Alone
    else action_in_word settings word >>= λ action. Ok (is_drop_word word, done ++ tag_first settings earlier done word ++ one action)

-- the actions after words more
abbrev pub with_action_words : List MatchField → List Action → Bool × List Action → List (List ℕ) → Result (Bool × List Action) Why
with_action_words settings earlier s words = through_words (λ s word. with_action_in_word settings earlier s.0 s.1 word) s words

-- THE ACTIONS OF A LIST, after the lists before
abbrev pub actions_in_words : List MatchField → List Action → List Action → List (List ℕ) → Result (List Action) Why
actions_in_words settings earlier done words = with_action_words settings earlier (false, done) words >>= λ s. Ok s.1

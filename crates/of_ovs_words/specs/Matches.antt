-- WHAT WORDS SAY OF A MATCH, one after the other: settings of fields (ovs-fields(7)).
use Rattle.std.specs.Prelude.{ℕ, ◌==◌, bit_or, ◌&&◌, Bool, true, false, not, is_some, List, [], ◌∷◌, ◌++◌, length, filter, filter_map, Option, Some, None, Result, Ok, Err, if◌then◌else◌}
use Rattle.std.specs.Option.{unwrap_or}
use Rattle.of_layers.specs.{declared.field.Field.Field, Fields.number_of}
use Rattle.of_layers.specs.declared.field.Field.TheVariants as fields
use Rattle.of_layers.specs.declared.field.TheConstants.Field as constants
use Rattle.of_oxm.specs.declared.match_field.MatchField.{MatchField}
use Rattle.of_ovs_words.specs.Settings.{exact, field_for, setting_in, last_of, setting_under}
use Rattle.of_ovs_words.specs.{declared.why.Why.Why, declared.protocol_word.ProtocolWord.ProtocolWord, declared.field_word.FieldWord.FieldWord, declared.field_word.Form.Form}
use Rattle.of_ovs_words.specs.{declared.field_word.Form.TheVariants.Tci, Outcomes.◌>>=◌, Outcomes.value_or_why, Outcomes.one, Tci.tci_settings}
use Rattle.of_ovs_words.specs.declared.why.Why.TheVariants as whys

abbrev pub protocol_settings : Option ℕ → List MatchField
protocol_settings None = []
protocol_settings (Some n) = exact fields.IpProto n ∷ []

abbrev pub with_protocol : List MatchField → ProtocolWord → List ℕ → Result (List MatchField) Why
with_protocol settings word value = if length value == 0 then Ok (settings ++ exact fields.EthType word.ethertype ∷ [] ++ protocol_settings word.protocol) else Err whys.Unknown

-- VLAN_PCP says that there is a tag, whatever was said of its number (OpenFlow 1.3.5, 7.2.3.7)
abbrev pub tagged_setting : Option MatchField → Option MatchField
tagged_setting None = setting_under fields.VlanVid 4096 4096
tagged_setting (Some e) = setting_under fields.VlanVid (bit_or e.value 4096) (bit_or (unwrap_or e.mask 8191) 4096)

abbrev pub tag_with : Field → List MatchField → List MatchField
tag_with f settings = if number_of f == number_of fields.VlanPcp then one (tagged_setting (last_of fields.VlanVid settings)) else []

-- those of other fields
abbrev pub without_settings : Field → List MatchField → List MatchField
without_settings f settings = filter (λ e. not (number_of e.field == number_of f)) settings

-- what was said of VLAN_PCP says that there is a tag, too, so it cannot be taken back alone
abbrev pub takes_tag_back : Field → List MatchField → Bool
takes_tag_back f settings = number_of f == number_of fields.VlanPcp && is_some (last_of fields.VlanPcp settings)

-- a mask of 0 takes back what was said of the field before
abbrev pub with_field_value : List MatchField → Field → Option MatchField → Result (List MatchField) Why
with_field_value settings f None = if takes_tag_back f settings then Err whys.Value else Ok (without_settings f settings)
with_field_value settings f (Some e) = Ok (settings ++ tag_with f settings ++ e ∷ [])

abbrev pub with_field_setting : List MatchField → FieldWord → List ℕ → Result (List MatchField) Why
with_field_setting settings word value = do
  f ← value_or_why whys.Protocol (field_for word.target settings)
  e ← setting_in word.form f value
  with_field_value settings f e

-- both bytes of a tag, in place of what was said of it before
abbrev pub with_tci : List MatchField → List ℕ → Result (List MatchField) Why
with_tci settings value = do
  es ← tci_settings value
  Ok (without_settings fields.VlanPcp (without_settings fields.VlanVid settings) ++ one es.0 ++ one es.1)

abbrev pub is_tci : Form → Bool
is_tci Tci = true
is_tci other = false

unfoldable pub with_match_field : List MatchField → FieldWord → List ℕ → Result (List MatchField) Why
with_match_field settings word value = if is_tci word.form then with_tci settings value else with_field_setting settings word value

-- the fields of a match: of each the last setting, in ascending order of number
abbrev pub fields_of_settings : List MatchField → List MatchField
fields_of_settings settings = filter_map (λ f. last_of f settings) constants.ALL

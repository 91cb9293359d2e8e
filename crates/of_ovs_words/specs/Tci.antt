-- THE TWO BYTES OF A VLAN TAG IN A MATCH, `vlan_tci` (ovs-fields(7)), as VLAN_VID and VLAN_PCP.
use Rattle.std.specs.Prelude.{ℕ, ◌/◌, ◌==◌, bit_and, List, length, Option, Some, None, Result, Ok, Err, if◌then◌else◌}
use Rattle.of_layers.specs.declared.field.Field.TheVariants.{VlanVid, VlanPcp}
use Rattle.of_oxm.specs.declared.match_field.MatchField.{MatchField}
use Rattle.of_lines.specs.Lines.{before, behind}
use Rattle.of_ovs_words.specs.{declared.why.Why.Why, Outcomes.◌>>=◌, Outcomes.numbered, Settings.exact, Settings.masked}
use Rattle.of_ovs_words.specs.declared.why.Why.TheVariants as whys

abbrev pub tci_mask : List ℕ → Result ℕ Why
tci_mask word = if length word == 0 then Ok 65535 else numbered 65536 word

-- all of the priority of a tag that is asked for, or nothing; nothing where there is no tag
abbrev pub pcp_setting : ℕ → ℕ → Result (Option MatchField) Why
pcp_setting value mask =
    if bit_and mask 0xe000 == 0 then Ok None
    else if bit_and mask 0x1000 == 0 then Err whys.Value
    else if bit_and value 0x1000 == 0 then Ok None
    else if bit_and mask 0xe000 == 0xe000 then Ok (Some (exact VlanPcp (value / 8192)))
    else Err whys.Value

unfoldable pub tci_settings : List ℕ → Result (Option MatchField × Option MatchField) Why
tci_settings word = do
  value ← numbered 65536 (before 47 word)
  mask ← tci_mask (behind 47 word)
  pcp ← pcp_setting value mask
  Ok (masked VlanVid (bit_and value 0x1fff) mask, pcp)

-- What the bytes of a match say, as a function: the match that they begin with and its padded size, or the code of the first refusal (OpenFlow 1.3.5, 7.2.3 and 7.4.4).
use Rattle.std.specs.Prelude.{ℕ, ◌+◌, List, [], length, slice_index, Option, Some, None, Result, Ok, Err, if◌then◌else◌}
use Rattle.std.specs.Option.{option_map}
use Rattle.of_wire.specs.{declared.codes.TheConstants.OFPBMC_BAD_PREREQ, declared.code.Code.Code, Refusals.first_of, Items.Items, Items.items_from}
use Rattle.of_layers.specs.Fields.{field_at}
use Rattle.of_oxm.specs.{declared.match_field.MatchField.MatchField, MatchFieldWire.number_at, MatchFieldWire.match_field_of, MatchFieldWire.field_refusals}
use Rattle.of_oxm.specs.{MatchGrammar.match_len, MatchGrammar.padded, MatchGrammar.match_body, MatchGrammar.match_head_refusals, NormalForm.normal, Prerequisites.prerequisites_met}

-- fields as items on the wire
abbrev pub match_fields : Items MatchField
match_fields = record { refusals = field_refusals; value_at = λ rest. option_map (λ f. match_field_of f rest) (field_at (number_at rest)); size_at = λ rest. 4 + slice_index rest 3 }

-- the normal form of fields, if it has all their prerequisites
abbrev pub normal_match : ℕ → List MatchField → Result (List MatchField × ℕ) Code
normal_match size fields = if prerequisites_met (normal fields) then Ok (normal fields, size) else Err OFPBMC_BAD_PREREQ

abbrev pub then_normal : ℕ → Result (List MatchField) Code → Result (List MatchField × ℕ) Code
then_normal size (Ok fields) = normal_match size fields
then_normal size (Err code) = Err code

abbrev pub match_by : List ℕ → Option Code → Result (List MatchField × ℕ) Code
match_by bytes (Some code) = Err code
match_by bytes None = then_normal (padded (match_len bytes)) (items_from match_fields (length (match_body bytes)) [] (match_body bytes))

unfoldable pub match_of : List ℕ → Result (List MatchField × ℕ) Code
match_of bytes = match_by bytes (first_of (match_head_refusals bytes))

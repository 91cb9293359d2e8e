-- The one encoding of a list of actions that is written: padding is zeros (OpenFlow 1.3.5, 7.2.5).
use Rattle.std.specs.Prelude.{ℕ, ◌+◌, ◌-◌, ◌*◌, List, [], ◌∷◌, ◌++◌, replicate}
use Rattle.std.specs.List.{flat_map}
use Rattle.byteorder.specs.Endian.{big_bytes}
use Rattle.of_layers.specs.{declared.field.Field.Field as AField, Fields.number_of, Fields.bytes_of}
use Rattle.of_formats.specs.Structs.{written}
use Rattle.of_formats.specs.Tables as tables
use Rattle.of_actions.specs.declared.argument.Argument.TheVariants.{Nothing, Byte, Tag, Word, Port, Field}
use Rattle.of_actions.specs.{declared.action.Action.Action, declared.argument.Argument.Argument, Rows.said, SetField.set_len}

-- type 25, the length, OXM class 0x8000, the number and no mask, the length of the value, the value, padding
unfoldable pub canonical_set_field : AField → ℕ → List ℕ
canonical_set_field f value = 0 ∷ 25 ∷ 0 ∷ set_len f ∷ 128 ∷ 0 ∷ (2 * number_of f) ∷ bytes_of f ∷ (big_bytes (bytes_of f) value ++ replicate (set_len f - (8 + bytes_of f)) 0)

-- type, length, what the action says, padding
abbrev pub canonical_argument : ℕ → Argument → List ℕ
canonical_argument type Nothing = written tables.action_header (type ∷ 8 ∷ [])
canonical_argument type (Byte n) = written tables.action_nw_ttl (type ∷ 8 ∷ n ∷ [])
canonical_argument type (Tag n) = written tables.action_push (type ∷ 8 ∷ n ∷ [])
canonical_argument type (Word n) = written tables.action_group (type ∷ 8 ∷ n ∷ [])
canonical_argument type (Port port max_len) = written tables.action_output (type ∷ 16 ∷ port ∷ max_len ∷ [])
canonical_argument type (Field f value) = canonical_set_field f value

unfoldable pub canonical_action : Action → List ℕ
canonical_action a = canonical_argument (said a).0.kind (said a).1

abbrev pub canonical_actions : List Action → List ℕ
canonical_actions actions = flat_map canonical_action actions

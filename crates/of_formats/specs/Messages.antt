-- THE MESSAGES (OpenFlow 1.3.5, 7.1, enum ofp_type): the rows are a constant of the code.
use Rattle.std.specs.Prelude.{ℕ, ◌==◌, nat_lt, Bool, true, false, not, List, [], ◌∷◌, ◌++◌, Option, Some, None, find}
use Rattle.std.specs.Option.{option_map}
use Rattle.of_wire.specs.Parts.{keyword}
use Rattle.of_formats.specs.Tables.{async_config, error_msg, flow_mod, flow_removed, group_mod, multipart, packet_in, packet_out, port_mod, port_status, role, switch_config, switch_features, table_mod}
use Rattle.of_formats.specs.{declared.messages.MessageRow.MessageRow, declared.messages.Size.Size, declared.messages.Size.TheVariants.Exact, declared.messages.Size.TheVariants.Least}
use Rattle.of_formats.specs.{declared.messages.TheConstants.MESSAGES, declared.messages.Way.Way, declared.messages.Way.TheVariants.Read, declared.messages.Way.TheVariants.Both}
use Rattle.of_formats.specs.Structs.{Struct, pad}

unfoldable pub message_row : ℕ → Option MessageRow
message_row type = find (λ row. type == row.kind) MESSAGES

abbrev pub message_name : ℕ → Option (List ℕ)
message_name type = option_map (λ row. keyword row.name) (message_row type)

abbrev pub is_read : Way → Bool
is_read Read = true
is_read Both = true
is_read other = false

-- a message of that size does not have so many bytes
abbrev pub is_bad_size : Option Size → ℕ → Bool
is_bad_size None k = false
is_bad_size (Some (Exact n)) k = not (k == n)
is_bad_size (Some (Least n)) k = nat_lt k n

-- ---- the sizes are those of the structs

abbrev pub size_in_bytes : Size → ℕ
size_in_bytes (Exact n) = n
size_in_bytes (Least n) = n

-- a match has 8 bytes at least (7.2.3)
abbrev pub smallest_match : Struct
smallest_match = pad 8 ∷ []

-- what is behind the header of each type, from 0 on
abbrev pub fixed_parts : List Struct
fixed_parts =
    [] ∷ error_msg ∷ [] ∷ [] ∷ [] ∷ [] ∷ switch_features ∷ [] ∷ switch_config ∷ switch_config ∷ (packet_in ++ smallest_match) ∷ (flow_removed ++ smallest_match)
    ∷ port_status ∷ packet_out ∷ (flow_mod ++ smallest_match) ∷ group_mod ∷ port_mod ∷ table_mod ∷ multipart ∷ multipart ∷ [] ∷ [] ∷ [] ∷ []
    ∷ role ∷ role ∷ [] ∷ async_config ∷ async_config ∷ [] ∷ []

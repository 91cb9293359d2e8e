-- The role of a controller (OpenFlow 1.3.5, 6.3.4 and 7.3.9), as it is requested and replied.
use Rattle.std.specs.Prelude.{ℕ, ◌==◌, List, [], ◌∷◌, Option, Some, None, Result, Err, if◌then◌else◌}
use Rattle.of_wire.specs.{declared.codes.TheConstants.OFPBRC_BAD_LEN, declared.codes.TheConstants.OFPRRFC_BAD_ROLE, declared.code.Code.Code}
use Rattle.of_messages.specs.{declared.role.Role.Role, declared.role.RoleRequest.RoleRequest}
use Rattle.of_messages.specs.declared.role.RoleRequest.TheVariants.{NoChange, Equal, Master, Slave}
use Rattle.of_messages.specs.declared.role.Role.TheVariants as role
use Rattle.of_formats.specs.{Reading.known, Structs.numbers}
use Rattle.of_formats.specs.Tables as tables

-- the role that a number asks for, with a generation_id, which counts for MASTER and SLAVE
unfoldable pub asked_by : ℕ → ℕ → Option RoleRequest
asked_by number generation =
    if number == 0 then Some NoChange
    else if number == 1 then Some Equal
    else if number == 2 then Some (Master generation)
    else if number == 3 then Some (Slave generation)
    else None

-- OFPRRFC_BAD_ROLE
abbrev pub role_request_by : List ℕ → Result RoleRequest Code
role_request_by (role ∷ generation_id ∷ []) = known (asked_by role generation_id) OFPRRFC_BAD_ROLE
role_request_by other = Err OFPBRC_BAD_LEN

abbrev pub role_request_of : List ℕ → Result RoleRequest Code
role_request_of m = role_request_by (numbers tables.role 8 m)

abbrev pub role_number : Role → ℕ
role_number role.Equal = 1
role_number role.Master = 2
role_number role.Slave = 3

-- all ones where there is none
abbrev pub generation_number : Option ℕ → ℕ
generation_number None = 0xffffffffffffffff
generation_number (Some generation) = generation

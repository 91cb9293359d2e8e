-- What a ROLE_REQUEST does (OpenFlow 1.3.5, 6.3.4 and 7.3.9).
use Rattle.std.specs.Prelude.{ℕ, ◌+◌, ◌-◌, ◌%◌, ◌^◌, nat_le, Bool, false, List, [], ◌∷◌, Option, Some, None}
use Rattle.of_wire.specs.{declared.codes.TheConstants.OFPRRFC_STALE, declared.code.Code.Code}
use Rattle.of_messages.specs.declared.role.Role.TheVariants as role
use Rattle.of_messages.specs.declared.role.RoleRequest.{RoleRequest}
use Rattle.of_messages.specs.declared.role.RoleRequest.TheVariants.{NoChange, Equal, Master, Slave}
use Rattle.of_datapath.specs.declared.control.Control.{Control}

-- a generation_id is stale where its distance from the last, as a signed 64-bit number, is below 0; it wraps
abbrev pub is_stale : ℕ → Option ℕ → Bool
is_stale generation None = false
is_stale generation (Some last) = nat_le (2 ^ 63) ((generation + (2 ^ 64 - last)) % 2 ^ 64)

-- the generation_id of a request to become master or slave is stale
abbrev pub has_stale_generation : RoleRequest → Control → Bool
has_stale_generation NoChange c = false
has_stale_generation Equal c = false
has_stale_generation (Master generation) c = is_stale generation c.generation
has_stale_generation (Slave generation) c = is_stale generation c.generation

-- OFPRRFC_STALE (11/0)
abbrev pub generation_refusals : RoleRequest → Control → List (Bool × Code)
generation_refusals request c = (has_stale_generation request c, OFPRRFC_STALE) ∷ []

-- the role is set, and for a master or a slave the generation_id
abbrev pub with_role : RoleRequest → Control → Control
with_role NoChange c = c
with_role Equal c = record c { role = role.Equal }
with_role (Master generation) c = record c { role = role.Master; generation = Some generation }
with_role (Slave generation) c = record c { role = role.Slave; generation = Some generation }

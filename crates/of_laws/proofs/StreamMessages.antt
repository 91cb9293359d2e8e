-- What is written is one message of the stream; and the switch that is built.
use Rattle.std.proofs.Common.{◌≡◌, ℕ, ◌≤◌, List, [], length, ◌∙◌, arith}
use Rattle.of_groups.specs.declared.group.Group.{Group}
use Rattle.of_table.specs.Tables.{Tables}
use Rattle.of_messages.{specs.Heads.header_length, specs.Written.message, proofs.Lengths.is_message}
use Rattle.of_session.specs.Stream.{IsWholeMessage, length_of}
use Rattle.of_datapath.specs.{Buffers.none_held, Control.new_control}
use Rattle.of_switch.specs.State.{Core}

pub one_message : (kind xid : ℕ) (body : List ℕ) → length body ≤ 65527 → IsWholeMessage (message kind xid body)
one_message kind xid body few =
    let parts = is_message kind xid body few in
    let same : length_of (message kind xid body) ≡ header_length (message kind xid body) = omega arith in
    record { header = parts.0; whole = same ∙ parts.3 }

-- a switch with that datapath_id, with these groups and tables
abbrev pub built : ℕ → List Group → Tables → Core
built dpid groups tables = record { dpid = dpid; control = new_control; forwarding = record { tables = tables; groups = groups; ports = []; held = none_held } }

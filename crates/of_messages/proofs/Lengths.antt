-- Messages that say their length.
use Rattle.std.proofs.Common.{◌≡◌, ℕ, ◌+◌, ◌<◌, ◌≤◌, length, List, [], ◌++◌, refl, sym, ◌∙◌, arith, length-append}
use Rattle.byteorder.specs.{Endian.big_bytes, Numbers.big_number-reads_back}
use Rattle.of_wire.specs.declared.code.Code.{Code}
use Rattle.of_oxm.specs.{Canonical.canonical, declared.match_field.MatchField.MatchField}
use Rattle.of_messages.specs.Written.{message_header, message, IsMessage, hello_bytes, error_bytes, echo_reply_bytes, barrier_reply_bytes, features_body, features_reply_bytes, flow_removed_fixed_part, flow_removed_bytes, packet_fields, packet_in_bytes}
use Rattle.of_messages.{specs.declared.message.FlowRemoved.FlowRemoved, specs.declared.message.PacketIn.PacketIn, proofs.Appended.length_front, proofs.Appended.length_body}

total : (kind xid : ℕ) (body : List ℕ) → length (message kind xid body) ≡ 8 + length body
total kind xid body = omega arith

pub is_message : (kind xid : ℕ) (body : List ℕ) → length body ≤ 65527 → IsMessage (message kind xid body)
is_message kind xid body le =
    let size = 8 + length body in
    let fits : size < 65536 = omega (arith, le) in
    (omega arith, omega (arith, le), refl, big_number-reads_back 2 size (big_bytes 4 xid ++ body) fits ∙ sym (total kind xid body))

-- ---- each kind of message that the switch sends

pub hello_is_message : IsMessage hello_bytes
hello_is_message = is_message 0 0 (big_bytes 2 1 ++ (big_bytes 2 8 ++ big_bytes 4 16)) (omega arith)

pub error_is_message : (xid : ℕ) (code : Code) (failed : List ℕ) → length failed ≤ 65523 → IsMessage (error_bytes xid code failed)
error_is_message xid code failed le = is_message 1 xid (big_bytes 2 code.kind ++ (big_bytes 2 code.code ++ failed)) (omega (arith, le))

pub echo_reply_is_message : (xid : ℕ) (echoed : List ℕ) → length echoed ≤ 65527 → IsMessage (echo_reply_bytes xid echoed)
echo_reply_is_message xid echoed le = is_message 3 xid echoed le

pub barrier_reply_is_message : (xid : ℕ) → IsMessage (barrier_reply_bytes xid)
barrier_reply_is_message xid = is_message 21 xid [] (omega arith)

length_features : (dpid : ℕ) → length (features_body dpid) ≡ 24
unfolding features_body
length_features dpid = refl

pub features_reply_is_message : (xid dpid : ℕ) → IsMessage (features_reply_bytes xid dpid)
features_reply_is_message xid dpid = is_message 6 xid (features_body dpid) (omega (arith, length_features dpid))

pub features_reply_is : (xid dpid : ℕ) (s0 s2 : List ℕ) {s1 : List ℕ} → s0 ≡ [] → s1 ≡ s0 ++ message_header 6 32 xid → s2 ≡ s1 ++ features_body dpid → s2 ≡ features_reply_bytes xid dpid
features_reply_is xid dpid s0 s2 e0 e1 e2 =
    let whole : s2 ≡ ([] ++ message_header 6 32 xid) ++ features_body dpid = cc in
    rw (length_features dpid) whole

pub flow_removed_is_message : (xid : ℕ) (removed : FlowRemoved) (fields : List MatchField) → length (canonical fields) ≤ 1128 → IsMessage (flow_removed_bytes xid removed fields)
flow_removed_is_message xid removed fields le = is_message 11 xid _ (omega (arith, le, length_front removed, length-append (flow_removed_fixed_part removed) (canonical fields)))

pub packet_in_is_message : (xid : ℕ) (p : PacketIn) (told : List ℕ) → length (canonical (packet_fields p.in_port p.metadata)) ≤ 24 → length told ≤ 65485 → IsMessage (packet_in_bytes xid p told)
packet_in_is_message xid p told few le = is_message 10 xid _ (omega (arith, few, le, length_body p (canonical (packet_fields p.in_port p.metadata)) told))

-- What a switch writes is encoded.
use Rattle.std.proofs.Common.{◌≡◌, ℕ, ◌+◌, ◌^◌, ◌<◌, ◌≤◌, Bool, true, false, eqb, List, [], ◌∷◌, ◌++◌, length, cond, None, refl, sym, ap, ◌∙◌, arith}
use Rattle.std.{specs.Prelude.replicate, proofs.lemmas.List.append-nil, proofs.lemmas.List.append_assoc, proofs.lemmas.List.length-append}
use Rattle.byteorder.specs.Endian.{big_bytes}
use Rattle.of_wire.specs.declared.code.Code.{Code}
use Rattle.of_layers.specs.{Fields.row_of, declared.field.Field.Field, declared.field.Field.TheVariants.InPort, declared.field.Field.TheVariants.Metadata}
use Rattle.of_oxm.specs.{declared.match_field.MatchField.MatchField, Canonical.canonical, NormalForm.IsKept, NormalForm.IsMatch, Prerequisites.prerequisites_met}
use Rattle.of_oxm.proofs.Written.{canonical_short, canonical_encodes}
use Rattle.of_messages.specs.Written.{message, hello_bytes, error_bytes, echo_reply_bytes, barrier_reply_bytes, features_body, features_reply_bytes, config_reply_bytes, async_reply_bytes, flow_removed_fixed_part, flow_removed_bytes, packet_fields, packet_in_fixed_part, packet_in_bytes, status_number, port_names, port_bits, port_bytes, port_status_bytes}
use Rattle.of_messages.specs.{Roles.role_number, declared.async_masks.AsyncMasks.AsyncMasks, declared.config.SwitchConfig.SwitchConfig, declared.message.FlowRemoved.FlowRemoved}
use Rattle.of_messages.specs.{declared.message.PacketIn.PacketIn, declared.port_mod.PortDescription.PortDescription, declared.port_mod.PortStatusReason.PortStatusReason, declared.role.Role.Role}
use Rattle.of_messages.proofs.PacketFields.{with_metadata, without_metadata}
use Rattle.of_messages.specs.declared.port_mod.PortStatusReason.TheVariants as status
use Rattle.of_messages.specs.declared.role.Role.TheVariants as role
use Rattle.of_laws.specs.Told.{Told, hello, error, echo_reply, features_reply, config_reply, packet_in, flow_removed, port_status, barrier_reply, role_reply, async_reply, switch_message_type, told_cells, told_fields, ToldTail, EncodesSwitchMessage, port_reason, role_value, removed_cells, packet_in_cells, port_cells}
use Rattle.of_laws.{specs.Cells.FitsCells, proofs.Writings.fronted, proofs.Writings.encoding}

type_fits : (t : Told) → switch_message_type t < 256
type_fits (hello bitmap) = omega arith
type_fits (error code failed) = omega arith
type_fits (echo_reply echoed) = omega arith
type_fits (features_reply dpid) = omega arith
type_fits (config_reply config) = omega arith
type_fits (packet_in p «data») = omega arith
type_fits (flow_removed r fields) = omega arith
type_fits (port_status reason port) = omega arith
type_fits barrier_reply = omega arith
type_fits (role_reply r generation) = omega arith
type_fits (async_reply masks) = omega arith

told : (t : Told) (xid : ℕ) (body tail : List ℕ) → body ≡ encoding (told_cells t) ++ tail → xid < 256 ^ 4 → FitsCells (told_cells t) → length body ≤ 65527 → ToldTail t tail → EncodesSwitchMessage xid t (message (switch_message_type t) xid body)
told t xid body tail e x fits short behind = record { tail = tail; front = fronted (switch_message_type t) xid (told_cells t) body tail e (type_fits t) x fits short; behind = behind }

pub hello_told : EncodesSwitchMessage 0 (hello 16) hello_bytes
hello_told = told (hello 16) 0 (big_bytes 2 1 ++ (big_bytes 2 8 ++ big_bytes 4 16)) [] refl (omega arith) (omega arith, (omega arith, (omega arith, tt))) (omega arith) refl

pub error_told : (xid : ℕ) (code : Code) (failed : List ℕ) → xid < 256 ^ 4 → FitsCells (told_cells (error code failed)) → length failed ≤ 65523 → EncodesSwitchMessage xid (error code failed) (error_bytes xid code failed)
error_told xid code failed x fits short = told (error code failed) xid (big_bytes 2 code.kind ++ (big_bytes 2 code.code ++ failed)) failed refl x fits (omega arith) refl

pub echo_told : (xid : ℕ) (echoed : List ℕ) → xid < 256 ^ 4 → length echoed ≤ 65527 → EncodesSwitchMessage xid (echo_reply echoed) (echo_reply_bytes xid echoed)
echo_told xid echoed x short = told (echo_reply echoed) xid echoed echoed refl x tt short refl

pub features_told : (xid dpid : ℕ) → xid < 256 ^ 4 → dpid < 256 ^ 8 → EncodesSwitchMessage xid (features_reply dpid) (features_reply_bytes xid dpid)
unfolding features_body
features_told xid dpid x fits = told (features_reply dpid) xid (features_body dpid) [] refl x (fits, (omega arith, (omega arith, (omega arith, (omega arith, tt))))) (omega arith) refl

pub config_told : (xid : ℕ) (config : SwitchConfig) → xid < 256 ^ 4 → config.miss_send_len < 256 ^ 2 → EncodesSwitchMessage xid (config_reply config) (config_reply_bytes xid config)
config_told xid config x fits = told (config_reply config) xid (big_bytes 2 0 ++ big_bytes 2 config.miss_send_len) [] refl x (omega arith, (fits, tt)) (omega arith) refl

pub barrier_told : (xid : ℕ) → xid < 256 ^ 4 → EncodesSwitchMessage xid barrier_reply (barrier_reply_bytes xid)
barrier_told xid x = told barrier_reply xid [] [] refl x tt (omega arith) refl

-- ---- ROLE_REPLY and GET_ASYNC_REPLY

role_same : (r : Role) → role_number r ≡ role_value r
role_same role.Equal = refl
role_same other = refl

role_fits : (r : Role) → role_value r < 256 ^ 4
role_fits role.Equal = omega arith
role_fits other = omega arith

role_text : (r : Role) (generation : ℕ) → big_bytes 4 (role_number r) ++ (replicate 4 0 ++ big_bytes 8 generation) ≡ encoding (told_cells (role_reply r generation)) ++ []
role_text r generation = rw (role_same r) refl

pub role_told : (xid : ℕ) (r : Role) (generation : ℕ) → xid < 256 ^ 4 → generation < 256 ^ 8 → EncodesSwitchMessage xid (role_reply r generation) (message 25 xid (big_bytes 4 (role_number r) ++ (replicate 4 0 ++ big_bytes 8 generation)))
role_told xid r generation x fits =
    told (role_reply r generation) xid (big_bytes 4 (role_number r) ++ (replicate 4 0 ++ big_bytes 8 generation)) [] (role_text r generation) x (role_fits r, (fits, tt)) (omega arith) refl

pub async_told : (xid : ℕ) (masks : AsyncMasks) → xid < 256 ^ 4 → FitsCells (told_cells (async_reply masks)) → EncodesSwitchMessage xid (async_reply masks) (async_reply_bytes xid masks)
async_told xid masks x fits = told (async_reply masks) xid _ [] refl x fits (omega arith) refl

-- ---- FLOW_REMOVED

removed_text : (r : FlowRemoved) (tail : List ℕ) → flow_removed_fixed_part r ++ tail ≡ encoding (removed_cells r) ++ tail
unfolding flow_removed_fixed_part
removed_text r tail = refl

length-removed : (r : FlowRemoved) (tail : List ℕ) → length (flow_removed_fixed_part r ++ tail) ≡ 40 + length tail
unfolding flow_removed_fixed_part
length-removed r tail = omega arith

pub removed_told : (xid : ℕ) (r : FlowRemoved) (fields : List MatchField) → xid < 256 ^ 4 → FitsCells (told_cells (flow_removed r fields)) → IsMatch fields → EncodesSwitchMessage xid (flow_removed r fields) (flow_removed_bytes xid r fields)
removed_told xid r fields x fits match =
    told (flow_removed r fields) xid (flow_removed_fixed_part r ++ canonical fields) (canonical fields) (removed_text r (canonical fields)) x fits (omega (arith, length-removed r (canonical fields), canonical_short fields match.rising)) (canonical_encodes fields match)

-- ---- PORT_STATUS

status_same : (r : PortStatusReason) → status_number r ≡ port_reason r
status_same status.Add = refl
status_same other = refl

-- what follows the number of a port
behind_number : (hw name bits : List ℕ) → (hw ++ (replicate 2 0 ++ name)) ++ bits ≡ hw ++ (replicate 2 0 ++ (name ++ bits))
behind_number hw name bits = append_assoc hw (replicate 2 0 ++ name) bits

pub description_text : (p : PortDescription) → port_bytes p ≡ encoding (port_cells p)
unfolding port_names port_bits
description_text p = ap (λ (t : List ℕ). big_bytes 4 p.number ++ (replicate 4 0 ++ t)) (behind_number p.hw p.name (port_bits p))

port_text : (r : PortStatusReason) (p : PortDescription) → (status_number r ∷ replicate 7 0) ++ port_bytes p ≡ encoding (told_cells (port_status r p)) ++ []
port_text r p =
    ap (λ (n : ℕ). (n ∷ replicate 7 0) ++ port_bytes p) (status_same r) ∙ ap (λ (t : List ℕ). (port_reason r ∷ replicate 7 0) ++ t) (description_text p) ∙ sym (append-nil _)

pub port_told : (xid : ℕ) (r : PortStatusReason) (p : PortDescription) → xid < 256 ^ 4 → FitsCells (told_cells (port_status r p)) → EncodesSwitchMessage xid (port_status r p) (port_status_bytes xid r p)
unfolding port_names port_bits
port_told xid r p x fits =
    let hw : length p.hw ≡ 6 = fits.1.1.0 in
    let name : length p.name ≡ 16 = fits.1.1.1.0 in
    told (port_status r p) xid ((status_number r ∷ replicate 7 0) ++ port_bytes p) [] (port_text r p) x fits
    (omega (arith, hw, name, length-append p.hw (replicate 2 0 ++ p.name), length-append (p.hw ++ (replicate 2 0 ++ p.name)) (port_bits p))) refl

-- ---- PACKET_IN

packet_text : (p : PacketIn) (tail : List ℕ) → packet_in_fixed_part p ++ tail ≡ encoding (packet_in_cells p) ++ tail
unfolding packet_in_fixed_part
packet_text p tail = refl

length-packet : (p : PacketIn) (tail : List ℕ) → length (packet_in_fixed_part p ++ tail) ≡ 16 + length tail
unfolding packet_in_fixed_part
length-packet p tail = omega arith

fields_short : (port metadata : ℕ) → length (canonical (packet_fields port metadata)) ≤ 24
fields_short port metadata = by_test (eqb metadata 0) refl
  where
    by_test : (b : Bool) → eqb metadata 0 ≡ b → length (canonical (packet_fields port metadata)) ≤ 24
    by_test true is = let e = ap length (without_metadata port metadata is) in omega (arith, e)
    by_test false is = let e = ap length (with_metadata port metadata is) in omega (arith, e)

-- a number of this many bits, without a mask
abbrev plain : Field → ℕ → MatchField
plain f n = record { field = f; value = n; mask = None }

in_port_kept : (n : ℕ) → n < 256 ^ 4 → IsKept (plain InPort n)
unfolding row_of
in_port_kept n fits = record { value = omega arith; mask = tt }

metadata_kept : (n : ℕ) → n < 256 ^ 8 → IsKept (plain Metadata n)
unfolding row_of
metadata_kept n fits = record { value = omega arith; mask = tt }

both_match : (n k : ℕ) → n < 256 ^ 4 → k < 256 ^ 8 → IsMatch (plain InPort n ∷ plain Metadata k ∷ [])
unfolding row_of prerequisites_met
both_match n k low high = record { each = (in_port_kept n low, (metadata_kept k high, tt)); rising = ((omega arith, tt), (tt, tt)); met = refl }

one_match : (n : ℕ) → n < 256 ^ 4 → IsMatch (plain InPort n ∷ [])
unfolding row_of prerequisites_met
one_match n low = record { each = (in_port_kept n low, tt); rising = (tt, tt); met = refl }

fields_match : (p : PacketIn) → p.in_port < 256 ^ 4 → p.metadata < 256 ^ 8 → IsMatch (told_fields p)
fields_match p low high = by_test (eqb p.metadata 0) refl
  where
    by_test : (b : Bool) → eqb p.metadata 0 ≡ b → IsMatch (plain InPort p.in_port ∷ (cond b [] (plain Metadata p.metadata ∷ [])))
    by_test true is = one_match p.in_port low
    by_test false is = both_match p.in_port p.metadata low high

pub packet_told : (xid : ℕ) (p : PacketIn) («data» : List ℕ) → xid < 256 ^ 4 → FitsCells (told_cells (packet_in p «data»)) → p.in_port < 256 ^ 4 → p.metadata < 256 ^ 8 → length «data» ≤ 65485 → EncodesSwitchMessage xid (packet_in p «data») (packet_in_bytes xid p «data»)
packet_told xid p «data» x fits low high short =
    let match = fields_match p low high in
    let fields = canonical (told_fields p) in
    let rest = replicate 2 0 ++ «data» in
    let tail = fields ++ rest in
    told (packet_in p «data») xid (packet_in_fixed_part p ++ tail) tail (packet_text p tail) x fits
    (omega (arith, length-packet p tail, length-append fields rest, fields_short p.in_port p.metadata))
    (record { fields = fields; rest = rest; whole = refl; encoded = canonical_encodes (told_fields p) match; behind = (omega arith, tt, refl) })

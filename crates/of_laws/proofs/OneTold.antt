-- No bytes encode two messages of a switch: what is sent can be read from its places.
use Rattle.std.proofs.Common.{◌≡◌, ℕ, ◌+◌, Bool, true, false, eqb, cond, List, [], ◌∷◌, ◌++◌, length, take, drop, None, Ok, refl, sym, ap, ◌∙◌, arith}
use Rattle.std.{specs.Prelude.slice_index, specs.Prelude.◌==◌, specs.Prelude.if◌then◌else◌, proofs.lemmas.Bool.eqb-true, proofs.lemmas.List.append-nil, proofs.lemmas.List.drop_at}
use Rattle.byteorder.specs.Endian.{big_number}
use Rattle.of_wire.specs.{declared.code.Code.Code, declared.reasons.FlowRemovedReason.FlowRemovedReason, declared.reasons.PacketInReason.PacketInReason}
use Rattle.of_wire.specs.declared.reasons.PacketInReason.TheVariants.{NoMatch, Action, InvalidTtl}
use Rattle.of_wire.specs.Reasons.{packet_in_number, flow_removed_number}
use Rattle.of_layers.specs.declared.field.Field.TheVariants.{Metadata}
use Rattle.of_oxm.specs.{declared.match_field.MatchField.MatchField, MatchGrammar.EncodesMatch, MatchReading.match_of}
use Rattle.of_messages.specs.{AsyncConfigs.async_masks_of, Heads.type_of, Heads.xid_of, declared.message.FlowRemoved.FlowRemoved, declared.message.PacketIn.PacketIn}
use Rattle.of_messages.specs.{declared.port_mod.PortDescription.PortDescription, declared.port_mod.PortStatusReason.PortStatusReason, declared.role.Role.Role}
use Rattle.of_wire.specs.declared.reasons.FlowRemovedReason.TheVariants as removed
use Rattle.of_messages.specs.declared.port_mod.PortStatusReason.TheVariants as status
use Rattle.of_messages.specs.declared.role.Role.TheVariants as role
use Rattle.of_laws.specs.Told.{Told, hello, error, echo_reply, features_reply, config_reply, packet_in, flow_removed, port_status, barrier_reply, role_reply, async_reply, switch_message_type, told_cells, switch_message_fixed_part, told_fields, MatchThenData, ToldTail, EncodesSwitchMessage, port_reason, role_value}
use Rattle.of_laws.{specs.Cells.pad, proofs.MatchTails.fields_in, proofs.MatchTails.match_only, proofs.MatchTails.size_in, proofs.OnlySmall.async_only}
use Rattle.of_laws.proofs.Places.{Says, says, size, rest_is}

-- ---- what is in the places

abbrev packet_reason_at : ℕ → PacketInReason
packet_reason_at n = if n == 0 then NoMatch else if n == 1 then Action else InvalidTtl

abbrev removed_reason_at : ℕ → FlowRemovedReason
removed_reason_at n = if n == 0 then removed.IdleTimeout else if n == 1 then removed.HardTimeout else if n == 2 then removed.Delete else removed.GroupDelete

abbrev port_reason_at : ℕ → PortStatusReason
port_reason_at n = if n == 0 then status.Add else if n == 1 then status.Delete else status.Modify

abbrev role_at : ℕ → Role
role_at n = if n == 1 then role.Equal else if n == 2 then role.Master else role.Slave

abbrev first_value : List MatchField → ℕ
first_value [] = 0
first_value (f ∷ fs) = f.value

abbrev second_value : List MatchField → ℕ
second_value [] = 0
second_value (f ∷ fs) = first_value fs

abbrev packet_at : List ℕ → List MatchField → PacketIn
packet_at m fields = record { buffer = big_number 4 (drop 8 m); total_len = big_number 2 (drop 12 m); reason = packet_reason_at (slice_index m 14); table = slice_index m 15; cookie = big_number 8 (drop 16 m); in_port = first_value fields; metadata = second_value fields }

abbrev removed_at : List ℕ → FlowRemoved
removed_at m = record {
  cookie = big_number 8 (drop 8 m);
  priority = big_number 2 (drop 16 m);
  reason = removed_reason_at (slice_index m 18);
  table = slice_index m 19;
  duration_sec = big_number 4 (drop 20 m);
  duration_nsec = big_number 4 (drop 24 m);
  idle_timeout = big_number 2 (drop 28 m);
  hard_timeout = big_number 2 (drop 30 m);
  packets = big_number 8 (drop 32 m);
  bytes = big_number 8 (drop 40 m);
}

abbrev port_at : List ℕ → PortDescription
port_at m = record { number = big_number 4 (drop 16 m); hw = take 6 (drop 24 m); name = take 16 (drop 32 m); config = big_number 4 (drop 48 m); state = big_number 4 (drop 52 m) }

abbrev told_at : ℕ → List ℕ → Told
told_at n m =
    if n == 0 then hello (big_number 4 (drop 12 m))
    else if n == 1 then error (record { kind = big_number 2 (drop 8 m); code = big_number 2 (drop 10 m) }) (drop 12 m)
    else if n == 3 then echo_reply (drop 8 m)
    else if n == 6 then features_reply (big_number 8 (drop 8 m))
    else if n == 8 then config_reply (record { miss_send_len = big_number 2 (drop 10 m) })
    else if n == 10 then packet_in (packet_at m (fields_in (match_of (drop 24 m)))) (drop 2 (drop (size_in (match_of (drop 24 m))) (drop 24 m)))
    else if n == 11 then flow_removed (removed_at m) (fields_in (match_of (drop 48 m)))
    else if n == 12 then port_status (port_reason_at (slice_index m 8)) (port_at m)
    else if n == 25 then role_reply (role_at (big_number 4 (drop 8 m))) (big_number 8 (drop 16 m))
    else if n == 27 then async_reply (async_masks_of m)
    else barrier_reply

-- ---- and is what is sent

packet_reason_again : (r : PacketInReason) → packet_reason_at (packet_in_number r) ≡ r
packet_reason_again NoMatch = refl
packet_reason_again other = refl

removed_reason_again : (r : FlowRemovedReason) → removed_reason_at (flow_removed_number r) ≡ r
removed_reason_again removed.IdleTimeout = refl
removed_reason_again other = refl

port_reason_again : (r : PortStatusReason) → port_reason_at (port_reason r) ≡ r
port_reason_again status.Add = refl
port_reason_again other = refl

role_again : (r : Role) → role_at (role_value r) ≡ r
role_again role.Equal = refl
role_again other = refl

same_code : (c : Code) (a b : ℕ) → a ≡ c.kind → b ≡ c.code → record { kind = a; code = b } ≡ c
same_code c a b p q = rw (p, q) refl

same_packet : (p : PacketIn) (r : PacketInReason) (a b c d e f : ℕ) → a ≡ p.buffer → b ≡ p.total_len → r ≡ p.reason → c ≡ p.table → d ≡ p.cookie → e ≡ p.in_port → f ≡ p.metadata
    → record { buffer = a; total_len = b; reason = r; table = c; cookie = d; in_port = e; metadata = f } ≡ p
same_packet p r a b c d e f pa pb pr pc pd pe pf = rw (pa, pb, pr, pc, pd, pe, pf) refl

same_removed : (r : FlowRemoved) (s : FlowRemovedReason) (a b c d e f g h i : ℕ) → a ≡ r.cookie → b ≡ r.priority → s ≡ r.reason → c ≡ r.table → d ≡ r.duration_sec → e ≡ r.duration_nsec → f ≡ r.idle_timeout → g ≡ r.hard_timeout → h ≡ r.packets → i ≡ r.bytes
    → record { cookie = a; priority = b; reason = s; table = c; duration_sec = d; duration_nsec = e; idle_timeout = f; hard_timeout = g; packets = h; bytes = i } ≡ r
same_removed r s a b c d e f g h i pa pb ps pc pd pe pf pg ph pi = rw (pa, pb, ps, pc, pd, pe, pf, pg, ph, pi) refl

pub same_description : (p : PortDescription) (a b c : ℕ) (hw name : List ℕ) → a ≡ p.number → hw ≡ p.hw → name ≡ p.name → b ≡ p.config → c ≡ p.state → record { number = a; hw = hw; name = name; config = b; state = c } ≡ p
same_description p a b c hw name pa ph pn pb pc = rw (pa, ph, pn, pb, pc) refl

metadata_again : (p : PacketIn) → second_value (told_fields p) ≡ p.metadata
metadata_again p = by_test (eqb p.metadata 0) refl
  where
    by_test : (b : Bool) → eqb p.metadata 0 ≡ b → first_value (cond b [] (record { field = Metadata; value = p.metadata; mask = None } ∷ [])) ≡ p.metadata
    by_test true is = sym (eqb-true p.metadata 0 is)
    by_test false is = refl

-- what follows the fields of a PACKET_IN
packet_again : (p : PacketIn) («data» m tail : List ℕ) → tail ≡ drop 24 m → Says 8 (told_cells (packet_in p «data»)) m → MatchThenData p «data» tail
    → packet_in (packet_at m (fields_in (match_of (drop 24 m)))) (drop 2 (drop (size_in (match_of (drop 24 m))) (drop 24 m))) ≡ packet_in p «data»
packet_again p «data» m tail there y h =
    let whole : drop 24 m ≡ h.fields ++ h.rest = sym there ∙ h.whole in
    let said : match_of (drop 24 m) ≡ Ok (told_fields p, length h.fields) = ap match_of whole ∙ match_only h.fields h.rest (told_fields p) h.encoded in
    let fields : fields_in (match_of (drop 24 m)) ≡ told_fields p = ap fields_in said in
    let behind : drop (size_in (match_of (drop 24 m))) (drop 24 m) ≡ h.rest = ap (λ (n : ℕ). drop n (drop 24 m)) (ap size_in said) ∙ ap (drop (length h.fields)) whole ∙ drop_at h.fields h.rest (length h.fields) refl in
    let told_data : drop 2 (drop (size_in (match_of (drop 24 m))) (drop 24 m)) ≡ «data» = ap (drop 2) behind ∙ sym (rest_is (pad 2 ∷ []) h.rest «data» h.behind) in
    let same : packet_at m (fields_in (match_of (drop 24 m))) ≡ p =
    same_packet p _ _ _ _ _ _ _ y.0 y.1.0 (ap packet_reason_at y.1.1.0 ∙ packet_reason_again p.reason) y.1.1.1.0 y.1.1.1.1.0 (ap first_value fields) (ap second_value fields ∙ metadata_again p) in
    ap (λ (q : PacketIn). packet_in q (drop 2 (drop (size_in (match_of (drop 24 m))) (drop 24 m)))) same ∙ ap (packet_in p) told_data

removed_again : (r : FlowRemoved) (fields : List MatchField) (m tail : List ℕ) → tail ≡ drop 48 m → Says 8 (told_cells (flow_removed r fields)) m → EncodesMatch tail fields → flow_removed (removed_at m) (fields_in (match_of (drop 48 m))) ≡ flow_removed r fields
removed_again r fields m tail there y encoded =
    let a = y.1.1.1.1 in
    let said : match_of (drop 48 m) ≡ Ok (fields, length tail) = ap match_of (sym there ∙ sym (append-nil tail)) ∙ match_only tail [] fields encoded in
    let same : removed_at m ≡ r = same_removed r _ _ _ _ _ _ _ _ _ _ y.0 y.1.0 (ap removed_reason_at y.1.1.0 ∙ removed_reason_again r.reason) y.1.1.1.0 a.0 a.1.0 a.1.1.0 a.1.1.1.0 a.1.1.1.1.0 a.1.1.1.1.1.0 in
    ap (λ (q : FlowRemoved). flow_removed q (fields_in (match_of (drop 48 m)))) same ∙ ap (flow_removed r) (ap fields_in said)

port_again : (s : PortStatusReason) (p : PortDescription) (m : List ℕ) → Says 8 (told_cells (port_status s p)) m → port_status (port_reason_at (slice_index m 8)) (port_at m) ≡ port_status s p
port_again s p m y =
    let same : port_at m ≡ p = same_description p _ _ _ _ _ y.1.0 y.1.1.0 y.1.1.1.0 y.1.1.1.1.0 y.1.1.1.1.1.0 in
    ap (λ (r : PortStatusReason). port_status r (port_at m)) (ap port_reason_at y.0 ∙ port_reason_again s) ∙ ap (port_status s) same

again : (t : Told) (m tail : List ℕ) → tail ≡ drop (8 + size (told_cells t)) m → Says 8 (told_cells t) m → ToldTail t tail → told_at (switch_message_type t) m ≡ t
again (hello bitmap) m tail there y h = ap hello y.1.1.0
again (error code failed) m tail there y h = ap (λ (c : Code). error c (drop 12 m)) (same_code code _ _ y.0 y.1.0) ∙ ap (error code) (sym there ∙ h)
again (echo_reply echoed) m tail there y h = ap echo_reply (sym there ∙ h)
again (features_reply dpid) m tail there y h = ap features_reply y.0
again (config_reply config) m tail there y h = ap (λ (n : ℕ). config_reply (record { miss_send_len = n })) y.1.0
again (packet_in p «data») m tail there y h = packet_again p «data» m tail there y h
again (flow_removed r fields) m tail there y h = removed_again r fields m tail there y h
again (port_status reason port) m tail there y h = port_again reason port m y
again barrier_reply m tail there y h = refl
again (role_reply r generation) m tail there y h = ap (λ (q : Role). role_reply q (big_number 8 (drop 16 m))) (ap role_at y.0 ∙ role_again r) ∙ ap (role_reply r) y.1.0
again (async_reply masks) m tail there y h = ap async_reply (async_only masks m y)

record Tells (x : ℕ) (t : Told) (m : List ℕ) : Type 0 where
  xid : x ≡ xid_of m
  value : told_at (type_of m) m ≡ t

tells : (x : ℕ) (t : Told) (m : List ℕ) → EncodesSwitchMessage x t m → Tells x t m
tells x t m s =
    let cells = switch_message_fixed_part t (length m) x in
    let y = says 0 cells m m s.tail refl s.front in
    let there : s.tail ≡ drop (8 + size (told_cells t)) m = rest_is cells m s.tail s.front ∙ ap (λ (n : ℕ). drop n m) (place t) in
    record { xid = sym y.1.1.1.0; value = ap (λ (n : ℕ). told_at n m) y.1.0 ∙ again t m s.tail there y.1.1.1.1 s.behind }
  where
    place : (t : Told) → size (switch_message_fixed_part t (length m) x) ≡ 8 + size (told_cells t)
    place t = omega arith

pub one_told : (x y : ℕ) (t u : Told) (bytes : List ℕ) → EncodesSwitchMessage x t bytes → EncodesSwitchMessage y u bytes → (x ≡ y) × (t ≡ u)
one_told x y t u bytes s r =
    let a = tells x t bytes s in
    let b = tells y u bytes r in
    (a.xid ∙ sym b.xid, sym a.value ∙ b.value)

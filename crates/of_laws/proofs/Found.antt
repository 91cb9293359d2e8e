-- What was read as a message encodes it.
use Rattle.std.proofs.Common.{◌≡◌, ◌≤◌, ◌+◌, ℕ, Bool, false, not, eqb, List, length, drop, Result, Ok, Err, refl, sym, ap, subst, ◌∙◌, arith}
use Rattle.std.{specs.Prelude.◌&&◌, proofs.lemmas.Bool.ltb-false}
use Rattle.of_wire.{specs.declared.code.Code.Code, proofs.Numbers.IsBytes}
use Rattle.of_messages.specs.declared.message.Message.TheVariants.{Hello, Error, EchoRequest, EchoReply, FeaturesRequest, GetConfigRequest, SetConfig, PacketOut as IsPacketOut, FlowMod as IsFlowMod, GroupMod as IsGroupMod, PortMod as IsPortMod, TableMod as IsTableMod, Multipart, BarrierRequest, RoleRequest as IsRoleRequest, GetAsyncRequest, SetAsync}
use Rattle.of_messages.specs.{declared.config.SwitchConfig.SwitchConfig, declared.config.TableMod.TableMod, declared.group_mod.GroupMod.GroupMod, declared.message.FlowMod.FlowMod}
use Rattle.of_messages.specs.{declared.message.Message.Message, declared.message.PacketOut.PacketOut, declared.multipart.MultipartRequest.MultipartRequest, declared.port_mod.PortMod.PortMod}
use Rattle.of_messages.specs.{declared.role.RoleRequest.RoleRequest, AsyncConfigs.async_masks_of, Configs.set_config_of, Configs.table_mod_of, GroupMods.group_mod_of}
use Rattle.of_messages.specs.{Heads.version_of, Heads.xid_of, Heads.actions_length, Messages.message_of, Messages.flow_mod_of, Messages.packet_out_of, Multiparts.multipart_of, PortMods.port_mod_of}
use Rattle.of_messages.specs.Roles.{role_request_of}
use Rattle.of_laws.proofs.FoundSmall.{async_found, config_found, port_mod_found, role_found, table_mod_found}
use Rattle.of_laws.proofs.Heads.{Kind, hello, error, echo_request, echo_reply, features_request, get_config_request, set_config, packet_out, flow_mod, group_mod, port_mod, table_mod, multipart, barrier_request, role_request, get_async_request, set_async, type_number, body_by, as_flow_mod, as_packet_out, as_group_mod, as_port_mod, as_table_mod, as_set_config, as_role_request, as_multipart, Head, said}
use Rattle.of_laws.specs.{Grammar.fixed_part_cells, Grammar.IsValid, Grammar.Encodes, Grammar.Tail, Requests.request_cells}
use Rattle.of_laws.proofs.{FoundLarge.packet_out_found, FoundLarge.flow_mod_found, FoundLarge.group_mod_found, FoundRequests.ended, FoundRequests.exact, FoundRequests.request_found}
use Rattle.of_laws.proofs.{Places.Says, Places.size, Places.front_of, OnlyLarge.group_size, OnlySmall.role_size}

made : (v : Message) (m : List ℕ) (n : ℕ) → IsBytes m → size (fixed_part_cells v (length m) (xid_of m)) ≡ n → n ≤ length m → Says 0 (fixed_part_cells v (length m) (xid_of m)) m → Tail v (drop n m) → IsValid v → Encodes (xid_of m) v m
made v m n fits size_is long says behind valid =
    let cells = fixed_part_cells v (length m) (xid_of m) in
    record {
      tail = drop (size cells) m;
      front = front_of cells m fits (omega arith) says;
      behind = subst (λ (k : ℕ). Tail v (drop k m)) (sym size_is) behind;
      valid = valid;
    }

-- all but a HELLO have version 4
version_4 : (k : Kind) (m : List ℕ) → eqb (type_number k) 0 ≡ false → Head m k → version_of m ≡ 4
version_4 k m other h =
    let version : (not (eqb (type_number k) 0) && not (eqb (version_of m) 4)) ≡ false = h.version in
    let left : not (eqb (version_of m) 4) ≡ false = sym (ap (λ (b : Bool). not b && not (eqb (version_of m) 4)) other) ∙ version in
    exact _ _ left

by_body : (k : Kind) (m : List ℕ) (v : Message) → IsBytes m → Head m k → body_by k m ≡ Ok v → Encodes (xid_of m) v m
unfolding body_by
by_body hello m v fits h e =
    let same : Hello ≡ v = cc in
    subst (λ (x : Message). Encodes (xid_of m) x m) same (made Hello m 8 fits refl h.long (h.type_is, (h.len, (refl, tt))) tt tt)
by_body error m v fits h e =
    let same : Error ≡ v = cc in
    let long : 12 ≤ length m = ltb-false _ _ h.fits in
    subst (λ (x : Message). Encodes (xid_of m) x m) same (made Error m 12 fits refl long (version_4 error m refl h, (h.type_is, (h.len, (refl, tt)))) tt tt)
by_body echo_request m v fits h e =
    let same : EchoRequest (drop 8 m) ≡ v = cc in
    subst (λ (x : Message). Encodes (xid_of m) x m) same (made (EchoRequest (drop 8 m)) m 8 fits refl h.long (version_4 echo_request m refl h, (h.type_is, (h.len, (refl, tt)))) refl tt)
by_body echo_reply m v fits h e =
    let same : EchoReply ≡ v = cc in
    subst (λ (x : Message). Encodes (xid_of m) x m) same (made EchoReply m 8 fits refl h.long (version_4 echo_reply m refl h, (h.type_is, (h.len, (refl, tt)))) tt tt)
by_body features_request m v fits h e =
    let same : FeaturesRequest ≡ v = cc in
    subst (λ (x : Message). Encodes (xid_of m) x m) same (made FeaturesRequest m 8 fits refl h.long (version_4 features_request m refl h, (h.type_is, (h.len, (refl, tt)))) (ended 8 m (exact _ _ h.fits)) tt)
by_body get_config_request m v fits h e =
    let same : GetConfigRequest ≡ v = cc in
    subst (λ (x : Message). Encodes (xid_of m) x m) same (made GetConfigRequest m 8 fits refl h.long (version_4 get_config_request m refl h, (h.type_is, (h.len, (refl, tt)))) (ended 8 m (exact _ _ h.fits)) tt)
by_body set_config m v fits h e = by_config (set_config_of m) refl e
  where
    by_config : (r : Result SwitchConfig Code) → set_config_of m ≡ r → as_set_config r ≡ Ok v → Encodes (xid_of m) v m
    by_config (Err code) is f = absurd cc
    by_config (Ok c) is f =
        let same : SetConfig c ≡ v = cc in
        let long = exact _ _ h.fits in
        subst (λ (x : Message). Encodes (xid_of m) x m) same (made (SetConfig c) m 12 fits refl (omega arith) (version_4 set_config m refl h, (h.type_is, (h.len, (refl, config_found c m is)))) (ended 12 m long) tt)
by_body packet_out m v fits h e = by_packet (packet_out_of m) refl e
  where
    by_packet : (r : Result PacketOut Code) → packet_out_of m ≡ r → as_packet_out r ≡ Ok v → Encodes (xid_of m) v m
    by_packet (Err code) is f = absurd cc
    by_packet (Ok p) is f =
        let same : IsPacketOut p ≡ v = cc in
        let whole : 24 + actions_length m ≤ length m = ltb-false _ _ h.actions in
        let s = packet_out_found p m fits whole is in
        subst (λ (x : Message). Encodes (xid_of m) x m) same (made (IsPacketOut p) m 16 fits refl (omega arith) (version_4 packet_out m refl h, (h.type_is, (h.len, (refl, s.says)))) s.behind s.valid)
by_body flow_mod m v fits h e = by_flow (flow_mod_of m) refl e
  where
    by_flow : (r : Result FlowMod Code) → flow_mod_of m ≡ r → as_flow_mod r ≡ Ok v → Encodes (xid_of m) v m
    by_flow (Err code) is f = absurd cc
    by_flow (Ok x) is f =
        let same : IsFlowMod x ≡ v = cc in
        let long : 56 ≤ length m = ltb-false _ _ h.fits in
        let s = flow_mod_found x m fits is in
        subst (λ (y : Message). Encodes (xid_of m) y m) same (made (IsFlowMod x) m 48 fits refl (omega arith) (version_4 flow_mod m refl h, (h.type_is, (h.len, (refl, s.says)))) s.behind s.valid)
by_body group_mod m v fits h e = by_group (group_mod_of m) refl e
  where
    by_group : (r : Result GroupMod Code) → group_mod_of m ≡ r → as_group_mod r ≡ Ok v → Encodes (xid_of m) v m
    by_group (Err code) is f = absurd cc
    by_group (Ok g) is f =
        let same : IsGroupMod g ≡ v = cc in
        let long : 16 ≤ length m = ltb-false _ _ h.fits in
        let s = group_mod_found g m fits is in
        let place : size (fixed_part_cells (IsGroupMod g) (length m) (xid_of m)) ≡ 16 = omega (arith, group_size g) in
        subst (λ (y : Message). Encodes (xid_of m) y m) same (made (IsGroupMod g) m 16 fits place long (version_4 group_mod m refl h, (h.type_is, (h.len, (refl, s.says)))) s.behind s.valid)
by_body port_mod m v fits h e = by_port (port_mod_of m) refl e
  where
    by_port : (r : Result PortMod Code) → port_mod_of m ≡ r → as_port_mod r ≡ Ok v → Encodes (xid_of m) v m
    by_port (Err code) is f = absurd cc
    by_port (Ok p) is f =
        let same : IsPortMod p ≡ v = cc in
        let long = exact _ _ h.fits in
        let s = port_mod_found p m (omega arith) is in
        subst (λ (x : Message). Encodes (xid_of m) x m) same (made (IsPortMod p) m 40 fits refl (omega arith) (version_4 port_mod m refl h, (h.type_is, (h.len, (refl, s.says)))) (ended 40 m long) s.valid)
by_body table_mod m v fits h e = by_table (table_mod_of m) refl e
  where
    by_table : (r : Result TableMod Code) → table_mod_of m ≡ r → as_table_mod r ≡ Ok v → Encodes (xid_of m) v m
    by_table (Err code) is f = absurd cc
    by_table (Ok t) is f =
        let same : IsTableMod t ≡ v = cc in
        let long = exact _ _ h.fits in
        let s = table_mod_found t m is in
        subst (λ (x : Message). Encodes (xid_of m) x m) same (made (IsTableMod t) m 16 fits refl (omega arith) (version_4 table_mod m refl h, (h.type_is, (h.len, (refl, s.says)))) (ended 16 m long) s.valid)
by_body multipart m v fits h e = by_request (multipart_of m) refl e
  where
    by_request : (r : Result MultipartRequest Code) → multipart_of m ≡ r → as_multipart r ≡ Ok v → Encodes (xid_of m) v m
    by_request (Err code) is f = absurd cc
    by_request (Ok q) is f =
        let same : Multipart q ≡ v = cc in
        let s = request_found q m fits is in
        let place : size (fixed_part_cells (Multipart q) (length m) (xid_of m)) ≡ 8 + size (request_cells q) = omega arith in
        subst (λ (x : Message). Encodes (xid_of m) x m) same (made (Multipart q) m (8 + size (request_cells q)) fits place s.long (version_4 multipart m refl h, (h.type_is, (h.len, (refl, s.says)))) s.behind s.valid)
by_body barrier_request m v fits h e =
    let same : BarrierRequest ≡ v = cc in
    subst (λ (x : Message). Encodes (xid_of m) x m) same (made BarrierRequest m 8 fits refl h.long (version_4 barrier_request m refl h, (h.type_is, (h.len, (refl, tt)))) (ended 8 m (exact _ _ h.fits)) tt)
by_body role_request m v fits h e = by_role (role_request_of m) refl e
  where
    by_role : (r : Result RoleRequest Code) → role_request_of m ≡ r → as_role_request r ≡ Ok v → Encodes (xid_of m) v m
    by_role (Err code) is f = absurd cc
    by_role (Ok q) is f =
        let same : IsRoleRequest q ≡ v = cc in
        let long = exact _ _ h.fits in
        let place : size (fixed_part_cells (IsRoleRequest q) (length m) (xid_of m)) ≡ 24 = omega (arith, role_size q) in
        subst (λ (x : Message). Encodes (xid_of m) x m) same (made (IsRoleRequest q) m 24 fits place (omega arith) (version_4 role_request m refl h, (h.type_is, (h.len, (refl, role_found q m is)))) (ended 24 m long) tt)
by_body get_async_request m v fits h e =
    let same : GetAsyncRequest ≡ v = cc in
    subst (λ (x : Message). Encodes (xid_of m) x m) same (made GetAsyncRequest m 8 fits refl h.long (version_4 get_async_request m refl h, (h.type_is, (h.len, (refl, tt)))) (ended 8 m (exact _ _ h.fits)) tt)
by_body set_async m v fits h e =
    let same : SetAsync (async_masks_of m) ≡ v = cc in
    let long = exact _ _ h.fits in
    subst (λ (x : Message). Encodes (xid_of m) x m) same (made (SetAsync (async_masks_of m)) m 32 fits refl (omega arith) (version_4 set_async m refl h, (h.type_is, (h.len, (refl, async_found (async_masks_of m) m refl)))) (ended 32 m long) tt)

pub found : (m : List ℕ) (v : Message) → IsBytes m → message_of m ≡ Ok v → Encodes (xid_of m) v m
found m v fits e = let s = said m v e in by_body s.kind m v fits s.head s.body

-- what nothing encodes is refused
pub other : (m : List ℕ) → IsBytes m → ((xid : ℕ) (v : Message) → ¬ Encodes xid v m) → (code : Code) × (message_of m ≡ Err code)
other m fits none = by_result (message_of m) refl
  where
    by_result : (r : Result Message Code) → message_of m ≡ r → (code : Code) × (message_of m ≡ Err code)
    by_result (Ok v) is = absurd (none (xid_of m) v (found m v fits is))
    by_result (Err code) is = (code, is)

-- Messages of both sides: each says its length, its type and its transaction id in the same places.
use Rattle.std.proofs.Common.{◌≡◌, ◌≤◌, ℕ, Bool, true, false, List, [], ◌∷◌, ◌++◌, length, refl, sym, ap, ◌∙◌, arith}
use Rattle.std.specs.{Prelude.◌==◌, List.list_any}
use Rattle.of_messages.specs.declared.message.Message.TheVariants.{Hello, Error, EchoRequest, EchoReply, FeaturesRequest, GetConfigRequest, SetConfig, PacketOut as IsPacketOut, FlowMod as IsFlowMod, GroupMod as IsGroupMod, PortMod as IsPortMod, TableMod as IsTableMod, Multipart, BarrierRequest, RoleRequest as IsRoleRequest, GetAsyncRequest, SetAsync}
use Rattle.of_messages.specs.{Heads.header_length, Heads.type_of, Heads.xid_of, declared.message.Message.Message}
use Rattle.of_laws.specs.Told.{Told, EncodesSwitchMessage, hello, error, echo_reply, features_reply, config_reply, packet_in, flow_removed, port_status, barrier_reply, role_reply, async_reply, switch_message_fixed_part, switch_message_type}
use Rattle.of_laws.specs.AnyMessage.{AreAlike, EncodesAny, controller, told, reply}
use Rattle.of_laws.specs.{Grammar.Encodes, Grammar.fixed_part_cells, Grammar.type, Replied.Reply, Replied.EncodesReply, Replied.reply_fixed_part}
use Rattle.of_laws.proofs.{OneMessage.ends_it, Only.xid_is, Places.Says, Places.says, Places.size, Places.size_is}

-- what stands in the header
pub record Header (xid kind : ℕ) (bytes : List ℕ) : Type 0 where
  pub long : 8 ≤ length bytes
  pub len : header_length bytes ≡ length bytes
  pub kind_is : type_of bytes ≡ kind
  pub xid_is : xid ≡ xid_of bytes

-- ---- of a message of a controller

record Placed (m : Message) (n : ℕ) (bytes : List ℕ) : Type 0 where
  kind_is : type_of bytes ≡ type m
  len : header_length bytes ≡ n

placed : (m : Message) (n x : ℕ) (bytes : List ℕ) → Says 0 (fixed_part_cells m n x) bytes → Placed m n bytes
placed Hello n x bytes y = record { kind_is = y.0; len = y.1.0 }
placed other n x bytes y = record { kind_is = y.1.0; len = y.1.1.0 }

front_long : (m : Message) (n x : ℕ) → 8 ≤ size (fixed_part_cells m n x)
front_long Hello n x = omega arith
front_long other n x = omega arith

pub of_controller : (x : ℕ) (m : Message) (bytes : List ℕ) → Encodes x m bytes → Header x (type m) bytes
of_controller x m bytes s =
    let cells = fixed_part_cells m (length bytes) x in
    let p = placed m (length bytes) x bytes (says 0 cells bytes bytes s.tail refl s.front) in
    let long = size_is cells bytes s.tail s.front in
    record { long = omega (arith, long, front_long m (length bytes) x); len = p.len; kind_is = p.kind_is; xid_is = xid_is x m bytes s }

-- ---- of a message of the switch, and of a reply

of_told : (x : ℕ) (t : Told) (bytes : List ℕ) → EncodesSwitchMessage x t bytes → Header x (switch_message_type t) bytes
of_told x t bytes s =
    let cells = switch_message_fixed_part t (length bytes) x in
    let y = says 0 cells bytes bytes s.tail refl s.front in
    let long = size_is cells bytes s.tail s.front in
    record { long = omega (arith, long); len = y.1.1.0; kind_is = y.1.0; xid_is = sym y.1.1.1.0 }

of_reply : (x : ℕ) (more : Bool) (r : Reply) (bytes : List ℕ) → EncodesReply x more r bytes → Header x 19 bytes
of_reply x more r bytes s =
    let cells = reply_fixed_part r more (length bytes) x in
    let y = says 0 cells bytes bytes s.tail refl s.front in
    let long = size_is cells bytes s.tail s.front in
    record { long = omega (arith, long); len = y.1.1.0; kind_is = y.1.0; xid_is = sym y.1.1.1.0 }

-- ---- of each

record Sized (xid : ℕ) (bytes : List ℕ) : Type 0 where
  long : 8 ≤ length bytes
  len : header_length bytes ≡ length bytes
  xid_is : xid ≡ xid_of bytes

sized : (x : ℕ) (bytes : List ℕ) → EncodesAny x bytes → Sized x bytes
sized x bytes (controller m s) = let h = of_controller x m bytes s in record { long = h.long; len = h.len; xid_is = h.xid_is }
sized x bytes (told t s) = let h = of_told x t bytes s in record { long = h.long; len = h.len; xid_is = h.xid_is }
sized x bytes (reply more r s) = let h = of_reply x more r bytes s in record { long = h.long; len = h.len; xid_is = h.xid_is }

pub no_front : (x y : ℕ) (bytes rest : List ℕ) → EncodesAny x bytes → EncodesAny y (bytes ++ rest) → rest ≡ []
no_front x y bytes rest s t =
    let a = sized x bytes s in
    let b = sized y (bytes ++ rest) t in
    ends_it bytes rest a.long a.len b.len

pub one_xid : (x y : ℕ) (bytes : List ℕ) → EncodesAny x bytes → EncodesAny y bytes → x ≡ y
one_xid x y bytes s t = (sized x bytes s).xid_is ∙ sym (sized y bytes t).xid_is

-- ---- kinds of both sides

-- the types of what the switch sends
abbrev told_types : List ℕ
told_types = 0 ∷ 1 ∷ 3 ∷ 6 ∷ 8 ∷ 10 ∷ 11 ∷ 12 ∷ 21 ∷ 25 ∷ 27 ∷ []

is_told : (t : Told) → list_any (λ n. n == switch_message_type t) told_types ≡ true
is_told (hello bitmap) = refl
is_told (error code failed) = refl
is_told (echo_reply echoed) = refl
is_told (features_reply dpid) = refl
is_told (config_reply config) = refl
is_told (packet_in p «data») = refl
is_told (flow_removed r fields) = refl
is_told (port_status reason port) = refl
is_told barrier_reply = refl
is_told (role_reply role generation) = refl
is_told (async_reply masks) = refl

not_told : (k : ℕ) (t : Told) → list_any (λ n. n == k) told_types ≡ false → k ≡ switch_message_type t → ⊥
not_told k t none e = let both : true ≡ false = sym (is_told t) ∙ ap (λ (j : ℕ). list_any (λ n. n == j) told_types) (sym e) ∙ none in cc

alike : (m : Message) (t : Told) → type m ≡ switch_message_type t → AreAlike m t
alike Hello (hello bitmap) e = tt
alike Hello t e = absurd (omega (arith, e))
alike Error (error code failed) e = tt
alike Error t e = absurd (omega (arith, e))
alike EchoReply (echo_reply echoed) e = tt
alike EchoReply t e = absurd (omega (arith, e))
alike (EchoRequest echoed) t e = absurd (not_told 2 t refl e)
alike FeaturesRequest t e = absurd (not_told 5 t refl e)
alike GetConfigRequest t e = absurd (not_told 7 t refl e)
alike (SetConfig config) t e = absurd (not_told 9 t refl e)
alike (IsPacketOut m) t e = absurd (not_told 13 t refl e)
alike (IsFlowMod m) t e = absurd (not_told 14 t refl e)
alike (IsGroupMod m) t e = absurd (not_told 15 t refl e)
alike (IsPortMod m) t e = absurd (not_told 16 t refl e)
alike (IsTableMod m) t e = absurd (not_told 17 t refl e)
alike (Multipart request) t e = absurd (not_told 18 t refl e)
alike BarrierRequest t e = absurd (not_told 20 t refl e)
alike (IsRoleRequest request) t e = absurd (not_told 24 t refl e)
alike GetAsyncRequest t e = absurd (not_told 26 t refl e)
alike (SetAsync masks) t e = absurd (not_told 28 t refl e)

pub both_sides : (x y : ℕ) (m : Message) (t : Told) (bytes : List ℕ) → Encodes x m bytes → EncodesSwitchMessage y t bytes → AreAlike m t
both_sides x y m t bytes s r = alike m t (sym (of_controller x m bytes s).kind_is ∙ (of_told y t bytes r).kind_is)

no_reply : (m : Message) → type m ≡ 19 → ⊥
no_reply Hello e = omega (arith, e)
no_reply other e = omega (arith, e)

pub no_request_is_reply : (x y : ℕ) (m : Message) (more : Bool) (r : Reply) (bytes : List ℕ) → Encodes x m bytes → EncodesReply y more r bytes → ⊥
no_request_is_reply x y m more r bytes s t = no_reply m (sym (of_controller x m bytes s).kind_is ∙ (of_reply y more r bytes t).kind_is)

pub no_told_is_reply : (x y : ℕ) (t : Told) (more : Bool) (r : Reply) (bytes : List ℕ) → EncodesSwitchMessage x t bytes → EncodesReply y more r bytes → ⊥
no_told_is_reply x y t more r bytes s u = not_told 19 t refl (sym (of_reply y more r bytes u).kind_is ∙ (of_told x t bytes s).kind_is)

-- What encodes a message is read as that message.
use Rattle.std.proofs.Common.{◌≡◌, ◌≤◌, ◌+◌, ℕ, false, not, eqb, List, [], length, drop, Ok, refl, sym, ap, ◌∙◌, arith}
use Rattle.std.proofs.{lemmas.Bool.le-ltb, lemmas.Bool.eq-eqb, lemmas.Bool.and_right, lemmas.List.length-append}
use Rattle.of_messages.specs.declared.message.Message.TheVariants.{Hello, Error, EchoRequest, EchoReply, FeaturesRequest, GetConfigRequest, SetConfig, PacketOut as IsPacketOut, FlowMod as IsFlowMod, GroupMod as IsGroupMod, PortMod as IsPortMod, TableMod as IsTableMod, Multipart, BarrierRequest, RoleRequest as IsRoleRequest, GetAsyncRequest, SetAsync}
use Rattle.of_messages.specs.{declared.message.Message.Message, declared.message.FlowMod.FlowMod, Heads.version_of, Heads.type_of, Heads.header_length, Heads.xid_of, Messages.message_of}
use Rattle.of_laws.specs.Grammar.{MatchThenInstructions, fixed_part_cells, IsValid, Encodes, Tail}
use Rattle.of_laws.proofs.Heads.{Kind, hello, error, echo_request, echo_reply, features_request, get_config_request, set_config, packet_out, flow_mod, group_mod, port_mod, table_mod, multipart, barrier_request, role_request, get_async_request, set_async, type_number, is_bad, is_short, needs_version, body_by, as_flow_mod, as_packet_out, as_group_mod, as_port_mod, as_table_mod, as_set_config, as_role_request, as_multipart, said_by}
use Rattle.of_laws.proofs.OnlyLarge.{group_size, tailed, packet_out_only, flow_mod_only, group_mod_only}
use Rattle.of_laws.proofs.OnlySmall.{async_only, config_only, port_mod_only, role_only, role_size, table_mod_only}
use Rattle.of_laws.proofs.Places.{Says, size, says, rest_is, size_is}
use Rattle.of_laws.{specs.Requests.request_cells, proofs.OnlyRequests.request_only}

-- a message of version 4, whose size its kind may have
pub of_kind : (k : Kind) (m : List ℕ) → 8 ≤ length m → version_of m ≡ 4 → type_of m ≡ type_number k → header_length m ≡ length m → is_bad k (length m) ≡ false → is_short k m ≡ false → message_of m ≡ body_by k m
of_kind k m long version type_is len fits actions =
    said_by k m (record {
      long = long;
      len = len;
      type_is = type_is;
      version = ap (needs_version k) version ∙ and_right (not (eqb (type_number k) 0)) false refl;
      fits = fits;
      actions = actions;
    })

exact : (n k : ℕ) → n ≡ k → not (eqb n k) ≡ false
exact n k e = ap not (eq-eqb n k e)

-- what a message says in its places, and how long it is
record Placed (xid : ℕ) (v : Message) (m tail : List ℕ) : Type 0 where
  places : Says 0 (fixed_part_cells v (length m) xid) m
  long : length m ≡ size (fixed_part_cells v (length m) xid) + length tail
  behind : tail ≡ drop (size (fixed_part_cells v (length m) xid)) m

ended : (xs : List ℕ) → xs ≡ [] → length xs ≡ 0
ended xs e = ap length e

-- a match has 8 bytes at least
flow_long : (f : FlowMod) (tail : List ℕ) → MatchThenInstructions f tail → 8 ≤ length tail
flow_long f tail h =
    let s = h.encoded in
    let len = s.len_is in
    let size = s.size in
    omega (arith, ap length h.whole, length-append h.fields h.instructions)

reads_as : (xid : ℕ) (v : Message) (m tail : List ℕ) → Placed xid v m tail → Tail v tail → IsValid v → message_of m ≡ Ok v
unfolding body_by
reads_as xid Hello m tail p t valid =
    let y = p.places in
    let long = p.long in
    said_by hello m (record { long = omega arith; len = y.1.0; type_is = y.0; version = refl; fits = le-ltb _ _ (omega arith); actions = refl })
reads_as xid Error m tail p t valid =
    let y = p.places in
    let long = p.long in
    of_kind error m (omega arith) y.0 y.1.0 y.1.1.0 (le-ltb _ _ (omega arith)) refl
reads_as xid (EchoRequest echoed) m tail p t valid =
    let y = p.places in
    let long = p.long in
    of_kind echo_request m (omega arith) y.0 y.1.0 y.1.1.0 (le-ltb _ _ (omega arith)) refl ∙ ap (λ (x : List ℕ). Ok (EchoRequest x)) (sym p.behind ∙ t)
reads_as xid EchoReply m tail p t valid =
    let y = p.places in
    let long = p.long in
    of_kind echo_reply m (omega arith) y.0 y.1.0 y.1.1.0 (le-ltb _ _ (omega arith)) refl
reads_as xid FeaturesRequest m tail p t valid =
    let y = p.places in
    let long = p.long in
    let none = ended tail t in
    of_kind features_request m (omega arith) y.0 y.1.0 y.1.1.0 (exact _ _ (omega arith)) refl
reads_as xid GetConfigRequest m tail p t valid =
    let y = p.places in
    let long = p.long in
    let none = ended tail t in
    of_kind get_config_request m (omega arith) y.0 y.1.0 y.1.1.0 (exact _ _ (omega arith)) refl
reads_as xid (SetConfig config) m tail p t valid =
    let y = p.places in
    let long = p.long in
    let none = ended tail t in
    of_kind set_config m (omega arith) y.0 y.1.0 y.1.1.0 (exact _ _ (omega arith)) refl ∙ ap as_set_config (config_only config m y.1.1.1.1)
reads_as xid (IsPacketOut packet) m tail p t valid =
    let y = p.places in
    let long = p.long in
    let there = tailed packet m tail (omega arith) p.behind t in
    let whole = there.long in
    of_kind packet_out m (omega arith) y.0 y.1.0 y.1.1.0 (le-ltb _ _ (omega arith)) (le-ltb _ _ whole) ∙ ap as_packet_out (packet_out_only packet m y.1.1.1.1.0 y.1.1.1.1.1.0 there valid)
reads_as xid (IsFlowMod flow) m tail p t valid =
    let y = p.places in
    let long = p.long in
    let some = flow_long flow tail t in
    of_kind flow_mod m (omega arith) y.0 y.1.0 y.1.1.0 (le-ltb _ _ (omega arith)) refl ∙ ap as_flow_mod (flow_mod_only flow m tail p.behind y.1.1.1.1 t valid)
reads_as xid (IsGroupMod g) m tail p t valid =
    let y = p.places in
    let long = p.long in
    let places = group_size g in
    let place : size (fixed_part_cells (IsGroupMod g) (length m) xid) ≡ 16 = omega arith in
    let behind : tail ≡ drop 16 m = p.behind ∙ ap (λ (n : ℕ). drop n m) place in
    of_kind group_mod m (omega arith) y.0 y.1.0 y.1.1.0 (le-ltb _ _ (omega arith)) refl ∙ ap as_group_mod (group_mod_only g m tail behind y.1.1.1.1 t valid)
reads_as xid (IsPortMod port) m tail p t valid =
    let y = p.places in
    let long = p.long in
    let none = ended tail t in
    of_kind port_mod m (omega arith) y.0 y.1.0 y.1.1.0 (exact _ _ (omega arith)) refl ∙ ap as_port_mod (port_mod_only port m (omega arith) y.1.1.1.1 valid)
reads_as xid (IsTableMod table) m tail p t valid =
    let y = p.places in
    let long = p.long in
    let none = ended tail t in
    of_kind table_mod m (omega arith) y.0 y.1.0 y.1.1.0 (exact _ _ (omega arith)) refl ∙ ap as_table_mod (table_mod_only table m y.1.1.1.1 valid)
reads_as xid (Multipart request) m tail p t valid =
    let y = p.places in
    let long = p.long in
    let place : size (fixed_part_cells (Multipart request) (length m) xid) ≡ 8 + size (request_cells request) = omega arith in
    of_kind multipart m (omega arith) y.0 y.1.0 y.1.1.0 (le-ltb _ _ (omega arith)) refl
    ∙ ap as_multipart (request_only request m tail y.1.1.1.1 (omega arith) (p.behind ∙ ap (λ (n : ℕ). drop n m) place) t valid)
reads_as xid BarrierRequest m tail p t valid =
    let y = p.places in
    let long = p.long in
    let none = ended tail t in
    of_kind barrier_request m (omega arith) y.0 y.1.0 y.1.1.0 (exact _ _ (omega arith)) refl
reads_as xid (IsRoleRequest request) m tail p t valid =
    let y = p.places in
    let long = p.long in
    let none = ended tail t in
    let places = role_size request in
    of_kind role_request m (omega arith) y.0 y.1.0 y.1.1.0 (exact _ _ (omega arith)) refl ∙ ap as_role_request (role_only request m y.1.1.1.1)
reads_as xid GetAsyncRequest m tail p t valid =
    let y = p.places in
    let long = p.long in
    let none = ended tail t in
    of_kind get_async_request m (omega arith) y.0 y.1.0 y.1.1.0 (exact _ _ (omega arith)) refl
reads_as xid (SetAsync masks) m tail p t valid =
    let y = p.places in
    let long = p.long in
    let none = ended tail t in
    of_kind set_async m (omega arith) y.0 y.1.0 y.1.1.0 (exact _ _ (omega arith)) refl ∙ ap (λ x. Ok (SetAsync x)) (async_only masks m y.1.1.1.1)

-- ---- a message

pub only : (xid : ℕ) (v : Message) (m : List ℕ) → Encodes xid v m → message_of m ≡ Ok v
only xid v m s =
    let cells = fixed_part_cells v (length m) xid in
    reads_as xid v m s.tail (record { places = says 0 cells m m s.tail refl s.front; long = size_is cells m s.tail s.front; behind = rest_is cells m s.tail s.front }) s.behind s.valid

-- the transaction id is where it is looked for
xid_placed : (xid : ℕ) (v : Message) (m : List ℕ) → Says 0 (fixed_part_cells v (length m) xid) m → xid_of m ≡ xid
xid_placed xid Hello m y = y.1.1.0
xid_placed xid other m y = y.1.1.1.0

pub xid_is : (xid : ℕ) (v : Message) (m : List ℕ) → Encodes xid v m → xid ≡ xid_of m
xid_is xid v m s = let cells = fixed_part_cells v (length m) xid in sym (xid_placed xid v m (says 0 cells m m s.tail refl s.front))

-- The header of a message, and its kind by its type.
use Rattle.std.proofs.Common.{◌≡◌, ◌≤◌, ◌+◌, ℕ, Bool, true, false, not, eqb, ltb, List, ◌++◌, length, drop, Option, Some, None, Result, Ok, Err, refl, sym, ap, ◌∙◌, arith}
use Rattle.std.{specs.Prelude.◌&&◌, specs.Prelude.if◌then◌else◌, specs.Prelude.◌==◌, proofs.lemmas.Bool.le-ltb, proofs.lemmas.Bool.eq-eqb, proofs.lemmas.Bool.not-false}
use Rattle.std.proofs.lemmas.Bool.Decides.{nat_tests}
use Rattle.of_wire.{specs.declared.code.Code.Code, specs.Refusals.refusal, specs.Refusals.first_of, proofs.FirstLemmas.none_applies}
use Rattle.of_messages.specs.declared.message.Message.TheVariants.{Hello, Error, EchoRequest, EchoReply, FeaturesRequest, GetConfigRequest, SetConfig, PacketOut as IsPacketOut, FlowMod as IsFlowMod, GroupMod as IsGroupMod, PortMod as IsPortMod, TableMod as IsTableMod, Multipart, BarrierRequest, RoleRequest as IsRoleRequest, GetAsyncRequest, SetAsync}
use Rattle.of_messages.specs.Heads.{version_of, type_of, header_length, size_by_type, is_supported_type, actions_length, head_refusals, role_refusals}
use Rattle.of_messages.specs.Messages.{message_body, message_from, message_of, message_by, flow_mod_of, packet_out_of}
use Rattle.of_messages.specs.{declared.message.Message.Message, declared.config.SwitchConfig.SwitchConfig, declared.config.TableMod.TableMod, declared.group_mod.GroupMod.GroupMod}
use Rattle.of_messages.specs.{declared.message.FlowMod.FlowMod, declared.message.PacketOut.PacketOut, declared.multipart.MultipartRequest.MultipartRequest, declared.port_mod.PortMod.PortMod}
use Rattle.of_messages.specs.{declared.role.RoleRequest.RoleRequest, AsyncConfigs.async_masks_of, Configs.set_config_of, Configs.table_mod_of, GroupMods.group_mod_of, Multiparts.multipart_of}
use Rattle.of_messages.specs.{PortMods.port_mod_of, Roles.role_request_of}
use Rattle.of_messages.specs.declared.role.Role.TheVariants as role
use Rattle.of_formats.specs.{Messages.is_bad_size, Messages.message_row, Reading.◌>>=◌}

-- the kinds of messages that are read
pub data Kind : Type 0 where
  hello : Kind
  error : Kind
  echo_request : Kind
  echo_reply : Kind
  features_request : Kind
  get_config_request : Kind
  set_config : Kind
  packet_out : Kind
  flow_mod : Kind
  group_mod : Kind
  port_mod : Kind
  table_mod : Kind
  multipart : Kind
  barrier_request : Kind
  role_request : Kind
  get_async_request : Kind
  set_async : Kind

abbrev pub type_number : Kind → ℕ
type_number hello = 0
type_number error = 1
type_number echo_request = 2
type_number echo_reply = 3
type_number features_request = 5
type_number get_config_request = 7
type_number set_config = 9
type_number packet_out = 13
type_number flow_mod = 14
type_number group_mod = 15
type_number port_mod = 16
type_number table_mod = 17
type_number multipart = 18
type_number barrier_request = 20
type_number role_request = 24
type_number get_async_request = 26
type_number set_async = 28

-- a message of the kind cannot have that size
abbrev pub is_bad : Kind → ℕ → Bool
is_bad hello size = ltb size 8
is_bad error size = ltb size 12
is_bad echo_request size = ltb size 8
is_bad echo_reply size = ltb size 8
is_bad features_request size = not (eqb size 8)
is_bad get_config_request size = not (eqb size 8)
is_bad set_config size = not (eqb size 12)
is_bad packet_out size = ltb size 24
is_bad flow_mod size = ltb size 56
is_bad group_mod size = ltb size 16
is_bad port_mod size = not (eqb size 40)
is_bad table_mod size = not (eqb size 16)
is_bad multipart size = ltb size 16
is_bad barrier_request size = not (eqb size 8)
is_bad role_request size = not (eqb size 24)
is_bad get_async_request size = not (eqb size 8)
is_bad set_async size = not (eqb size 32)

bad_known : (k : Kind) (size : ℕ) → is_bad_size (size_by_type (type_number k)) size ≡ is_bad k size
unfolding message_row
bad_known hello size = refl
bad_known error size = refl
bad_known echo_request size = refl
bad_known echo_reply size = refl
bad_known features_request size = refl
bad_known get_config_request size = refl
bad_known set_config size = refl
bad_known packet_out size = refl
bad_known flow_mod size = refl
bad_known group_mod size = refl
bad_known port_mod size = refl
bad_known table_mod size = refl
bad_known multipart size = refl
bad_known barrier_request size = refl
bad_known role_request size = refl
bad_known get_async_request size = refl
bad_known set_async size = refl

is_known : (k : Kind) → is_supported_type (type_number k) ≡ true
unfolding message_row
is_known hello = refl
is_known error = refl
is_known echo_request = refl
is_known echo_reply = refl
is_known features_request = refl
is_known get_config_request = refl
is_known set_config = refl
is_known packet_out = refl
is_known flow_mod = refl
is_known group_mod = refl
is_known port_mod = refl
is_known table_mod = refl
is_known multipart = refl
is_known barrier_request = refl
is_known role_request = refl
is_known get_async_request = refl
is_known set_async = refl

-- what was read as the body of a message, as the message

abbrev pub as_set_config : Result SwitchConfig Code → Result Message Code
as_set_config r = r >>= λ v. Ok (SetConfig v)

abbrev pub as_packet_out : Result PacketOut Code → Result Message Code
as_packet_out r = r >>= λ v. Ok (IsPacketOut v)

abbrev pub as_flow_mod : Result FlowMod Code → Result Message Code
as_flow_mod r = r >>= λ v. Ok (IsFlowMod v)

abbrev pub as_group_mod : Result GroupMod Code → Result Message Code
as_group_mod r = r >>= λ v. Ok (IsGroupMod v)

abbrev pub as_port_mod : Result PortMod Code → Result Message Code
as_port_mod r = r >>= λ v. Ok (IsPortMod v)

abbrev pub as_table_mod : Result TableMod Code → Result Message Code
as_table_mod r = r >>= λ v. Ok (IsTableMod v)

abbrev pub as_multipart : Result MultipartRequest Code → Result Message Code
as_multipart r = r >>= λ v. Ok (Multipart v)

abbrev pub as_role_request : Result RoleRequest Code → Result Message Code
as_role_request r = r >>= λ v. Ok (IsRoleRequest v)

-- what the body of each kind is read as
unfoldable pub body_by : Kind → List ℕ → Result Message Code
body_by hello m = Ok Hello
body_by error m = Ok Error
body_by echo_request m = Ok (EchoRequest (drop 8 m))
body_by echo_reply m = Ok EchoReply
body_by features_request m = Ok FeaturesRequest
body_by get_config_request m = Ok GetConfigRequest
body_by set_config m = as_set_config (set_config_of m)
body_by packet_out m = as_packet_out (packet_out_of m)
body_by flow_mod m = as_flow_mod (flow_mod_of m)
body_by group_mod m = as_group_mod (group_mod_of m)
body_by port_mod m = as_port_mod (port_mod_of m)
body_by table_mod m = as_table_mod (table_mod_of m)
body_by multipart m = as_multipart (multipart_of m)
body_by barrier_request m = Ok BarrierRequest
body_by role_request m = as_role_request (role_request_of m)
body_by get_async_request m = Ok GetAsyncRequest
body_by set_async m = Ok (SetAsync (async_masks_of m))

-- the same by a number
abbrev body_at : ℕ → List ℕ → Result Message Code
body_at n m =
    if n == 0 then Ok Hello
    else if n == 1 then Ok Error
    else if n == 2 then Ok (EchoRequest (drop 8 m))
    else if n == 3 then Ok EchoReply
    else if n == 5 then Ok FeaturesRequest
    else if n == 7 then Ok GetConfigRequest
    else if n == 9 then as_set_config (set_config_of m)
    else if n == 13 then as_packet_out (packet_out_of m)
    else if n == 14 then as_flow_mod (flow_mod_of m)
    else if n == 15 then as_group_mod (group_mod_of m)
    else if n == 16 then as_port_mod (port_mod_of m)
    else if n == 17 then as_table_mod (table_mod_of m)
    else if n == 18 then as_multipart (multipart_of m)
    else if n == 20 then Ok BarrierRequest
    else if n == 24 then as_role_request (role_request_of m)
    else if n == 26 then Ok GetAsyncRequest
    else if n == 28 then Ok (SetAsync (async_masks_of m))
    else Err (refusal 1 1)

body_is : (m : List ℕ) → message_body m ≡ body_at (type_of m) m
unfolding message_body
body_is m = refl

body_known : (k : Kind) (m : List ℕ) → body_at (type_number k) m ≡ body_by k m
unfolding body_by
body_known hello m = refl
body_known error m = refl
body_known echo_request m = refl
body_known echo_reply m = refl
body_known features_request m = refl
body_known get_config_request m = refl
body_known set_config m = refl
body_known packet_out m = refl
body_known flow_mod m = refl
body_known group_mod m = refl
body_known port_mod m = refl
body_known table_mod m = refl
body_known multipart m = refl
body_known barrier_request m = refl
body_known role_request m = refl
body_known get_async_request m = refl
body_known set_async m = refl

-- ---- what holds of a message whose head is not refused

abbrev pub needs_version : Kind → ℕ → Bool
needs_version k version = not (eqb (type_number k) 0) && not (eqb version 4)

abbrev pub is_short : Kind → List ℕ → Bool
is_short k m = eqb (type_number k) 13 && ltb (length m) (24 + actions_length m)

pub record Head (m : List ℕ) (k : Kind) : Type 0 where
  pub long : 8 ≤ length m
  pub len : header_length m ≡ length m
  pub type_is : type_of m ≡ type_number k
  pub version : needs_version k (version_of m) ≡ false
  pub fits : is_bad k (length m) ≡ false
  pub actions : is_short k m ≡ false

experimenter_none : (k : Kind) → eqb (type_number k) 4 ≡ false
experimenter_none hello = refl
experimenter_none error = refl
experimenter_none echo_request = refl
experimenter_none echo_reply = refl
experimenter_none features_request = refl
experimenter_none get_config_request = refl
experimenter_none set_config = refl
experimenter_none packet_out = refl
experimenter_none flow_mod = refl
experimenter_none group_mod = refl
experimenter_none port_mod = refl
experimenter_none table_mod = refl
experimenter_none multipart = refl
experimenter_none barrier_request = refl
experimenter_none role_request = refl
experimenter_none get_async_request = refl
experimenter_none set_async = refl

-- what is left to test where the length and the type are right
none_left : (k : Kind) (m : List ℕ) → Head m k → first_of (head_refusals m ++ role_refusals role.Equal m) ≡ None
none_left k m h =
    let short : ltb (length m) 8 ≡ false = le-ltb _ _ h.long in
    let same : eqb (header_length m) (length m) ≡ true = eq-eqb _ _ h.len in
    let version = h.version in
    let experimenter = experimenter_none k in
    let known = is_known k in
    let bad = bad_known k (length m) in
    let fits = h.fits in
    let actions = h.actions in
    rw (short, same, h.type_is, version, experimenter, known, bad, fits, actions) refl

pub said_by : (k : Kind) (m : List ℕ) → Head m k → message_of m ≡ body_by k m
unfolding message_from
said_by k m h =
    ap (message_by m) (none_left k m h) ∙ body_is m ∙ ap (λ (n : ℕ). body_at n m) h.type_is ∙ body_known k m

-- ---- and back

unfoldable kind_of : ℕ → Option Kind
kind_of n =
    if n == 0 then Some hello
    else if n == 1 then Some error
    else if n == 2 then Some echo_request
    else if n == 3 then Some echo_reply
    else if n == 5 then Some features_request
    else if n == 7 then Some get_config_request
    else if n == 9 then Some set_config
    else if n == 13 then Some packet_out
    else if n == 14 then Some flow_mod
    else if n == 15 then Some group_mod
    else if n == 16 then Some port_mod
    else if n == 17 then Some table_mod
    else if n == 18 then Some multipart
    else if n == 20 then Some barrier_request
    else if n == 24 then Some role_request
    else if n == 26 then Some get_async_request
    else if n == 28 then Some set_async
    else None

kind_number : (n : ℕ) (k : Kind) → kind_of n ≡ Some k → n ≡ type_number k
unfolding kind_of
kind_number n hello h = grind (arith, nat_tests)
kind_number n error h = grind (arith, nat_tests)
kind_number n echo_request h = grind (arith, nat_tests)
kind_number n echo_reply h = grind (arith, nat_tests)
kind_number n features_request h = grind (arith, nat_tests)
kind_number n get_config_request h = grind (arith, nat_tests)
kind_number n set_config h = grind (arith, nat_tests)
kind_number n packet_out h = grind (arith, nat_tests)
kind_number n flow_mod h = grind (arith, nat_tests)
kind_number n group_mod h = grind (arith, nat_tests)
kind_number n port_mod h = grind (arith, nat_tests)
kind_number n table_mod h = grind (arith, nat_tests)
kind_number n multipart h = grind (arith, nat_tests)
kind_number n barrier_request h = grind (arith, nat_tests)
kind_number n role_request h = grind (arith, nat_tests)
kind_number n get_async_request h = grind (arith, nat_tests)
kind_number n set_async h = grind (arith, nat_tests)

kind_none : (n : ℕ) → kind_of n ≡ None → is_supported_type n ≡ false
unfolding kind_of message_row
kind_none n h = grind (arith, nat_tests)

-- what a message says that is not refused, by its kind
pub record Said (m : List ℕ) (v : Message) : Type 0 where
  pub kind : Kind
  pub head : Head m kind
  pub body : body_by kind m ≡ Ok v

head_said : (k : Kind) (m : List ℕ) → first_of (head_refusals m ++ role_refusals role.Equal m) ≡ None → type_of m ≡ type_number k → Head m k
head_said k m none is =
    let n = none_applies (head_refusals m ++ role_refusals role.Equal m) none in
    let first = n.0 in
    let long : 8 ≤ length m = grind (arith, nat_tests) in
    let len : header_length m ≡ length m = grind (arith, nat_tests) in
    record {
      long = long;
      len = len;
      type_is = is;
      version = ap (λ (t : ℕ). not (eqb t 0) && not (eqb (version_of m) 4)) (sym is) ∙ n.1.0;
      fits = sym (bad_known k (length m)) ∙ ap (λ (t : ℕ). is_bad_size (size_by_type t) (length m)) (sym is) ∙ n.1.1.1.1.0;
      actions = ap (λ (t : ℕ). eqb t 13 && ltb (length m) (24 + actions_length m)) (sym is) ∙ n.1.1.1.1.1.0;
    }

pub said : (m : List ℕ) (v : Message) → message_of m ≡ Ok v → Said m v
unfolding message_from
said m v e = by_first (first_of (head_refusals m ++ role_refusals role.Equal m)) refl e
  where
    by_kind : first_of (head_refusals m ++ role_refusals role.Equal m) ≡ None → (o : Option Kind) → kind_of (type_of m) ≡ o → message_body m ≡ Ok v → Said m v
    by_kind none None is f =
        let served : is_supported_type (type_of m) ≡ true = not-false _ (none_applies (head_refusals m ++ role_refusals role.Equal m) none).1.1.1.0 in
        let both : true ≡ false = sym served ∙ kind_none (type_of m) is in
        absurd cc
    by_kind none (Some k) is f =
        let type_is = kind_number (type_of m) k is in
        record { kind = k; head = head_said k m none type_is; body = sym (body_known k m) ∙ ap (λ (n : ℕ). body_at n m) (sym type_is) ∙ sym (body_is m) ∙ f }

    by_first : (o : Option Code) → first_of (head_refusals m ++ role_refusals role.Equal m) ≡ o → message_by m o ≡ Ok v → Said m v
    by_first (Some code) none f = absurd cc
    by_first None none f = by_kind none (kind_of (type_of m)) refl f

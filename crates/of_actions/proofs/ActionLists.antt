-- Lists of supported actions.
use Rattle.std.proofs.Common.{◌≡◌, ◌≤◌, ℕ, Bool, true, false, List, [], ◌∷◌, length, refl, arith}
use Rattle.std.{specs.Prelude.nat_le, specs.Prelude.◌&&◌, specs.List.list_all, proofs.lemmas.Bool.Decides.nat_tests}
use Rattle.of_actions.specs.{declared.action.Action.Action, declared.action.Action.TheVariants.Output, PortNumbers.is_port, Supported.is_supported, Supported.are_supported}

-- n actions, all of them supported
pub record Supported (packet_out : Bool) (actions : List Action) : Type 0 where
  pub few : length actions ≤ 64
  pub all : list_all (is_supported packet_out) actions ≡ true

pub served_is : (packet_out : Bool) (actions : List Action) → Supported packet_out actions → are_supported packet_out actions ≡ true
served_is packet_out actions h =
    let few : nat_le (length actions) 64 ≡ true = grind (arith, nat_tests, h.few) in
    rw (few, h.all) refl

pub is_served_list : (packet_out : Bool) (actions : List Action) → are_supported packet_out actions ≡ true → Supported packet_out actions
is_served_list packet_out actions h = record { few = grind (arith, nat_tests); all = grind (arith, nat_tests) }

-- ---- what is valid in an instruction is valid in a PACKET_OUT

port_wider : (packet_out : Bool) (port : ℕ) → is_port packet_out port ≡ true → is_port true port ≡ true
port_wider true port h = h
port_wider false port h = grind (arith, nat_tests)

both : (a b c : Bool) → (a && b) ≡ true → (a ≡ true → c ≡ true) → (c && b) ≡ true
both true b c h f = rw (f refl) h
both false b c h f = absurd cc

action_wider : (packet_out : Bool) (a : Action) → is_supported packet_out a ≡ true → is_supported true a ≡ true
unfolding is_supported
action_wider packet_out (Output port max_len) h = both _ _ _ h (port_wider packet_out port)
action_wider packet_out other h = h

all_wider : (packet_out : Bool) (actions : List Action) → list_all (is_supported packet_out) actions ≡ true → list_all (is_supported true) actions ≡ true
all_wider packet_out [] h = refl
all_wider packet_out (a ∷ actions) h =
    let this : is_supported packet_out a ≡ true = grind (arith, nat_tests) in
    let others : list_all (is_supported packet_out) actions ≡ true = grind (arith, nat_tests) in
    rw (action_wider packet_out a this, all_wider packet_out actions others) refl

pub served_wider : (packet_out : Bool) (actions : List Action) → are_supported packet_out actions ≡ true → are_supported true actions ≡ true
served_wider packet_out actions h =
    let s = is_served_list packet_out actions h in
    served_is true actions (record { few = s.few; all = all_wider packet_out actions s.all })

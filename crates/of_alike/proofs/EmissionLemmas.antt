-- Over the same ports the same leaves, and the same frames come in.
use Rattle.std.proofs.Common.{◌≡◌, ℕ, eqb, cond, Bool, true, false, List, [], ◌∷◌, map, Option, Some, None, refl, ap}
use Rattle.std.specs.{Prelude.not, Prelude.◌&&◌, Prelude.◌||◌, Option.option_map}
use Rattle.of_wire.specs.declared.limits.TheConstants.{OFPP_ALL, OFPP_CONTROLLER, OFPP_FLOOD, OFPP_IN_PORT}
use Rattle.of_ports.specs.{declared.port.Port.Port, Ports.may_send, Ports.other_ports, Ports.port_at}
use Rattle.of_machine.specs.{declared.data.Item.TheVariants.Sent, declared.data.Packet.Packet, Rows.Emitted, Rows.emission, Rows.to_port, TheWorld.TheWorld}
use Rattle.of_symbolic_run.specs.{PortNumbers.IsReceivingPort, Received.IsReceivedAt}
use Rattle.of_alike.specs.SamePorts.{PortKey, SamePorts, port_key}

-- the first port and the others
record AreSameFirst (p q : Port) (ps qs : List Port) : Type 0 where
  first : port_key p ≡ port_key q
  others : SamePorts ps qs

same_first : (p q : Port) (ps qs : List Port) → SamePorts (p ∷ ps) (q ∷ qs) → AreSameFirst p q ps qs
same_first p q ps qs e = let h : port_key p ∷ map port_key ps ≡ port_key q ∷ map port_key qs = e in record { first = cc; others = cc }

none_first : (p : Port) (ps : List Port) → SamePorts [] (p ∷ ps) → ⊥
none_first p ps e = let h : [] ≡ port_key p ∷ map port_key ps = e in cc

some_first : (p : Port) (ps : List Port) → SamePorts (p ∷ ps) [] → ⊥
some_first p ps e = let h : port_key p ∷ map port_key ps ≡ [] = e in cc

-- ---- the port of a number

pub same_port_at : (n : ℕ) (ps qs : List Port) → SamePorts ps qs → option_map port_key (port_at ps n) ≡ option_map port_key (port_at qs n)
same_port_at n [] [] e = refl
same_port_at n [] (q ∷ qs) e = absurd (none_first q qs e)
same_port_at n (p ∷ ps) [] e = absurd (some_first p ps e)
same_port_at n (p ∷ ps) (q ∷ qs) e =
    let h = same_first p q ps qs e in
    by_test (eqb p.number n) (eqb q.number n) (ap (λ (k : PortKey). eqb k.number n) h.first) h.first (same_port_at n ps qs h.others)
  where
    by_test : (a b : Bool) → a ≡ b → port_key p ≡ port_key q → option_map port_key (port_at ps n) ≡ option_map port_key (port_at qs n) → option_map port_key (cond a (Some p) (port_at ps n)) ≡ option_map port_key (cond b (Some q) (port_at qs n))
    by_test true true e first others = ap Some first
    by_test true false e first others = absurd cc
    by_test false true e first others = absurd cc
    by_test false false e first others = others

-- ---- what an output emits

sent_if : (a b : Bool) (x y z w : Emitted) → a ≡ b → x.items ≡ y.items → z.items ≡ w.items → (cond a x z).items ≡ (cond b y w).items
sent_if true true x y z w e h k = h
sent_if true false x y z w e h k = absurd cc
sent_if false true x y z w e h k = absurd cc
sent_if false false x y z w e h k = k

same_to_port : (r s : Option Port) (p : Packet) → option_map port_key r ≡ option_map port_key s → (to_port r p).items ≡ (to_port s p).items
same_to_port None None p e = refl
same_to_port None (Some y) p e = absurd cc
same_to_port (Some x) None p e = absurd cc
same_to_port (Some x) (Some y) p e =
    let h : Some (port_key x) ≡ Some (port_key y) = e in
    let k : port_key x ≡ port_key y = cc in
    sent_if (may_send x) (may_send y) _ _ _ _ (ap (λ (k : PortKey). k.sends) k) (ap (λ (k : PortKey). Sent k.number p.frame ∷ []) k) refl

same_flooded : (n : ℕ) (frame : List ℕ) (ps qs : List Port) → SamePorts ps qs → map (λ q. Sent q.number frame) (other_ports ps n) ≡ map (λ q. Sent q.number frame) (other_ports qs n)
same_flooded n frame [] [] e = refl
same_flooded n frame [] (q ∷ qs) e = absurd (none_first q qs e)
same_flooded n frame (p ∷ ps) [] e = absurd (some_first p ps e)
same_flooded n frame (p ∷ ps) (q ∷ qs) e =
    let h = same_first p q ps qs e in
    by_test (may_send p && not (eqb p.number n)) (may_send q && not (eqb q.number n)) (ap (λ (k : PortKey). k.sends && not (eqb k.number n)) h.first) (ap (λ (k : PortKey). k.number) h.first) (same_flooded n frame ps qs h.others)
  where
    by_test : (a b : Bool) → a ≡ b → p.number ≡ q.number → map (λ x. Sent x.number frame) (other_ports ps n) ≡ map (λ x. Sent x.number frame) (other_ports qs n)
        → map (λ x. Sent x.number frame) (cond a (p ∷ other_ports ps n) (other_ports ps n)) ≡ map (λ x. Sent x.number frame) (cond b (q ∷ other_ports qs n) (other_ports qs n))
    by_test true true e number others = cc
    by_test true false e number others = absurd cc
    by_test false true e number others = absurd cc
    by_test false false e number others = others

pub same_emission : (ps qs : List Port) → SamePorts ps qs → (p : Packet) (port max_len : ℕ) → (emission ps p port max_len).items ≡ (emission qs p port max_len).items
same_emission ps qs e p port max_len =
    sent_if (eqb port OFPP_IN_PORT) _ _ _ _ _ refl (same_to_port (port_at ps p.ingress) (port_at qs p.ingress) p (same_port_at p.ingress ps qs e))
    (sent_if (eqb port OFPP_FLOOD || eqb port OFPP_ALL) _ _ _ _ _ refl (same_flooded p.ingress p.frame ps qs e)
    (sent_if (eqb port OFPP_CONTROLLER) _ _ _ _ _ refl refl
    (sent_if (eqb port p.ingress) _ _ _ _ _ refl refl (same_to_port (port_at ps port) (port_at qs port) p (same_port_at port ps qs e)))))

-- ---- which frames come in

pub receives_at : (w : TheWorld) (frame : List ℕ) (port : ℕ) → IsReceivedAt w frame port → IsReceivingPort w.ports port
receives_at w frame port is = record { port = is.ingress; there = is.there; receives = is.receives }

use Rattle.std.proofs.Common.{◌≡◌, true, List, ◌∷◌, Option, Some, None, length, drop, map, ap}
use Rattle.std.{specs.Borrow.Bor, specs.Option.MatchOption, specs.Slice.Iter.iter_rest, proofs.lemmas.List.drop_all, proofs.lemmas.List.drop_more}
use Rattle.of_ports.specs.declared.port.Port.{Port}
use Rattle.of_alike.specs.SamePorts.{port_key}
use Rattle.of_symbolic_run.proofs.Pairing.{no_elements, pairing_decided, pairing_goes_on, pairing_parts}
use Rattle.of_alike.proofs.ports.have_same_ports.Goals as goal

pub returns-in_default : goal.returns-in_default
returns-in_default c =
    let a = c.args.a.now in
    let differ = pairing_parts (map port_key a) (map port_key c.args.b.now) (map port_key (drop c.loop-port.port-index a)) (map port_key (iter_rest c.loop-port.others)) c.loop-port.invariant _ (port_key c.in-Some.other.now) _ _
    (ap (map port_key) (drop_more a c.loop-port.port-index _ c.loop-port-test.true)) (ap (map port_key) c.in-Some.ensures.steps)
    (λ same. let yes : c.is_same_port.result ≡ true = c.is_same_port.ensures.1 same in let no = c.if-is_same_port.false in absurd cc) in
    (λ h. absurd cc, λ h. absurd (differ h))

pub loop-port-preserved : goal.loop-port-preserved
loop-port-preserved c =
    let a = c.args.a.now in
    pairing_goes_on (map port_key a) (map port_key c.args.b.now) (map port_key (drop c.loop-port.port-index a)) (map port_key (iter_rest c.loop-port.others)) c.loop-port.invariant _ (port_key c.in-Some.other.now) _ _
    (ap (map port_key) (drop_more a c.loop-port.port-index _ c.loop-port-test.true)) (ap (map port_key) c.in-Some.ensures.steps) (c.is_same_port.ensures.0 c.if-is_same_port.true)

keys_told : (r : Option (Bor Port)) (left others : List Port) (P : Type 0) → MatchOption r ((length left ≡ 0) × P) (λ x. left ≡ x.now ∷ others) → MatchOption r (length left ≡ 0) (λ x. map port_key left ≡ port_key x.now ∷ map port_key others)
keys_told None left others P h = h.0
keys_told (Some x) left others P h = ap (map port_key) h

pub returns : goal.returns
returns c =
    let a = c.args.a.now in
    let rest = iter_rest c.loop-port.others in
    pairing_decided (map port_key a) (map port_key c.args.b.now) (map port_key (drop c.loop-port.port-index a)) (map port_key rest) c.loop-port.invariant (ap (map port_key) (drop_all c.loop-port.port-index a c.loop-port-test.false)) (λ (y : Bor Port). port_key y.now) (length rest ≡ 0)
    (λ done. ap (map port_key) (no_elements rest done)) c.next-2.result _ (keys_told c.next-2.result rest (iter_rest c.next-2.new.self) _ c.next-2.ensures.steps) c.is_none.result c.is_none.ensures

use Rattle.std.proofs.Common.{◌≡◌, true, List, ◌∷◌, Option, Some, None, length, drop, map, ap}
use Rattle.std.{specs.Borrow.Bor, specs.Option.MatchOption, specs.Slice.Iter.iter_rest, proofs.lemmas.List.drop_all}
use Rattle.of_groups.specs.declared.group.Group.{Group}
use Rattle.of_alike.specs.SameGroups.{group_key}
use Rattle.of_symbolic_run.proofs.Pairing.{at_index, no_elements, pairing_decided, pairing_goes_on, pairing_parts}
use Rattle.of_alike.proofs.groups.have_same_groups.Goals as goal

pub returns-in_default : goal.returns-in_default
returns-in_default c =
    let a = c.args.a.now in
    let differ = pairing_parts (map group_key a) (map group_key c.args.b.now) (map group_key (drop c.loop-group.group-index a)) (map group_key (iter_rest c.loop-group.others)) c.loop-group.invariant _ (group_key c.in-Some.other.now) _ _
    (ap (map group_key) (at_index a c.loop-group.group-index c.group-item.result c.loop-group-test.true c.group-item.is)) (ap (map group_key) c.in-Some.ensures.steps)
    (λ same. let yes : c.is_same_group.result ≡ true = c.is_same_group.ensures.1 same in let no = c.if-is_same_group.false in absurd cc) in
    (λ h. absurd cc, λ h. absurd (differ h))

pub loop-group-preserved : goal.loop-group-preserved
loop-group-preserved c =
    let a = c.args.a.now in
    pairing_goes_on (map group_key a) (map group_key c.args.b.now) (map group_key (drop c.loop-group.group-index a)) (map group_key (iter_rest c.loop-group.others)) c.loop-group.invariant _ (group_key c.in-Some.other.now) _ _
    (ap (map group_key) (at_index a c.loop-group.group-index c.group-item.result c.loop-group-test.true c.group-item.is)) (ap (map group_key) c.in-Some.ensures.steps) (c.is_same_group.ensures.0 c.if-is_same_group.true)

keys_told : (r : Option (Bor Group)) (left others : List Group) (P : Type 0) → MatchOption r ((length left ≡ 0) × P) (λ x. left ≡ x.now ∷ others) → MatchOption r (length left ≡ 0) (λ x. map group_key left ≡ group_key x.now ∷ map group_key others)
keys_told None left others P h = h.0
keys_told (Some x) left others P h = ap (map group_key) h

pub returns : goal.returns
returns c =
    let a = c.args.a.now in
    let rest = iter_rest c.loop-group.others in
    pairing_decided (map group_key a) (map group_key c.args.b.now) (map group_key (drop c.loop-group.group-index a)) (map group_key rest) c.loop-group.invariant (ap (map group_key) (drop_all c.loop-group.group-index a c.loop-group-test.false)) (λ (y : Bor Group). group_key y.now) (length rest ≡ 0)
    (λ done. ap (map group_key) (no_elements rest done)) c.next-2.result _ (keys_told c.next-2.result rest (iter_rest c.next-2.new.self) _ c.next-2.ensures.steps) c.is_none.result c.is_none.ensures

use Rattle.std.proofs.Common.{◌≡◌, true, List, ◌∷◌, Option, Some, None, length, drop, ap}
use Rattle.std.{specs.Borrow.Bor, specs.Option.MatchOption, specs.Slice.Iter.iter_rest, proofs.lemmas.List.drop_all, proofs.lemmas.List.drop_more}
use Rattle.of_machine.specs.declared.data.Step.{Step}
use Rattle.of_symbolic_run.proofs.Pairing.{no_elements, pairing_decided, pairing_goes_on, pairing_parts}
use Rattle.of_paths.specs.Ways.{line_but_entry, way_of}
use Rattle.of_paths.proofs.ways.is_same_way.Goals as goal

pub returns-in_default : goal.returns-in_default
returns-in_default c =
    let a = c.args.a.now in
    let differ = pairing_parts (way_of a) (way_of c.args.b.now) (way_of (drop c.loop-step.step-index a)) (way_of (iter_rest c.loop-step.others)) c.loop-step.invariant _ (line_but_entry c.in-Some.other.now) _ _
    (ap way_of (drop_more a c.loop-step.step-index _ c.loop-step-test.true)) (ap way_of c.in-Some.ensures.steps)
    (λ same. let yes : c.is_same_line.result ≡ true = c.is_same_line.ensures.1 same in let no = c.if-is_same_line.false in absurd cc) in
    (λ h. absurd cc, λ h. absurd (differ h))

pub loop-step-preserved : goal.loop-step-preserved
loop-step-preserved c =
    let a = c.args.a.now in
    pairing_goes_on (way_of a) (way_of c.args.b.now) (way_of (drop c.loop-step.step-index a)) (way_of (iter_rest c.loop-step.others)) c.loop-step.invariant _ (line_but_entry c.in-Some.other.now) _ _
    (ap way_of (drop_more a c.loop-step.step-index _ c.loop-step-test.true)) (ap way_of c.in-Some.ensures.steps) (c.is_same_line.ensures.0 c.if-is_same_line.true)

lines_told : (r : Option (Bor Step)) (left others : List Step) (P : Type 0) → MatchOption r ((length left ≡ 0) × P) (λ x. left ≡ x.now ∷ others) → MatchOption r (length left ≡ 0) (λ x. way_of left ≡ line_but_entry x.now ∷ way_of others)
lines_told None left others P h = h.0
lines_told (Some x) left others P h = ap way_of h

pub returns : goal.returns
returns c =
    let a = c.args.a.now in
    let rest = iter_rest c.loop-step.others in
    pairing_decided (way_of a) (way_of c.args.b.now) (way_of (drop c.loop-step.step-index a)) (way_of rest) c.loop-step.invariant (ap way_of (drop_all c.loop-step.step-index a c.loop-step-test.false)) (λ (y : Bor Step). line_but_entry y.now) (length rest ≡ 0)
    (λ done. ap way_of (no_elements rest done)) c.next-2.result _ (lines_told c.next-2.result rest (iter_rest c.next-2.new.self) _ c.next-2.ensures.steps) c.is_none.result c.is_none.ensures

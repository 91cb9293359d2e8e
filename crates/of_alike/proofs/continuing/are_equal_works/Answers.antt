use Rattle.std.proofs.Common.{◌≡◌, List, ◌∷◌, Option, Some, None, length, drop, sym}
use Rattle.std.{specs.Borrow.Bor, specs.Option.MatchOption, specs.Slice.Iter.iter_rest, proofs.lemmas.List.drop_all}
use Rattle.of_symbolic_run.{specs.declared.state.Work.Work, proofs.Pairing.at_index, proofs.Pairing.no_elements, proofs.Pairing.pairing_decided, proofs.Pairing.pairing_goes_on}
use Rattle.of_alike.proofs.continuing.are_equal_works.Goals as goal

pub loop-work-preserved : goal.loop-work-preserved
loop-work-preserved c =
    pairing_goes_on c.args.a.now c.args.b.now (drop c.loop-work.work-index c.args.a.now) (iter_rest c.loop-work.others) c.loop-work.invariant _ c.in-Some.other.now _ _
    (at_index c.args.a.now c.loop-work.work-index c.work-item.result c.loop-work-test.true c.work-item.is) c.in-Some.ensures.steps (sym (c.is_equal_work.ensures c.if-is_equal_work.true))

works_told : (r : Option (Bor Work)) (left others : List Work) (P : Type 0) → MatchOption r ((length left ≡ 0) × P) (λ x. left ≡ x.now ∷ others) → MatchOption r (length left ≡ 0) (λ x. left ≡ x.now ∷ others)
works_told None left others P h = h.0
works_told (Some x) left others P h = h

pub returns : goal.returns
returns c = λ same.
    let rest = iter_rest c.loop-work.others in
    sym ((pairing_decided c.args.a.now c.args.b.now (drop c.loop-work.work-index c.args.a.now) rest c.loop-work.invariant (drop_all c.loop-work.work-index c.args.a.now c.loop-work-test.false) (λ (y : Bor Work). y.now) (length rest ≡ 0)
    (no_elements rest) c.next-2.result _ (works_told c.next-2.result rest (iter_rest c.next-2.new.self) _ c.next-2.ensures.steps) c.is_none.result c.is_none.ensures).0 same)

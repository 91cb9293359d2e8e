use Rattle.std.proofs.Common.{◌≡◌, ℕ, length, subst, arith}
use Rattle.of_symbolic.{specs.Branching.IsPartBehindAll, proofs.BranchLemmas.behind_more, proofs.BranchLemmas.behind_none, proofs.PartLemmas.at_index}
use Rattle.of_symbolic.proofs.part.Part.behind_all.Goals as goal

pub loop-place-init : goal.loop-place-init
loop-place-init c = behind_none c.args.entries.now c.args.of c.args.self

pub loop-place-preserved : goal.loop-place-preserved
loop-place-preserved c =
    let entries = c.args.entries.now in
    let p = c.index-entries-place.result in
    behind_more entries c.loop-place.place c.args.of p c.args.self c.loop-place.part c.in_ok-part.part (at_index entries c.loop-place.place p c.index-entries-place.is c.loop-place-test.true) c.loop-place.invariant c.in_ok-part.ensures

pub returns : goal.returns
returns c =
    let all : c.loop-place.place ≡ length c.args.entries.now = omega (arith, c.loop-place-test.false, c.loop-place.auto.place-end) in
    subst (λ (n : ℕ). IsPartBehindAll c.args.entries.now n c.args.of c.args.self c.loop-place.part) all c.loop-place.invariant

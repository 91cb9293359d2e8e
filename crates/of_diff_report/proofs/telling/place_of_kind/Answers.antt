use Rattle.std.proofs.Common.{◌≡◌, ◌∙◌, sym, subst, take, take_all}
use Rattle.of_symbolic.proofs.PartLemmas.{at_index}
use Rattle.of_diff_report.proofs.TellingLemmas.{AreOthers, one_other}
use Rattle.of_diff_report.proofs.telling.place_of_kind.Goals as goal

pub returns-then-is_of_kind-clause-some : goal.returns-then-is_of_kind-clause-some
returns-then-is_of_kind-clause-some c =
    let told = c.args.told.now in
    let x = c.index-told-index.result in
    (x, at_index told c.loop-index.index x c.index-told-index.is c.loop-index-test.true, sym c.is_of_kind.ensures ∙ c.if-is_of_kind.true)

pub loop-index-preserved : goal.loop-index-preserved
loop-index-preserved c =
    one_other c.args.other.now c.args.told.now c.loop-index.index c.index-told-index.result c.index-told-index.is c.loop-index-test.true (sym c.is_of_kind.ensures ∙ c.if-is_of_kind.false) c.loop-index.invariant

pub returns-clause-none : goal.returns-clause-none
returns-clause-none c =
    let all : take c.loop-index.index c.args.told.now ≡ c.args.told.now = take_all c.loop-index.index c.args.told.now c.loop-index-test.false in
    subst (AreOthers c.args.other.now) all c.loop-index.invariant

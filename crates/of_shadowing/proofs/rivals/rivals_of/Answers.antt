use Rattle.std.proofs.Common.{◌≡◌, ◌∙◌, Some, ap, arith, sym}
use Rattle.std.{specs.Prelude.slice_get, proofs.lemmas.Option.slice_get-get_or}
use Rattle.of_shadowing.proofs.{RivalLemmas.all_kept, RivalLemmas.one_kept, RivalLemmas.one_passed, rivals.rivals_of.Goals.in-Some+in_ok-push, rivals.rivals_of.Goals.in_default}
use Rattle.of_shadowing.proofs.rivals.rivals_of.Goals as goal

pub loop-at-preserved : goal.loop-at-preserved
loop-at-preserved c =
    let flows = c.args.flows.now in
    let there : slice_get flows c.loop-at.at ≡ Some c.index-flows-at.result = slice_get-get_or flows c.loop-at.at c.index-flows-at.result c.loop-at-test.true ∙ ap Some (sym c.index-flows-at.is) in
    elim c.match-rival_at.branch [
      | in-Some+in_ok-push w ↦
          let some = w.in-Some.ensures.some in
          rw (w.rivals-is, w.in_ok-push.ensures.items)
          (one_kept flows c.args.place c.args.own.now c.requires c.loop-at.rivals.items c.loop-at.at c.loop-at.invariant _ there w.in-Some.rival some.0 some.1 some.2 some.3 some.4)
      | in_default w ↦ rw w.rivals-is (one_passed flows c.args.place c.args.own.now c.requires c.loop-at.rivals.items c.loop-at.at c.loop-at.invariant _ there w.in_default.ensures.none)
    ]

pub returns : goal.returns
returns c = all_kept c.args.flows.now c.args.place c.args.own.now c.requires c.loop-at.rivals.items c.loop-at.at c.loop-at.invariant (omega (arith, c.loop-at-test.false))

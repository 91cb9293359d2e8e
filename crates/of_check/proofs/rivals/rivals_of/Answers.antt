use Rattle.std.proofs.Common.{◌∙◌, List, ap, arith, length, sym}
use Rattle.std.{specs.Prelude.slice_get, proofs.lemmas.Option.slice_get-get_or}
use Rattle.of_table.specs.{Entries.entry_of, Tables.table_at}
use Rattle.of_check.{specs.declared.outline.Outline.Outline, proofs.OutlineLemmas.as_many, proofs.OutlineLemmas.outline_at}
use Rattle.of_check.proofs.{RivalLemmas.all_kept, RivalLemmas.one_kept, RivalLemmas.one_passed, rivals.rivals_of.Goals.in-Some+in_ok-push, rivals.rivals_of.Goals.in_default}
use Rattle.of_check.proofs.rivals.rivals_of.Goals as goal

pub rival_at-requires-clause-other : goal.rival_at-requires-clause-other
rival_at-requires-clause-other g c =
    outline_at (table_at c.args.table c.args.switch.now.core.forwarding.tables).flows c.loop-at.at _
    (ap (λ (os : List Outline). slice_get os c.loop-at.at) (sym c.requires.outlines) ∙ slice_get-get_or c.args.outlines.now c.loop-at.at _ c.loop-at-test.true)

pub loop-at-preserved : goal.loop-at-preserved
loop-at-preserved g c =
    let flows = (table_at c.args.table c.args.switch.now.core.forwarding.tables).flows in
    let own = entry_of c.args.own.now in
    elim c.match-rival_at.branch [
      | in-Some+in_ok-push w ↦
          let rival = w.in-Some.ensures.some in
          rw (w.rivals-is, w.in_ok-push.ensures.items)
          (one_kept flows c.args.place own c.requires.there c.loop-at.rivals.items c.loop-at.at c.loop-at.invariant w.in-Some.rival rival.0 rival.1.0 rival.1.1 rival.1.2)
      | in_default w ↦ rw w.rivals-is (one_passed flows c.args.place own c.requires.there c.loop-at.rivals.items c.loop-at.at c.loop-at.invariant w.in_default.ensures.none)
    ]

pub returns : goal.returns
returns g c =
    let flows = (table_at c.args.table c.args.switch.now.core.forwarding.tables).flows in
    all_kept flows c.args.place (entry_of c.args.own.now) c.requires.there c.loop-at.rivals.items c.loop-at.at c.loop-at.invariant
    (omega (arith, c.loop-at-test.false, ap length c.requires.outlines, as_many flows))

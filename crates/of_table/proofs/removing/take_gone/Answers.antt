use Rattle.std.{specs.Prelude.is_some, proofs.Common.◌∙◌, proofs.Common.ap}
use Rattle.of_table.proofs.{RemoveLemmas.taken_goes, RemoveLemmas.taken_stays, removing.take_gone.Goals.then-is_some, removing.take_gone.Goals.else-is_some}
use Rattle.of_table.proofs.removing.take_gone.Goals as goal

pub loop-entry-preserved : goal.loop-entry-preserved
loop-entry-preserved g c = elim c.if-is_some.branch [
  | then-is_some w ↦ taken_goes c.args.cause.now c.args.entries.now c.loop-entry.entry-index c.entry-item.result _ _ c.loop-entry-test.true c.entry-item.is c.loop-entry.invariant c.known.ensures (w.if-is_some.ensures ∙ ap is_some c.reason.ensures) (ap g.L.Lookup.content w.lookup-is ∙ w.take.ensures)
  | else-is_some w ↦ taken_stays c.args.cause.now c.args.entries.now c.loop-entry.entry-index c.entry-item.result _ _ c.loop-entry-test.true c.entry-item.is c.loop-entry.invariant c.known.ensures (w.if-is_some.ensures ∙ ap is_some c.reason.ensures) (ap g.L.Lookup.content w.lookup-is)
]

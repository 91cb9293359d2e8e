use Rattle.std.proofs.Common.{◌∙◌, ap, refl, sym, List}
use Rattle.of_switch.specs.declared.event.Event.{Event}
use Rattle.of_serve.proofs.TurnLemmas.{due_none, left_none, due_waits, left_waits, left_acts, row_acts}
use Rattle.of_serve.{specs.Turns.gathered, proofs.CutLemmas.due_begun, proofs.CutLemmas.due_more, proofs.CutLemmas.due_cut, proofs.CutLemmas.on_err}
use Rattle.of_serve.proofs.gathering.Gathering.due.Goals as goal

pub returns-then-waits-clause-rest : goal.returns-then-waits-clause-rest
returns-then-waits-clause-rest g c =
    let l = c.loop-row in
    sym (l.invariant.rest ∙ left_waits c.args.now c.in-Some.row.now l.rows c.in-Some.ensures (sym c.waits.ensures ∙ c.if-waits.true))

pub returns-then-waits-clause-gathered : goal.returns-then-waits-clause-gathered
returns-then-waits-clause-gathered g c =
    let l = c.loop-row in
    sym (l.invariant.gathered ∙ ap (λ (es : List Event). gathered es l.self) (due_waits c.args.now c.in-Some.row.now l.rows c.in-Some.ensures (sym c.waits.ensures ∙ c.if-waits.true)))

pub returns-in_default-clause-rest : goal.returns-in_default-clause-rest
returns-in_default-clause-rest g c =
    let l = c.loop-row in
    sym (l.invariant.rest ∙ left_none c.args.now l.rows (sym c.in_default.ensures))

pub returns-in_default-clause-gathered : goal.returns-in_default-clause-gathered
returns-in_default-clause-gathered g c =
    let l = c.loop-row in
    sym (l.invariant.gathered ∙ ap (λ (es : List Event). gathered es l.self) (due_none c.args.now l.rows (sym c.in_default.ensures)))

pub loop-row-init : goal.loop-row-init
loop-row-init g c = record {
  rest = refl;
  gathered = refl;
  so_far = due_begun c.args.now c.args.rows.now c.args.self.now;
}

pub returns-in_err-act-clause-err : goal.returns-in_err-act-clause-err
returns-in_err-act-clause-err g c =
    let l = c.loop-row in
    on_err c.from_residual.result _
    (due_cut c.args.now c.in-Some.row.now c.args.rows.now l.rows c.args.self.now l.self c.act.new.self c.in-Some.ensures (sym c.waits.ensures ∙ c.if-waits.false) l.invariant.so_far c.in_err-act.ensures.err)

pub loop-row-preserved : goal.loop-row-preserved
loop-row-preserved g c =
    let l = c.loop-row in
    let acts = sym c.waits.ensures ∙ c.if-waits.false in
    record {
      rest = rw c.pass.ensures (l.invariant.rest ∙ left_acts c.args.now c.in-Some.row.now l.rows c.in-Some.ensures acts);
      gathered = rw c.pass.ensures (row_acts c.args.now c.in-Some.row.now c.args.rows.now l.rows c.args.self.now l.self c.act.new.self c.in-Some.ensures acts l.invariant.gathered c.in_ok-act.ensures.ok);
      so_far = rw c.pass.ensures (due_more c.args.now c.in-Some.row.now c.args.rows.now l.rows c.args.self.now l.self c.act.new.self c.in-Some.ensures acts l.invariant.so_far c.in_ok-act.ensures.ok);
    }

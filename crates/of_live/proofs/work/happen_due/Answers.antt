use Rattle.std.proofs.Common.{◌≡◌, ◌++◌, ◌∙◌, ap, refl, sym, List, append_assoc, [], subst}
use Rattle.std.proofs.lemmas.List.{append-nil}
use Rattle.of_switch.specs.declared.event.Event.{Event}
use Rattle.of_serve.proofs.TurnLemmas.{due_none, left_none, due_waits, left_waits, due_acts, left_acts}
use Rattle.of_serve.specs.Turns.{events_of_row, due}
use Rattle.of_live.{specs.Working.Does, proofs.Doing.does_none, proofs.Doing.does_more}
use Rattle.of_live.proofs.work.happen_due.Goals as goal

pub loop-row-init : goal.loop-row-init
loop-row-init g c = record {
  rest = refl;
  done = [];
  due_are = refl;
  does = does_none c.args.keeps c.args.switch.now c.args.work.now;
}

pub loop-row-preserved : goal.loop-row-preserved
loop-row-preserved g c =
    let i = c.loop-row.invariant in
    let now = c.args.now in
    let row = c.in-Some.row.now in
    let rows = c.loop-row.rows in
    let is_due = sym c.waits.ensures ∙ c.if-waits.false in
    record {
      rest = rw c.pass.ensures (i.rest ∙ left_acts now row rows c.in-Some.ensures is_due);
      done = i.done ++ events_of_row row;
      due_are = rw c.pass.ensures (i.due_are ∙ (ap (λ (es : List Event). i.done ++ es) (due_acts now row rows c.in-Some.ensures is_due) ∙ sym (append_assoc i.done (events_of_row row) _)));
      does = does_more c.args.keeps i.done (events_of_row row) c.args.switch.now c.loop-row.switch c.act.new.switch c.args.work.now c.loop-row.work c.act.new.work i.does c.in_ok-act.ensures;
    }

pub returns-then-waits-clause-rows : goal.returns-then-waits-clause-rows
returns-then-waits-clause-rows g c =
    let l = c.loop-row in
    sym (l.invariant.rest ∙ left_waits c.args.now c.in-Some.row.now l.rows c.in-Some.ensures (sym c.waits.ensures ∙ c.if-waits.true))

pub returns-then-waits-clause-does : goal.returns-then-waits-clause-does
returns-then-waits-clause-does g c =
    let l = c.loop-row in
    let all : due c.args.now c.args.rows.now ≡ l.invariant.done = l.invariant.due_are
    ∙ (ap (λ (es : List Event). l.invariant.done ++ es) (due_waits c.args.now c.in-Some.row.now l.rows c.in-Some.ensures (sym c.waits.ensures ∙ c.if-waits.true)) ∙ append-nil l.invariant.done) in
    subst (λ es. Does c.args.keeps es c.args.switch.now l.switch c.args.work.now l.work) (sym all) l.invariant.does

pub returns-in_default-clause-rows : goal.returns-in_default-clause-rows
returns-in_default-clause-rows g c =
    let l = c.loop-row in
    sym (l.invariant.rest ∙ left_none c.args.now l.rows (sym c.in_default.ensures))

pub returns-in_default-clause-does : goal.returns-in_default-clause-does
returns-in_default-clause-does g c =
    let l = c.loop-row in
    let all : due c.args.now c.args.rows.now ≡ l.invariant.done = l.invariant.due_are
    ∙ (ap (λ (es : List Event). l.invariant.done ++ es) (due_none c.args.now l.rows (sym c.in_default.ensures)) ∙ append-nil l.invariant.done) in
    subst (λ es. Does c.args.keeps es c.args.switch.now l.switch c.args.work.now l.work) (sym all) l.invariant.does

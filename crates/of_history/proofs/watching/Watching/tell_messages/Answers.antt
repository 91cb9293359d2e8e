use Rattle.std.proofs.Common.{◌≡◌, ◌+◌, ◌++◌, refl, ◌∙◌, arith}
use Rattle.of_switch.{specs.Steps.gives, proofs.Draining.next_shorter}
use Rattle.of_history.specs.{Causes.Message, Causes.Row, Changes.told_change, Changes.row_cause, Sights.sight_text}
use Rattle.of_history.proofs.TurnLemmas.{telling_all, telling_more}
use Rattle.of_history.proofs.watching.Watching.tell_messages.Goals as goal

pub loop-message-smaller : goal.loop-message-smaller
loop-message-smaller g c =
    let h = rw c.if-branch.true at c.in_ok-handle.ensures.handles in
    rw c.in_ok-look_again.ensures.kept.0 (next_shorter c.loop-message.self.switch (gives h.0 c.handle.new.self.switch) h.1)

pub loop-message-preserved : goal.loop-message-preserved
loop-message-preserved g c =
    let h = rw c.if-branch.true at c.in_ok-handle.ensures.handles in
    let view : c.handle.new.self.view ≡ c.args.self.now.view = cc in
    let seen : (sight_text c.handle.new.self.seen) ≡ (sight_text c.loop-message.self.seen) = cc in
    let out : c.handle.new.self.out.items ≡ c.loop-message.self.out.items = cc in
    let fresh : (sight_text c.look_again.new.self.seen) ≡ g.V.View.seen c.args.self.now.view c.handle.new.self.switch.core.forwarding = rw (← view) c.in_ok-look_again.ensures.seen in
    let shorter = next_shorter c.loop-message.self.switch (gives h.0 c.handle.new.self.switch) h.1 in
    let said : c.look_again.new.self.out.items ≡ c.loop-message.self.out.items ++ told_change g.T.ChangeTeller.text (row_cause c.args.number c.args.line.now (Message (c.loop-message.turn + 1) c.deref.result.now)) (sight_text c.loop-message.self.seen) (sight_text c.look_again.new.self.seen) = rw (← seen, ← out) c.in_ok-look_again.ensures.said in
    record {
      view = c.in_ok-look_again.ensures.kept.1 ∙ view;
      fresh = rw c.in_ok-look_again.ensures.kept.0 fresh;
      few = rw c.in_ok-look_again.ensures.kept.0 (omega (arith, shorter, c.loop-message.invariant.few));
      telling = rw c.in_ok-look_again.ensures.kept.0
          (telling_more g.T.ChangeTeller.text (g.V.View.seen c.args.self.now.view) (row_cause c.args.number c.args.line.now Row) c.args.self.now.switch c.loop-message.self.switch (gives h.0 c.handle.new.self.switch)
          c.loop-message.turn (c.loop-message.turn + 1) c.deref.result.now c.args.self.now.out.items c.loop-message.self.out.items c.look_again.new.self.out.items (sight_text c.loop-message.self.seen) (sight_text c.look_again.new.self.seen)
          h.1 refl (c.deref.ensures.value ∙ h.2) c.loop-message.invariant.fresh fresh said c.loop-message.invariant.telling);
    }

pub returns-clause-said : goal.returns-clause-said
returns-clause-said g c =
    let h = rw c.if-branch.false at c.in_ok-handle.ensures.handles in
    let out : c.handle.new.self.out.items ≡ c.loop-message.self.out.items = cc in
    out ∙ (telling_all g.T.ChangeTeller.text (g.V.View.seen c.args.self.now.view) (row_cause c.args.number c.args.line.now Row) c.args.self.now.switch c.loop-message.self.switch c.loop-message.turn c.args.self.now.out.items c.loop-message.self.out.items h.0 c.loop-message.invariant.telling).0

pub returns-clause-switch : goal.returns-clause-switch
returns-clause-switch g c =
    let h = rw c.if-branch.false at c.in_ok-handle.ensures.handles in
    h.1 ∙ (telling_all g.T.ChangeTeller.text (g.V.View.seen c.args.self.now.view) (row_cause c.args.number c.args.line.now Row) c.args.self.now.switch c.loop-message.self.switch c.loop-message.turn c.args.self.now.out.items c.loop-message.self.out.items h.0 c.loop-message.invariant.telling).1

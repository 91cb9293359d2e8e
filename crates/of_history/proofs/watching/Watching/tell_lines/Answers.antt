use Rattle.std.proofs.Common.{◌≡◌, None, Some, sym, ◌∙◌, ap, arith}
use Rattle.std.specs.Option.{option_map}
use Rattle.of_text.proofs.LineLemmas.{some_bytes, no_bytes}
use Rattle.of_replay.specs.Rows.{row_of_line, with_bytes}
use Rattle.of_history.proofs.LogLemmas.{bad_here, none_bad, row_passed, said_all, said_bad, said_more}
use Rattle.of_history.specs.Changes.{history_of}
use Rattle.of_history.proofs.watching.Watching.tell_lines.Goals as goal

pub returns-in_default-clause-said : goal.returns-in_default-clause-said
returns-in_default-clause-said g c =
    let some = some_bytes c.loop-rest.rest.now c.is_empty.result c.is_empty.ensures c.loop-rest-test.true in
    let bad : row_of_line c.cut.result.0.now ≡ None = c.in_ok-row.ensures ∙ ap (option_map (with_bytes c.read_row.new.bytes.items)) c.in_default.is in
    said_bad (history_of g.T.ChangeTeller.text (g.V.View.seen c.args.self.now.view) (g.V.View.expiring c.args.self.now.view)) c.loop-rest.number c.loop-rest.rest.now c.cut.result.0.now c.cut.result.1.now c.loop-rest.self.switch some c.cut.ensures.first c.cut.ensures.rest
    c.loop-rest.self.out.items _ bad c.loop-rest.invariant.text

pub returns-in_default-clause-bad : goal.returns-in_default-clause-bad
returns-in_default-clause-bad g c =
    let some = some_bytes c.loop-rest.rest.now c.is_empty.result c.is_empty.ensures c.loop-rest-test.true in
    let bad : row_of_line c.cut.result.0.now ≡ None = c.in_ok-row.ensures ∙ ap (option_map (with_bytes c.read_row.new.bytes.items)) c.in_default.is in
    sym (bad_here (history_of g.T.ChangeTeller.text (g.V.View.seen c.args.self.now.view) (g.V.View.expiring c.args.self.now.view)) c.loop-rest.number c.loop-rest.rest.now c.cut.result.0.now c.cut.result.1.now c.loop-rest.self.switch some c.cut.ensures.first c.cut.ensures.rest bad)
    ∙ c.loop-rest.invariant.bad

pub loop-rest-preserved : goal.loop-rest-preserved
loop-rest-preserved g c =
    let some = some_bytes c.loop-rest.rest.now c.is_empty.result c.is_empty.ensures c.loop-rest-test.true in
    let is : row_of_line c.cut.result.0.now ≡ Some (with_bytes c.read_row.new.bytes.items c.in-Some.row) = c.in_ok-row.ensures ∙ ap (option_map (with_bytes c.read_row.new.bytes.items)) c.in-Some.is in
    let told = c.in_ok-tell_row.ensures in
    let row = with_bytes c.read_row.new.bytes.items c.in-Some.row in
    let said = rw (c.deref.ensures.value, c.loop-rest.invariant.view) at told.said in
    let goes = rw c.deref.ensures.value at told.switch in
    record {
      view = told.view ∙ c.loop-rest.invariant.view;
      fresh = told.seen ∙ ap (λ (v : _). g.V.View.seen v c.tell_row.new.self.switch.core.forwarding) c.loop-rest.invariant.view;
      few = omega (arith, some, c.cut.ensures.shorter, c.loop-rest.invariant.few);
      bad = sym (row_passed (history_of g.T.ChangeTeller.text (g.V.View.seen c.args.self.now.view) (g.V.View.expiring c.args.self.now.view)) c.loop-rest.number c.loop-rest.rest.now c.cut.result.0.now c.cut.result.1.now c.loop-rest.self.switch some c.cut.ensures.first c.cut.ensures.rest row is) ∙ c.loop-rest.invariant.bad;
      text = said_more (history_of g.T.ChangeTeller.text (g.V.View.seen c.args.self.now.view) (g.V.View.expiring c.args.self.now.view)) c.loop-rest.number c.loop-rest.rest.now c.cut.result.0.now c.cut.result.1.now c.loop-rest.self.switch some c.cut.ensures.first c.cut.ensures.rest
          row c.loop-rest.self.out.items c.tell_row.new.self.out.items _ c.tell_row.new.self.switch is said goes c.loop-rest.invariant.text;
    }

pub returns-clause-said : goal.returns-clause-said
returns-clause-said g c =
    let none = no_bytes c.loop-rest.rest.now c.is_empty.result c.is_empty.ensures c.loop-rest-test.false in
    said_all (history_of g.T.ChangeTeller.text (g.V.View.seen c.args.self.now.view) (g.V.View.expiring c.args.self.now.view)) c.loop-rest.number c.loop-rest.rest.now c.loop-rest.self.switch c.loop-rest.self.out.items _ none c.loop-rest.invariant.text

pub returns-clause-bad : goal.returns-clause-bad
returns-clause-bad g c =
    let none = no_bytes c.loop-rest.rest.now c.is_empty.result c.is_empty.ensures c.loop-rest-test.false in
    sym (none_bad c.loop-rest.number c.loop-rest.rest.now none) ∙ c.loop-rest.invariant.bad

use Rattle.std.proofs.Common.{List, ◌∷◌, Bool, ap, arith, length, subst, sym}
use Rattle.std.{specs.Slice.Iter.iter_rest, proofs.lemmas.List.length-map}
use Rattle.of_table.specs.{declared.entry.Entry.Entry, Entries.entry_of, Entries.flows_of}
use Rattle.of_diff.{specs.Changing.AreMarkedAskedIn, proofs.ChangingLemmas.asked_more, proofs.ChangingLemmas.no_entries_asked, proofs.ChangingLemmas.none_asked, proofs.ChangingLemmas.one_asked}
use Rattle.of_symbolic_run.proofs.Pairing.{no_elements}
use Rattle.of_diff.proofs.changing.push_all_asked.Goals as goal

pub loop-entry-init : goal.loop-entry-init
loop-entry-init c = record {
  whole = λ final more a over rewriting h.
      subst (λ (es : List Entry). AreMarkedAskedIn c.args.overlay.now.inner final a c.args.metadata (flows_of es) c.args.marks.now) c.into_iter-entry-iterator.ensures.into_iter_gives
      (subst (λ (ms : List Bool). AreMarkedAskedIn c.args.overlay.now.inner final a c.args.metadata (flows_of c.into_iter-entry-iterator.result) ms) c.iter-left.ensures.rest h);
  more = λ m there. there;
  conditions = λ h. h;
  few = (let same = ap length c.into_iter-entry-iterator.ensures.into_iter_gives in omega (arith, same));
}

pub returns-in_default-clause-asked : goal.returns-in_default-clause-asked
returns-in_default-clause-asked c = λ known a over rewriting.
    c.loop-entry.invariant.whole c.loop-entry.asked.items (λ m there. there) a over rewriting
    (subst (λ (ms : List Bool). AreMarkedAskedIn c.args.overlay.now.inner c.loop-entry.asked.items a c.args.metadata (flows_of c.loop-entry.entry-iterator) ms) (sym (no_elements (iter_rest c.loop-entry.left) c.in_default.ensures.steps.0)) (none_asked c.args.overlay.now.inner c.loop-entry.asked.items a c.args.metadata (flows_of c.loop-entry.entry-iterator)))

pub returns-then-not-branch-clause-conditions : goal.returns-then-not-branch-clause-conditions
returns-then-not-branch-clause-conditions c = λ old. c.in_ok-push_marked.ensures.conditions (c.loop-entry.invariant.conditions old)

pub loop-entry-preserved : goal.loop-entry-preserved
loop-entry-preserved c =
    let asked = c.push_marked.new.asked.items in
    let e = entry_of c.in-Some.entry.now in
    let mark = c.in-Some-next.mark.now in
    let flows = flows_of c.next.new.self in
    let marks = iter_rest c.next-in-loop-entry.new.self in
    record {
      whole = λ final more a over rewriting h.
          c.loop-entry.invariant.whole final (λ m there. more m (c.in_ok-push_marked.ensures.more m there)) a over rewriting
          (subst (λ (es : List Entry). AreMarkedAskedIn c.args.overlay.now.inner final a c.args.metadata (flows_of es) (iter_rest c.loop-entry.left)) (sym c.in-Some.ensures.steps)
          (subst (λ (ms : List Bool). AreMarkedAskedIn c.args.overlay.now.inner final a c.args.metadata (e ∷ flows) ms) (sym c.in-Some-next.ensures.steps)
          (one_asked c.args.overlay.now.inner final a c.args.metadata e flows mark marks (λ on. asked_more c.args.overlay.now.inner asked final a c.args.metadata e more (c.in_ok-push_marked.ensures.asked c.if-not-branch.false a over rewriting on)) h)));
      more = λ m there. c.in_ok-push_marked.ensures.more m (c.loop-entry.invariant.more m there);
      conditions = λ old. c.in_ok-push_marked.ensures.conditions (c.loop-entry.invariant.conditions old);
      few = (let left = ap length c.in-Some.ensures.steps in omega (arith, c.loop-entry.invariant.few, c.in_ok-push_marked.ensures.few, left));
    }

pub returns-clause-asked : goal.returns-clause-asked
returns-clause-asked c = λ known a over rewriting.
    c.loop-entry.invariant.whole c.loop-entry.asked.items (λ m there. there) a over rewriting
    (subst (λ (es : List Entry). AreMarkedAskedIn c.args.overlay.now.inner c.loop-entry.asked.items a c.args.metadata (flows_of es) (iter_rest c.loop-entry.left)) (sym c.in-None.ensures.steps.0) (no_entries_asked c.args.overlay.now.inner c.loop-entry.asked.items a c.args.metadata (iter_rest c.loop-entry.left)))

pub returns-in_default-clause-few : goal.returns-in_default-clause-few
returns-in_default-clause-few c known = omega (arith, c.loop-entry.invariant.few, length-map c.args.entries entry_of)

pub returns-clause-few : goal.returns-clause-few
returns-clause-few c known = omega (arith, c.loop-entry.invariant.few, length-map c.args.entries entry_of)

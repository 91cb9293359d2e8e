use Rattle.std.proofs.Common.{rules, sym, subst, ◌≡◌, ◌≤◌, true, List, ℕ, [], None, length}
use Rattle.of_actions.{specs.Actions.AreActions, specs.CanonicalActions.canonical_actions, proofs.ActionsAgain.canonical_encoded, proofs.ActionsAgain.canonical_short}
use Rattle.of_actions.proofs.action_writing.write_actions.Goals as goal

pub returns-clause-encoded : goal.returns-clause-encoded
returns-clause-encoded c =
    let text : c.put_actions.new.out.items ≡ canonical_actions c.args.actions.now = search rules in
    subst (λ (x : List ℕ). AreActions true [] x c.args.actions.now None) (sym text) (canonical_encoded true c.args.actions.now c.as_slice.ensures.served)

pub returns-clause-encoded_where_served : goal.returns-clause-encoded_where_served
returns-clause-encoded_where_served c =
    let text : c.put_actions.new.out.items ≡ canonical_actions c.args.actions.now = search rules in
    λ packet_out served. subst (λ (x : List ℕ). AreActions packet_out [] x c.args.actions.now None) (sym text) (canonical_encoded packet_out c.args.actions.now served)

pub returns-clause-short : goal.returns-clause-short
returns-clause-short c =
    let text : c.put_actions.new.out.items ≡ canonical_actions c.args.actions.now = search rules in
    subst (λ (x : List ℕ). length x ≤ 1536) (sym text) (canonical_short true c.args.actions.now c.as_slice.ensures.served).short

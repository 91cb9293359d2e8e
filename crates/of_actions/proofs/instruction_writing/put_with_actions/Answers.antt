use Rattle.std.proofs.Common.{ap, ◌∙◌, ◌∷◌, ◌++◌, [], true, ℕ, List, length, arith}
use Rattle.std.proofs.lemmas.List.{length-append}
use Rattle.of_actions.{specs.declared.action.Action.Action as AnAction, specs.CanonicalActions.canonical_actions, proofs.ActionsAgain.canonical_short, proofs.WithActions.with_actions_is}
use Rattle.of_actions.proofs.instruction_writing.put_with_actions.Goals as goal

pub overflow_cast-len : goal.overflow_cast-len
overflow_cast-len c =
    let text = c.in_ok-put_actions.ensures ∙ ap (λ (x : List ℕ). x ++ canonical_actions c.as_slice.result.now) c.in_ok-extend_from_slice.ensures.items in
    let head = 0 ∷ c.args.kind ∷ 0 ∷ 0 ∷ 0 ∷ 0 ∷ 0 ∷ 0 ∷ [] in
    let short = canonical_short true c.args.actions.now c.as_slice.ensures.served in
    omega (arith, ap length text, length-append (c.args.out.now.items ++ head) (canonical_actions c.as_slice.result.now), length-append c.args.out.now.items head, short.short, ap (λ (x : List AnAction). length (canonical_actions x)) c.as_slice.ensures.actions, c.len.ensures, c.len-start.ensures, c.put_actions.new.out.ok.0, c.args.out.now.ok.0)

pub returns : goal.returns
returns c =
    with_actions_is c.args.out.now.items (canonical_actions c.args.actions.now) c.extend_from_slice.new.self.items c.put_actions.new.out.items c.replace_u16.new.out.items c.args.kind _ _ c.in_ok-extend_from_slice.ensures.items (c.in_ok-put_actions.ensures ∙ ap (λ (x : List AnAction). c.extend_from_slice.new.self.items ++ canonical_actions x) c.as_slice.ensures.actions)
    (omega (arith, c.len.ensures, c.len-start.ensures, c.put_actions.new.out.ok.0, c.args.out.now.ok.0)) (omega (arith, c.len-start.ensures, c.args.out.now.ok.0)) c.replace_u16.ensures

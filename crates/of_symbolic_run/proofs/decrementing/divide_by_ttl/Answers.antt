use Rattle.std.proofs.Common.{List, subst}
use Rattle.of_symbolic_run.{specs.declared.dividing.Case.Case, specs.Decrementing.AddsExpired, specs.TimesToLive.expires, proofs.DecrementLemmas.divided, proofs.DecrementLemmas.divided_next}
use Rattle.of_symbolic_run.proofs.decrementing.divide_by_ttl.Goals as goal

pub returns-clause-cases : goal.returns-clause-cases
returns-clause-cases c w =
    let frames = c.args.frames.now in
    let state = c.args.state.now in
    let limit = c.ttl_limit-limit.result in
    let mid = c.push_expired.new.cases.items in
    divided w frames state limit c.ttl_limit-limit.ensures (record { frames = c.in_ok-outliving.field-0; state = c.in_ok-decremented.field-0 }) c.in_ok-outliving.ensures c.in_ok-decremented.ensures mid c.push.new.self.items c.in_ok-push.ensures.items
    (subst (λ (l : List Case). AddsExpired (expires limit) frames state l mid) c.new-cases.ensures.items c.in_ok-push_expired.ensures)

pub returns-clause-next : goal.returns-clause-next
returns-clause-next c w =
    let frames = c.args.frames.now in
    let state = c.args.state.now in
    let limit = c.ttl_limit-limit.result in
    let mid = c.push_expired.new.cases.items in
    divided_next w frames state (expires limit) c.requires.first (record { frames = c.in_ok-outliving.field-0; state = c.in_ok-decremented.field-0 }) c.in_ok-decremented.ensures mid c.push.new.self.items c.in_ok-push.ensures.items
    (subst (λ (l : List Case). AddsExpired (expires limit) frames state l mid) c.new-cases.ensures.items c.in_ok-push_expired.ensures)

use Rattle.std.{specs.Prelude.filter, proofs.Common.not, proofs.Common.false}
use Rattle.of_actions.specs.Supported.{is_supported}
use Rattle.of_action_set.{specs.Sets.rank, specs.Sets.is_output, proofs.Ranked.all-filter, proofs.Ranked.rising-filter, proofs.Kinded.few}
use Rattle.of_action_set.proofs.action_set.ActionSet.in_order.Goals as goal

pub returns-then-has_group-clause-served : goal.returns-then-has_group-clause-served
returns-then-has_group-clause-served c = rw (c.without_output.ensures, c.as_slice-actions.ensures) (all-filter (is_supported false) (λ a. not (is_output a)) c.args.self.now c.known.ensures.served)

pub returns-then-has_group-clause-few : goal.returns-then-has_group-clause-few
returns-then-has_group-clause-few c =
    rw (c.without_output.ensures, c.as_slice-actions.ensures)
    (few (filter (λ a. not (is_output a)) c.args.self.now) (rising-filter rank (λ a. not (is_output a)) c.args.self.now c.known.ensures.rising) (all-filter (is_supported false) (λ a. not (is_output a)) c.args.self.now c.known.ensures.served))

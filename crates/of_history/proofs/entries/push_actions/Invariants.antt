use Rattle.std.{specs.Prelude.IsTrue, specs.Prelude.false, specs.List.flat_map, specs.List.list_all, proofs.Common.◌≡◌, proofs.Common.◌++◌, proofs.Common.drop}
use Rattle.of_actions.specs.Supported.{is_supported}
use Rattle.of_machine.specs.declared.data.Step.TheVariants.{Act}
use Rattle.of_history.specs.Selected.{further_step}
use Rattle.of_history.proofs.entries.push_actions.Given as goal

abbrev pub invariant-loop-action : goal.invariant-loop-action
invariant-loop-action g l = record {
  served : IsTrue (list_all (is_supported false) (drop l.action-index l.actions));
  text : l.out.items ++ flat_map (λ a. further_step l.switch.core.forwarding (Act a)) (drop l.action-index l.actions)
      ≡ l.fn.out.items ++ flat_map (λ a. further_step l.switch.core.forwarding (Act a)) l.actions;
}

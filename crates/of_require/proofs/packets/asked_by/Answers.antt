use Rattle.std.proofs.Common.{List, subst}
use Rattle.of_actions.specs.declared.action.Action.{Action}
use Rattle.of_symbolic.specs.Overlays.{IsOverlay}
use Rattle.of_require.proofs.packets.asked_by.Goals as goal

pub returns-clause-unknown : goal.returns-clause-unknown
returns-clause-unknown c is = record {
  overlay = c.in_ok-overlay.overlay;
  tells = c.in_ok-overlay.ensures.inner;
  is = subst (λ (l : List Action). IsOverlay c.in_ok-overlay.overlay l) c.rewrites_of-rewrites.ensures c.in_ok-overlay.ensures.is;
  unknown = c.in_ok-asked.ensures.unknown is;
}

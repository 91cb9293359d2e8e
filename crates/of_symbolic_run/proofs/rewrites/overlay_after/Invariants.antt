use Rattle.std.proofs.Common.{◌≡◌, take}
use Rattle.of_symbolic.specs.Overlays.{IsOverlay}
use Rattle.of_symbolic_run.proofs.rewrites.overlay_after.Given as goal

abbrev pub invariant-loop-action : goal.invariant-loop-action
invariant-loop-action l = IsOverlay l.overlay (take l.action-index l.actions) × (l.overlay.inner ≡ l.inner)

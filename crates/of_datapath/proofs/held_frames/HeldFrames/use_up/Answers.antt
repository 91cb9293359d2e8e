use Rattle.std.proofs.Common.{ap, ◌∙◌}
use Rattle.of_datapath.{specs.Buffers.HeldFrames, proofs.Circle.used_past}
use Rattle.of_datapath.proofs.held_frames.HeldFrames.use_up.Goals as goal

pub returns-in_default-get_mut : goal.returns-in_default-get_mut
returns-in_default-get_mut c = c.self.view_is ∙ used_past c.args.id c.in-Some.since c.args.self.now c.self.inside.places.items c.in-Some.ensures c.in_default-get_mut.ensures.value (ap (λ (b : HeldFrames). b.places) c.self.view_is)

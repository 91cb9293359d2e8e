use Rattle.std.proofs.Common.{ap, rules}
use Rattle.of_datapath.{specs.Buffers.HeldFrames, proofs.Circle.held_there, proofs.Circle.held_past}
use Rattle.of_datapath.proofs.held_frames.HeldFrames.frame.Goals as goal

pub returns-in_err-get : goal.returns-in_err-get
returns-in_err-get c = search (rules, held_past c.args.id c.in_ok-since.since c.args.self.now c.self.inside.places.items c.in_ok-since.ensures c.in_err-get.ensures (ap (λ (b : HeldFrames). b.places) c.self.view_is))

pub returns : goal.returns
returns c = search (rules, held_there c.args.id c.in_ok-since.since c.args.self.now c.self.inside.places.items _ c.in_ok-since.ensures c.in_ok-get.ensures (ap (λ (b : HeldFrames). b.places) c.self.view_is))

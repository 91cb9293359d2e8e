use Rattle.std.proofs.Common.{◌≡◌, ◌∙◌, true}
use Rattle.of_layers.specs.Reading.{layers_of}
use Rattle.of_symbolic.specs.Parts.{may_tell}
use Rattle.of_symbolic_run.proofs.InnerFrameLemmas.{nothing_put, number_put}
use Rattle.of_symbolic_run.proofs.frame_set.FrameSet.described_by.Goals.{then-packet-ne0+in_ok-put_below, else-packet-ne0}
use Rattle.of_symbolic_run.proofs.frame_set.FrameSet.described_by.Goals as goal

pub returns-clause-is : goal.returns-clause-is
returns-clause-is c =
    let p = c.args.packet in
    let s = c.args.self.now in
    let tells : may_tell s.inner (layers_of p.frame.items).tags p.metadata ≡ true = s.told p.frame.items p.in_port p.metadata c.requires.received.frame_is c.requires.received.metadata_fits c.requires.within in
    elim c.if-packet-ne0.branch [
      | then-packet-ne0+in_ok-put_below w ↦
          (number_put s.inner p.frame.items c.if-packet-ne0.frame p.in_port p.metadata c.requires.received.frame_is c.requires.short tells w.if-packet-ne0.true (w.frame-is ∙ rw c.new-frame.ensures at w.in_ok-put_below.ensures.frame)).0
      | else-packet-ne0 w ↦ (nothing_put s.inner p.frame.items c.if-packet-ne0.frame p.in_port p.metadata c.requires.received.frame_is c.requires.short w.if-packet-ne0.false (w.frame-is ∙ c.new-frame.ensures)).0
    ]

pub returns-clause-same : goal.returns-clause-same
returns-clause-same c =
    let p = c.args.packet in
    let s = c.args.self.now in
    let tells : may_tell s.inner (layers_of p.frame.items).tags p.metadata ≡ true = s.told p.frame.items p.in_port p.metadata c.requires.received.frame_is c.requires.received.metadata_fits c.requires.within in
    elim c.if-packet-ne0.branch [
      | then-packet-ne0+in_ok-put_below w ↦
          (number_put s.inner p.frame.items c.if-packet-ne0.frame p.in_port p.metadata c.requires.received.frame_is c.requires.short tells w.if-packet-ne0.true (w.frame-is ∙ rw c.new-frame.ensures at w.in_ok-put_below.ensures.frame)).1
      | else-packet-ne0 w ↦ (nothing_put s.inner p.frame.items c.if-packet-ne0.frame p.in_port p.metadata c.requires.received.frame_is c.requires.short w.if-packet-ne0.false (w.frame-is ∙ c.new-frame.ensures)).1
    ]

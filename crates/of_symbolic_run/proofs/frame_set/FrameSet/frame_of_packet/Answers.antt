use Rattle.std.proofs.Common.{◌≡◌, ◌∙◌, rules}
use Rattle.of_regions.specs.Witness.{fields_in}
use Rattle.of_symbolic_run.proofs.FrameLemmas.{made_frame}
use Rattle.of_symbolic_run.proofs.frame_set.FrameSet.frame_of_packet.Goals as goal

pub returns : goal.returns
returns c steps =
    let packet = c.args.packet in
    let copied : c.in_ok-frame-2.frame.items ≡ c.bytes.result.now = search rules in
    made_frame c.args.self.now packet.in_port (fields_in packet) c.in_ok-frame.frame c.fit_ttl.new.frame c.in_ok-frame-2.frame.items c.requires.within c.in_ok-frame.ensures.same c.in_ok-frame.ensures.short c.fit_ttl.ensures.is c.fit_ttl.ensures.long
    c.requires.received.ingress c.fit_ttl.ensures.ttl (c.fit_ttl.ensures.same packet.in_port) (copied ∙ c.bytes.ensures.bytes)

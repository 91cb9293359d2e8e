use Rattle.std.proofs.Common.{sym, ◌∙◌, ◌≡◌, Some, rules}
use Rattle.of_layers.specs.Reading.{layers_of}
use Rattle.of_rewrite.specs.TimeToLive.{ttl_of}
use Rattle.of_symbolic_run.proofs.FrameLemmas.{ttl_fields, ttl_fits, ttl_is_frame}
use Rattle.of_symbolic_run.proofs.frame_set.FrameSet.fit_ttl.Goals as goal

pub returns-in-Some-clause-is : goal.returns-in-Some-clause-is
returns-in-Some-clause-is c = rw c.set_ttl.ensures.frame (ttl_is_frame c.args.frame.now c.args.self.now.ttl_from c.requires)

pub returns-in-Some-clause-ttl : goal.returns-in-Some-clause-ttl
returns-in-Some-clause-ttl c =
    let is : ttl_of (layers_of c.args.frame.now) ≡ Some c.in-Some.ttl = sym c.ttl.ensures ∙ c.in-Some.is in
    rw c.set_ttl.ensures.frame (ttl_fits c.args.frame.now c.in-Some.ttl c.args.self.now.ttl_from c.args.self.now.ttl_to c.requires is c.args.self.now.range (search rules))

pub returns-in-Some-clause-same : goal.returns-in-Some-clause-same
returns-in-Some-clause-same c port = rw c.set_ttl.ensures.frame (ttl_fields c.args.self.now.inner c.args.frame.now c.args.self.now.ttl_from port c.requires (ttl_is_frame c.args.frame.now c.args.self.now.ttl_from c.requires))

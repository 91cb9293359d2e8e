use Rattle.std.proofs.Common.{subst, inr}
use Rattle.of_symbolic_run.specs.{FrameSets.AreFramesOrNone, TimesToLive.expires}
use Rattle.of_symbolic_run.proofs.decrementing.push_expired.Goals as goal

pub returns-in_ok-push-in-Some : goal.returns-in_ok-push-in-Some
returns-in_ok-push-in-Some c =
    inr (
      record { frames = c.in-Some.frames; state = c.in_ok-state-in-Some.state },
      c.in_ok-push-in-Some.ensures.items,
      record {
        frames_are = subst (AreFramesOrNone (expires c.args.limit) c.args.frames.now) c.in-Some.is c.in_ok-expiring.ensures;
        state_is = c.in_ok-state-in-Some.ensures;
      },
    )

use Rattle.std.proofs.Common.{refl}
use Rattle.of_symbolic_run.proofs.StepLemmas.{alike_rewrites, is_done, rewrites}
use Rattle.of_symbolic_run.proofs.state.SymbolicTask.rewrite_frame_by.Goals as goal

pub push-requires : goal.push-requires
push-requires c = alike_rewrites c.args.action c.requires.alike

pub returns-clause-answer : goal.returns-clause-answer
returns-clause-answer c = is_done c.args.action c.requires.alike

pub returns-clause-takes : goal.returns-clause-takes
returns-clause-takes c emitted = rewrites c.args.self.now (record { packet = record c.args.self.now.packet { rewrites = c.push.new.self }; work = c.remove.new.self }) emitted refl refl refl refl refl c.remove.ensures.items c.args.action c.requires.alike c.requires.first c.in_ok-push.ensures.ok

use Rattle.of_replay.proofs.{Early.early_as, Lines.plain_is, WholeRuns.replays_plain}
use Rattle.of_switch.specs.State.{start}
use Rattle.of_replay.proofs.event_file.replay.Goals as goal

pub returns-clause-output : goal.returns-clause-output
returns-clause-output g c = replays_plain (start c.args.dpid) c.print_file.result _ _ _ _ (g.W.Sink.taken c.args.writer.now) (g.W.Sink.taken c.print_file.new.writer) c.print_file.ensures.output

pub returns-clause-early : goal.returns-clause-early
returns-clause-early g c = early_as _ _ _ _ _ _ (λ lines. plain_is lines (start c.args.dpid)) c.print_file.ensures.early

use Rattle.std.proofs.Common.{◌≡◌, ◌≤◌, ◌+◌, ◌-◌, ◌++◌, ℕ, List, [], Option, length, drop}
use Rattle.of_switch.specs.State.{State}
use Rattle.of_replay.specs.{Stepping.Within, Stepping.WithinChunk, Transfer.Grows}
use Rattle.of_replay.proofs.replaying.Replaying.play_chunk.Given as goal

abbrev pub invariant-loop-len : goal.invariant-loop-len
invariant-loop-len g l = record {
  place : l.at ≤ length l.chunk;
  few : l.self.number ≤ l.fn.self.number + l.at;
  failures : g.W.Sink.failures l.writer ≡ 0;
  grows : Grows (g.W.Sink.taken l.fn.writer) (g.W.Sink.taken l.writer);
  within : (begun : State) (bytes : List ℕ) (first : Option (List ℕ)) → Within begun g.T.RowPrinter.tale bytes [] l.fn.self.open l.fn.self.number l.fn.self.switch l.fn.self.printer first (g.W.Sink.taken l.fn.writer)
      → WithinChunk begun g.T.RowPrinter.tale bytes (bytes ++ l.chunk) (drop l.at l.chunk) l.self.open l.self.number l.self.switch l.self.printer first (g.W.Sink.taken l.writer);
}

abbrev pub decreases-loop-len : goal.decreases-loop-len
decreases-loop-len g l = length l.chunk - l.at

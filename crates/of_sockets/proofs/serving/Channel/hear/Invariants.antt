use Rattle.std.specs.Prelude.{◌≡◌, length}
use Rattle.of_sockets.proofs.serving.Channel.hear.Given as goal

abbrev pub invariant-loop : goal.invariant-loop
invariant-loop l = length l.buffer ≡ 65536

use Rattle.std.proofs.Common.{◌+◌}
use Rattle.of_replay.proofs.MemoryLemmas.{given-told}
use Rattle.of_replay.proofs.memory.MemorySourceSource.read.Goals as goal

pub returns-then-fails_now-clause-given : goal.returns-then-fails_now-clause-given
returns-then-fails_now-clause-given c =
    given-told c.args.self.now.bytes.items c.args.self.now.lengths.items _ c.args.self.now.ends (c.args.self.now.failures + 1) c.args.self.now.place

pub returns-then-self-len-clause-given : goal.returns-then-self-len-clause-given
returns-then-self-len-clause-given c =
    given-told c.args.self.now.bytes.items c.args.self.now.lengths.items _ (c.args.self.now.ends + 1) c.args.self.now.failures c.args.self.now.place

pub returns-clause-given : goal.returns-clause-given
returns-clause-given c =
    given-told c.give.new.self.bytes.items c.give.new.self.lengths.items _ c.give.new.self.ends c.give.new.self.failures c.give.new.self.place

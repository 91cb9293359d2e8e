use Rattle.std.{specs.List.sum, proofs.Common.arith, proofs.lemmas.List.length-take}
use Rattle.of_replay.proofs.MemoryLemmas.{told-more, read-front}
use Rattle.of_replay.proofs.memory.MemorySource.give.Goals as goal

pub returns-clause-told : goal.returns-clause-told
returns-clause-told c =
    rw c.in-Ok.ensures.items (told-more c.args.self.now.bytes.items c.args.self.now.lengths.items c.min-count.result c.args.self.now.ends c.args.self.now.failures _ (c.args.self.now.ended c.requires.left) c.requires.well
    (read-front c.copy_from_slice.new.self _ c.deref.result.now c.args.self.now.bytes.items c.args.self.now.at c.min-count.result (sum c.args.self.now.lengths.items)
    c.copy_from_slice.ensures.after c.deref.ensures.value c.args.self.now.place
    (omega (arith, c.copy_from_slice.ensures.len, length-take c.min-count.result c.args.buffer.now))))

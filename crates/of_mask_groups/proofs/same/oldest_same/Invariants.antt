use Rattle.std.proofs.Common.{take}
use Rattle.of_mask_groups.specs.SameEntry.{IsOldestAmong}
use Rattle.of_mask_groups.proofs.same.oldest_same.Given as goal

-- the oldest of those before
abbrev pub invariant-loop-number : goal.invariant-loop-number
invariant-loop-number l = IsOldestAmong l.entries (take l.number-index l.numbers) l.fields l.priority l.oldest

use Rattle.std.proofs.Common.{length}
use Rattle.of_frame_words.proofs.fields.+is_ascending.Given as goal

abbrev pub decreases-is_ascending : goal.decreases-is_ascending
decreases-is_ascending l = length l.fields.now

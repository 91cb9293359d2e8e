use Rattle.std.proofs.Common.{◌≡◌, drop}
use Rattle.of_headers.specs.FieldMap.{value}
use Rattle.of_frame_words.specs.Frames.{at_port, set_by}
use Rattle.of_frame_words.proofs.said.key_said.Given as goal

abbrev pub invariant-loop-e : goal.invariant-loop-e
invariant-loop-e l = set_by (drop l.e-index l.settings) (value l.key) ≡ set_by l.settings (at_port l.fn.port)

use Rattle.std.proofs.Common.{◌∙◌, ap, arith}
use Rattle.of_layers.specs.Fields.{row_of}
use Rattle.of_headers.specs.FieldMap.{value}
use Rattle.of_frame_words.{specs.Frames.at_port, proofs.SaidLemmas.key_at_is}
use Rattle.of_frame_words.proofs.said.key_at.Goals as goal

pub returns : goal.returns
returns c = key_at_is c.from.result (value c.empty.result) (value c.with.result) c.empty.ensures c.with.ensures ∙ ap at_port c.from.ensures

pub with-requires : goal.with-requires
unfolding row_of
with-requires c = omega (arith, c.from.ensures)

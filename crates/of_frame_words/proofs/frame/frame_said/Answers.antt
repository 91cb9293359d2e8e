use Rattle.std.proofs.Common.{arith}
use Rattle.of_regions.proofs.WitnessLemmas.{few_bytes}
use Rattle.of_frame_words.proofs.SaidLemmas.{received_is}
use Rattle.of_frame_words.proofs.frame.frame_said.Goals as goal

pub returns-clause-received : goal.returns-clause-received
returns-clause-received c = received_is c.key_said-key.result _ _ _ _ c.key_said-key.ensures c.shape_of-shape.ensures c.tagging_of.ensures c.in_ok-frame.ensures.bytes

pub returns-clause-frame : goal.returns-clause-frame
returns-clause-frame c = let few = few_bytes c.shape_of-shape.result c.tagging_of.result in (c.in_ok-frame.ensures.frame, rw c.in_ok-frame.ensures.size (omega (arith, few)))

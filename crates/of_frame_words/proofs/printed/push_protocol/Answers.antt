use Rattle.of_frame_words.proofs.PrintedLemmas.{protocol_is}
use Rattle.of_frame_words.proofs.printed.push_protocol.Goals as goal

pub returns : goal.returns
returns c = protocol_is c.push_shape.result c.args.key.now c.shape_of.result c.args.out.now.items c.push_shape.new.out.items c.shape_of.ensures c.push_shape.ensures

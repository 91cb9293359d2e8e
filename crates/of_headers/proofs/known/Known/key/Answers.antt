use Rattle.of_layers.specs.Reading.{layers_of}
use Rattle.of_headers.proofs.known.Known.key.Goals as goal

pub returns-in-Fields : goal.returns-in-Fields
returns-in-Fields c = c.received.ensures (layers_of c.args.frame.now) 0 0 (rw c.in-Fields.is at c.requires.known).1

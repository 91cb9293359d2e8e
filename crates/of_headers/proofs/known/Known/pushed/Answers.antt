use Rattle.std.proofs.Common.{sym, ◌∙◌, ap}
use Rattle.of_layers.specs.Reading.{layers_of}
use Rattle.of_headers.specs.Places.{layout_of}
use Rattle.of_headers.proofs.known.Known.pushed.Goals as goal

pub returns-in-Places-clause-known : goal.returns-in-Places-clause-known
returns-in-Places-clause-known c = λ kind s t room known new. c.pushed.ensures kind (layers_of s) room (rw c.in-Places.is at known) ∙ sym (ap layout_of new)

pub returns-in-Fields-clause-known : goal.returns-in-Fields-clause-known
returns-in-Fields-clause-known c = λ kind s t room known new. c.pushed-in-Fields.ensures kind (layers_of s) room (rw c.in-Fields.is at known).0 ∙ sym (ap layout_of new)

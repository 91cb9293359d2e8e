-- What is said of fields.
use Rattle.std.proofs.Common.{◌≡◌, false, List, [], refl}
use Rattle.of_layers.specs.declared.field.Field.{Field}
use Rattle.of_table.specs.{declared.entry.Entry.Entry, Entries.flows_of}
use Rattle.of_trace.specs.Notes.{looks_at}

pub none_here : (f : Field) (es : List Entry) → es ≡ [] → looks_at (flows_of es) f ≡ false
none_here f es none = rw none refl

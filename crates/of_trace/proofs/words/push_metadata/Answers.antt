use Rattle.std.specs.Prelude.{Some, codes}
use Rattle.of_layers.specs.declared.field.Field.TheVariants as fields
use Rattle.of_values.specs.Values.{value_words}
use Rattle.of_trace.proofs.NotingLemmas.{both}
use Rattle.of_trace.proofs.words.push_metadata.Goals as goal

pub returns : goal.returns
returns c =
    both c.push_value_words.result c.args.out.now.items c.extend_from_slice.new.self.items c.push_value_words.new.out.items (codes "write metadata ") (value_words fields.Metadata c.args.value (Some c.args.mask)) c.in_ok-extend_from_slice.ensures.items
    (rw (c.from.ensures, c.from-2.ensures) at c.push_value_words.ensures)

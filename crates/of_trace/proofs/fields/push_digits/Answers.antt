use Rattle.std.{specs.Prelude.bit_and, proofs.lemmas.Nat.and_le_r}
use Rattle.of_layers.{specs.Fields.ones_of, proofs.Table.value_below}
use Rattle.of_trace.proofs.fields.push_digits.Goals as goal

pub push_value-requires : goal.push_value-requires
push_value-requires c =
    rw c.row.ensures.row (value_below c.args.field (bit_and c.args.number (ones_of c.args.field)) (and_le_r c.args.number (ones_of c.args.field)))

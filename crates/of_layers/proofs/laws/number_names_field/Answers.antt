use Rattle.of_layers.proofs.Table.{field_at-number_of, number_of-field_at}
use Rattle.of_layers.proofs.laws.number_names_field.Goals as goal

pub returns : goal.returns
returns c = record { named = field_at-number_of; only = number_of-field_at }

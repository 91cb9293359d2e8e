use Rattle.of_laws.proofs.FrameValues.{values_within}
use Rattle.of_laws.proofs.fields.values_within_their_bits.Goals as goal

pub returns : goal.returns
returns c = values_within

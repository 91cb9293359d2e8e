-- The fields that each frame has (OpenFlow 1.3.5, 7.2.3.7).
use Rattle.std.specs.Prelude.{List, [], ◌∷◌}
use Rattle.of_layers.specs.declared.field.Field.TheVariants.{InPort, Metadata, EthDst, EthSrc, EthType, VlanVid}
use Rattle.of_layers.specs.declared.field.Field.{Field}

abbrev pub always : List Field
always = InPort ∷ Metadata ∷ EthDst ∷ EthSrc ∷ EthType ∷ VlanVid ∷ []

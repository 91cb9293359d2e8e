-- What a key is given of a frame, beside the headers as the standards draw them.
use Rattle.std.specs.Prelude.{List, [], ◌∷◌}
use Rattle.of_layers.specs.declared.field.Field.TheVariants.{InPort, Metadata, EthDst, EthSrc, VlanVid, VlanPcp}
use Rattle.of_layers.specs.Layers.{Item, named}

-- of a frame without tags, but for its type
abbrev pub untagged : List Item
untagged = named InPort 32 ∷ named Metadata 64 ∷ named EthDst 48 ∷ named EthSrc 48 ∷ named VlanVid 13 ∷ []

-- of the outermost tag
abbrev pub tagged : List Item
tagged = named VlanVid 13 ∷ named VlanPcp 3 ∷ []

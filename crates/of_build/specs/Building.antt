-- EVENT FILES THAT BUILD A CONFIGURATION on a new switch: a controller connects, says HELLO, and sends the messages of the configuration.
use Rattle.std.specs.Prelude.{◌≡◌, ℕ, List, [], ◌∷◌, ◌++◌, codes}
use Rattle.std.specs.List.{flat_map}
use Rattle.hex.specs.Hex.{encode_lower}
use Rattle.of_text.specs.{Lines.lines_of, Configs.Configuration, Configs.EncodeConfig}
use Rattle.of_build.specs.Listing.{messages_of}

-- the row of a chunk of the controller's bytes
abbrev pub chunk_line : List ℕ → List ℕ
chunk_line bytes = codes "c " ++ encode_lower bytes ++ 10 ∷ []

-- a HELLO of version 4 without elements (7.5.1)
abbrev pub hello : List ℕ
hello = 4 ∷ 0 ∷ 0 ∷ 8 ∷ 0 ∷ 0 ∷ 0 ∷ 0 ∷ []

-- THE FILE of a configuration: a connection, the HELLO, and a row for each message of the configuration
unfoldable pub build_text : Configuration → List ℕ
build_text c = codes "connect\n" ++ (chunk_line hello ++ flat_map chunk_line (messages_of c))

-- THE FILE OF A TEXT: that of the configuration that the text encodes
pub record BuildsOf (text file : List ℕ) : Type 0 where
  pub config : Configuration
  pub encoded : EncodeConfig (lines_of text) config
  pub is : file ≡ build_text config

-- Layers with a VLAN tag pushed or popped (OpenFlow 1.3.5, 5.12).
use Rattle.std.specs.Prelude.{ℕ, List, [], ◌∷◌, slice_index}
use Rattle.of_layers.specs.Layers.{Layers}

-- The tag that is pushed before these: type, PCP, DEI, VID. PCP and VID are those of the outermost tag (5.12.1); DEI is 0.
abbrev pub tag_before : ℕ → List (List ℕ) → List ℕ
tag_before type [] = type ∷ 0 ∷ 0 ∷ 0 ∷ []
tag_before type (t ∷ ts) = type ∷ slice_index t 1 ∷ 0 ∷ slice_index t 3 ∷ []

abbrev pub pushed : ℕ → Layers → Layers
pushed type l = record l { tags = tag_before type l.tags ∷ l.tags }

-- all but the outermost
abbrev pub inner_tags : List (List ℕ) → List (List ℕ)
inner_tags [] = []
inner_tags (t ∷ ts) = ts

abbrev pub popped : Layers → Layers
popped l = record l { tags = inner_tags l.tags }

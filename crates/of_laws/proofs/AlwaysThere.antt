-- What every frame has: its port and the metadata, VLAN_VID by definition, and the numbers of its addresses and its type.
use Rattle.std.proofs.Common.{ℕ, List, [], ◌∷◌, ◌++◌, Option, Some, None, IsSome, refl, sym, subst}
use Rattle.std.{specs.List.All, specs.Option.option_or, proofs.lemmas.List.Elements.All-nil, proofs.lemmas.List.Elements.All-cons}
use Rattle.of_layers.specs.declared.field.Field.TheVariants.{InPort, Metadata, EthDst, EthSrc, EthType, VlanVid}
use Rattle.of_layers.specs.Layers.{Cell, Layers, cells_in, tag_cells, body_cells, addresses, ether_type, cells}
use Rattle.of_layers.specs.{declared.field.Field.Field, Fields.row_of, Fields.number_of, Looking.look_up, Looking.look, Reading.layers_of}
use Rattle.of_headers.{specs.FieldMap.field_map, proofs.LookLemmas.look-append}
use Rattle.of_laws.specs.Always.{always}

-- ---- after other cells

some_behind : (a b : Option ℕ) → IsSome b → IsSome (option_or a b)
some_behind None b h = h
some_behind (Some a) b h = refl

-- a number that comes after other cells is found, if none before it is
found_behind : (n : ℕ) (a b : List Cell) → IsSome (look_up n b) → IsSome (look_up n (a ++ b))
found_behind n a b h = subst IsSome (sym (look-append n a b)) (some_behind (look_up n a) (look_up n b) h)

-- ---- the three numbers that each frame has

destination_there : (frame : List ℕ) → IsSome (look EthDst (cells (layers_of frame)))
unfolding layers_of row_of
destination_there frame = refl

source_there : (frame : List ℕ) → IsSome (look EthSrc (cells (layers_of frame)))
unfolding layers_of row_of
source_there frame = refl

-- no tag has this name, and if one had, a number of it would be found there
type_there : (l : Layers) → IsSome (look EthType (cells l))
unfolding row_of
type_there l =
    found_behind (number_of EthType) (cells_in addresses l.ends) (tag_cells l.tags ++ (cells_in ether_type (l.type ∷ []) ++ body_cells l.body))
    (found_behind (number_of EthType) (tag_cells l.tags) (cells_in ether_type (l.type ∷ []) ++ body_cells l.body) refl)

-- ---- all of them

pub always_there : (frame : List ℕ) (port metadata : ℕ) → All (λ f. IsSome (field_map (layers_of frame) port metadata f)) always
always_there frame port metadata =
    let There : Field → Type 0 = λ f. IsSome (field_map (layers_of frame) port metadata f) in
    All-cons There InPort (Metadata ∷ EthDst ∷ EthSrc ∷ EthType ∷ VlanVid ∷ []) refl
    (All-cons There Metadata (EthDst ∷ EthSrc ∷ EthType ∷ VlanVid ∷ []) refl
    (All-cons There EthDst (EthSrc ∷ EthType ∷ VlanVid ∷ []) (destination_there frame)
    (All-cons There EthSrc (EthType ∷ VlanVid ∷ []) (source_there frame)
    (All-cons There EthType (VlanVid ∷ []) (type_there (layers_of frame))
    (All-cons There VlanVid [] refl (All-nil There))))))

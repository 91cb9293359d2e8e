-- A frame has a TTL exactly if it has IP_DSCP.
use Rattle.std.proofs.Common.{◌≡◌, ℕ, Bool, true, false, cond, List, [], ◌∷◌, ◌++◌, Option, Some, None, refl, sym, ap, ◌∙◌}
use Rattle.std.specs.{Prelude.◌||◌, Prelude.is_some, Option.option_or}
use Rattle.of_layers.specs.Layers.{Body, Plain, Arp, Ipv4, Ipv6, Cell, Extension, Item, Layers, addresses, arp, body_cells, byte_cells, carried_cells, cells, cells_in, ether_type, extension_cells, inner_cells, inner_tag, ipv4, ipv6, next_before, outer_tag, tag_cells, ttl}
use Rattle.of_layers.specs.{declared.field.Field.TheVariants.IpDscp, Fields.row_of, Fields.number_of, Looking.look, Looking.look_up, Looking.name_is, Reading.layers_of}
use Rattle.of_layers.{specs.WellFormed.FitsItems, specs.WellFormed.IsBody, specs.WellFormed.IsLayers, proofs.FrameLemmas.are_layers, proofs.FrameLemmas.frame_encoded}
use Rattle.of_headers.proofs.LookLemmas.{lacks, look-append, look_bytes, look_front, no_name}
use Rattle.of_rewrite.{specs.Frames.IsFrame, specs.Frames.frame_ttl_decremented, specs.TimeToLive.ttl_of, proofs.Framing.bytes_are, proofs.Framing.is_aged}

abbrev is_ip : Body → Bool
is_ip (Ipv4 ns opts c rest) = true
is_ip (Ipv6 ns es c rest) = true
is_ip other = false

some_before : (o x : Option ℕ) → is_some o ≡ true → is_some (option_or o x) ≡ true
some_before None x h = absurd cc
some_before (Some v) x h = refl

found_before : (n : ℕ) (a b : List Cell) → is_some (look_up n a) ≡ true → is_some (look_up n (a ++ b)) ≡ true
found_before n a b h = ap is_some (look-append n a b) ∙ some_before (look_up n a) (look_up n b) h

none_before : (n : ℕ) (a b : List Cell) → look_up n a ≡ None → look_up n (a ++ b) ≡ look_up n b
none_before n a b h = look-append n a b ∙ ap (λ (o : Option ℕ). option_or o (look_up n b)) h

-- a name among the items of a header
abbrev names : ℕ → List Item → Bool
names n [] = false
names n (i ∷ is) = name_is n i.name || names n is

by_name : (b more : Bool) (v : ℕ) (rest : Option ℕ) → (b || more) ≡ true → (more ≡ true → is_some rest ≡ true) → is_some (cond b (Some v) rest) ≡ true
by_name true more v rest h later = refl
by_name false more v rest h later = later h

some_named : (n : ℕ) (is : List Item) (ns : List ℕ) → FitsItems is ns → names n is ≡ true → is_some (look_up n (cells_in is ns)) ≡ true
some_named n [] ns fits h = absurd cc
some_named n (i ∷ is) [] fits h = absurd fits
some_named n (i ∷ is) (v ∷ ns) fits h = by_name (name_is n i.name) (names n is) v (look_up n (cells_in is ns)) h (some_named n is ns fits.1)

module _ (n : ℕ) (no_addresses : lacks n addresses ≡ true) (no_tag : lacks n outer_tag ≡ true) (no_type : lacks n ether_type ≡ true) (no_arp : lacks n arp ≡ true) (in_ipv4 : names n ipv4 ≡ true) (in_ipv6 : (es : List Extension) → names n (ipv6 (next_before es)) ≡ true) where
  no_inner : (ts : List (List ℕ)) → look_up n (inner_cells ts) ≡ None
  no_inner [] = refl
  no_inner (t ∷ ts) = none_before n (cells_in inner_tag t) (inner_cells ts) (no_name n inner_tag t refl) ∙ no_inner ts

  no_tags : (ts : List (List ℕ)) → look_up n (tag_cells ts) ≡ None
  no_tags [] = refl
  no_tags (t ∷ ts) = none_before n (cells_in outer_tag t) (inner_cells ts) (no_name n outer_tag t no_tag) ∙ no_inner ts

  in_body : (type : ℕ) (b : Body) → IsBody type b → is_some (look_up n (body_cells b)) ≡ is_ip b
  in_body type (Plain rest) h = ap is_some (look_bytes n rest)
  in_body type (Arp ns rest) h = ap is_some (look_front n (cells_in arp ns) rest ∙ no_name n arp ns no_arp)
  in_body type (Ipv4 ns opts c rest) h = found_before n (cells_in ipv4 ns) (byte_cells opts ++ (carried_cells c ++ byte_cells rest)) (some_named n ipv4 ns h.1.numbers in_ipv4)
  in_body type (Ipv6 ns es c rest) h = found_before n (cells_in (ipv6 (next_before es)) ns) (extension_cells es ++ (carried_cells c ++ byte_cells rest)) (some_named n (ipv6 (next_before es)) ns h.1.numbers (in_ipv6 es))

  in_frame : (l : Layers) → IsLayers l → is_some (look_up n (cells l)) ≡ is_ip l.body
  in_frame l h =
      ap is_some (none_before n (cells_in addresses l.ends) (tag_cells l.tags ++ (cells_in ether_type (l.type ∷ []) ++ body_cells l.body)) (no_name n addresses l.ends no_addresses)
      ∙ none_before n (tag_cells l.tags) (cells_in ether_type (l.type ∷ []) ++ body_cells l.body) (no_tags l.tags)
      ∙ none_before n (cells_in ether_type (l.type ∷ [])) (body_cells l.body) (no_name n ether_type (l.type ∷ []) no_type))
      ∙ in_body l.type l.body h.body

next_either : (P : Item → Type 0) (es : List Extension) → ((n : ℕ) → P (next_before [])) → ((e : Extension) (rest : List Extension) → P (next_before (e ∷ rest))) → P (next_before es)
next_either P [] a b = a 0
next_either P (e ∷ es) a b = b e es

ttl_some : (l : Layers) → IsLayers l → is_some (ttl_of l) ≡ is_ip l.body
unfolding row_of
ttl_some = in_frame ttl refl refl refl refl refl (λ es. next_either (λ (i : Item). names ttl (ipv6 i) ≡ true) es (λ n. refl) (λ e rest. refl))

dscp_some : (l : Layers) → IsLayers l → is_some (look IpDscp (cells l)) ≡ is_ip l.body
unfolding row_of
dscp_some = in_frame (number_of IpDscp) refl refl refl refl refl (λ es. next_either (λ (i : Item). names (number_of IpDscp) (ipv6 i) ≡ true) es (λ n. refl) (λ e rest. refl))

pub ttl_or_none : (frame : List ℕ) → IsFrame frame → is_some (look IpDscp (cells (layers_of frame))) ≡ is_some (ttl_of (layers_of frame))
ttl_or_none frame h = let l = are_layers frame h.1 h.0 in dscp_some (layers_of frame) l ∙ sym (ttl_some (layers_of frame) l)

-- without a TTL a frame stays
pub none_decremented : (frame : List ℕ) → IsFrame frame → ttl_of (layers_of frame) ≡ None → frame_ttl_decremented frame ≡ frame
none_decremented frame h none = sym (is_aged frame frame None (sym none) (bytes_are (cells (layers_of frame)) frame h.1 (frame_encoded frame h.1 h.0)))

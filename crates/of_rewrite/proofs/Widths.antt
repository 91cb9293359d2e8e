-- How many bits the cell of a field has.
use Rattle.std.proofs.Common.{◌≡◌, ℕ, ◌%◌, ◌^◌, ◌<◌, Bool, true, false, cond, eqb, ◌&&◌, List, [], ◌∷◌, ◌++◌, Some, refl, ap}
use Rattle.std.{specs.Prelude.◌||◌, specs.Prelude.not, specs.Prelude.IsTrue, specs.Option.option_map, proofs.lemmas.Bool.eqb-true}
use Rattle.of_layers.specs.declared.field.Field.TheVariants.{InPort, Metadata, EthType, IpProto, VlanVid}
use Rattle.of_layers.specs.Layers.{Item, Cell, Carried, Extension, Options, Fragment, Body, Plain, Arp, Ipv4, Ipv6, Layers, cells_in, byte_cells, inner_cells, tag_cells, extension_cells, carried_cells, body_cells, cells, next_before, addresses, outer_tag, inner_tag, ether_type, arp, ipv4, ipv6, options, fragment, items_of, ttl}
use Rattle.of_layers.specs.{declared.field.Field.Field, declared.transport.Transport.Transport, declared.transport.Transport.TheVariants.Nothing}
use Rattle.of_layers.specs.{Fields.row_of, Fields.number_of, Fields.bit_count, Fields.is_settable, Looking.name_is, Looking.look_up}
use Rattle.of_rewrite.proofs.{Finding.Sound, Kept.cut_at}

-- each cell of this name has this width
abbrev pub HasWidth : ℕ → ℕ → List Cell → Type 0
HasWidth n w [] = Unit {0}
HasWidth n w (c ∷ cs) = (name_is n c.name ≡ true → c.width ≡ w) × HasWidth n w cs

both : (n w : ℕ) (a b : List Cell) → HasWidth n w a → HasWidth n w b → HasWidth n w (a ++ b)
both n w [] b h k = k
both n w (c ∷ a) b h k = (h.0, both n w a b h.1 k)

-- each item of this name does
abbrev wide : ℕ → ℕ → List Item → Bool
wide n w [] = true
wide n w (i ∷ is) = (not (name_is n i.name) || eqb i.width w) && wide n w is

one_wide : (a b c : Bool) → ((not a || b) && c) ≡ true → a ≡ true → b ≡ true
one_wide true true c h e = refl
one_wide true false c h e = absurd cc
one_wide false b c h e = absurd cc

rest_wide : (x c : Bool) → (x && c) ≡ true → c ≡ true
rest_wide true c h = h
rest_wide false c h = absurd cc

items_wide : (n w : ℕ) (is : List Item) (ns : List ℕ) → wide n w is ≡ true → HasWidth n w (cells_in is ns)
items_wide n w [] ns h = tt
items_wide n w (i ∷ is) [] h = tt
items_wide n w (i ∷ is) (m ∷ ns) h = ((λ e. eqb-true i.width w (one_wide (name_is n i.name) (eqb i.width w) (wide n w is) h e)), items_wide n w is ns (rest_wide (not (name_is n i.name) || eqb i.width w) (wide n w is) h))

bytes_wide : (n w : ℕ) (s : List ℕ) → HasWidth n w (byte_cells s)
bytes_wide n w [] = tt
bytes_wide n w (b ∷ s) = ((λ e. absurd cc), bytes_wide n w s)

inner_wide : (n w : ℕ) (ts : List (List ℕ)) → HasWidth n w (inner_cells ts)
inner_wide n w [] = tt
inner_wide n w (t ∷ ts) = both n w (cells_in inner_tag t) (inner_cells ts) (items_wide n w inner_tag t refl) (inner_wide n w ts)

-- in each header
pub record IsWide (n w : ℕ) : Type 0 where
  pub ends : wide n w addresses ≡ true
  pub tag : wide n w outer_tag ≡ true
  pub type : wide n w ether_type ≡ true
  pub in_arp : wide n w arp ≡ true
  pub in_ipv4 : wide n w ipv4 ≡ true
  pub in_ipv6 : (es : List Extension) → wide n w (ipv6 (next_before es)) ≡ true
  pub in_options : (es : List Extension) → wide n w (options (next_before es)) ≡ true
  pub in_fragment : (es : List Extension) → wide n w (fragment (next_before es)) ≡ true
  pub in_transport : (t : Transport) → wide n w (items_of t) ≡ true

module _ (n w : ℕ) (is : IsWide n w) where
  tags_wide : (ts : List (List ℕ)) → HasWidth n w (tag_cells ts)
  tags_wide [] = tt
  tags_wide (t ∷ ts) = both n w (cells_in outer_tag t) (inner_cells ts) (items_wide n w outer_tag t is.tag) (inner_wide n w ts)

  extensions_wide : (es : List Extension) → HasWidth n w (extension_cells es)
  extensions_wide [] = tt
  extensions_wide (Options ns bytes ∷ es) =
      both n w (cells_in (options (next_before es)) ns) (byte_cells bytes ++ extension_cells es) (items_wide n w (options (next_before es)) ns (is.in_options es))
      (both n w (byte_cells bytes) (extension_cells es) (bytes_wide n w bytes) (extensions_wide es))
  extensions_wide (Fragment ns ∷ es) = both n w (cells_in (fragment (next_before es)) ns) (extension_cells es) (items_wide n w (fragment (next_before es)) ns (is.in_fragment es)) (extensions_wide es)

  carried_wide : (c : Carried) (rest : List ℕ) → HasWidth n w (carried_cells c ++ byte_cells rest)
  carried_wide c rest =
      both n w (carried_cells c) (byte_cells rest)
      (both n w (cells_in (items_of c.kind) c.numbers) (byte_cells c.rest) (items_wide n w (items_of c.kind) c.numbers (is.in_transport c.kind)) (bytes_wide n w c.rest)) (bytes_wide n w rest)

  body_wide : (b : Body) → HasWidth n w (body_cells b)
  body_wide (Plain rest) = bytes_wide n w rest
  body_wide (Arp ns rest) = both n w (cells_in arp ns) (byte_cells rest) (items_wide n w arp ns is.in_arp) (bytes_wide n w rest)
  body_wide (Ipv4 ns opts c rest) =
      both n w (cells_in ipv4 ns) (byte_cells opts ++ (carried_cells c ++ byte_cells rest)) (items_wide n w ipv4 ns is.in_ipv4)
      (both n w (byte_cells opts) (carried_cells c ++ byte_cells rest) (bytes_wide n w opts) (carried_wide c rest))
  body_wide (Ipv6 ns es c rest) =
      both n w (cells_in (ipv6 (next_before es)) ns) (extension_cells es ++ (carried_cells c ++ byte_cells rest)) (items_wide n w (ipv6 (next_before es)) ns (is.in_ipv6 es))
      (both n w (extension_cells es) (carried_cells c ++ byte_cells rest) (extensions_wide es) (carried_wide c rest))

  pub layers_wide : (l : Layers) → HasWidth n w (cells l)
  layers_wide l =
      both n w (cells_in addresses l.ends) (tag_cells l.tags ++ (cells_in ether_type (l.type ∷ []) ++ body_cells l.body)) (items_wide n w addresses l.ends is.ends)
      (both n w (tag_cells l.tags) (cells_in ether_type (l.type ∷ []) ++ body_cells l.body) (tags_wide l.tags)
      (both n w (cells_in ether_type (l.type ∷ [])) (body_cells l.body) (items_wide n w ether_type (l.type ∷ []) is.type) (body_wide l.body)))

-- a cell has the bits of its field, but VLAN_VID's has 12, without OFPVID_PRESENT
abbrev pub cell_bits : Field → ℕ
cell_bits VlanVid = 12
cell_bits f = bit_count f

next_wide : (n w : ℕ) (es : List Extension) (is : Item → List Item) → wide n w (is (next_before [])) ≡ true → ((e : Extension) (rest : List Extension) → wide n w (is (next_before (e ∷ rest))) ≡ true) → wide n w (is (next_before es)) ≡ true
next_wide n w [] is a b = a
next_wide n w (e ∷ es) is a b = b e es

pub settable_wide : (f : Field) → IsTrue (is_settable f) → IsWide (number_of f) (cell_bits f)
unfolding row_of
settable_wide InPort h = absurd cc
settable_wide Metadata h = absurd cc
settable_wide EthType h = absurd cc
settable_wide IpProto h = absurd cc
settable_wide f h = record {
  ends = refl;
  tag = refl;
  type = refl;
  in_arp = refl;
  in_ipv4 = refl;
  in_ipv6 = λ es. next_wide (number_of f) (cell_bits f) es ipv6 refl (λ e rest. refl);
  in_options = λ es. next_wide (number_of f) (cell_bits f) es options refl (λ e rest. refl);
  in_fragment = λ es. next_wide (number_of f) (cell_bits f) es fragment refl (λ e rest. refl);
  in_transport = λ t. elim t as (λ t. wide (number_of f) (cell_bits f) (items_of t) ≡ true) [ Nothing ↦ refl | _ ↦ refl ];
}

pub ttl_wide : IsWide ttl 8
unfolding row_of
ttl_wide = record {
  ends = refl;
  tag = refl;
  type = refl;
  in_arp = refl;
  in_ipv4 = refl;
  in_ipv6 = λ es. next_wide ttl 8 es ipv6 refl (λ e rest. refl);
  in_options = λ es. next_wide ttl 8 es options refl (λ e rest. refl);
  in_fragment = λ es. next_wide ttl 8 es fragment refl (λ e rest. refl);
  in_transport = λ t. elim t as (λ t. wide ttl 8 (items_of t) ≡ true) [ Nothing ↦ refl | _ ↦ refl ];
}

-- ---- what is found in cells one of which was changed

pub look_cut : (n w : ℕ) (f : ℕ → ℕ) (cs : List Cell) → HasWidth n w cs → look_up n (cut_at n f cs) ≡ option_map (λ x. f x % 2 ^ w) (look_up n cs)
look_cut n w f [] h = refl
look_cut n w f (c ∷ cs) h =
    elim (name_is n c.name) as (λ t. name_is n c.name ≡ t → look_up n (cond t (record c { value = f c.value % 2 ^ c.width } ∷ cs) (c ∷ cut_at n f cs)) ≡ option_map (λ x. f x % 2 ^ w) (cond t (Some c.value) (look_up n cs))) [
      | true ↦ λ t. let same : c.width ≡ w = h.0 t in rw t (ap (λ (k : ℕ). Some (f c.value % 2 ^ k)) same)
      | false ↦ λ t. rw t (look_cut n w f cs h.1)
    ] refl

-- a number that is found is within its bits
pub found_small : (n w x : ℕ) (cs : List Cell) → HasWidth n w cs → Sound cs → look_up n cs ≡ Some x → x < 2 ^ w
found_small n w x [] h s e = absurd cc
found_small n w x (c ∷ cs) h s e =
    elim (name_is n c.name) as (λ t. name_is n c.name ≡ t → cond t (Some c.value) (look_up n cs) ≡ Some x → x < 2 ^ w) [
      | true ↦ λ t g. let is : c.value ≡ x = cc in let same : c.width ≡ w = h.0 t in let small : c.value < 2 ^ c.width = s.0 in rw (← same, ← is) small
      | false ↦ λ t g. found_small n w x cs h.1 s.1 g
    ] refl e

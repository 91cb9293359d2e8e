-- A number that is found by its name among the cells of well-formed layers has the width of its name: each header that names it gives it so many bits.
use Rattle.std.proofs.Common.{◌≡◌, ℕ, ◌^◌, ◌<◌, Bool, true, false, cond, ◌&&◌, eqb, List, [], ◌∷◌, ◌++◌, get_or, Option, Some, None, refl, sym, ap, ◌∙◌, subst}
use Rattle.std.{specs.Prelude.◌==◌, specs.Prelude.if◌then◌else◌, specs.Option.option_or, proofs.lemmas.Bool.eqb-true}
use Rattle.of_layers.specs.Layers.{Item, Cell, Extension, Options, Fragment, Body, Plain, Arp, Ipv4, Ipv6, Carried, Layers, cells_in, byte_cells, inner_cells, tag_cells, extension_cells, carried_cells, body_cells, cells, next_before, addresses, outer_tag, inner_tag, ether_type, arp, ipv4, ipv6, options, fragment, items_of}
use Rattle.of_layers.specs.WellFormed.{FitsItems, AreTags, AreExtensions, IsBody, IsLayers}
use Rattle.of_layers.{specs.declared.transport.Transport.Transport, specs.Looking.name_is, specs.Looking.look_up, proofs.TestLemmas.and_true}
use Rattle.of_headers.proofs.LookLemmas.{look-append, look_bytes}

-- ---- what is found among cells

-- the number of this name, if any, is below 2 to this width
pub record IsWithin (n w : ℕ) (cs : List Cell) : Type 0 where
  pub below : (v : ℕ) → look_up n cs ≡ Some v → v < 2 ^ w

either_below : (m : ℕ) (a b : Option ℕ) → ((v : ℕ) → a ≡ Some v → v < m) → ((v : ℕ) → b ≡ Some v → v < m) → (v : ℕ) → option_or a b ≡ Some v → v < m
either_below m None b f g v e = g v e
either_below m (Some a) b f g v e = f v e

both_within : (n w : ℕ) (a b : List Cell) → IsWithin n w a → IsWithin n w b → IsWithin n w (a ++ b)
both_within n w a b f g = record { below = λ v e. either_below (2 ^ w) (look_up n a) (look_up n b) f.below g.below v (sym (look-append n a b) ∙ e) }

none_within : (n w : ℕ) (cs : List Cell) → look_up n cs ≡ None → IsWithin n w cs
none_within n w cs none = record { below = λ v e. let h : None ≡ Some v = sym none ∙ e in absurd cc }

bytes_within : (n w : ℕ) (s : List ℕ) → IsWithin n w (byte_cells s)
bytes_within n w s = none_within n w (byte_cells s) (look_bytes n s)

-- ---- items

-- each item of this name has this width
abbrev pub agrees : ℕ → ℕ → List Item → Bool
agrees n w [] = true
agrees n w (i ∷ is) = (if name_is n i.name then i.width == w else true) && agrees n w is

-- the first item has the name, or it is looked for after it
here_or_behind : (t : Bool) (x w m v : ℕ) (rest : Option ℕ) → cond t (eqb x w) true ≡ true → m < 2 ^ x → (rest ≡ Some v → v < 2 ^ w) → cond t (Some m) rest ≡ Some v → v < 2 ^ w
here_or_behind true x w m v rest a small f e =
    let same : m ≡ v = cc in
    subst (λ k. v < 2 ^ k) (eqb-true x w a) (subst (λ k. k < 2 ^ x) same small)
here_or_behind false x w m v rest a small f e = f e

items_within : (n w : ℕ) (is : List Item) (ns : List ℕ) → agrees n w is ≡ true → FitsItems is ns → IsWithin n w (cells_in is ns)
items_within n w [] ns a f = none_within n w [] refl
items_within n w (i ∷ is) [] a f = none_within n w [] refl
items_within n w (i ∷ is) (m ∷ ns) a f =
    let both = and_true (if name_is n i.name then i.width == w else true) (agrees n w is) a in
    let behind : IsWithin n w (cells_in is ns) = items_within n w is ns both.1 f.1 in
    record { below = λ v. here_or_behind (name_is n i.name) i.width w m v (look_up n (cells_in is ns)) both.0 f.0 (behind.below v) }

-- ---- headers

-- a name has this width in each header
pub record IsAsWide (n w : ℕ) : Type 0 where
  pub in_addresses : agrees n w addresses ≡ true
  pub in_tag : agrees n w outer_tag ≡ true
  pub in_type : agrees n w ether_type ≡ true
  pub in_arp : agrees n w arp ≡ true
  pub in_ipv4 : agrees n w ipv4 ≡ true
  pub in_ipv6 : (es : List Extension) → agrees n w (ipv6 (next_before es)) ≡ true
  pub in_options : (es : List Extension) → agrees n w (options (next_before es)) ≡ true
  pub in_fragment : (es : List Extension) → agrees n w (fragment (next_before es)) ≡ true
  pub in_transport : (t : Transport) → agrees n w (items_of t) ≡ true

inner_within : (n w : ℕ) (ts : List (List ℕ)) → AreTags ts → IsWithin n w (inner_cells ts)
inner_within n w [] h = none_within n w [] refl
inner_within n w (t ∷ ts) h = both_within n w (cells_in inner_tag t) (inner_cells ts) (items_within n w inner_tag t refl h.0) (inner_within n w ts h.2)

-- the outermost tag has the bits of the others
outer_fits : (t : List ℕ) → FitsItems inner_tag t → FitsItems outer_tag t
outer_fits [] f = f
outer_fits (a ∷ []) f = f
outer_fits (a ∷ b ∷ []) f = f
outer_fits (a ∷ b ∷ c ∷ []) f = f
outer_fits (a ∷ b ∷ c ∷ d ∷ []) f = f
outer_fits (a ∷ b ∷ c ∷ d ∷ e ∷ r) f = f

tags_within : (n w : ℕ) → IsAsWide n w → (ts : List (List ℕ)) → AreTags ts → IsWithin n w (tag_cells ts)
tags_within n w wide [] h = none_within n w [] refl
tags_within n w wide (t ∷ ts) h = both_within n w (cells_in outer_tag t) (inner_cells ts) (items_within n w outer_tag t wide.in_tag (outer_fits t h.0)) (inner_within n w ts h.2)

carried_within : (n w : ℕ) → IsAsWide n w → (c : Carried) → FitsItems (items_of c.kind) c.numbers → IsWithin n w (carried_cells c)
carried_within n w wide c f = both_within n w (cells_in (items_of c.kind) c.numbers) (byte_cells c.rest) (items_within n w (items_of c.kind) c.numbers (wide.in_transport c.kind) f) (bytes_within n w c.rest)

-- what is carried, and the bytes after the packet
end_within : (n w : ℕ) → IsAsWide n w → (c : Carried) (rest : List ℕ) → FitsItems (items_of c.kind) c.numbers → IsWithin n w (carried_cells c ++ byte_cells rest)
end_within n w wide c rest f = both_within n w (carried_cells c) (byte_cells rest) (carried_within n w wide c f) (bytes_within n w rest)

-- extension headers, and the numbers of what they carry
record AreInside (n w : ℕ) (es : List Extension) (c : Carried) : Type 0 where
  pub headers : IsWithin n w (extension_cells es)
  pub carried : FitsItems (items_of c.kind) c.numbers

-- no extension header follows a later fragment
chain_within : (n w : ℕ) → IsAsWide n w → (kind : ℕ) (es : List Extension) (c : Carried) → AreExtensions kind es c → AreInside n w es c
chain_within n w wide kind [] c h = record { headers = none_within n w [] refl; carried = h.0.numbers }
chain_within n w wide kind (Options ns bytes ∷ es) c h =
    let behind : AreInside n w es c = chain_within n w wide (get_or ns 0 0) es c h.4 in
    let header : IsWithin n w (cells_in (options (next_before es)) ns) = items_within n w (options (next_before es)) ns (wide.in_options es) h.1 in
    record {
      headers = both_within n w _ _ header (both_within n w _ _ (bytes_within n w bytes) behind.headers);
      carried = behind.carried;
    }
chain_within n w wide kind (Fragment ns ∷ es) c h =
    let header : IsWithin n w (cells_in (fragment (next_before es)) ns) = items_within n w (fragment (next_before es)) ns (wide.in_fragment es) h.1 in
    let behind : AreInside n w es c = elim (eqb (get_or ns 2 0) 0) as (λ t. eqb (get_or ns 2 0) 0 ≡ t → AreInside n w es c) [
      | true ↦ λ first. chain_within n w wide (get_or ns 0 0) es c (h.2 first)
      | false ↦ λ later. let last = h.3 later in
          record { headers = none_within n w (extension_cells es) (ap (λ xs. look_up n (extension_cells xs)) last.0); carried = last.1.numbers }
    ] refl in
    record { headers = both_within n w _ _ header behind.headers; carried = behind.carried }

body_within : (n w : ℕ) → IsAsWide n w → (type : ℕ) (b : Body) → IsBody type b → IsWithin n w (body_cells b)
body_within n w wide type (Plain rest) h = bytes_within n w rest
body_within n w wide type (Arp ns rest) h = both_within n w _ _ (items_within n w arp ns wide.in_arp h.1.numbers) (bytes_within n w rest)
body_within n w wide type (Ipv4 ns opts carried rest) h =
    both_within n w _ _ (items_within n w ipv4 ns wide.in_ipv4 h.1.numbers)
    (both_within n w _ _ (bytes_within n w opts) (end_within n w wide carried rest h.1.carries.numbers))
body_within n w wide type (Ipv6 ns es carried rest) h =
    let chain : AreInside n w es carried = chain_within n w wide (get_or ns 5 0) es carried h.1.chain in
    both_within n w _ _ (items_within n w (ipv6 (next_before es)) ns (wide.in_ipv6 es) h.1.numbers)
    (both_within n w _ _ chain.headers (end_within n w wide carried rest chain.carried))

pub layers_within : (n w : ℕ) → IsAsWide n w → (l : Layers) → IsLayers l → IsWithin n w (cells l)
layers_within n w wide l h =
    both_within n w _ _ (items_within n w addresses l.ends wide.in_addresses h.ends)
    (both_within n w _ _ (tags_within n w wide l.tags h.tags)
    (both_within n w _ _ (items_within n w ether_type (l.type ∷ []) wide.in_type (h.type, tt)) (body_within n w wide l.type l.body h.body)))

-- No number of a frame has more than 128 bits.
use Rattle.std.proofs.Common.{◌≡◌, ℕ, ◌+◌, ◌≤◌, Bool, true, false, cond, List, [], ◌∷◌, ◌++◌, Some, refl, ap, arith}
use Rattle.std.{specs.Prelude.nat_le, specs.Prelude.◌&&◌, proofs.lemmas.Bool.leb-true}
use Rattle.of_layers.specs.Layers.{Item, Cell, Layers, Carried, Extension, Options, Fragment, Body, Plain, Arp, Ipv4, Ipv6, cells_in, byte_cells, inner_cells, tag_cells, extension_cells, carried_cells, body_cells, cells, addresses, outer_tag, inner_tag, ether_type, arp, ipv4, ipv6, options, fragment, items_of, next_before}
use Rattle.of_layers.specs.{declared.place.Place.Place, declared.transport.Transport.Transport, declared.transport.Transport.TheVariants.Nothing, Looking.name_is, Looking.locate_at}
use Rattle.of_layers.proofs.TestLemmas.{and_true}

abbrev Narrow : List Cell → Type 0
Narrow [] = Unit {0}
Narrow (c ∷ cs) = (c.width ≤ 128) × Narrow cs

abbrev narrow_items : List Item → Bool
narrow_items [] = true
narrow_items (i ∷ is) = nat_le i.width 128 && narrow_items is

narrow_in : (is : List Item) (ns : List ℕ) → narrow_items is ≡ true → Narrow (cells_in is ns)
narrow_in [] ns h = tt
narrow_in (i ∷ is) [] h = tt
narrow_in (i ∷ is) (m ∷ ns) h = let r = and_true (nat_le i.width 128) (narrow_items is) h in (leb-true i.width 128 r.0, narrow_in is ns r.1)

narrow_bytes : (s : List ℕ) → Narrow (byte_cells s)
narrow_bytes [] = tt
narrow_bytes (b ∷ s) = (omega arith, narrow_bytes s)

narrow_append : (a b : List Cell) → Narrow a → Narrow b → Narrow (a ++ b)
narrow_append [] b h k = k
narrow_append (c ∷ a) b h k = (h.0, narrow_append a b h.1 k)

narrow_inner : (ts : List (List ℕ)) → Narrow (inner_cells ts)
narrow_inner [] = tt
narrow_inner (t ∷ ts) = narrow_append (cells_in inner_tag t) (inner_cells ts) (narrow_in inner_tag t refl) (narrow_inner ts)

narrow_tags : (ts : List (List ℕ)) → Narrow (tag_cells ts)
narrow_tags [] = tt
narrow_tags (t ∷ ts) = narrow_append (cells_in outer_tag t) (inner_cells ts) (narrow_in outer_tag t refl) (narrow_inner ts)

options_narrow : (es : List Extension) → narrow_items (options (next_before es)) ≡ true
options_narrow [] = refl
options_narrow (e ∷ es) = refl

fragment_narrow : (es : List Extension) → narrow_items (fragment (next_before es)) ≡ true
fragment_narrow [] = refl
fragment_narrow (e ∷ es) = refl

ipv6_narrow : (es : List Extension) → narrow_items (ipv6 (next_before es)) ≡ true
ipv6_narrow [] = refl
ipv6_narrow (e ∷ es) = refl

narrow_extensions : (es : List Extension) → Narrow (extension_cells es)
narrow_extensions [] = tt
narrow_extensions (Options ns bytes ∷ es) = narrow_append (cells_in (options (next_before es)) ns) (byte_cells bytes ++ extension_cells es) (narrow_in (options (next_before es)) ns (options_narrow es)) (narrow_append (byte_cells bytes) (extension_cells es) (narrow_bytes bytes) (narrow_extensions es))
narrow_extensions (Fragment ns ∷ es) = narrow_append (cells_in (fragment (next_before es)) ns) (extension_cells es) (narrow_in (fragment (next_before es)) ns (fragment_narrow es)) (narrow_extensions es)

items_narrow : (k : Transport) → narrow_items (items_of k) ≡ true
items_narrow k = elim k as (λ k. narrow_items (items_of k) ≡ true) [ Nothing ↦ refl | _ ↦ refl ]

narrow_ended : (c : Carried) (rest : List ℕ) → Narrow (carried_cells c ++ byte_cells rest)
narrow_ended c rest = narrow_append (carried_cells c) (byte_cells rest) (narrow_append (cells_in (items_of c.kind) c.numbers) (byte_cells c.rest) (narrow_in (items_of c.kind) c.numbers (items_narrow c.kind)) (narrow_bytes c.rest)) (narrow_bytes rest)

narrow_body : (b : Body) → Narrow (body_cells b)
narrow_body (Plain rest) = narrow_bytes rest
narrow_body (Arp ns rest) = narrow_append (cells_in arp ns) (byte_cells rest) (narrow_in arp ns refl) (narrow_bytes rest)
narrow_body (Ipv4 ns o c rest) = narrow_append (cells_in ipv4 ns) (byte_cells o ++ (carried_cells c ++ byte_cells rest)) (narrow_in ipv4 ns refl) (narrow_append (byte_cells o) (carried_cells c ++ byte_cells rest) (narrow_bytes o) (narrow_ended c rest))
narrow_body (Ipv6 ns es c rest) = narrow_append (cells_in (ipv6 (next_before es)) ns) (extension_cells es ++ (carried_cells c ++ byte_cells rest)) (narrow_in (ipv6 (next_before es)) ns (ipv6_narrow es)) (narrow_append (extension_cells es) (carried_cells c ++ byte_cells rest) (narrow_extensions es) (narrow_ended c rest))

narrow_frame : (l : Layers) → Narrow (cells l)
narrow_frame l =
    let y : List Cell = cells_in ether_type (l.type ∷ []) in
    narrow_append (cells_in addresses l.ends) (tag_cells l.tags ++ (y ++ body_cells l.body)) (narrow_in addresses l.ends refl)
    (narrow_append (tag_cells l.tags) (y ++ body_cells l.body) (narrow_tags l.tags) (narrow_append y (body_cells l.body) (narrow_in ether_type (l.type ∷ []) refl) (narrow_body l.body)))

pub some_is : (x y : Place) → Some x ≡ Some y → x ≡ y
some_is x y e = cc

narrow_located : (n at : ℕ) (cs : List Cell) (p : Place) → Narrow cs → locate_at at n cs ≡ Some p → p.bits ≤ 128
narrow_located n at [] p h e = absurd cc
narrow_located n at (c ∷ cs) p h e =
    elim (name_is n c.name) as (λ t. cond t (Some (record { first = at; bits = c.width })) (locate_at (at + c.width) n cs) ≡ Some p → p.bits ≤ 128) [
      | true ↦ λ g. let w : c.width ≡ p.bits = ap (λ (x : Place). x.bits) (some_is (record { first = at; bits = c.width }) p g) in let k : c.width ≤ 128 = h.0 in omega arith
      | false ↦ λ g. narrow_located n (at + c.width) cs p h.1 g
    ] e

pub at_most_128 : (n : ℕ) (l : Layers) (p : Place) → locate_at 0 n (cells l) ≡ Some p → p.bits ≤ 128
at_most_128 n l p e = narrow_located n 0 (cells l) p (narrow_frame l) e

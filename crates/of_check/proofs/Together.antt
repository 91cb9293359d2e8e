-- A field that a frame has leads to others: each header that names it names them too.
use Rattle.std.proofs.Common.{◌≡◌, ℕ, ◌<◌, ◌≤◌, zero, suc, Bool, true, false, cond, ◌&&◌, eqb, List, [], ◌∷◌, ◌++◌, length, get_or, Option, Some, None, refl, sym, ap, subst, arith}
use Rattle.std.specs.{Prelude.◌||◌, Prelude.not, Prelude.IsSome, List.Contains, List.list_all, Option.option_or}
use Rattle.of_layers.specs.declared.transport.Transport.TheVariants.{Nothing, Tcp, Udp, Icmpv4, Icmpv6}
use Rattle.of_layers.specs.Layers.{Item, plain, named, Cell, Extension, Options, Fragment, Body, Plain, Arp, Ipv4, Ipv6, Carried, Layers, cells_in, byte_cells, inner_cells, tag_cells, extension_cells, carried_cells, body_cells, cells, next_before, addresses, outer_tag, inner_tag, ether_type, arp, ipv4, ipv6, options, fragment, items_of}
use Rattle.of_layers.specs.WellFormed.{AreBytes, FitsItems, AreTags, AreExtensions, IsBody, IsLayers}
use Rattle.of_layers.specs.declared.field.Field.{Field}
use Rattle.of_layers.specs.declared.field.Field.TheVariants.{InPort, Metadata, VlanVid, IpProto}
use Rattle.of_layers.specs.{declared.transport.Transport.Transport, Fields.row_of, Fields.number_of, Looking.name_is, Looking.look_up, Looking.look, Reading.layers_of}
use Rattle.of_layers.proofs.FrameLemmas.{are_layers}
use Rattle.of_headers.{specs.FieldMap.field_map, proofs.LookLemmas.look-append, proofs.LookLemmas.look_bytes}
use Rattle.of_check.specs.Rules.{implied_fields}

-- ---- among cells

-- where a number of the name m is found, there is one of the name n
pub record Leads (m n : ℕ) (cs : List Cell) : Type 0 where
  pub so : IsSome (look_up m cs) → IsSome (look_up n cs)

some_or : (a b : Option ℕ) → IsSome a → IsSome (option_or a b)
some_or None b h = absurd cc
some_or (Some x) b h = h

or_some : (a b : Option ℕ) → IsSome b → IsSome (option_or a b)
or_some None b h = h
or_some (Some x) b h = refl

either_leads : (a b c d : Option ℕ) → (IsSome a → IsSome c) → (IsSome b → IsSome d) → IsSome (option_or a b) → IsSome (option_or c d)
either_leads None b c d f g h = or_some c d (g h)
either_leads (Some x) b c d f g h = some_or c d (f refl)

both_lead : (m n : ℕ) (a b : List Cell) → Leads m n a → Leads m n b → Leads m n (a ++ b)
both_lead m n a b f g = record {
  so = λ h. subst IsSome (sym (look-append n a b)) (either_leads (look_up m a) (look_up m b) (look_up n a) (look_up n b) f.so g.so (subst IsSome (look-append m a b) h));
}

none_leads : (m n : ℕ) (cs : List Cell) → look_up m cs ≡ None → Leads m n cs
none_leads m n cs none = record { so = λ h. let no : IsSome {T = ℕ} None = subst (λ (o : Option ℕ). IsSome o) none h in absurd cc }

bytes_lead : (m n : ℕ) (s : List ℕ) → Leads m n (byte_cells s)
bytes_lead m n s = none_leads m n (byte_cells s) (look_bytes m s)

-- ---- items

abbrev has : ℕ → List Item → Bool
has n [] = false
has n (i ∷ is) = name_is n i.name || has n is

-- if the items have the name m, they have n
abbrev pub leads : ℕ → ℕ → List Item → Bool
leads m n is = not (has m is) || has n is

found_by : (t h : Bool) (v : ℕ) (rest : Option ℕ) → (t || h) ≡ true → (h ≡ true → IsSome rest) → IsSome (cond t (Some v) rest)
found_by true h v rest e f = refl
found_by false h v rest e f = f e

has_found : (n : ℕ) (is : List Item) (ns : List ℕ) → has n is ≡ true → FitsItems is ns → IsSome (look_up n (cells_in is ns))
has_found n [] ns h f = absurd cc
has_found n (i ∷ is) [] h f = absurd f
has_found n (i ∷ is) (v ∷ ns) h f = found_by (name_is n i.name) (has n is) v (look_up n (cells_in is ns)) h (λ e. has_found n is ns e f.1)

lost_by : (t h : Bool) (v : ℕ) (rest : Option ℕ) → (t || h) ≡ false → (h ≡ false → rest ≡ None) → cond t (Some v) rest ≡ None
lost_by true h v rest e f = absurd cc
lost_by false h v rest e f = f e

lacks_found : (n : ℕ) (is : List Item) (ns : List ℕ) → has n is ≡ false → look_up n (cells_in is ns) ≡ None
lacks_found n [] ns h = refl
lacks_found n (i ∷ is) [] h = refl
lacks_found n (i ∷ is) (v ∷ ns) h = lost_by (name_is n i.name) (has n is) v (look_up n (cells_in is ns)) h (λ e. lacks_found n is ns e)

items_by : (m n : ℕ) (is : List Item) (ns : List ℕ) (a b : Bool) → has m is ≡ a → has n is ≡ b → (not a || b) ≡ true → FitsItems is ns → Leads m n (cells_in is ns)
items_by m n is ns false b p q e f = none_leads m n (cells_in is ns) (lacks_found m is ns p)
items_by m n is ns true false p q e f = absurd cc
items_by m n is ns true true p q e f = record { so = λ h. has_found n is ns q f }

items_lead : (m n : ℕ) (is : List Item) (ns : List ℕ) → leads m n is ≡ true → FitsItems is ns → Leads m n (cells_in is ns)
items_lead m n is ns e f = items_by m n is ns (has m is) (has n is) refl refl e f

-- ---- headers

pub record AreTogether (m n : ℕ) : Type 0 where
  pub in_addresses : leads m n addresses ≡ true
  pub in_inner : leads m n inner_tag ≡ true
  pub in_tag : leads m n outer_tag ≡ true
  pub in_type : leads m n ether_type ≡ true
  pub in_arp : leads m n arp ≡ true
  pub in_ipv4 : leads m n ipv4 ≡ true
  pub in_ipv6 : (es : List Extension) → leads m n (ipv6 (next_before es)) ≡ true
  pub in_options : (es : List Extension) → leads m n (options (next_before es)) ≡ true
  pub in_fragment : (es : List Extension) → leads m n (fragment (next_before es)) ≡ true
  pub in_transport : (t : Transport) → leads m n (items_of t) ≡ true

inner_lead : (m n : ℕ) → AreTogether m n → (ts : List (List ℕ)) → AreTags ts → Leads m n (inner_cells ts)
inner_lead m n t [] h = none_leads m n [] refl
inner_lead m n t (x ∷ ts) h = both_lead m n (cells_in inner_tag x) (inner_cells ts) (items_lead m n inner_tag x t.in_inner h.0) (inner_lead m n t ts h.2)

-- the outermost tag has the bits of the others
outer_fits : (t : List ℕ) → FitsItems inner_tag t → FitsItems outer_tag t
outer_fits [] f = f
outer_fits (a ∷ []) f = f
outer_fits (a ∷ b ∷ []) f = f
outer_fits (a ∷ b ∷ c ∷ []) f = f
outer_fits (a ∷ b ∷ c ∷ d ∷ []) f = f
outer_fits (a ∷ b ∷ c ∷ d ∷ e ∷ r) f = f

tags_lead : (m n : ℕ) → AreTogether m n → (ts : List (List ℕ)) → AreTags ts → Leads m n (tag_cells ts)
tags_lead m n t [] h = none_leads m n [] refl
tags_lead m n t (x ∷ ts) h = both_lead m n (cells_in outer_tag x) (inner_cells ts) (items_lead m n outer_tag x t.in_tag (outer_fits x h.0)) (inner_lead m n t ts h.2)

carried_lead : (m n : ℕ) → AreTogether m n → (c : Carried) → FitsItems (items_of c.kind) c.numbers → Leads m n (carried_cells c)
carried_lead m n t c f = both_lead m n (cells_in (items_of c.kind) c.numbers) (byte_cells c.rest) (items_lead m n (items_of c.kind) c.numbers (t.in_transport c.kind) f) (bytes_lead m n c.rest)

end_lead : (m n : ℕ) → AreTogether m n → (c : Carried) (rest : List ℕ) → FitsItems (items_of c.kind) c.numbers → Leads m n (carried_cells c ++ byte_cells rest)
end_lead m n t c rest f = both_lead m n (carried_cells c) (byte_cells rest) (carried_lead m n t c f) (bytes_lead m n rest)

-- extension headers, and the numbers of what they carry
record AreInside (m n : ℕ) (es : List Extension) (c : Carried) : Type 0 where
  pub headers : Leads m n (extension_cells es)
  pub carried : FitsItems (items_of c.kind) c.numbers

chain_lead : (m n : ℕ) → AreTogether m n → (kind : ℕ) (es : List Extension) (c : Carried) → AreExtensions kind es c → AreInside m n es c
chain_lead m n t kind [] c h = record { headers = none_leads m n [] refl; carried = h.0.numbers }
chain_lead m n t kind (Options ns bytes ∷ es) c h =
    let behind : AreInside m n es c = chain_lead m n t (get_or ns 0 0) es c h.4 in
    let header : Leads m n (cells_in (options (next_before es)) ns) = items_lead m n (options (next_before es)) ns (t.in_options es) h.1 in
    record {
      headers = both_lead m n _ _ header (both_lead m n _ _ (bytes_lead m n bytes) behind.headers);
      carried = behind.carried;
    }
chain_lead m n t kind (Fragment ns ∷ es) c h =
    let header : Leads m n (cells_in (fragment (next_before es)) ns) = items_lead m n (fragment (next_before es)) ns (t.in_fragment es) h.1 in
    let behind : AreInside m n es c = elim (eqb (get_or ns 2 0) 0) as (λ b. eqb (get_or ns 2 0) 0 ≡ b → AreInside m n es c) [
      | true ↦ λ first. chain_lead m n t (get_or ns 0 0) es c (h.2 first)
      | false ↦ λ later. let last = h.3 later in
          record { headers = none_leads m n (extension_cells es) (ap (λ xs. look_up m (extension_cells xs)) last.0); carried = last.1.numbers }
    ] refl in
    record { headers = both_lead m n _ _ header behind.headers; carried = behind.carried }

body_lead : (m n : ℕ) → AreTogether m n → (type : ℕ) (b : Body) → IsBody type b → Leads m n (body_cells b)
body_lead m n t type (Plain rest) h = bytes_lead m n rest
body_lead m n t type (Arp ns rest) h = both_lead m n _ _ (items_lead m n arp ns t.in_arp h.1.numbers) (bytes_lead m n rest)
body_lead m n t type (Ipv4 ns opts carried rest) h =
    both_lead m n _ _ (items_lead m n ipv4 ns t.in_ipv4 h.1.numbers)
    (both_lead m n _ _ (bytes_lead m n opts) (end_lead m n t carried rest h.1.carries.numbers))
body_lead m n t type (Ipv6 ns es carried rest) h =
    let chain : AreInside m n es carried = chain_lead m n t (get_or ns 5 0) es carried h.1.chain in
    both_lead m n _ _ (items_lead m n (ipv6 (next_before es)) ns (t.in_ipv6 es) h.1.numbers)
    (both_lead m n _ _ chain.headers (end_lead m n t carried rest chain.carried))

layers_lead : (m n : ℕ) → AreTogether m n → (l : Layers) → IsLayers l → Leads m n (cells l)
layers_lead m n t l h =
    both_lead m n _ _ (items_lead m n addresses l.ends t.in_addresses h.ends)
    (both_lead m n _ _ (tags_lead m n t l.tags h.tags)
    (both_lead m n _ _ (items_lead m n ether_type (l.type ∷ []) t.in_type (h.type, tt)) (body_lead m n t l.type l.body h.body)))

-- ---- the fields that go together

abbrev in_both : ℕ → ℕ → (Item → List Item) → Bool
in_both m n is = leads m n (is (named IpProto 8)) && leads m n (is (plain 8))

-- whether each header that names m names n
abbrev are_together : ℕ → ℕ → Bool
are_together m n =
    list_all (leads m n) (addresses ∷ inner_tag ∷ outer_tag ∷ ether_type ∷ arp ∷ ipv4 ∷ items_of Nothing ∷ items_of Tcp ∷ items_of Udp ∷ items_of Icmpv4 ∷ items_of Icmpv6 ∷ [])
    && list_all (in_both m n) (ipv6 ∷ options ∷ fragment ∷ [])

both_true : (a b : Bool) → (a && b) ≡ true → (a ≡ true) × (b ≡ true)
both_true true b h = (refl, h)
both_true false b h = absurd cc

next_leads : (m n : ℕ) (is : Item → List Item) → in_both m n is ≡ true → (es : List Extension) → leads m n (is (next_before es)) ≡ true
next_leads m n is h [] = (both_true _ _ h).0
next_leads m n is h (e ∷ es) = (both_true _ _ h).1

transport_leads : (m n : ℕ) → leads m n (items_of Nothing) ≡ true → leads m n (items_of Tcp) ≡ true → leads m n (items_of Udp) ≡ true → leads m n (items_of Icmpv4) ≡ true → leads m n (items_of Icmpv6) ≡ true → (t : Transport) → leads m n (items_of t) ≡ true
transport_leads m n a b c d e Nothing = a
transport_leads m n a b c d e Tcp = b
transport_leads m n a b c d e Udp = c
transport_leads m n a b c d e Icmpv4 = d
transport_leads m n a b c d e Icmpv6 = e

together_by : (m n : ℕ) → are_together m n ≡ true → AreTogether m n
together_by m n h =
    let p = both_true _ _ h in
    let a = both_true _ _ p.0 in
    let b = both_true _ _ a.1 in
    let c = both_true _ _ b.1 in
    let d = both_true _ _ c.1 in
    let e = both_true _ _ d.1 in
    let f = both_true _ _ e.1 in
    let g = both_true _ _ f.1 in
    let i = both_true _ _ g.1 in
    let j = both_true _ _ i.1 in
    let k = both_true _ _ j.1 in
    let l = both_true _ _ k.1 in
    let q = both_true _ _ p.1 in
    let r = both_true _ _ q.1 in
    let s = both_true _ _ r.1 in
    record {
      in_addresses = a.0;
      in_inner = b.0;
      in_tag = c.0;
      in_type = d.0;
      in_arp = e.0;
      in_ipv4 = f.0;
      in_ipv6 = next_leads m n ipv6 q.0;
      in_options = next_leads m n options r.0;
      in_fragment = next_leads m n fragment s.0;
      in_transport = transport_leads m n g.0 i.0 j.0 k.0 l.0;
    }

-- each field that a field leads to
all_together : (f : Field) → list_all (λ g. are_together (number_of f) (number_of g)) (implied_fields f) ≡ true
unfolding row_of
all_together f = elim f as (λ f. list_all (λ g. are_together (number_of f) (number_of g)) (implied_fields f) ≡ true) [ InPort ↦ refl | _ ↦ refl ]

contained : (test : Field → Bool) (gs : List Field) (g : Field) (k : ℕ) → list_all test gs ≡ true → k < length gs → get_or gs k g ≡ g → test g ≡ true
contained test [] g k all lt is = absurd (omega (arith, lt))
contained test (x ∷ gs) g zero all lt is = subst (λ y. test y ≡ true) is (both_true _ _ all).0
contained test (x ∷ gs) g (suc k) all lt is = contained test gs g k (both_true _ _ all).1 (omega (arith, lt)) is

none_in : (g : Field) → Contains [] g → ⊥
none_in g c = absurd (omega (arith, c.1))

-- only fields of frames lead to others
from_map : (l : Layers) (port metadata : ℕ) (f g : Field) → Contains (implied_fields f) g → IsSome (field_map l port metadata f) → IsSome (look f (cells l))
from_map l port metadata InPort g c h = absurd (none_in g c)
from_map l port metadata Metadata g c h = absurd (none_in g c)
from_map l port metadata VlanVid g c h = absurd (none_in g c)
from_map l port metadata f g c h = h

to_map : (l : Layers) (port metadata : ℕ) (g : Field) → IsSome (look g (cells l)) → IsSome (field_map l port metadata g)
to_map l port metadata InPort h = refl
to_map l port metadata Metadata h = refl
to_map l port metadata VlanVid h = refl
to_map l port metadata g h = h

pub go_together : (frame : List ℕ) (port metadata : ℕ) → AreBytes frame → 14 ≤ length frame → (f g : Field) → Contains (implied_fields f) g → IsSome (field_map (layers_of frame) port metadata f) → IsSome (field_map (layers_of frame) port metadata g)
go_together frame port metadata bytes long f g c h =
    let l = layers_of frame in
    let test = contained (λ g. are_together (number_of f) (number_of g)) (implied_fields f) g c.0 (all_together f) c.1 c.2 in
    let lead = layers_lead (number_of f) (number_of g) (together_by (number_of f) (number_of g) test) l (are_layers frame bytes long) in
    to_map l port metadata g (lead.so (from_map l port metadata f g c h))

-- Each frame has the fields of its shape and of its tags.
use Rattle.std.proofs.Common.{◌≡◌, ℕ, ◌+◌, ◌<◌, ◌≤◌, zero, suc, Bool, true, false, cond, ◌&&◌, eqb, List, [], ◌∷◌, ◌++◌, length, get_or, Option, Some, None, refl, sym, ap, subst, ◌∙◌, arith}
use Rattle.std.specs.Prelude.{◌||◌, ◌/◌, ◌%◌, not, is_some, bit_and, nat_le}
use Rattle.std.{specs.Int.bit_at, specs.Int.Bits.and_comm, specs.Int.Bits.and_zero_l, specs.Option.option_or, proofs.lemmas.Nat.Bits.and_pow, proofs.lemmas.Bool.eqb-true}
use Rattle.of_layers.specs.declared.field.Field.TheVariants.{InPort, Metadata, EthType, VlanVid, VlanPcp, IpProto}
use Rattle.of_layers.specs.declared.transport.Transport.TheVariants.{Nothing, Tcp, Udp, Icmpv4, Icmpv6}
use Rattle.of_layers.specs.Layers.{Item, plain, named, Cell, Extension, Options, Fragment, Body, Plain, Arp, Ipv4, Ipv6, Carried, Layers, cells_in, byte_cells, inner_cells, tag_cells, extension_cells, carried_cells, body_cells, cells, next_before, addresses, outer_tag, inner_tag, ether_type, arp, ipv4, ipv6, options, fragment, items_of, size_of}
use Rattle.of_layers.specs.WellFormed.{AreBytes, FitsItems, AreTags, AreExtensions, IsBody, IsLayers, IsCarried, carried_size}
use Rattle.of_layers.specs.{declared.field.Field.Field, declared.transport.Transport.Transport, Fields.row_of, Fields.number_of, Fields.ones_of, Fields.prerequisite_of}
use Rattle.of_layers.specs.{Looking.name_is, Looking.look_up, Looking.look, Reading.layers_of, Reading.over_ipv4, Reading.over_ipv6, Reading.kind_behind}
use Rattle.of_layers.proofs.FrameLemmas.{are_layers}
use Rattle.of_headers.{specs.FieldMap.field_map, specs.FieldMap.vid, proofs.LookLemmas.look-append, proofs.LookLemmas.look_bytes, proofs.LookLemmas.or_assoc}
use Rattle.of_frames.specs.declared.shape.Shape.TheVariants as shapes
use Rattle.of_frames.specs.Rules.{Obeys, has_header, of_shape, of_tagging, shape_of, tagging_of, shape_type, valued, HasShape, IsTagging}
use Rattle.of_frames.specs.{declared.shape.Tagging.Tagging, declared.shape.Tagging.TheVariants.Untagged, declared.shape.Tagging.TheVariants.Tagged}
use Rattle.of_frames.specs.declared.shape.Rule.TheVariants.{Absent, Under}
use Rattle.of_frames.specs.Rules as rules_of

-- ---- whether a name is found

abbrev has : ℕ → List Item → Bool
has n [] = false
has n (i ∷ is) = name_is n i.name || has n is

some_or : (a b : Option ℕ) → is_some (option_or a b) ≡ (is_some a || is_some b)
some_or None b = refl
some_or (Some x) b = refl

some_append : (n : ℕ) (a b : List Cell) (p q : Bool) → is_some (look_up n a) ≡ p → is_some (look_up n b) ≡ q → is_some (look_up n (a ++ b)) ≡ (p || q)
some_append n a b p q h k = ap is_some (look-append n a b) ∙ some_or (look_up n a) (look_up n b) ∙ rw (h, k) refl

some_bytes : (n : ℕ) (s : List ℕ) → is_some (look_up n (byte_cells s)) ≡ false
some_bytes n s = ap is_some (look_bytes n s)

some_by : (t h : Bool) (v : ℕ) (rest : Option ℕ) → is_some rest ≡ h → is_some (cond t (Some v) rest) ≡ (t || h)
some_by true h v rest e = refl
some_by false h v rest e = e

some_items : (n : ℕ) (is : List Item) (ns : List ℕ) → FitsItems is ns → is_some (look_up n (cells_in is ns)) ≡ has n is
some_items n [] ns f = refl
some_items n (i ∷ is) [] f = absurd f
some_items n (i ∷ is) (v ∷ ns) f = some_by (name_is n i.name) (has n is) v (look_up n (cells_in is ns)) (some_items n is ns f.1)

or_false : (b : Bool) → (b || false) ≡ b
or_false true = refl
or_false false = refl

-- ---- values

-- the first item of this name is at this place
abbrev first : ℕ → List Item → ℕ → Bool
first n [] i = false
first n (x ∷ is) zero = name_is n x.name
first n (x ∷ is) (suc i) = not (name_is n x.name) && first n is i

first_by : (t h : Bool) (v : ℕ) (o : Option ℕ) (w : Option ℕ) → (not t && h) ≡ true → (h ≡ true → o ≡ w) → cond t (Some v) o ≡ w
first_by true h v o w e f = absurd cc
first_by false h v o w e f = f e

value_at : (n : ℕ) (is : List Item) (ns : List ℕ) (i : ℕ) → first n is i ≡ true → FitsItems is ns → look_up n (cells_in is ns) ≡ Some (get_or ns i 0)
value_at n [] ns i e f = absurd cc
value_at n (x ∷ is) [] i e f = absurd f
value_at n (x ∷ is) (v ∷ ns) zero e f = rw e refl
value_at n (x ∷ is) (v ∷ ns) (suc i) e f = first_by (name_is n x.name) (first n is i) v (look_up n (cells_in is ns)) (Some (get_or ns i 0)) e (λ h. value_at n is ns i h f.1)

none_before : (n : ℕ) (a b : List Cell) → is_some (look_up n a) ≡ false → look_up n (a ++ b) ≡ look_up n b
none_before n a b h = look-append n a b ∙ none_or (look_up n a) (look_up n b) h
  where
    none_or : (x y : Option ℕ) → is_some x ≡ false → option_or x y ≡ y
    none_or None y e = refl
    none_or (Some v) y e = absurd cc

found_first : (n : ℕ) (a b : List Cell) (v : ℕ) → look_up n a ≡ Some v → look_up n (a ++ b) ≡ Some v
found_first n a b v h = look-append n a b ∙ rw h refl

-- ---- tags

inner_none : (n : ℕ) (ts : List (List ℕ)) → AreTags ts → is_some (look_up n (inner_cells ts)) ≡ false
inner_none n [] h = refl
inner_none n (t ∷ ts) h = some_append n (cells_in inner_tag t) (inner_cells ts) false false (some_items n inner_tag t h.0) (inner_none n ts h.2)

outer_fits : (t : List ℕ) → FitsItems inner_tag t → FitsItems outer_tag t
outer_fits [] f = f
outer_fits (a ∷ []) f = f
outer_fits (a ∷ b ∷ []) f = f
outer_fits (a ∷ b ∷ c ∷ []) f = f
outer_fits (a ∷ b ∷ c ∷ d ∷ []) f = f
outer_fits (a ∷ b ∷ c ∷ d ∷ e ∷ r) f = f

abbrev tagged : ℕ → List (List ℕ) → Bool
tagged n [] = false
tagged n (t ∷ ts) = has n outer_tag || false

some_tags : (n : ℕ) (ts : List (List ℕ)) → AreTags ts → is_some (look_up n (tag_cells ts)) ≡ tagged n ts
some_tags n [] h = refl
some_tags n (t ∷ ts) h = some_append n (cells_in outer_tag t) (inner_cells ts) (has n outer_tag) false (some_items n outer_tag t (outer_fits t h.0)) (inner_none n ts h.2)

-- ---- extension headers

either_way : (P : Type 0) (b : Bool) → (b ≡ true → P) → (b ≡ false → P) → P
either_way P true f g = f refl
either_way P false f g = g refl

abbrev next : List Item
next = options (named IpProto 8)

some_chain : (n kind : ℕ) (e : Extension) (es : List Extension) (c : Carried) → AreExtensions kind (e ∷ es) c → is_some (look_up n (extension_cells (e ∷ es))) ≡ has n next
some_chain n kind (Options ns bytes) [] c h =
    some_append n (cells_in next ns) (byte_cells bytes ++ []) (has n next) false (some_items n next ns h.1) (some_append n (byte_cells bytes) [] false false (some_bytes n bytes) refl) ∙ or_false (has n next)
some_chain n kind (Options ns bytes) (e ∷ es) c h =
    some_append n (cells_in (options (plain 8)) ns) (byte_cells bytes ++ extension_cells (e ∷ es)) false (has n next) (some_items n (options (plain 8)) ns h.1)
    (some_append n (byte_cells bytes) (extension_cells (e ∷ es)) false (has n next) (some_bytes n bytes) (some_chain n (get_or ns 0 0) e es c h.4))
some_chain n kind (Fragment ns) [] c h =
    some_append n (cells_in (fragment (named IpProto 8)) ns) [] (has n next) false (some_items n (fragment (named IpProto 8)) ns h.1) refl ∙ or_false (has n next)
some_chain n kind (Fragment ns) (e ∷ es) c h =
    some_append n (cells_in (fragment (plain 8)) ns) (extension_cells (e ∷ es)) false (has n next) (some_items n (fragment (plain 8)) ns h.1)
    (either_way (is_some (look_up n (extension_cells (e ∷ es))) ≡ has n next) (eqb (get_or ns 2 0) 0) (λ is. some_chain n (get_or ns 0 0) e es c (h.2 is)) (λ is. let none = (h.3 is).0 in absurd cc))

-- ---- what is carried

-- the kinds that a protocol may have over IPv4, and over IPv6
abbrev MayCarry4 : Transport → ℕ → Type 0
MayCarry4 Nothing p = Unit {0}
MayCarry4 Tcp p = p ≡ 6
MayCarry4 Udp p = p ≡ 17
MayCarry4 Icmpv4 p = p ≡ 1
MayCarry4 Icmpv6 p = ⊥

abbrev MayCarry6 : Transport → ℕ → Type 0
MayCarry6 Nothing p = Unit {0}
MayCarry6 Tcp p = p ≡ 6
MayCarry6 Udp p = p ≡ 17
MayCarry6 Icmpv4 p = ⊥
MayCarry6 Icmpv6 p = p ≡ 58

whole4 : (k : Transport) (b : Bool) (p : ℕ) → MayCarry4 k p → MayCarry4 (cond b k Nothing) p
whole4 k true p h = h
whole4 k false p h = tt

whole6 : (k : Transport) (b : Bool) (p : ℕ) → MayCarry6 k p → MayCarry6 (cond b k Nothing) p
whole6 k true p h = h
whole6 k false p h = tt

named4 : (a b c : Bool) (p : ℕ) → (a ≡ true → p ≡ 6) → (b ≡ true → p ≡ 17) → (c ≡ true → p ≡ 1) → MayCarry4 (cond a Tcp (cond b Udp (cond c Icmpv4 Nothing))) p
named4 true b c p x y z = x refl
named4 false true c p x y z = y refl
named4 false false true p x y z = z refl
named4 false false false p x y z = tt

named6 : (a b c : Bool) (p : ℕ) → (a ≡ true → p ≡ 6) → (b ≡ true → p ≡ 17) → (c ≡ true → p ≡ 58) → MayCarry6 (cond a Tcp (cond b Udp (cond c Icmpv6 Nothing))) p
named6 true b c p x y z = x refl
named6 false true c p x y z = y refl
named6 false false true p x y z = z refl
named6 false false false p x y z = tt

carried4 : (c : Carried) (offset p : ℕ) → IsCarried (kind_behind offset (over_ipv4 p)) c → MayCarry4 c.kind p
carried4 c offset p h =
    let over : MayCarry4 (over_ipv4 p) p = named4 (eqb p 6) (eqb p 17) (eqb p 1) p (eqb-true p 6) (eqb-true p 17) (eqb-true p 1) in
    let kind : MayCarry4 (kind_behind offset (over_ipv4 p)) p = whole4 (over_ipv4 p) (eqb offset 0) p over in
    subst (λ (k : Transport). MayCarry4 k p) (sym h.there) (whole4 (kind_behind offset (over_ipv4 p)) (nat_le (size_of (kind_behind offset (over_ipv4 p))) (carried_size c)) p kind)

carried6 : (c : Carried) (p : ℕ) → IsCarried (over_ipv6 p) c → MayCarry6 c.kind p
carried6 c p h =
    let over : MayCarry6 (over_ipv6 p) p = named6 (eqb p 6) (eqb p 17) (eqb p 58) p (eqb-true p 6) (eqb-true p 17) (eqb-true p 58) in
    subst (λ (k : Transport). MayCarry6 k p) (sym h.there) (whole6 (over_ipv6 p) (nat_le (size_of (over_ipv6 p)) (carried_size c)) p over)

carries_nothing : (c : Carried) (p : ℕ) → IsCarried Nothing c → MayCarry6 c.kind p
carries_nothing c p h = subst (λ (k : Transport). MayCarry6 k p) (sym h.there) (whole6 Nothing (nat_le 0 (carried_size c)) p tt)

-- ---- the protocol, which the last of the headers names

record Names (cs : List Cell) (c : Carried) : Type 0 where
  protocol : ℕ
  there : look_up 10 cs ≡ Some protocol
  carried : MayCarry6 c.kind protocol
  fits : FitsItems (items_of c.kind) c.numbers

chain_names : (kind : ℕ) (e : Extension) (es : List Extension) (c : Carried) → AreExtensions kind (e ∷ es) c → Names (extension_cells (e ∷ es)) c
unfolding row_of
chain_names kind (Options ns bytes) [] c h = record {
  protocol = get_or ns 0 0;
  there = found_first 10 (cells_in next ns) (byte_cells bytes ++ []) (get_or ns 0 0) (value_at 10 next ns 0 refl h.1);
  carried = carried6 c (get_or ns 0 0) h.4.0;
  fits = h.4.0.numbers;
}
chain_names kind (Options ns bytes) (e ∷ es) c h =
    let behind : Names (extension_cells (e ∷ es)) c = chain_names (get_or ns 0 0) e es c h.4 in
    record {
      protocol = behind.protocol;
      there = none_before 10 (cells_in (options (plain 8)) ns) (byte_cells bytes ++ extension_cells (e ∷ es)) (some_items 10 (options (plain 8)) ns h.1) ∙ none_before 10 (byte_cells bytes) (extension_cells (e ∷ es)) (some_bytes 10 bytes) ∙ behind.there;
      carried = behind.carried;
      fits = behind.fits;
    }
chain_names kind (Fragment ns) [] c h = elim (eqb (get_or ns 2 0) 0) as (λ b. eqb (get_or ns 2 0) 0 ≡ b → Names (extension_cells (Fragment ns ∷ [])) c) [
  | true ↦ λ is. let last = h.2 is in record { protocol = get_or ns 0 0; there = found_first 10 (cells_in (fragment (named IpProto 8)) ns) [] (get_or ns 0 0) (value_at 10 (fragment (named IpProto 8)) ns 0 refl h.1); carried = carried6 c (get_or ns 0 0) last.0; fits = last.0.numbers }
  | false ↦ λ is. let last = h.3 is in record { protocol = get_or ns 0 0; there = found_first 10 (cells_in (fragment (named IpProto 8)) ns) [] (get_or ns 0 0) (value_at 10 (fragment (named IpProto 8)) ns 0 refl h.1); carried = carries_nothing c (get_or ns 0 0) last.1; fits = last.1.numbers }
] refl
chain_names kind (Fragment ns) (e ∷ es) c h = either_way (Names (extension_cells (Fragment ns ∷ e ∷ es)) c) (eqb (get_or ns 2 0) 0)
    (λ is.
    let others : Names (extension_cells (e ∷ es)) c = chain_names (get_or ns 0 0) e es c (h.2 is) in
    record { protocol = others.protocol; there = none_before 10 (cells_in (fragment (plain 8)) ns) (extension_cells (e ∷ es)) (some_items 10 (fragment (plain 8)) ns h.1) ∙ others.there; carried = others.carried; fits = others.fits })
    (λ is. let none = (h.3 is).0 in absurd cc)

-- IPv6's own header and those that extend it
abbrev front6 : List ℕ → List Extension → List Cell
front6 ns es = cells_in (ipv6 (next_before es)) ns ++ extension_cells es

front_names : (ns : List ℕ) (es : List Extension) (c : Carried) → FitsItems (ipv6 (next_before es)) ns → AreExtensions (get_or ns 5 0) es c → Names (front6 ns es) c
unfolding row_of
front_names ns [] c f h = record {
  protocol = get_or ns 5 0;
  there = found_first 10 (cells_in (ipv6 (named IpProto 8)) ns) [] (get_or ns 5 0) (value_at 10 (ipv6 (named IpProto 8)) ns 5 refl f);
  carried = carried6 c (get_or ns 5 0) h.0;
  fits = h.0.numbers;
}
front_names ns (e ∷ es) c f h =
    let behind : Names (extension_cells (e ∷ es)) c = chain_names (get_or ns 5 0) e es c h in
    record { protocol = behind.protocol; there = none_before 10 (cells_in (ipv6 (plain 8)) ns) (extension_cells (e ∷ es)) (some_items 10 (ipv6 (plain 8)) ns f) ∙ behind.there; carried = behind.carried; fits = behind.fits }

next_same : (f : Field) → (has (number_of f) (ipv6 (plain 8)) || has (number_of f) next) ≡ has (number_of f) (ipv6 (named IpProto 8))
unfolding row_of
next_same f = elim f as (λ f. (has (number_of f) (ipv6 (plain 8)) || has (number_of f) next) ≡ has (number_of f) (ipv6 (named IpProto 8))) [ InPort ↦ refl | _ ↦ refl ]

some_front : (f : Field) (ns : List ℕ) (es : List Extension) (c : Carried) → FitsItems (ipv6 (next_before es)) ns → AreExtensions (get_or ns 5 0) es c → is_some (look_up (number_of f) (front6 ns es)) ≡ has (number_of f) (ipv6 (named IpProto 8))
some_front f ns [] c fits h =
    let n = number_of f in
    some_append n (cells_in (ipv6 (named IpProto 8)) ns) [] (has n (ipv6 (named IpProto 8))) false (some_items n (ipv6 (named IpProto 8)) ns fits) refl ∙ or_false (has n (ipv6 (named IpProto 8)))
some_front f ns (e ∷ es) c fits h =
    let n = number_of f in
    some_append n (cells_in (ipv6 (plain 8)) ns) (extension_cells (e ∷ es)) (has n (ipv6 (plain 8))) (has n next) (some_items n (ipv6 (plain 8)) ns fits) (some_chain n (get_or ns 5 0) e es c h) ∙ next_same f

-- ---- a body

some_carried : (n : ℕ) (c : Carried) (rest : List ℕ) → FitsItems (items_of c.kind) c.numbers → is_some (look_up n (carried_cells c ++ byte_cells rest)) ≡ ((has n (items_of c.kind) || false) || false)
some_carried n c rest f =
    some_append n (carried_cells c) (byte_cells rest) (has n (items_of c.kind) || false) false
    (some_append n (cells_in (items_of c.kind) c.numbers) (byte_cells c.rest) (has n (items_of c.kind)) false (some_items n (items_of c.kind) c.numbers f) (some_bytes n c.rest)) (some_bytes n rest)

abbrev in_body : ℕ → Body → Bool
in_body n (Plain rest) = false
in_body n (Arp ns rest) = has n arp || false
in_body n (Ipv4 ns opts c rest) = has n ipv4 || ((has n (items_of c.kind) || false) || false)
in_body n (Ipv6 ns es c rest) = has n (ipv6 (named IpProto 8)) || ((has n (items_of c.kind) || false) || false)

re_joined : (n : ℕ) (a b c : List Cell) → is_some (look_up n (a ++ (b ++ c))) ≡ is_some (look_up n ((a ++ b) ++ c))
re_joined n a b c =
    some_append n a (b ++ c) (is_some (look_up n a)) (is_some (look_up n b) || is_some (look_up n c)) refl (some_append n b c _ _ refl refl)
    ∙ or_assoc (is_some (look_up n a)) (is_some (look_up n b)) (is_some (look_up n c))
    ∙ sym (some_append n (a ++ b) c (is_some (look_up n a) || is_some (look_up n b)) (is_some (look_up n c)) (some_append n a b _ _ refl refl) refl)
  where
    or_assoc : (x y z : Bool) → (x || (y || z)) ≡ ((x || y) || z)
    or_assoc true y z = refl
    or_assoc false y z = refl

some_body : (f : Field) (type : ℕ) (b : Body) → IsBody type b → is_some (look_up (number_of f) (body_cells b)) ≡ in_body (number_of f) b
some_body f type (Plain rest) h = some_bytes (number_of f) rest
some_body f type (Arp ns rest) h = let n = number_of f in some_append n (cells_in arp ns) (byte_cells rest) (has n arp) false (some_items n arp ns h.1.numbers) (some_bytes n rest)
some_body f type (Ipv4 ns opts c rest) h =
    let n = number_of f in
    let last = (has n (items_of c.kind) || false) || false in
    some_append n (cells_in ipv4 ns) (byte_cells opts ++ (carried_cells c ++ byte_cells rest)) (has n ipv4) last (some_items n ipv4 ns h.1.numbers)
    (some_append n (byte_cells opts) (carried_cells c ++ byte_cells rest) false last (some_bytes n opts) (some_carried n c rest h.1.carries.numbers))
some_body f type (Ipv6 ns es c rest) h =
    let n = number_of f in
    let names : Names (front6 ns es) c = front_names ns es c h.1.numbers h.1.chain in
    re_joined n (cells_in (ipv6 (next_before es)) ns) (extension_cells es) (carried_cells c ++ byte_cells rest)
    ∙ some_append n (front6 ns es) (carried_cells c ++ byte_cells rest) (has n (ipv6 (named IpProto 8))) ((has n (items_of c.kind) || false) || false) (some_front f ns es c h.1.numbers h.1.chain) (some_carried n c rest names.fits)

-- ---- a frame

abbrev in_frame : ℕ → Layers → Bool
in_frame n l = has n addresses || (tagged n l.tags || (has n ether_type || in_body n l.body))

some_cells : (f : Field) (l : Layers) → IsLayers l → is_some (look f (cells l)) ≡ in_frame (number_of f) l
some_cells f l h =
    let n = number_of f in
    some_append n (cells_in addresses l.ends) _ (has n addresses) _ (some_items n addresses l.ends h.ends)
    (some_append n (tag_cells l.tags) _ (tagged n l.tags) _ (some_tags n l.tags h.tags)
    (some_append n (cells_in ether_type (l.type ∷ [])) (body_cells l.body) (has n ether_type) (in_body n l.body) (some_items n ether_type (l.type ∷ []) (h.type, tt)) (some_body f l.type l.body h.body)))

-- what the body carries, as its shape says it
abbrev IsCarrying : Body → Type 0
IsCarrying (Ipv4 ns opts c rest) = MayCarry4 c.kind (get_or ns 9 0)
IsCarrying (Ipv6 ns es c rest) = (p : ℕ) × MayCarry6 c.kind p
IsCarrying other = Unit {0}

is_carrying : (type : ℕ) (b : Body) → IsBody type b → IsCarrying b
is_carrying type (Ipv4 ns opts c rest) h = carried4 c (get_or ns 7 0) (get_or ns 9 0) h.1.carries
is_carrying type (Ipv6 ns es c rest) h = let n = front_names ns es c h.1.numbers h.1.chain in (n.protocol, n.carried)
is_carrying type other h = tt

-- ---- the fields of a frame, by its shape

abbrev is_tags : Field → Bool
is_tags VlanVid = true
is_tags VlanPcp = true
is_tags other = false

-- fields that no header has, or that a tag has
abbrev elsewhere : Field → Bool
elsewhere InPort = true
elsewhere Metadata = true
elsewhere VlanVid = true
elsewhere VlanPcp = true
elsewhere other = false

abbrev around : ℕ → Bool → Bool
around n b = has n addresses || (has n ether_type || b)

bare_has : (f : Field) → elsewhere f ≡ false → around (number_of f) false ≡ has_header shapes.Bare (prerequisite_of f)
unfolding row_of
bare_has f = elim f as (λ f. elsewhere f ≡ false → around (number_of f) false ≡ has_header shapes.Bare (prerequisite_of f)) [ InPort ↦ λ e. absurd cc | Metadata ↦ λ e. absurd cc | VlanVid ↦ λ e. absurd cc | VlanPcp ↦ λ e. absurd cc | _ ↦ λ e. refl ]

arp_has : (f : Field) → elsewhere f ≡ false → around (number_of f) (has (number_of f) arp || false) ≡ has_header shapes.Arp (prerequisite_of f)
unfolding row_of
arp_has f = elim f as (λ f. elsewhere f ≡ false → around (number_of f) (has (number_of f) arp || false) ≡ has_header shapes.Arp (prerequisite_of f)) [ InPort ↦ λ e. absurd cc | Metadata ↦ λ e. absurd cc | VlanVid ↦ λ e. absurd cc | VlanPcp ↦ λ e. absurd cc | _ ↦ λ e. refl ]

abbrev in4 : ℕ → Transport → Bool
in4 n k = around n (has n ipv4 || ((has n (items_of k) || false) || false))

abbrev in6 : ℕ → Transport → Bool
in6 n k = around n (has n (ipv6 (named IpProto 8)) || ((has n (items_of k) || false) || false))

ipv4_has : (k : Transport) (p : ℕ) → MayCarry4 k p → (f : Field) → elsewhere f ≡ false → in4 (number_of f) k ≡ has_header (rules_of.ipv4_shape k) (prerequisite_of f)
unfolding row_of
ipv4_has Nothing p m f = elim f as (λ f. elsewhere f ≡ false → in4 (number_of f) Nothing ≡ has_header shapes.Ipv4 (prerequisite_of f)) [ InPort ↦ λ e. absurd cc | Metadata ↦ λ e. absurd cc | VlanVid ↦ λ e. absurd cc | VlanPcp ↦ λ e. absurd cc | _ ↦ λ e. refl ]
ipv4_has Tcp p m f = elim f as (λ f. elsewhere f ≡ false → in4 (number_of f) Tcp ≡ has_header shapes.Ipv4Tcp (prerequisite_of f)) [ InPort ↦ λ e. absurd cc | Metadata ↦ λ e. absurd cc | VlanVid ↦ λ e. absurd cc | VlanPcp ↦ λ e. absurd cc | _ ↦ λ e. refl ]
ipv4_has Udp p m f = elim f as (λ f. elsewhere f ≡ false → in4 (number_of f) Udp ≡ has_header shapes.Ipv4Udp (prerequisite_of f)) [ InPort ↦ λ e. absurd cc | Metadata ↦ λ e. absurd cc | VlanVid ↦ λ e. absurd cc | VlanPcp ↦ λ e. absurd cc | _ ↦ λ e. refl ]
ipv4_has Icmpv4 p m f = elim f as (λ f. elsewhere f ≡ false → in4 (number_of f) Icmpv4 ≡ has_header shapes.Ipv4Icmp (prerequisite_of f)) [ InPort ↦ λ e. absurd cc | Metadata ↦ λ e. absurd cc | VlanVid ↦ λ e. absurd cc | VlanPcp ↦ λ e. absurd cc | _ ↦ λ e. refl ]
ipv4_has Icmpv6 p m f = absurd m

ipv6_has : (k : Transport) (p : ℕ) → MayCarry6 k p → (f : Field) → elsewhere f ≡ false → in6 (number_of f) k ≡ has_header (rules_of.ipv6_shape k) (prerequisite_of f)
unfolding row_of
ipv6_has Nothing p m f = elim f as (λ f. elsewhere f ≡ false → in6 (number_of f) Nothing ≡ has_header shapes.Ipv6 (prerequisite_of f)) [ InPort ↦ λ e. absurd cc | Metadata ↦ λ e. absurd cc | VlanVid ↦ λ e. absurd cc | VlanPcp ↦ λ e. absurd cc | _ ↦ λ e. refl ]
ipv6_has Tcp p m f = elim f as (λ f. elsewhere f ≡ false → in6 (number_of f) Tcp ≡ has_header shapes.Ipv6Tcp (prerequisite_of f)) [ InPort ↦ λ e. absurd cc | Metadata ↦ λ e. absurd cc | VlanVid ↦ λ e. absurd cc | VlanPcp ↦ λ e. absurd cc | _ ↦ λ e. refl ]
ipv6_has Udp p m f = elim f as (λ f. elsewhere f ≡ false → in6 (number_of f) Udp ≡ has_header shapes.Ipv6Udp (prerequisite_of f)) [ InPort ↦ λ e. absurd cc | Metadata ↦ λ e. absurd cc | VlanVid ↦ λ e. absurd cc | VlanPcp ↦ λ e. absurd cc | _ ↦ λ e. refl ]
ipv6_has Icmpv6 p m f = elim f as (λ f. elsewhere f ≡ false → in6 (number_of f) Icmpv6 ≡ has_header shapes.Ipv6Icmp (prerequisite_of f)) [ InPort ↦ λ e. absurd cc | Metadata ↦ λ e. absurd cc | VlanVid ↦ λ e. absurd cc | VlanPcp ↦ λ e. absurd cc | _ ↦ λ e. refl ]
ipv6_has Icmpv4 p m f = absurd m

body_has : (b : Body) → IsCarrying b → (f : Field) → elsewhere f ≡ false → around (number_of f) (in_body (number_of f) b) ≡ has_header (shape_of b) (prerequisite_of f)
body_has (Plain rest) h f e = bare_has f e
body_has (Arp ns rest) h f e = arp_has f e
body_has (Ipv4 ns opts c rest) h f e = ipv4_has c.kind (get_or ns 9 0) h f e
body_has (Ipv6 ns es c rest) h f e = ipv6_has c.kind h.0 h.1 f e

outer_lacks : (f : Field) → elsewhere f ≡ false → has (number_of f) outer_tag ≡ false
unfolding row_of
outer_lacks f = elim f as (λ f. elsewhere f ≡ false → has (number_of f) outer_tag ≡ false) [ InPort ↦ λ e. refl | VlanVid ↦ λ e. absurd cc | VlanPcp ↦ λ e. absurd cc | _ ↦ λ e. refl ]

no_tag : (n : ℕ) (ts : List (List ℕ)) → has n outer_tag ≡ false → tagged n ts ≡ false
no_tag n [] e = refl
no_tag n (t ∷ ts) e = rw e refl

frame_has : (l : Layers) → IsLayers l → (f : Field) → elsewhere f ≡ false → is_some (look f (cells l)) ≡ has_header (shape_of l.body) (prerequisite_of f)
frame_has l h f e =
    let n = number_of f in
    some_cells f l h
    ∙ ap (λ (b : Bool). has n addresses || (b || (has n ether_type || in_body n l.body))) (no_tag n l.tags (outer_lacks f e))
    ∙ body_has l.body (is_carrying l.type l.body h.body) f e

-- ---- rules

zero_bits : (v : ℕ) → bit_and v 0 ≡ 0
zero_bits v = and_comm v 0 ∙ and_zero_l v

there : (o : Option ℕ) → is_some o ≡ true → Obeys (Under 0 0) o
there None e = absurd cc
there (Some v) e = ap Some (zero_bits v)

gone : (o : Option ℕ) → is_some o ≡ false → o ≡ None
gone None e = refl
gone (Some v) e = absurd cc

there_or_not : (o : Option ℕ) (b : Bool) → is_some o ≡ b → Obeys (cond b (Under 0 0) Absent) o
there_or_not o true e = there o e
there_or_not o false e = gone o e

-- ---- type and protocol

type4 : (k : Transport) → shape_type (rules_of.ipv4_shape k) ≡ Some 0x0800
type4 k = elim k as (λ k. shape_type (rules_of.ipv4_shape k) ≡ Some 0x0800) [ Nothing ↦ refl | _ ↦ refl ]

type6 : (k : Transport) → shape_type (rules_of.ipv6_shape k) ≡ Some 0x86dd
type6 k = elim k as (λ k. shape_type (rules_of.ipv6_shape k) ≡ Some 0x86dd) [ Nothing ↦ refl | _ ↦ refl ]

one_type : (type n : ℕ) → type ≡ n → bit_and n (ones_of EthType) ≡ n → Obeys (valued EthType (Some n)) (Some type)
one_type type n is all = ap (λ (t : ℕ). Some (bit_and t (ones_of EthType))) is ∙ ap Some all

typed : (type : ℕ) (b : Body) → IsBody type b → Obeys (valued EthType (shape_type (shape_of b))) (Some type)
unfolding row_of
typed type (Plain rest) h = ap Some (zero_bits type)
typed type (Arp ns rest) h = one_type type 0x0806 h.0 refl
typed type (Ipv4 ns opts c rest) h = subst (λ (o : Option ℕ). Obeys (valued EthType o) (Some type)) (sym (type4 c.kind)) (one_type type 0x0800 h.0 refl)
typed type (Ipv6 ns es c rest) h = subst (λ (o : Option ℕ). Obeys (valued EthType o) (Some type)) (sym (type6 c.kind)) (one_type type 0x86dd h.0 refl)

-- the bits before a body name neither type nor protocol
front_lacks : (n : ℕ) (l : Layers) → IsLayers l → has n addresses ≡ false → has n outer_tag ≡ false → (rest : List Cell) → look_up n (cells_in addresses l.ends ++ (tag_cells l.tags ++ rest)) ≡ look_up n rest
front_lacks n l h a t rest =
    none_before n (cells_in addresses l.ends) (tag_cells l.tags ++ rest) (some_items n addresses l.ends h.ends ∙ a)
    ∙ none_before n (tag_cells l.tags) rest (some_tags n l.tags h.tags ∙ no_tag n l.tags t)

type_found : (l : Layers) → IsLayers l → look EthType (cells l) ≡ Some l.type
unfolding row_of
type_found l h = front_lacks 5 l h refl refl (cells_in ether_type (l.type ∷ []) ++ body_cells l.body) ∙ found_first 5 (cells_in ether_type (l.type ∷ [])) (body_cells l.body) l.type refl

protocol4 : (k : Transport) (p : ℕ) → MayCarry4 k p → Obeys (of_shape (rules_of.ipv4_shape k) IpProto) (Some p)
unfolding row_of
protocol4 Nothing p m = ap Some (zero_bits p)
protocol4 Icmpv6 p m = absurd m
protocol4 other p m = rw m refl

protocol6 : (k : Transport) (p : ℕ) → MayCarry6 k p → Obeys (of_shape (rules_of.ipv6_shape k) IpProto) (Some p)
unfolding row_of
protocol6 Nothing p m = ap Some (zero_bits p)
protocol6 Icmpv4 p m = absurd m
protocol6 other p m = rw m refl

joined : (n v : ℕ) (a b c : List Cell) → look_up n (a ++ b) ≡ Some v → look_up n (a ++ (b ++ c)) ≡ Some v
joined n v a b c h =
    look-append n a (b ++ c) ∙ ap (option_or (look_up n a)) (look-append n b c) ∙ sym (or_assoc (look_up n a) (look_up n b) (look_up n c))
    ∙ ap (λ (o : Option ℕ). option_or o (look_up n c)) (sym (look-append n a b) ∙ h)

protocol_in : (type : ℕ) (b : Body) → IsBody type b → Obeys (of_shape (shape_of b) IpProto) (look_up 10 (body_cells b))
unfolding row_of
protocol_in type (Plain rest) h = look_bytes 10 rest
protocol_in type (Arp ns rest) h = gone (look_up 10 (cells_in arp ns ++ byte_cells rest)) (some_append 10 (cells_in arp ns) (byte_cells rest) false false (some_arp ns h.1.numbers) (some_bytes 10 rest))
  where
    some_arp : (ns : List ℕ) → FitsItems arp ns → is_some (look_up 10 (cells_in arp ns)) ≡ false
    some_arp ns f = some_items 10 arp ns f
protocol_in type (Ipv4 ns opts c rest) h =
    subst (Obeys (of_shape (rules_of.ipv4_shape c.kind) IpProto)) (sym (found_first 10 (cells_in ipv4 ns) (byte_cells opts ++ (carried_cells c ++ byte_cells rest)) (get_or ns 9 0) (found ns h.1.numbers)))
    (protocol4 c.kind (get_or ns 9 0) (carried4 c (get_or ns 7 0) (get_or ns 9 0) h.1.carries))
  where
    found : (ns : List ℕ) → FitsItems ipv4 ns → look_up 10 (cells_in ipv4 ns) ≡ Some (get_or ns 9 0)
    found ns f = value_at 10 ipv4 ns 9 refl f
protocol_in type (Ipv6 ns es c rest) h =
    let names : Names (front6 ns es) c = front_names ns es c h.1.numbers h.1.chain in
    subst (Obeys (of_shape (rules_of.ipv6_shape c.kind) IpProto)) (sym (joined 10 names.protocol (cells_in (ipv6 (next_before es)) ns) (extension_cells es) (carried_cells c ++ byte_cells rest) names.there))
    (protocol6 c.kind names.protocol names.carried)

protocol_found : (l : Layers) → IsLayers l → Obeys (of_shape (shape_of l.body) IpProto) (look IpProto (cells l))
unfolding row_of
protocol_found l h =
    subst (Obeys (of_shape (shape_of l.body) IpProto)) (sym (front_lacks 10 l h refl refl (cells_in ether_type (l.type ∷ []) ++ body_cells l.body) ∙ none_before 10 (cells_in ether_type (l.type ∷ [])) (body_cells l.body) refl))
    (protocol_in l.type l.body h.body)

has_shape : (l : Layers) (port metadata : ℕ) → IsLayers l → HasShape (shape_of l.body) (field_map l port metadata)
unfolding row_of
has_shape l port metadata h f = elim f as (λ f. Obeys (of_shape (shape_of l.body) f) (field_map l port metadata f)) [
  | InPort ↦ ap Some (zero_bits port)
  | Metadata ↦ ap Some (zero_bits metadata)
  | VlanVid ↦ tt
  | VlanPcp ↦ tt
  | EthType ↦ subst (Obeys (valued EthType (shape_type (shape_of l.body)))) (sym (type_found l h)) (typed l.type l.body h.body)
  | IpProto ↦ protocol_found l h
  | f ↦ there_or_not (look f (cells l)) (has_header (shape_of l.body) (prerequisite_of f)) (frame_has l h f refl)
]

pub shaped : (frame : List ℕ) (port metadata : ℕ) → AreBytes frame → 14 ≤ length frame → HasShape (shape_of (layers_of frame).body) (field_map (layers_of frame) port metadata)
shaped frame port metadata bytes long = has_shape (layers_of frame) port metadata (are_layers frame bytes long)

-- ---- tags

carried_none : (n : ℕ) (k : Transport) → has n (items_of Nothing) ≡ false → has n (items_of Tcp) ≡ false → has n (items_of Udp) ≡ false → has n (items_of Icmpv4) ≡ false → has n (items_of Icmpv6) ≡ false → ((has n (items_of k) || false) || false) ≡ false
carried_none n Nothing a b c d e = refl
carried_none n Tcp a b c d e = rw b refl
carried_none n Udp a b c d e = rw c refl
carried_none n Icmpv4 a b c d e = rw d refl
carried_none n Icmpv6 a b c d e = rw e refl

vid_inside : (b : Body) → in_body (number_of VlanVid) b ≡ false
unfolding row_of
vid_inside (Ipv4 ns opts c rest) = carried_none 6 c.kind refl refl refl refl refl
vid_inside (Ipv6 ns es c rest) = carried_none 6 c.kind refl refl refl refl refl
vid_inside other = refl

pcp_inside : (b : Body) → in_body (number_of VlanPcp) b ≡ false
unfolding row_of
pcp_inside (Ipv4 ns opts c rest) = carried_none 7 c.kind refl refl refl refl refl
pcp_inside (Ipv6 ns es c rest) = carried_none 7 c.kind refl refl refl refl refl
pcp_inside other = refl

vid_fits : (t : List ℕ) → FitsItems inner_tag t → get_or t 3 0 < 4096
vid_fits [] f = absurd f
vid_fits (a ∷ []) f = absurd f.1
vid_fits (a ∷ b ∷ []) f = absurd f.1.1
vid_fits (a ∷ b ∷ c ∷ []) f = absurd f.1.1.1
vid_fits (a ∷ b ∷ c ∷ d ∷ r) f = f.1.1.1.0

present : (v : ℕ) → v < 4096 → bit_and (4096 + v) 4096 ≡ 4096
present v lt =
    let one : (4096 + v) / 4096 ≡ 1 = omega arith in
    let bit : bit_at (4096 + v) 12 ≡ 1 = ap (λ (n : ℕ). n % 2) one in
    and_pow (4096 + v) 12 ∙ omega (arith, bit)

vid_by : (l : Layers) → IsLayers l → (ts : List (List ℕ)) → l.tags ≡ ts → Obeys (of_tagging (tagging_of ts) VlanVid) (Some (vid (look VlanVid (cells l))))
unfolding row_of
vid_by l h [] is =
    let none : look VlanVid (cells l) ≡ None = gone (look VlanVid (cells l)) (some_cells VlanVid l h ∙ ap (λ (ts : List (List ℕ)). has 6 addresses || (tagged 6 ts || (has 6 ether_type || in_body 6 l.body))) is ∙ vid_inside l.body) in
    rw none refl
vid_by l h (t ∷ ts) is =
    let fits : AreTags (t ∷ ts) = subst AreTags is h.tags in
    let rest = cells_in ether_type (l.type ∷ []) ++ body_cells l.body in
    let found : look VlanVid (cells l) ≡ Some (get_or t 3 0) =
    none_before 6 (cells_in addresses l.ends) (tag_cells l.tags ++ rest) (some_items 6 addresses l.ends h.ends)
    ∙ ap (λ (xs : List (List ℕ)). look_up 6 (tag_cells xs ++ rest)) is
    ∙ found_first 6 (tag_cells (t ∷ ts)) rest (get_or t 3 0) (found_first 6 (cells_in outer_tag t) (inner_cells ts) (get_or t 3 0) (value_at 6 outer_tag t 3 refl (outer_fits t fits.0))) in
    rw found (ap Some (present (get_or t 3 0) (vid_fits t fits.0)))

pcp_by : (l : Layers) → IsLayers l → (ts : List (List ℕ)) → l.tags ≡ ts → Obeys (of_tagging (tagging_of ts) VlanPcp) (look VlanPcp (cells l))
unfolding row_of
pcp_by l h [] is = gone (look VlanPcp (cells l)) (some_cells VlanPcp l h ∙ ap (λ (ts : List (List ℕ)). has 7 addresses || (tagged 7 ts || (has 7 ether_type || in_body 7 l.body))) is ∙ pcp_inside l.body)
pcp_by l h (t ∷ ts) is = there (look VlanPcp (cells l)) (some_cells VlanPcp l h ∙ ap (λ (ts : List (List ℕ)). has 7 addresses || (tagged 7 ts || (has 7 ether_type || in_body 7 l.body))) is)

free_else : (t : Tagging) (o : Option ℕ) (f : Field) → is_tags f ≡ false → Obeys (of_tagging t f) o
free_else t o f = elim t as (λ t. is_tags f ≡ false → Obeys (of_tagging t f) o) [
  | Untagged ↦ elim f as (λ f. is_tags f ≡ false → Obeys (of_tagging Untagged f) o) [ VlanVid ↦ λ e. absurd cc | VlanPcp ↦ λ e. absurd cc | _ ↦ λ e. tt ]
  | Tagged ↦ elim f as (λ f. is_tags f ≡ false → Obeys (of_tagging Tagged f) o) [ VlanVid ↦ λ e. absurd cc | VlanPcp ↦ λ e. absurd cc | _ ↦ λ e. tt ]
]

is_tagging : (l : Layers) (port metadata : ℕ) → IsLayers l → IsTagging (tagging_of l.tags) (field_map l port metadata)
is_tagging l port metadata h f = elim f as (λ f. Obeys (of_tagging (tagging_of l.tags) f) (field_map l port metadata f)) [
  | VlanVid ↦ vid_by l h l.tags refl
  | VlanPcp ↦ pcp_by l h l.tags refl
  | f ↦ free_else (tagging_of l.tags) (field_map l port metadata f) f refl
]

pub tags_seen : (frame : List ℕ) (port metadata : ℕ) → AreBytes frame → 14 ≤ length frame → IsTagging (tagging_of (layers_of frame).tags) (field_map (layers_of frame) port metadata)
tags_seen frame port metadata bytes long = is_tagging (layers_of frame) port metadata (are_layers frame bytes long)

-- The places of the fields of a frame, layer by layer.
use Rattle.std.proofs.Common.{◌≡◌, ℕ, zero, suc, ◌+◌, ◌-◌, ◌*◌, ◌^◌, ◌<◌, ◌≤◌, min, Bool, true, false, cond, ◌&&◌, List, [], ◌∷◌, ◌++◌, length, take, drop, Option, Some, None, refl, sym, ap, ◌∙◌, arith}
use Rattle.std.{specs.Prelude.◌==◌, specs.Option.option_or, proofs.lemmas.List.length-drop, proofs.lemmas.List.length-take}
use Rattle.of_layers.specs.Layers.{Cell, Body, Carried, Extension, Plain, cells, cells_in, byte_cells, tag_cells, extension_cells, carried_cells, body_cells, next_before, all_bytes, named, size_of, addresses, outer_tag, ether_type, arp, ipv4, ipv6, items_of}
use Rattle.of_layers.specs.Reading.{word, six, tag_count, tags_of, tag_numbers, numbers_of, is_arp, arp_of, arp_numbers, is_ipv4, ipv4_of, ipv4_numbers, ipv4_kind, ipv4_inside, header_size, carried_of, whole_in, is_ipv6, ipv6_of, ipv6_numbers, ipv6_chain, body_of, layers_of}
use Rattle.of_layers.specs.{declared.field.Field.Field, declared.field.Field.TheVariants.InPort, declared.field.Field.TheVariants.IpProto, declared.place.Place.Place}
use Rattle.of_layers.specs.{declared.transport.Transport.Transport, declared.transport.Transport.TheVariants.Nothing, Fields.row_of, Fields.number_of, Looking.locate_at}
use Rattle.of_headers.proofs.LayoutLemmas.{IsWhole, whole_ipv4, inside_room, body_arp, body_ipv4, body_ipv6, body_plain}
use Rattle.of_headers.proofs.LocateLemmas.{locate-append, locate_bytes, locate_front, locate_behind, place_or_assoc, width-append, width_bytes, width_tags, locate_tags}
use Rattle.of_headers.proofs.KeyLemmas.{ipv6_walk, IsIpv6Payload, plain_at, arp_at, least_arp, packet_of}
use Rattle.of_headers.{specs.declared.layout.Payload.Payload, specs.Places.width, specs.Places.protocol_at, specs.Places.network_of, proofs.ChainLemmas.and_right}
use Rattle.of_headers.proofs.{CarriedLemmas.IsIpv4Payload, CarriedLemmas.size_fits, WalkLemmas.placed_in}
use Rattle.of_headers.specs.declared.layout.Network.TheVariants as network

-- ---- what an IP packet carries

pub width_carried : (k : Transport) (s : List ℕ) → width (cells_in (items_of k) (numbers_of k s)) ≡ 8 * size_of k
unfolding numbers_of
width_carried k s = elim k as (λ k. width (cells_in (items_of k) (numbers_of k s)) ≡ 8 * size_of k) [ Nothing ↦ refl | _ ↦ refl ]

-- the values do not matter
pub places_same : (at n : ℕ) (k : Transport) (s t : List ℕ) → locate_at at n (cells_in (items_of k) (numbers_of k s)) ≡ locate_at at n (cells_in (items_of k) (numbers_of k t))
unfolding numbers_of
places_same at n k s t = elim k as (λ k. locate_at at n (cells_in (items_of k) (numbers_of k s)) ≡ locate_at at n (cells_in (items_of k) (numbers_of k t))) [ Nothing ↦ refl | _ ↦ refl ]

-- ---- IPv4

pub place_ipv4 : (n : ℕ) (p : List ℕ) (y : Payload) (a b : Option Place) → is_ipv4 p ≡ true → IsIpv4Payload p y → a ≡ locate_at 0 n (cells_in ipv4 (ipv4_numbers p)) →
    b ≡ locate_at (8 * y.at) n (cells_in (items_of y.transport) (numbers_of y.transport (drop y.at p))) → option_or a b ≡ locate_at 0 n (body_cells (ipv4_of p))
unfolding ipv4_of
place_ipv4 n p y a b t h e f =
    let whole : IsWhole p = whole_ipv4 p t in
    let header : 20 ≤ header_size p = whole.header in
    let room : header_size p ≤ length p = whole.room in
    let carried = carried_of (ipv4_kind p) (ipv4_inside p) in
    let opts : List ℕ = drop 20 (take (header_size p) p) in
    let rest : List ℕ = drop (word p 2) p in
    let kind : y.transport ≡ whole_in (ipv4_kind p) (length (ipv4_inside p)) = h.kind in
    let at : 8 * y.at ≡ 160 + 8 * length (drop 20 (take (header_size p) p)) = omega (arith, h.at, length-drop 20 (take (header_size p) p), length-take (header_size p) p) in
    let tail : b ≡ locate_at 160 n (byte_cells opts ++ (carried_cells carried ++ byte_cells rest)) =
    f
    ∙ (λ i. locate_at (at i) n (cells_in (items_of (kind i)) (numbers_of (kind i) (drop y.at p))))
    ∙ places_same (160 + 8 * length opts) n (whole_in (ipv4_kind p) (length (ipv4_inside p))) (drop y.at p) (ipv4_inside p)
    ∙ sym (locate_front (160 + 8 * length opts) n (cells_in (items_of carried.kind) carried.numbers) carried.rest)
    ∙ sym (locate_front (160 + 8 * length opts) n (carried_cells carried) rest)
    ∙ sym (locate_behind 160 n opts (carried_cells carried ++ byte_cells rest)) in
    (λ i. option_or (e i) (tail i))
    ∙ sym (locate-append 0 n (cells_in ipv4 (ipv4_numbers p)) (byte_cells opts ++ (carried_cells carried ++ byte_cells rest)))

-- ---- IPv6

width_ipv6 : (p : List ℕ) (es : List Extension) → width (cells_in (ipv6 (next_before es)) (ipv6_numbers p)) ≡ 320
width_ipv6 p [] = refl
width_ipv6 p (e ∷ es) = refl

header_place : (f : Field) (p : List ℕ) (es : List Extension) (v : ℕ) → (es ≡ [] → v ≡ 6) →
    cond (number_of f == 10) (Some (record { first = 8 * v; bits = 8 })) (locate_at 0 (number_of f) (cells_in (ipv6 (named IpProto 8)) (ipv6_numbers p)))
    ≡ option_or (locate_at 0 (number_of f) (cells_in (ipv6 (next_before es)) (ipv6_numbers p))) (placed_in es (number_of f) (8 * v))
unfolding row_of
header_place f p [] v h =
    let own : v ≡ 6 = h refl in
    rw own (elim f as (λ f. cond (number_of f == 10) (Some (record { first = 8 * 6; bits = 8 })) (locate_at 0 (number_of f) (cells_in (ipv6 (named IpProto 8)) (ipv6_numbers p)))
    ≡ option_or (locate_at 0 (number_of f) (cells_in (ipv6 (next_before [])) (ipv6_numbers p))) (placed_in [] (number_of f) (8 * 6))) [
      | InPort ↦ refl
      | _ ↦ refl
    ])
header_place f p (e ∷ es) v h =
    elim f as (λ f. cond (number_of f == 10) (Some (record { first = 8 * v; bits = 8 })) (locate_at 0 (number_of f) (cells_in (ipv6 (named IpProto 8)) (ipv6_numbers p)))
    ≡ option_or (locate_at 0 (number_of f) (cells_in (ipv6 (next_before (e ∷ es))) (ipv6_numbers p))) (placed_in (e ∷ es) (number_of f) (8 * v))) [
      | InPort ↦ refl
      | _ ↦ refl
    ]

nil_named : (es : List Extension) → es ≡ [] → protocol_at 6 40 es ≡ 6
nil_named es e = ap (protocol_at 6 40) e

pub place_ipv6 : (f : Field) (p : List ℕ) (before : ℕ) (y : Payload) (a b : Option Place) → IsIpv6Payload p before y →
    a ≡ cond (number_of f == 10) (Some (record { first = 8 * before; bits = 8 })) (locate_at 0 (number_of f) (cells_in (ipv6 (named IpProto 8)) (ipv6_numbers p))) →
    b ≡ locate_at (8 * y.at) (number_of f) (cells_in (items_of y.transport) (numbers_of y.transport (drop y.at p))) → option_or a b ≡ locate_at 0 (number_of f) (body_cells (ipv6_of p))
unfolding ipv6_of
place_ipv6 f p before y a b h e g =
    let n : ℕ = number_of f in
    let c = ipv6_chain p in
    let es : List Extension = (ipv6_chain p).extensions in
    let rest : List ℕ = drop (40 + word p 4) p in
    let walk = h.walk in
    let kind : y.transport ≡ (ipv6_chain p).carried.kind = h.kind in
    let wide : width (extension_cells (ipv6_chain p).extensions) ≡ 8 * all_bytes (ipv6_chain p).extensions = walk.wide in
    let at : 8 * y.at ≡ 320 + width (extension_cells (ipv6_chain p).extensions) = omega (arith, h.at) in
    let nil : (ipv6_chain p).extensions ≡ [] → before ≡ 6 = λ z. h.named ∙ nil_named (ipv6_chain p).extensions z in
    let numbers : (ipv6_chain p).carried.numbers ≡ numbers_of (ipv6_chain p).carried.kind (drop (40 + all_bytes (ipv6_chain p).extensions) (take (40 + word p 4) p)) = walk.numbers in
    let head : a ≡ option_or (locate_at 0 n (cells_in (ipv6 (next_before es)) (ipv6_numbers p))) (locate_at 320 n (extension_cells es)) =
    e ∙ header_place f p es before nil
    ∙ ap (option_or (locate_at 0 n (cells_in (ipv6 (next_before es)) (ipv6_numbers p)))) (ap (λ (v : ℕ). placed_in es n (8 * v)) h.named ∙ sym (walk.placed n)) in
    let tail : b ≡ locate_at (320 + width (extension_cells es)) n (carried_cells c.carried ++ byte_cells rest) =
    g
    ∙ (λ i. locate_at (at i) n (cells_in (items_of (kind i)) (numbers_of (kind i) (drop y.at p))))
    ∙ places_same (320 + width (extension_cells es)) n c.carried.kind (drop y.at p) (drop (40 + all_bytes (ipv6_chain p).extensions) (take (40 + word p 4) p))
    ∙ ap (λ (ns : List ℕ). locate_at (320 + width (extension_cells es)) n (cells_in (items_of c.carried.kind) ns)) (sym numbers)
    ∙ sym (locate_front (320 + width (extension_cells es)) n (cells_in (items_of c.carried.kind) c.carried.numbers) c.carried.rest)
    ∙ sym (locate_front (320 + width (extension_cells es)) n (carried_cells c.carried) rest) in
    (λ i. option_or (head i) (tail i))
    ∙ place_or_assoc (locate_at 0 n (cells_in (ipv6 (next_before es)) (ipv6_numbers p))) (locate_at 320 n (extension_cells es)) (locate_at (320 + width (extension_cells es)) n (carried_cells c.carried ++ byte_cells rest))
    ∙ ap (option_or (locate_at 0 n (cells_in (ipv6 (next_before es)) (ipv6_numbers p)))) (sym (locate-append 320 n (extension_cells es) (carried_cells c.carried ++ byte_cells rest)))
    ∙ ap (λ (k : ℕ). option_or (locate_at 0 n (cells_in (ipv6 (next_before es)) (ipv6_numbers p))) (locate_at k n (extension_cells es ++ (carried_cells c.carried ++ byte_cells rest)))) (sym (width_ipv6 p es))
    ∙ ap (λ (k : ℕ). option_or (locate_at 0 n (cells_in (ipv6 (next_before es)) (ipv6_numbers p))) (locate_at k n (extension_cells es ++ (carried_cells c.carried ++ byte_cells rest)))) (omega arith)
    ∙ sym (locate-append 0 n (cells_in (ipv6 (next_before es)) (ipv6_numbers p)) (extension_cells es ++ (carried_cells c.carried ++ byte_cells rest)))

-- ---- the other bodies

pub place_plain : (n kind : ℕ) (p : List ℕ) → network.Plain ≡ network_of (body_of kind p) → None ≡ locate_at 0 n (body_cells (body_of kind p))
place_plain n kind p e = sym (ap (λ (b : Body). locate_at 0 n (body_cells b)) (plain_at kind p e) ∙ locate_bytes 0 n p)

pub place_arp : (n kind : ℕ) (p : List ℕ) (a : Option Place) → network.Arp ≡ network_of (body_of kind p) → a ≡ locate_at 0 n (cells_in arp (arp_numbers p)) → a ≡ locate_at 0 n (body_cells (body_of kind p))
unfolding arp_of
place_arp n kind p a e h =
    h ∙ sym (ap (λ (b : Body). locate_at 0 n (body_cells b)) (arp_at kind p e).body ∙ locate_front 0 n (cells_in arp (arp_numbers p)) (drop 28 p))

-- ---- how many bits a body has

width_arp : (p : List ℕ) → 28 ≤ length p → width (body_cells (arp_of p)) ≡ 8 * length p
unfolding arp_of
width_arp p h = omega (arith, width_bytes (drop 28 p), length-drop 28 p)

width_payload : (c : Carried) (s : List ℕ) → c.numbers ≡ numbers_of c.kind s → width (carried_cells c) ≡ 8 * size_of c.kind + 8 * length c.rest
width_payload c s e =
    width-append (cells_in (items_of c.kind) c.numbers) (byte_cells c.rest)
    ∙ (let a : width (cells_in (items_of c.kind) c.numbers) ≡ 8 * size_of c.kind = ap (λ (ns : List ℕ). width (cells_in (items_of c.kind) ns)) e ∙ width_carried c.kind s in
    let b : width (byte_cells c.rest) ≡ 8 * length c.rest = width_bytes c.rest in omega arith)

width_ipv4 : (p : List ℕ) → is_ipv4 p ≡ true → width (body_cells (ipv4_of p)) ≡ 8 * length p
unfolding ipv4_of
width_ipv4 p t =
    let whole : IsWhole p = whole_ipv4 p t in
    let header : 20 ≤ header_size p = whole.header in
    let room : header_size p ≤ length p = whole.room in
    let total : header_size p ≤ word p 2 = whole.total in
    let carried = carried_of (ipv4_kind p) (ipv4_inside p) in
    let opts : List ℕ = drop 20 (take (header_size p) p) in
    let rest : List ℕ = drop (word p 2) p in
    let a : length (drop 20 (take (header_size p) p)) ≡ header_size p - 20 = omega (arith, length-drop 20 (take (header_size p) p), length-take (header_size p) p) in
    let b : length (ipv4_inside p) ≡ min (word p 2) (length p) - header_size p = inside_room p in
    let d : length (drop (word p 2) p) ≡ length p - word p 2 = length-drop (word p 2) p in
    let s : size_of (whole_in (ipv4_kind p) (length (ipv4_inside p))) ≤ length (ipv4_inside p) = size_fits (ipv4_kind p) (length (ipv4_inside p)) in
    let r : length carried.rest ≡ length (ipv4_inside p) - size_of (whole_in (ipv4_kind p) (length (ipv4_inside p))) = length-drop (size_of (whole_in (ipv4_kind p) (length (ipv4_inside p)))) (ipv4_inside p) in
    let w : width (carried_cells carried) ≡ 8 * size_of (whole_in (ipv4_kind p) (length (ipv4_inside p))) + 8 * length carried.rest = width_payload carried (ipv4_inside p) refl in
    let u : width (byte_cells opts ++ (carried_cells carried ++ byte_cells rest)) ≡ 8 * length opts + (width (carried_cells carried) + 8 * length rest) =
    omega (arith, width-append (byte_cells opts) (carried_cells carried ++ byte_cells rest), width-append (carried_cells carried) (byte_cells rest), width_bytes opts, width_bytes rest) in
    let v : width (cells_in ipv4 (ipv4_numbers p) ++ (byte_cells opts ++ (carried_cells carried ++ byte_cells rest))) ≡ 160 + width (byte_cells opts ++ (carried_cells carried ++ byte_cells rest)) =
    width-append (cells_in ipv4 (ipv4_numbers p)) (byte_cells opts ++ (carried_cells carried ++ byte_cells rest)) in
    v ∙ omega arith

width_ipv6_body : (p : List ℕ) → is_ipv6 p ≡ true → width (body_cells (ipv6_of p)) ≡ 8 * length p
unfolding ipv6_of
width_ipv6_body p t =
    let walk = ipv6_walk p t in
    let c = ipv6_chain p in
    let es : List Extension = (ipv6_chain p).extensions in
    let rest : List ℕ = drop (40 + word p 4) p in
    let wide : width (extension_cells (ipv6_chain p).extensions) ≡ 8 * all_bytes (ipv6_chain p).extensions = walk.wide in
    let left : 40 + all_bytes (ipv6_chain p).extensions + size_of (ipv6_chain p).carried.kind + length (ipv6_chain p).carried.rest ≡ length (take (40 + word p 4) p) = walk.left in
    let cut : length (take (40 + word p 4) p) ≡ min (40 + word p 4) (length p) = length-take (40 + word p 4) p in
    let last : length (drop (40 + word p 4) p) ≡ length p - (40 + word p 4) = length-drop (40 + word p 4) p in
    let w : width (carried_cells c.carried) ≡ 8 * size_of c.carried.kind + 8 * length c.carried.rest = width_payload c.carried (drop (40 + all_bytes es) (take (40 + word p 4) p)) walk.numbers in
    let u : width (extension_cells es ++ (carried_cells c.carried ++ byte_cells rest)) ≡ width (extension_cells es) + (width (carried_cells c.carried) + 8 * length rest) =
    omega (arith, width-append (extension_cells es) (carried_cells c.carried ++ byte_cells rest), width-append (carried_cells c.carried) (byte_cells rest), width_bytes rest) in
    let h : width (cells_in (ipv6 (next_before es)) (ipv6_numbers p)) ≡ 320 = width_ipv6 p es in
    width-append (cells_in (ipv6 (next_before es)) (ipv6_numbers p)) (extension_cells es ++ (carried_cells c.carried ++ byte_cells rest)) ∙ omega arith

pub width_body : (kind : ℕ) (p : List ℕ) → width (body_cells (body_of kind p)) ≡ 8 * length p
width_body kind p =
    let done : (x : Body) → body_of kind p ≡ x → width (body_cells x) ≡ 8 * length p → width (body_cells (body_of kind p)) ≡ 8 * length p = λ x e h. ap (λ (b : Body). width (body_cells b)) e ∙ h in
    let split : (a b d : Bool) → ((kind == 0x0806) && is_arp p) ≡ a → ((kind == 0x0800) && is_ipv4 p) ≡ b → ((kind == 0x86dd) && is_ipv6 p) ≡ d → width (body_cells (body_of kind p)) ≡ 8 * length p
    = λ a b d. elim a as (λ a. ((kind == 0x0806) && is_arp p) ≡ a → ((kind == 0x0800) && is_ipv4 p) ≡ b → ((kind == 0x86dd) && is_ipv6 p) ≡ d → width (body_cells (body_of kind p)) ≡ 8 * length p) [
      | true ↦ λ x y z. done (arp_of p) (body_arp kind p x) (width_arp p (least_arp p (and_right (kind == 0x0806) (is_arp p) x)))
      | false ↦ λ x. elim b as (λ b. ((kind == 0x0800) && is_ipv4 p) ≡ b → ((kind == 0x86dd) && is_ipv6 p) ≡ d → width (body_cells (body_of kind p)) ≡ 8 * length p) [
        | true ↦ λ y z. done (ipv4_of p) (body_ipv4 kind p x y) (width_ipv4 p (and_right (kind == 0x0800) (is_ipv4 p) y))
        | false ↦ λ y. elim d as (λ d. ((kind == 0x86dd) && is_ipv6 p) ≡ d → width (body_cells (body_of kind p)) ≡ 8 * length p) [
          | true ↦ λ z. done (ipv6_of p) (body_ipv6 kind p x y z) (width_ipv6_body p (and_right (kind == 0x86dd) (is_ipv6 p) z))
          | false ↦ λ z. done (Plain p) (body_plain kind p x y z) (width_bytes p)
        ]
      ]
    ] in
    split ((kind == 0x0806) && is_arp p) ((kind == 0x0800) && is_ipv4 p) ((kind == 0x86dd) && is_ipv6 p) refl refl refl

-- ---- the frame

pub place_frame : (n m : ℕ) (s : List ℕ) (a t c d : Option Place) → n ≡ tag_count (drop 12 s) →
    a ≡ locate_at 0 m (cells_in addresses (six s 0 ∷ six s 6 ∷ [])) →
    t ≡ locate_at 96 m (tag_cells (tags_of n (drop 12 s))) →
    c ≡ locate_at (96 + 32 * n) m (cells_in ether_type (word s (12 + 4 * n) ∷ [])) →
    d ≡ locate_at (112 + 32 * n) m (body_cells (packet_of s n)) →
    option_or (option_or (option_or a t) c) d ≡ locate_at 0 m (cells (layers_of s))
unfolding layers_of
place_frame n m s a t c d e x y z w =
    let ends : List Cell = cells_in addresses (six s 0 ∷ six s 6 ∷ []) in
    let tags : List Cell = tag_cells (tags_of n (drop 12 s)) in
    let type : List Cell = cells_in ether_type (word s (12 + 4 * n) ∷ []) in
    let body : List Cell = body_cells (packet_of s n) in
    let wide : 96 + width tags ≡ 96 + 32 * n = omega (arith, width_tags n (drop 12 s)) in
    let next : 112 + 32 * n ≡ 96 + 32 * n + 16 = omega arith in
    rw (← e)
    (place_or_assoc (option_or a t) c d
    ∙ place_or_assoc a t (option_or c d)
    ∙ (λ i. option_or (x i) (option_or (y i) (option_or (z i) (w i))))
    ∙ ap (λ (k : ℕ). option_or (locate_at 0 m ends) (option_or (locate_at 96 m tags) (option_or (locate_at (96 + 32 * n) m type) (locate_at k m body)))) next
    ∙ ap (λ (o : Option Place). option_or (locate_at 0 m ends) (option_or (locate_at 96 m tags) o)) (sym (locate-append (96 + 32 * n) m type body))
    ∙ ap (λ (k : ℕ). option_or (locate_at 0 m ends) (option_or (locate_at 96 m tags) (locate_at k m (type ++ body)))) (sym wide)
    ∙ ap (option_or (locate_at 0 m ends)) (sym (locate-append 96 m tags (type ++ body)))
    ∙ sym (locate-append 0 m ends (tags ++ (type ++ body))))

pub no_tags : (n m : ℕ) (s : List ℕ) → n ≡ 0 → None ≡ locate_at 96 m (tag_cells (tags_of n s))
no_tags n m s e = ap (λ (k : ℕ). locate_at 96 m (tag_cells (tags_of k s))) (sym e)

pub some_tags : (n m : ℕ) (s : List ℕ) (t : Option Place) → 0 < n → t ≡ locate_at 96 m (cells_in outer_tag (tag_numbers s)) → t ≡ locate_at 96 m (tag_cells (tags_of n s))
some_tags zero m s t h e = absurd (omega arith)
some_tags (suc n) m s t h e = e ∙ sym (locate_tags 96 m n s)

-- a place behind, where the bit that was computed is the right one
pub behind_at : (k at n : ℕ) (cs : List Cell) (q : Option Place) → k ≡ at → at + width cs < 2 ^ 64 → (k + width cs < 2 ^ 64 → q ≡ locate_at k n cs) → q ≡ locate_at at n cs
behind_at k at n cs q e l h = h (omega arith) ∙ ap (λ (j : ℕ). locate_at j n cs) e

-- The places of the checksums and the TTL of a frame, that its layers are in it, and that its numbers are in whole words.
use Rattle.std.proofs.Common.{◌≡◌, ℕ, ◌+◌, ◌*◌, ◌/◌, ◌%◌, ◌≤◌, List, [], ◌∷◌, ◌++◌, length, Option, Some, None, refl, sym, ap, ◌∙◌, arith, slice_index}
use Rattle.std.{specs.Option.option_or, proofs.lemmas.List.length-append}
use Rattle.of_layers.specs.declared.transport.Transport.TheVariants.{Nothing}
use Rattle.of_layers.specs.Layers.{Cell, Layers, Carried, Extension, Body, Plain, Arp, Ipv4, Ipv6, cells_in, byte_cells, tag_cells, extension_cells, carried_cells, body_cells, cells, encoded, addresses, outer_tag, inner_tag, ether_type, arp, ipv4, ipv6, items_of, size_of, all_bytes, next_before, ttl, header_checksum, checksum}
use Rattle.of_layers.specs.{declared.place.Place.Place, declared.transport.Transport.Transport, Fields.row_of, Bits.bits, Bits.bits_of, Looking.locate_at}
use Rattle.of_layers.{specs.WellFormed.FitsItems, specs.WellFormed.IsBody, specs.WellFormed.IsLayers, proofs.BitLemmas.length-bits, proofs.BitLemmas.length-bits_of}
use Rattle.of_headers.proofs.LocateLemmas.{locate-append, locate_bytes, locate_front, width-append, width_bytes}
use Rattle.of_headers.specs.{declared.layout.Network.Network, Places.width, Places.network_of, Places.layout_of}
use Rattle.of_headers.specs.declared.layout.Network.TheVariants as network
use Rattle.of_rewrite.specs.Renewal.{checksum_byte, moved, ttl_at, header_checksum_at, carried_at, HasRoomIn, HasRoom, packet_at}
use Rattle.of_rewrite.proofs.Structure.{placed, located, wide, sound, sound_bytes, sound_append, Part, tags_part, NoExtension, Chained, chained, items_total, ipv6_total, ipv4_stands, ipv6_stands}
use Rattle.of_rewrite.proofs.Finding.{Sound, Found, found}

-- ---- names that are in no header but those of IP and what it carries

pub record Own (m : ℕ) : Type 0 where
  pub addr : placed 0 m addresses ≡ None
  pub outer : (at : ℕ) → placed at m outer_tag ≡ None
  pub inner : (at : ℕ) → placed at m inner_tag ≡ None
  pub type : (at : ℕ) → placed at m ether_type ≡ None
  pub in_arp : (at : ℕ) → placed at m arp ≡ None
  pub extension : NoExtension m

pub no_header : NoExtension 102
unfolding row_of
no_header [] at = (refl, refl)
no_header (e ∷ es) at = (refl, refl)

no_carried : NoExtension 103
unfolding row_of
no_carried [] at = (refl, refl)
no_carried (e ∷ es) at = (refl, refl)

no_ttl : NoExtension 101
unfolding row_of
no_ttl [] at = (refl, refl)
no_ttl (e ∷ es) at = (refl, refl)

pub own_header : Own 102
unfolding row_of
own_header = record { addr = refl; outer = λ at. refl; inner = λ at. refl; type = λ at. refl; in_arp = λ at. refl; extension = no_header }

own_carried : Own 103
unfolding row_of
own_carried = record { addr = refl; outer = λ at. refl; inner = λ at. refl; type = λ at. refl; in_arp = λ at. refl; extension = no_carried }

own_ttl : Own 101
unfolding row_of
own_ttl = record { addr = refl; outer = λ at. refl; inner = λ at. refl; type = λ at. refl; in_arp = λ at. refl; extension = no_ttl }

-- ---- the frame before what follows its type

record Front (l : Layers) (m : ℕ) : Type 0 where
  pub there : locate_at 0 m (cells l) ≡ locate_at (112 + 32 * length l.tags) m (body_cells l.body)
  pub is_wide : width (cells l) ≡ 112 + 32 * length l.tags + width (body_cells l.body)
  pub is_sound : Sound (body_cells l.body) → Sound (cells l)

front : (l : Layers) (m : ℕ) → Own m → IsLayers l → Front l m
front l m o h =
    let a : List Cell = cells_in addresses l.ends in
    let t : List Cell = tag_cells l.tags in
    let y : List Cell = cells_in ether_type (l.type ∷ []) in
    let b : List Cell = body_cells l.body in
    let p : Part (tag_cells l.tags) (32 * length l.tags) m = tags_part m l.tags o.inner o.outer h.tags in
    let wa : width (cells_in addresses l.ends) ≡ 96 = wide addresses l.ends h.ends in
    let wy : width (cells_in ether_type (l.type ∷ [])) ≡ 16 = refl in
    let e : 0 + width (cells_in addresses l.ends) + width (tag_cells l.tags) + width (cells_in ether_type (l.type ∷ [])) ≡ 112 + 32 * length l.tags = omega (arith, wa, p.is_wide, wy) in
    record {
      there =
          locate-append 0 m a (t ++ (y ++ b))
          ∙ (λ j. option_or ((located 0 m addresses l.ends h.ends ∙ o.addr) j) (locate-append (0 + width a) m t (y ++ b) j))
          ∙ (λ j. option_or (p.none (0 + width a) j) (locate-append (0 + width a + width t) m y b j))
          ∙ (λ j. option_or (o.type (0 + width a + width t) j) (locate_at (e j) m b));
      is_wide = width-append a (t ++ (y ++ b)) ∙ omega (arith, wa, width-append t (y ++ b), p.is_wide, width-append y b, wy);
      is_sound = λ s. sound_append a (t ++ (y ++ b)) (sound addresses l.ends h.ends) (sound_append t (y ++ b) p.is_sound ((h.type, s)));
    }

-- ---- places

abbrev pub number_place : ℕ → Option ℕ → Option Place
number_place w None = None
number_place w (Some at) = Some (record { first = 8 * at; bits = w })

place_is : (a b w : ℕ) → a ≡ b → ◌≡◌ {A = Option Place} (Some (record { first = a; bits = w })) (Some (record { first = b; bits = w }))
place_is a b w e = ap (λ (k : ℕ). Some (record { first = k; bits = w })) e

items_header : (at : ℕ) (k : Transport) → placed at 102 (items_of k) ≡ None
unfolding row_of
items_header at k = elim k as (λ k. placed at 102 (items_of k) ≡ None) [ Nothing ↦ refl | _ ↦ refl ]

ipv6_header : (at m : ℕ) (es : List Extension) → m ≡ 102 → placed at m (ipv6 (next_before es)) ≡ None
unfolding row_of
ipv6_header at m [] e = rw e refl
ipv6_header at m (x ∷ es) e = rw e refl

header_body : (type : ℕ) (b : Body) (at q : ℕ) → IsBody type b → at ≡ 8 * q → locate_at at 102 (body_cells b) ≡ number_place 16 (header_checksum_at q (network_of b))
unfolding row_of
header_body type (Plain rest) at q h e = locate_bytes at 102 rest
header_body type (Arp ns rest) at q h e = locate_front at 102 (cells_in arp ns) rest ∙ located at 102 arp ns h.1.numbers
header_body type (Ipv4 ns o c rest) at q h e = (ipv4_stands ns o c rest 102 h.1).there at ∙ place_is _ _ 16 (omega arith)
header_body type (Ipv6 ns es c rest) at q h e = (ipv6_stands ns es c rest 102 no_header h.1).there at ∙ (λ j. option_or (ipv6_header at 102 es refl j) (items_header (at + 320 + 8 * all_bytes es) c.kind j))

ipv6_carried : (at m : ℕ) (es : List Extension) → m ≡ 103 → placed at m (ipv6 (next_before es)) ≡ None
unfolding row_of
ipv6_carried at m [] e = rw e refl
ipv6_carried at m (x ∷ es) e = rw e refl

items_carried : (at q : ℕ) (k : Transport) → at ≡ 8 * q → placed at 103 (items_of k) ≡ number_place 16 (moved q (checksum_byte k))
unfolding row_of
items_carried at q Nothing e = refl
items_carried at q other e = place_is _ _ 16 (omega arith)

carried_body : (type : ℕ) (b : Body) (at q : ℕ) → IsBody type b → at ≡ 8 * q → locate_at at 103 (body_cells b) ≡ number_place 16 (carried_at q (network_of b))
unfolding row_of
carried_body type (Plain rest) at q h e = locate_bytes at 103 rest
carried_body type (Arp ns rest) at q h e = locate_front at 103 (cells_in arp ns) rest ∙ located at 103 arp ns h.1.numbers
carried_body type (Ipv4 ns o c rest) at q h e = (ipv4_stands ns o c rest 103 h.1).there at ∙ items_carried (at + 160 + 8 * length o) (q + (20 + length o)) c.kind (omega arith)
carried_body type (Ipv6 ns es c rest) at q h e =
    (ipv6_stands ns es c rest 103 no_carried h.1).there at ∙ (λ j. option_or (ipv6_carried at 103 es refl j) (items_carried (at + 320 + 8 * all_bytes es) (q + (40 + all_bytes es)) c.kind (omega arith) j))

ipv6_ttl : (at q : ℕ) (es : List Extension) (x : Option Place) → at ≡ 8 * q → option_or (placed at 101 (ipv6 (next_before es))) x ≡ Some (record { first = 8 * (q + 7); bits = 8 })
unfolding row_of
ipv6_ttl at q [] x e = place_is _ _ 8 (omega arith)
ipv6_ttl at q (y ∷ es) x e = place_is _ _ 8 (omega arith)

ttl_body : (type : ℕ) (b : Body) (at q : ℕ) → IsBody type b → at ≡ 8 * q → locate_at at 101 (body_cells b) ≡ number_place 8 (ttl_at q (network_of b))
unfolding row_of
ttl_body type (Plain rest) at q h e = locate_bytes at 101 rest
ttl_body type (Arp ns rest) at q h e = locate_front at 101 (cells_in arp ns) rest ∙ located at 101 arp ns h.1.numbers
ttl_body type (Ipv4 ns o c rest) at q h e = (ipv4_stands ns o c rest 101 h.1).there at ∙ place_is _ _ 8 (omega arith)
ttl_body type (Ipv6 ns es c rest) at q h e = (ipv6_stands ns es c rest 101 no_ttl h.1).there at ∙ ipv6_ttl at q es _ e

-- ---- room, and words

sound_body : (type : ℕ) (b : Body) → IsBody type b → Sound (body_cells b)
sound_body type (Plain rest) h = sound_bytes rest h.0
sound_body type (Arp ns rest) h = sound_append (cells_in arp ns) (byte_cells rest) (sound arp ns h.1.numbers) (sound_bytes rest h.1.rest_fits)
sound_body type (Ipv4 ns o c rest) h = (ipv4_stands ns o c rest 102 h.1).is_sound
sound_body type (Ipv6 ns es c rest) h = (ipv6_stands ns es c rest 102 no_header h.1).is_sound

room_body : (type : ℕ) (b : Body) (n q : ℕ) → IsBody type b → 8 * n ≡ 8 * q + width (body_cells b) → HasRoomIn n q (network_of b)
room_body type (Ipv4 ns o c rest) n q h e = let s = ipv4_stands ns o c rest 102 h.1 in let w = s.is_wide in (omega arith, omega (arith, w))
room_body type (Ipv6 ns es c rest) n q h e = let s = ipv6_stands ns es c rest 102 no_header h.1 in let w = s.is_wide in (omega arith, omega (arith, w))
room_body type other n q h e = tt

-- where the headers begin is even
abbrev pub IsEvenIn : Network → Type 0
IsEvenIn (network.Ipv4 p) = p.at % 2 ≡ 0
IsEvenIn (network.Ipv6 named p) = p.at % 2 ≡ 0
IsEvenIn other = Unit {0}

even_body : (type : ℕ) (b : Body) → IsBody type b → IsEvenIn (network_of b)
even_body type (Ipv4 ns o c rest) h = let w = h.1.words in omega (arith, w)
even_body type (Ipv6 ns es c rest) h = let s = ipv6_stands ns es c rest 102 no_header h.1 in let w = s.even in omega (arith, w)
even_body type other h = tt

pub length_encoded : (cs : List Cell) → length (encoded cs) ≡ width cs
length_encoded [] = refl
length_encoded (c ∷ cs) = length-append (bits c.width c.value) (encoded cs) ∙ omega (arith, length-bits c.width c.value, length_encoded cs)

within : (n at : ℕ) (cs : List Cell) (p : Place) → locate_at at n cs ≡ Some p → p.first + p.bits ≤ at + width cs
within n at cs p e =
    let r : Found n at cs p = found n at cs p e in
    omega (arith, r.below, ap length r.is, length_encoded cs, length-append r.front (bits p.bits r.value ++ r.back), length-append (bits p.bits r.value) r.back, length-bits p.bits r.value)

-- a number ends within the last whole word
abbrev Whole : ℕ → List Cell → Type 0
Whole at cs = (n : ℕ) (p : Place) → locate_at at n cs ≡ Some p → (p.first + p.bits + 15) / 16 * 16 ≤ at + width cs

whole : (at : ℕ) (cs : List Cell) → (at + width cs) % 16 ≡ 0 → Whole at cs
whole at cs h n p e = let w : p.first + p.bits ≤ at + width cs = within n at cs p e in omega arith

whole_bytes : (at : ℕ) (s : List ℕ) → Whole at (byte_cells s)
whole_bytes at s n p e = absurd (let f : None ≡ Some p = sym (locate_bytes at n s) ∙ e in cc)

whole_append : (at : ℕ) (a b : List Cell) → Whole at a → Whole (at + width a) b → Whole at (a ++ b)
whole_append at a b h k n p e =
    elim (locate_at at n a) as (λ x. locate_at at n a ≡ x → option_or x (locate_at (at + width a) n b) ≡ Some p → (p.first + p.bits + 15) / 16 * 16 ≤ at + width (a ++ b)) [
      | Some q ↦ λ f g. let w : (p.first + p.bits + 15) / 16 * 16 ≤ at + width a = h n p (f ∙ g) in omega (arith, width-append a b)
      | None ↦ λ f g. let w : (p.first + p.bits + 15) / 16 * 16 ≤ at + width a + width b = k n p g in omega (arith, width-append a b)
    ] refl (sym (locate-append at n a b) ∙ e)

pub size_even : (k : Transport) → size_of k % 2 ≡ 0
size_even k = elim k as (λ k. size_of k % 2 ≡ 0) [ Nothing ↦ refl | _ ↦ refl ]

-- what is carried, with bytes after it
whole_carried : (at : ℕ) (c : Carried) (rest : List ℕ) → at % 16 ≡ 0 → FitsItems (items_of c.kind) c.numbers → Whole at (carried_cells c ++ byte_cells rest)
whole_carried at c rest e f =
    let items : List Cell = cells_in (items_of c.kind) c.numbers in
    let w : width (cells_in (items_of c.kind) c.numbers) ≡ 8 * size_of c.kind = wide (items_of c.kind) c.numbers f ∙ items_total c.kind in
    whole_append at (carried_cells c) (byte_cells rest)
    (whole_append at items (byte_cells c.rest) (whole at items (omega (arith, w, size_even c.kind))) (whole_bytes (at + width items) c.rest))
    (whole_bytes (at + width (carried_cells c)) rest)

whole_body : (type : ℕ) (b : Body) (at : ℕ) → IsBody type b → at % 16 ≡ 0 → Whole at (body_cells b)
whole_body type (Plain rest) at h e = whole_bytes at rest
whole_body type (Arp ns rest) at h e =
    let w : width (cells_in arp ns) ≡ 224 = wide arp ns h.1.numbers in
    whole_append at (cells_in arp ns) (byte_cells rest) (whole at (cells_in arp ns) (omega arith)) (whole_bytes (at + width (cells_in arp ns)) rest)
whole_body type (Ipv4 ns o c rest) at h e =
    let w : width (cells_in ipv4 ns) ≡ 160 = wide ipv4 ns h.1.numbers in
    let v : width (byte_cells o) ≡ 8 * length o = width_bytes o in
    let words : 20 + length o ≡ 4 * slice_index ns 1 = h.1.words in
    whole_append at (cells_in ipv4 ns) (byte_cells o ++ (carried_cells c ++ byte_cells rest)) (whole at (cells_in ipv4 ns) (omega arith))
    (whole_append (at + width (cells_in ipv4 ns)) (byte_cells o) (carried_cells c ++ byte_cells rest) (whole_bytes (at + width (cells_in ipv4 ns)) o)
    (whole_carried (at + width (cells_in ipv4 ns) + width (byte_cells o)) c rest (omega arith) h.1.carries.numbers))
whole_body type (Ipv6 ns es c rest) at h e =
    let q : Chained es c 102 = chained 102 no_header _ es c h.1.chain in
    let head : List Cell = cells_in (ipv6 (next_before es)) ns in
    let w : width (cells_in (ipv6 (next_before es)) ns) ≡ 320 = wide (ipv6 (next_before es)) ns h.1.numbers ∙ ipv6_total es in
    let v : width (extension_cells es) ≡ 8 * all_bytes es = q.part.is_wide in
    let even : all_bytes es % 8 ≡ 0 = q.even in
    whole_append at head (extension_cells es ++ (carried_cells c ++ byte_cells rest)) (whole at head (omega arith))
    (whole_append (at + width head) (extension_cells es) (carried_cells c ++ byte_cells rest) (whole (at + width head) (extension_cells es) (omega arith))
    (whole_carried (at + width head + width (extension_cells es)) c rest (omega arith) q.fits))

-- ---- the frame

pub record Stands (l : Layers) (s : List ℕ) : Type 0 where
  pub header : locate_at 0 header_checksum (cells l) ≡ number_place 16 (header_checksum_at (packet_at (layout_of l)) (network_of l.body))
  pub carried : locate_at 0 checksum (cells l) ≡ number_place 16 (carried_at (packet_at (layout_of l)) (network_of l.body))
  pub ttl_is : locate_at 0 ttl (cells l) ≡ number_place 8 (ttl_at (packet_at (layout_of l)) (network_of l.body))
  pub room : HasRoom (layout_of l) (length s)
  pub even : IsEvenIn (network_of l.body)
  pub is_sound : Sound (cells l)
  pub words : (n : ℕ) (p : Place) → locate_at 0 n (cells l) ≡ Some p → (p.first + p.bits + 15) / 16 * 2 ≤ length s
  pub inside : (n : ℕ) (p : Place) → locate_at 0 n (cells l) ≡ Some p → p.first + p.bits ≤ 8 * length s

pub stands : (l : Layers) (s : List ℕ) → IsLayers l → bits_of s ≡ encoded (cells l) → Stands l s
stands l s h e =
    let f : Front l 102 = front l 102 own_header h in
    let q : ℕ = packet_at (layout_of l) in
    let at : 112 + 32 * length l.tags ≡ 8 * packet_at (layout_of l) = omega arith in
    let size : 8 * length s ≡ width (cells l) = sym (length-bits_of s) ∙ ap length e ∙ length_encoded (cells l) in
    let wide_is : width (cells l) ≡ 112 + 32 * length l.tags + width (body_cells l.body) = f.is_wide in
    let fit : 8 * length s ≡ 8 * packet_at (layout_of l) + width (body_cells l.body) = omega arith in
    let a : List Cell = cells_in addresses l.ends in
    let t : List Cell = tag_cells l.tags in
    let y : List Cell = cells_in ether_type (l.type ∷ []) in
    let wa : width (cells_in addresses l.ends) ≡ 96 = wide addresses l.ends h.ends in
    let wt : width (tag_cells l.tags) ≡ 32 * length l.tags = (tags_part 102 l.tags own_header.inner own_header.outer h.tags).is_wide in
    let all : Whole 0 (cells l) =
    whole_append 0 a (t ++ (y ++ body_cells l.body)) (whole 0 a (omega arith))
    (whole_append (0 + width a) t (y ++ body_cells l.body) (whole (0 + width a) t (omega arith))
    (whole_append (0 + width a + width t) y (body_cells l.body) (whole (0 + width a + width t) y (omega arith))
    (whole_body l.type l.body (0 + width a + width t + width y) h.body (omega arith)))) in
    record {
      header = f.there ∙ header_body l.type l.body (112 + 32 * length l.tags) (packet_at (layout_of l)) h.body at;
      carried = (front l 103 own_carried h).there ∙ carried_body l.type l.body (112 + 32 * length l.tags) (packet_at (layout_of l)) h.body at;
      ttl_is = (front l 101 own_ttl h).there ∙ ttl_body l.type l.body (112 + 32 * length l.tags) (packet_at (layout_of l)) h.body at;
      room = (omega arith, room_body l.type l.body (length s) (packet_at (layout_of l)) h.body fit);
      even = even_body l.type l.body h.body;
      is_sound = f.is_sound (sound_body l.type l.body h.body);
      words = λ n p g. let w : (p.first + p.bits + 15) / 16 * 16 ≤ 0 + width (cells l) = all n p g in omega arith;
      inside = λ n p g. let w : p.first + p.bits ≤ 0 + width (cells l) = within n 0 (cells l) p g in omega arith;
    }

-- The fields of a frame, layer by layer.
use Rattle.std.proofs.Common.{◌≡◌, ℕ, suc, ◌+◌, ◌-◌, ◌*◌, ◌/◌, ◌%◌, ◌<◌, ◌≤◌, min, Bool, true, false, cond, ◌&&◌, List, [], ◌∷◌, ◌++◌, length, get_or, set, take, drop, Option, Some, None, refl, sym, ap, ◌∙◌, arith}
use Rattle.std.{specs.Prelude.◌==◌, specs.Prelude.nat_le, specs.Option.option_or, proofs.lemmas.Bool.leb-true}
use Rattle.std.proofs.{lemmas.List.get_or-drop, lemmas.List.get_or-take, lemmas.List.length-drop, lemmas.List.length-take, Math.Path.fun_ext}
use Rattle.of_layers.specs.declared.field.Field.TheVariants.{InPort, Metadata, VlanVid, VlanPcp, IpProto}
use Rattle.of_layers.specs.Layers.{Layers, Cell, Body, Extension, cells, cells_in, byte_cells, tag_cells, extension_cells, carried_cells, body_cells, next_before, all_bytes, named, size_of, addresses, outer_tag, ether_type, arp, ipv6, items_of, Plain}
use Rattle.of_layers.specs.Reading.{word, six, tag_count, tags_of, tag_numbers, numbers_of, is_arp, arp_of, arp_numbers, is_ipv4, ipv4_of, is_ipv6, ipv6_of, ipv6_numbers, ipv6_inside, ipv6_chain, body_of, layers_of}
use Rattle.of_layers.specs.{declared.field.Field.Field, Fields.row_of, Fields.number_of, Looking.look_up, Looking.look}
use Rattle.of_layers.proofs.TagLemmas.{length-tags_of, tag_room}
use Rattle.of_headers.proofs.LayoutLemmas.{body_arp, body_ipv4, body_ipv6, body_plain, least_ipv6}
use Rattle.of_headers.proofs.LookLemmas.{look-append, look_bytes, look_front, look_tags, or_none, or_assoc, lacks_body, vid_outer}
use Rattle.of_headers.specs.{declared.key.FieldKey.FieldKey, declared.layout.Layout.Layout, declared.layout.Payload.Payload, FieldMap.value, FieldMap.field_map, FieldMap.vid}
use Rattle.of_headers.{specs.Parts.untagged, specs.Parts.tagged, specs.Places.protocol_at, specs.Places.network_of, specs.Places.layout_of, proofs.ChainLemmas.and_right}
use Rattle.of_headers.proofs.{CarriedLemmas.numbers_cut, WalkLemmas.IsWalk, WalkLemmas.proto_in, WalkLemmas.walk_is, WalkLemmas.header_next}
use Rattle.of_headers.specs.declared.layout.Network.TheVariants as network

-- ---- IPv6

abbrev cut_of : List ℕ → List ℕ
cut_of p = take (40 + word p 4) p

pub record IsIpv6Payload (p : List ℕ) (before : ℕ) (y : Payload) : Type 0 where
  pub named : before ≡ protocol_at 6 40 (ipv6_chain p).extensions
  pub at : y.at ≡ 40 + all_bytes (ipv6_chain p).extensions
  pub kind : y.transport ≡ (ipv6_chain p).carried.kind
  pub walk : IsWalk (cut_of p) 40 6 (ipv6_chain p)
  pub low : before < length p
  pub room : y.at ≤ length p
  pub size : size_of y.transport ≤ length (drop y.at p)

named_by : (m n : ℕ) (y z : Payload) → network.Ipv6 m y ≡ network.Ipv6 n z → m ≡ n
named_by m n y z e = cc

payload_by : (m n : ℕ) (y z : Payload) → network.Ipv6 m y ≡ network.Ipv6 n z → y ≡ z
payload_by m n y z e = cc

pub ipv6_walk : (p : List ℕ) → is_ipv6 p ≡ true → IsWalk (take (40 + word p 4) p) 40 6 (ipv6_chain p)
ipv6_walk p h =
    let long : 40 ≤ length p = least_ipv6 p h in
    let cut : length (take (40 + word p 4) p) ≡ min (40 + word p 4) (length p) = length-take (40 + word p 4) p in
    walk_is (length (ipv6_inside p)) (get_or p 6 0) 40 6 (take (40 + word p 4) p) (omega arith) (omega arith)

pub ipv6_payload : (p : List ℕ) (before : ℕ) (y : Payload) → is_ipv6 p ≡ true → network.Ipv6 before y ≡ network_of (ipv6_of p) → IsIpv6Payload p before y
unfolding ipv6_of
ipv6_payload p before y h e =
    let there : Payload = record { transport = (ipv6_chain p).carried.kind; at = 40 + all_bytes (ipv6_chain p).extensions } in
    let name : before ≡ protocol_at 6 40 (ipv6_chain p).extensions = named_by before (protocol_at 6 40 (ipv6_chain p).extensions) y there e in
    let same : y ≡ there = payload_by before (protocol_at 6 40 (ipv6_chain p).extensions) y there e in
    let kind : y.transport ≡ (ipv6_chain p).carried.kind = ap (λ (z : Payload). z.transport) same in
    let at : y.at ≡ 40 + all_bytes (ipv6_chain p).extensions = ap (λ (z : Payload). z.at) same in
    let long : 40 ≤ length p = least_ipv6 p h in
    let cut : length (cut_of p) ≡ min (40 + word p 4) (length p) = length-take (40 + word p 4) p in
    let walk : IsWalk (cut_of p) 40 6 (ipv6_chain p) = ipv6_walk p h in
    let low : protocol_at 6 40 (ipv6_chain p).extensions < length (cut_of p) = walk.low in
    let room : 40 + all_bytes (ipv6_chain p).extensions ≤ length (cut_of p) = walk.room in
    let size : size_of (ipv6_chain p).carried.kind ≤ length (drop (40 + all_bytes (ipv6_chain p).extensions) (cut_of p)) = walk.size in
    let size_is : size_of y.transport ≡ size_of (ipv6_chain p).carried.kind = ap size_of kind in
    record {
      named = name;
      at = at;
      kind = kind;
      walk = walk;
      low = omega arith;
      room = omega arith;
      size = omega (arith, length-drop (40 + all_bytes (ipv6_chain p).extensions) (cut_of p), length-drop y.at p);
    }

nil_named : (es : List Extension) → es ≡ [] → protocol_at 6 40 es ≡ 6
nil_named es e = ap (protocol_at 6 40) e

pub look_ipv6 : (f : Field) (p : List ℕ) (before : ℕ) (y : Payload) → IsIpv6Payload p before y →
    option_or (look f (cells_in (ipv6 (named IpProto 8)) (set (ipv6_numbers p) 5 (get_or p before 0)))) (look f (cells_in (items_of y.transport) (numbers_of y.transport (drop y.at p)))) ≡ look f (body_cells (ipv6_of p))
unfolding ipv6_of
look_ipv6 f p before y h =
    let n : ℕ = number_of f in
    let c = ipv6_chain p in
    let es : List Extension = (ipv6_chain p).extensions in
    let rest : List ℕ = drop (40 + word p 4) p in
    let walk : IsWalk (cut_of p) 40 6 (ipv6_chain p) = h.walk in
    let low : protocol_at 6 40 (ipv6_chain p).extensions < length (cut_of p) = walk.low in
    let below : before < 40 + word p 4 = omega (arith, h.named, length-take (40 + word p 4) p) in
    let same_byte : get_or (cut_of p) (protocol_at 6 40 (ipv6_chain p).extensions) 0 ≡ get_or p before 0 = ap (λ (k : ℕ). get_or (cut_of p) k 0) (sym h.named) ∙ get_or-take (40 + word p 4) p before 0 below in
    let nil : es ≡ [] → get_or p before 0 ≡ get_or p 6 0 = λ e. ap (λ (k : ℕ). get_or p k 0) (h.named ∙ nil_named es e) in
    let proto : look_up (number_of f) (extension_cells (ipv6_chain p).extensions) ≡ proto_in (ipv6_chain p).extensions (number_of f) (get_or p before 0) =
    walk.proto (number_of f) ∙ ap (proto_in (ipv6_chain p).extensions (number_of f)) same_byte in
    let numbers : numbers_of y.transport (drop y.at p) ≡ (ipv6_chain p).carried.numbers =
    (λ i. numbers_of (h.kind i) (drop (h.at i) p))
    ∙ numbers_cut (ipv6_chain p).carried.kind (40 + all_bytes (ipv6_chain p).extensions) (40 + word p 4) p walk.size
    ∙ sym walk.numbers in
    let kind : y.transport ≡ (ipv6_chain p).carried.kind = h.kind in
    let tail : look_up n (cells_in (items_of y.transport) (numbers_of y.transport (drop y.at p))) ≡ look_up n (carried_cells c.carried ++ byte_cells rest) =
    (λ i. look_up n (cells_in (items_of (kind i)) (numbers i)))
    ∙ sym (look_front n (cells_in (items_of c.carried.kind) c.carried.numbers) c.carried.rest)
    ∙ sym (look_front n (carried_cells c.carried) rest) in
    let head : look_up n (cells_in (ipv6 (named IpProto 8)) (set (ipv6_numbers p) 5 (get_or p before 0))) ≡ option_or (look_up n (cells_in (ipv6 (next_before es)) (ipv6_numbers p))) (look_up n (extension_cells es)) =
    sym (header_next f p es (get_or p before 0) nil) ∙ ap (option_or (look_up n (cells_in (ipv6 (next_before es)) (ipv6_numbers p)))) (sym proto) in
    (λ i. option_or (head i) (tail i))
    ∙ or_assoc (look_up n (cells_in (ipv6 (next_before es)) (ipv6_numbers p))) (look_up n (extension_cells es)) (look_up n (carried_cells c.carried ++ byte_cells rest))
    ∙ ap (option_or (look_up n (cells_in (ipv6 (next_before es)) (ipv6_numbers p)))) (sym (look-append n (extension_cells es) (carried_cells c.carried ++ byte_cells rest)))
    ∙ sym (look-append n (cells_in (ipv6 (next_before es)) (ipv6_numbers p)) (extension_cells es ++ (carried_cells c.carried ++ byte_cells rest)))

-- ---- which packet follows a type

abbrev choice : Bool → Bool → Bool → Body → Body → Body → Body → Body
choice a b d x y z w = cond a x (cond b y (cond d z w))

-- how the four bodies show
record AreShown (x y z w : Body) (s : Payload) (n : ℕ) (t : Payload) : Type 0 where
  shown_arp : network_of x ≡ network.Arp
  shown_ipv4 : network_of y ≡ network.Ipv4 s
  shown_ipv6 : network_of z ≡ network.Ipv6 n t
  shown_plain : network_of w ≡ network.Plain

arp_by : (a b d : Bool) (x y z w : Body) (s : Payload) (n : ℕ) (t : Payload) → AreShown x y z w s n t → network.Arp ≡ network_of (choice a b d x y z w) → a ≡ true
arp_by true b d x y z w s n t h e = refl
arp_by false true d x y z w s n t h e = absurd (let g = h.shown_ipv4 in cc)
arp_by false false true x y z w s n t h e = absurd (let g = h.shown_ipv6 in cc)
arp_by false false false x y z w s n t h e = absurd (let g = h.shown_plain in cc)

ipv4_by : (a b d : Bool) (x y z w : Body) (s : Payload) (n : ℕ) (t u : Payload) → AreShown x y z w s n t → network.Ipv4 u ≡ network_of (choice a b d x y z w) → (a ≡ false) × (b ≡ true)
ipv4_by true b d x y z w s n t u h e = absurd (let g = h.shown_arp in cc)
ipv4_by false true d x y z w s n t u h e = (refl, refl)
ipv4_by false false true x y z w s n t u h e = absurd (let g = h.shown_ipv6 in cc)
ipv4_by false false false x y z w s n t u h e = absurd (let g = h.shown_plain in cc)

ipv6_by : (a b d : Bool) (x y z w : Body) (s : Payload) (n m : ℕ) (t u : Payload) → AreShown x y z w s n t → network.Ipv6 m u ≡ network_of (choice a b d x y z w) → (a ≡ false) × (b ≡ false) × (d ≡ true)
ipv6_by true b d x y z w s n m t u h e = absurd (let g = h.shown_arp in cc)
ipv6_by false true d x y z w s n m t u h e = absurd (let g = h.shown_ipv4 in cc)
ipv6_by false false true x y z w s n m t u h e = (refl, refl, refl)
ipv6_by false false false x y z w s n m t u h e = absurd (let g = h.shown_plain in cc)

plain_by : (a b d : Bool) (x y z w : Body) (s : Payload) (n : ℕ) (t : Payload) → AreShown x y z w s n t → network.Plain ≡ network_of (choice a b d x y z w) → (a ≡ false) × (b ≡ false) × (d ≡ false)
plain_by true b d x y z w s n t h e = absurd (let g = h.shown_arp in cc)
plain_by false true d x y z w s n t h e = absurd (let g = h.shown_ipv4 in cc)
plain_by false false true x y z w s n t h e = absurd (let g = h.shown_ipv6 in cc)
plain_by false false false x y z w s n t h e = (refl, refl, refl)

shown : (p : List ℕ) → (s : Payload) × (n : ℕ) × (t : Payload) × AreShown (arp_of p) (ipv4_of p) (ipv6_of p) (Plain p) s n t
unfolding arp_of ipv4_of ipv6_of
shown p = (_, _, _, record { shown_arp = refl; shown_ipv4 = refl; shown_ipv6 = refl; shown_plain = refl })

abbrev arp_test : ℕ → List ℕ → Bool
arp_test kind p = (kind == 0x0806) && is_arp p

abbrev ipv4_test : ℕ → List ℕ → Bool
ipv4_test kind p = (kind == 0x0800) && is_ipv4 p

abbrev ipv6_test : ℕ → List ℕ → Bool
ipv6_test kind p = (kind == 0x86dd) && is_ipv6 p

pub record IsArpAt (kind : ℕ) (p : List ℕ) : Type 0 where
  pub long : 28 ≤ length p
  pub body : body_of kind p ≡ arp_of p

five : (a b c d e : Bool) → ((((a && b) && c) && d) && e) ≡ true → a ≡ true
five true b c d e h = refl
five false b c d e h = absurd cc

pub least_arp : (p : List ℕ) → is_arp p ≡ true → 28 ≤ length p
least_arp p h = leb-true 28 (length p) (five (nat_le 28 (length p)) (word p 0 == 1) (word p 2 == 0x0800) (get_or p 4 0 == 6) (get_or p 5 0 == 4) h)

pub arp_at : (kind : ℕ) (p : List ℕ) → network.Arp ≡ network_of (body_of kind p) → IsArpAt kind p
unfolding body_of
arp_at kind p e =
    let (s, n, t, h) = shown p in
    let a : arp_test kind p ≡ true = arp_by (arp_test kind p) (ipv4_test kind p) (ipv6_test kind p) (arp_of p) (ipv4_of p) (ipv6_of p) (Plain p) s n t h e in
    record {
      long = least_arp p (and_right (kind == 0x0806) (is_arp p) a);
      body = body_arp kind p a;
    }

pub record IsIpv4At (kind : ℕ) (p : List ℕ) (y : Payload) : Type 0 where
  pub header : is_ipv4 p ≡ true
  pub body : body_of kind p ≡ ipv4_of p
  pub places : network.Ipv4 y ≡ network_of (ipv4_of p)

pub ipv4_at : (kind : ℕ) (p : List ℕ) (y : Payload) → network.Ipv4 y ≡ network_of (body_of kind p) → IsIpv4At kind p y
unfolding body_of
ipv4_at kind p y e =
    let (s, n, t, h) = shown p in
    let both = ipv4_by (arp_test kind p) (ipv4_test kind p) (ipv6_test kind p) (arp_of p) (ipv4_of p) (ipv6_of p) (Plain p) s n t y h e in
    let body : body_of kind p ≡ ipv4_of p = body_ipv4 kind p both.0 both.1 in
    record { header = and_right (kind == 0x0800) (is_ipv4 p) both.1; body = body; places = e ∙ ap network_of body }

pub record IsIpv6At (kind : ℕ) (p : List ℕ) (before : ℕ) (y : Payload) : Type 0 where
  pub header : is_ipv6 p ≡ true
  pub body : body_of kind p ≡ ipv6_of p
  pub places : network.Ipv6 before y ≡ network_of (ipv6_of p)

pub ipv6_at : (kind : ℕ) (p : List ℕ) (before : ℕ) (y : Payload) → network.Ipv6 before y ≡ network_of (body_of kind p) → IsIpv6At kind p before y
unfolding body_of
ipv6_at kind p before y e =
    let (s, n, t, h) = shown p in
    let all = ipv6_by (arp_test kind p) (ipv4_test kind p) (ipv6_test kind p) (arp_of p) (ipv4_of p) (ipv6_of p) (Plain p) s n before t y h e in
    let body : body_of kind p ≡ ipv6_of p = body_ipv6 kind p all.0 all.1 all.2 in
    record { header = and_right (kind == 0x86dd) (is_ipv6 p) all.2; body = body; places = e ∙ ap network_of body }

pub plain_at : (kind : ℕ) (p : List ℕ) → network.Plain ≡ network_of (body_of kind p) → body_of kind p ≡ Plain p
unfolding body_of
plain_at kind p e =
    let (s, n, t, h) = shown p in
    let all = plain_by (arp_test kind p) (ipv4_test kind p) (ipv6_test kind p) (arp_of p) (ipv4_of p) (ipv6_of p) (Plain p) s n t h e in
    body_plain kind p all.0 all.1 all.2

-- ---- the fields of a body are put into a key

pub put_plain : (f : Field) (kind : ℕ) (p : List ℕ) (x : Option ℕ) → network.Plain ≡ network_of (body_of kind p) → x ≡ option_or (look f (body_cells (body_of kind p))) x
put_plain f kind p x e = sym (ap (λ (b : Body). option_or (look f (body_cells b)) x) (plain_at kind p e) ∙ ap (λ (y : Option ℕ). option_or y x) (look_bytes (number_of f) p))

pub put_arp : (f : Field) (kind : ℕ) (p : List ℕ) (x : Option ℕ) → network.Arp ≡ network_of (body_of kind p) → option_or (look f (cells_in arp (arp_numbers p))) x ≡ option_or (look f (body_cells (body_of kind p))) x
unfolding arp_of
put_arp f kind p x e =
    ap (λ (y : Option ℕ). option_or y x) (sym (look_front (number_of f) (cells_in arp (arp_numbers p)) (drop 28 p)))
    ∙ ap (λ (b : Body). option_or (look f (body_cells b)) x) (sym (arp_at kind p e).body)

-- ---- the layers around it

look_four : (n : ℕ) (a b c d : List Cell) → look_up n (a ++ (b ++ (c ++ d))) ≡ option_or (look_up n a) (option_or (look_up n b) (look_up n (c ++ d)))
look_four n a b c d = look-append n a (b ++ (c ++ d)) ∙ ap (option_or (look_up n a)) (look-append n b (c ++ d))

abbrev pub packet_of : List ℕ → ℕ → Body
packet_of frame n = body_of (word frame (12 + 4 * n)) (drop (12 + 4 * n + 2) frame)

abbrev pub inner_of : List ℕ → ℕ → List Cell
inner_of frame n = cells_in ether_type (word frame (12 + 4 * n) ∷ []) ++ body_cells (packet_of frame n)

-- the cells of the layers, part by part
look_parts : (f : Field) (frame : List ℕ) (n : ℕ) → n ≡ tag_count (drop 12 frame) → look f (cells (layers_of frame)) ≡
    option_or (look f (cells_in addresses (six frame 0 ∷ six frame 6 ∷ []))) (option_or (look f (tag_cells (tags_of n (drop 12 frame)))) (look f (inner_of frame n)))
unfolding layers_of
look_parts f frame n e = rw (← e)
    (look_four (number_of f) (cells_in addresses (six frame 0 ∷ six frame 6 ∷ [])) (tag_cells (tags_of n (drop 12 frame))) (cells_in ether_type (word frame (12 + 4 * n) ∷ [])) (body_cells (packet_of frame n)))

vid_inner : (frame : List ℕ) (n : ℕ) → look VlanVid (inner_of frame n) ≡ None
unfolding row_of
vid_inner frame n = lacks_body 6 vid_outer (packet_of frame n)

word-drop : (s : List ℕ) → word (drop 12 s) 2 ≡ word s 14
word-drop s = let a : get_or (drop 12 s) 2 0 ≡ get_or s 14 0 = get_or-drop 12 s 2 0 in let b : get_or (drop 12 s) 3 0 ≡ get_or s 15 0 = get_or-drop 12 s 3 0 in λ i. 256 * a i + b i

abbrev ends_in : Field → List ℕ → ℕ → ℕ → Option ℕ
ends_in f frame port meta = look f (cells_in untagged (port ∷ meta ∷ six frame 0 ∷ six frame 6 ∷ 0 ∷ []))

abbrev tag_in : Field → List ℕ → Option ℕ
tag_in f frame = look f (cells_in tagged ((4096 + word frame 14 % 4096) ∷ (word frame 14 / 8192) ∷ []))

-- without a tag
pub key_untagged : (frame : List ℕ) (n port meta : ℕ) (f : Field) → n ≡ tag_count (drop 12 frame) → n ≡ 0 → option_or (ends_in f frame port meta) (look f (inner_of frame n)) ≡ field_map (layers_of frame) port meta f
unfolding row_of
key_untagged frame n port meta f e z =
    let parts : (g : Field) → look g (cells (layers_of frame)) ≡ option_or (look g (cells_in addresses (six frame 0 ∷ six frame 6 ∷ []))) (look g (inner_of frame n)) =
    λ g. look_parts g frame n e ∙ ap (λ (k : ℕ). option_or (look g (cells_in addresses (six frame 0 ∷ six frame 6 ∷ []))) (option_or (look g (tag_cells (tags_of k (drop 12 frame)))) (look g (inner_of frame n)))) z in
    elim f as (λ f. option_or (ends_in f frame port meta) (look f (inner_of frame n)) ≡ field_map (layers_of frame) port meta f) [
      | InPort ↦ refl
      | Metadata ↦ refl
      | VlanVid ↦ ap (λ (x : Option ℕ). Some (vid x)) (sym (parts VlanVid ∙ vid_inner frame n))
      | g ↦ sym (parts g)
    ]

-- with tags
pub key_tagged : (frame : List ℕ) (n m port meta : ℕ) (f : Field) → n ≡ tag_count (drop 12 frame) → n ≡ suc m → option_or (tag_in f frame) (option_or (ends_in f frame port meta) (look f (inner_of frame n))) ≡ field_map (layers_of frame) port meta f
unfolding row_of
key_tagged frame n m port meta f e z =
    let tag : word (drop 12 frame) 2 ≡ word frame 14 = word-drop frame in
    let parts : (g : Field) → look g (cells (layers_of frame)) ≡ option_or (look g (cells_in addresses (six frame 0 ∷ six frame 6 ∷ []))) (option_or (look g (cells_in outer_tag (tag_numbers (drop 12 frame)))) (look g (inner_of frame n))) =
    λ g. look_parts g frame n e ∙ ap (λ (x : Option ℕ). option_or (look g (cells_in addresses (six frame 0 ∷ six frame 6 ∷ []))) (option_or x (look g (inner_of frame n))))
    (ap (λ (k : ℕ). look g (tag_cells (tags_of k (drop 12 frame)))) z ∙ look_tags (number_of g) m (drop 12 frame)) in
    elim f as (λ f. option_or (tag_in f frame) (option_or (ends_in f frame port meta) (look f (inner_of frame n))) ≡ field_map (layers_of frame) port meta f) [
      | InPort ↦ refl
      | Metadata ↦ refl
      | VlanVid ↦ sym (ap (λ (x : Option ℕ). Some (vid x)) (parts VlanVid ∙ ap (λ (w : ℕ). Some (w % 4096)) tag))
      | VlanPcp ↦ sym (parts VlanPcp ∙ ap (λ (w : ℕ). Some (w / 8192)) tag)
      | g ↦ sym (parts g)
    ]

-- ---- where the layers begin

pub record StandsAt (frame : List ℕ) (y : Layout) : Type 0 where
  pub room : 12 + 4 * y.tags + 2 ≤ length frame
  pub tags : y.tags ≡ tag_count (drop 12 frame)
  pub network : y.network ≡ network_of (packet_of frame y.tags)

pub stands : (frame : List ℕ) (y : Layout) → 14 ≤ length frame → y ≡ layout_of (layers_of frame) → StandsAt frame y
unfolding layers_of
stands frame y long e =
    let n : y.tags ≡ tag_count (drop 12 frame) = ap (λ (z : Layout). z.tags) e ∙ length-tags_of (tag_count (drop 12 frame)) (drop 12 frame) in
    record {
      room = omega (arith, tag_room (drop 12 frame) (omega (arith, length-drop 12 frame)), length-drop 12 frame);
      tags = n;
      network = ap (λ (z : Layout). z.network) e ∙ ap (λ (k : ℕ). network_of (packet_of frame k)) (sym n);
    }

-- ---- the whole key, part by part

from_nothing : (f : Field) (frame : List ℕ) (n : ℕ) (e k : FieldKey) → ((g : Field) → value e g ≡ None) → ((g : Field) → value k g ≡ option_or (look g (inner_of frame n)) (value e g)) → value k f ≡ look f (inner_of frame n)
from_nothing f frame n e k a b = b f ∙ ap (option_or (look f (inner_of frame n))) (a f) ∙ or_none (look f (inner_of frame n))

pub whole_untagged : (frame : List ℕ) (n port meta : ℕ) (e k r : FieldKey) → n ≡ tag_count (drop 12 frame) → n ≡ 0 → ((g : Field) → value e g ≡ None) →
    ((g : Field) → value k g ≡ option_or (look g (inner_of frame n)) (value e g)) →
    ((g : Field) → value r g ≡ option_or (ends_in g frame port meta) (value k g)) → value r ≡ field_map (layers_of frame) port meta
whole_untagged frame n port meta e k r h z a b d = λ i f.
    (d f ∙ ap (option_or (ends_in f frame port meta)) (from_nothing f frame n e k a b) ∙ key_untagged frame n port meta f h z) i

pub whole_tagged : (frame : List ℕ) (n port meta : ℕ) (e k r q : FieldKey) → n ≡ tag_count (drop 12 frame) → 0 < n → ((g : Field) → value e g ≡ None) →
    ((g : Field) → value k g ≡ option_or (look g (inner_of frame n)) (value e g)) →
    ((g : Field) → value r g ≡ option_or (ends_in g frame port meta) (value k g)) →
    ((g : Field) → value q g ≡ option_or (tag_in g frame) (value r g)) → value q ≡ field_map (layers_of frame) port meta
whole_tagged frame n port meta e k r q h z a b d g =
    let some : n ≡ suc (n - 1) = omega arith in
    λ i f.
    (g f ∙ ap (option_or (tag_in f frame)) (d f ∙ ap (option_or (ends_in f frame port meta)) (from_nothing f frame n e k a b)) ∙ key_tagged frame n (n - 1) port meta f h some) i

-- ---- the same frame at another port, with other metadata

pub at_port : (l : Layers) (port before in_port metadata : ℕ) (k with_port with_both : Field → Option ℕ) → k ≡ field_map l port before →
    ((f : Field) → with_port f ≡ cond (number_of f == number_of InPort) (Some in_port) (k f)) →
    ((f : Field) → with_both f ≡ cond (number_of f == number_of Metadata) (Some metadata) (with_port f)) → with_both ≡ field_map l in_port metadata
unfolding row_of
at_port l port before in_port metadata k with_port with_both is one two =
    fun_ext here
  where
    kept : (f : Field) → k f ≡ field_map l port before f
    kept f = ap (λ (m : Field → Option ℕ). m f) is

    here : (f : Field) → with_both f ≡ field_map l in_port metadata f
    here InPort = two InPort ∙ one InPort
    here Metadata = two Metadata
    here VlanVid = two VlanVid ∙ one VlanVid ∙ kept VlanVid
    here other = two other ∙ one other ∙ kept other

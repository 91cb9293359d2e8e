-- Layers where a number is replaced are well formed, and they are those of the new frame.
use Rattle.std.proofs.Common.{◌≡◌, ◌≢◌, ℕ, zero, suc, ◌+◌, ◌*◌, ◌%◌, ◌^◌, ◌<◌, ◌≤◌, true, false, cond, List, [], ◌∷◌, ◌++◌, length, get_or, Option, None, refl, sym, ap, ◌∙◌, arith, subst}
use Rattle.std.{specs.Prelude.min, proofs.lemmas.Bool.ne_eqb, proofs.lemmas.Nat.mod_below, proofs.lemmas.Nat.pow_pos, proofs.Math.Nat.mod-eq_of_lt}
use Rattle.of_layers.specs.Layers.{Item, Cell, Layers, Carried, Extension, Options, Fragment, Body, Plain, Arp, Ipv4, Ipv6, all_bytes, body_cells, cells, encoded, addresses, outer_tag, inner_tag, arp, ipv4, ipv6, items_of, next_before, ttl}
use Rattle.of_layers.specs.WellFormed.{AreBytes, FitsItems, AreTags, IsCarried, IsArp, IsIpv4, IsIpv6, AreExtensions, IsBody, IsLayers, carried_size}
use Rattle.of_layers.specs.{Bits.bits_of, declared.field.Field.Field, declared.field.Field.TheVariants.EthType, declared.field.Field.TheVariants.IpProto}
use Rattle.of_layers.specs.{Fields.row_of, Fields.number_of, Fields.is_settable, Looking.name_is, Reading.is_tag_type, Reading.kind_behind, Reading.over_ipv4, Reading.layers_of}
use Rattle.of_layers.{specs.declared.transport.Transport.Transport, proofs.FrameLemmas.are_layers, proofs.FrameLemmas.only_layers}
use Rattle.of_headers.specs.Places.{width}
use Rattle.of_rewrite.specs.Replaced.{Replaceable, LeavesLayers, numbers_with, tags_with, carried_with, body_with, layers_with, layers_set}
use Rattle.of_rewrite.{specs.Rewriting.change_at, specs.Rewriting.number_set, specs.Rewriting.header_updated, specs.Rewriting.carried_after, proofs.Finding.Sound, proofs.Finding.names_apart}
use Rattle.of_rewrite.proofs.{Kept.cut_at, Kept.cut_body, Kept.cut_layers, Putting.bits_low, Standing.length_encoded, Structure.outer_fits, Unset.frame_stands}

-- ---- numbers of a header

pub fits_with : (n : ℕ) (f : ℕ → ℕ) (is : List Item) (ns : List ℕ) → FitsItems is ns → FitsItems is (numbers_with n f is ns)
fits_with n f [] [] h = tt
fits_with n f [] (m ∷ ns) h = absurd h
fits_with n f (i ∷ is) [] h = absurd h
fits_with n f (i ∷ is) (m ∷ ns) h =
    elim (name_is n i.name) as (λ t. FitsItems (i ∷ is) (cond t ((f m % 2 ^ i.width) ∷ ns) (m ∷ numbers_with n f is ns))) [
      | true ↦ (mod_below (f m) (2 ^ i.width) (pow_pos i.width), h.1)
      | false ↦ (h.0, fits_with n f is ns h.1)
    ]

-- the name of the number at a place
abbrev name_at : List Item → ℕ → Option ℕ
name_at [] k = None
name_at (i ∷ is) zero = i.name
name_at (i ∷ is) (suc k) = name_at is k

pub number_kept : (n : ℕ) (f : ℕ → ℕ) (is : List Item) (ns : List ℕ) (k : ℕ) → name_is n (name_at is k) ≡ false → get_or (numbers_with n f is ns) k 0 ≡ get_or ns k 0
number_kept n f [] ns k h = refl
number_kept n f (i ∷ is) [] k h = refl
number_kept n f (i ∷ is) (m ∷ ns) zero h = rw h refl
number_kept n f (i ∷ is) (m ∷ ns) (suc k) h =
    elim (name_is n i.name) as (λ t. get_or (cond t ((f m % 2 ^ i.width) ∷ ns) (m ∷ numbers_with n f is ns)) (suc k) 0 ≡ get_or ns k 0) [
      | true ↦ refl
      | false ↦ number_kept n f is ns k h
    ]

-- ---- tags

inner_fits : (t : List ℕ) → FitsItems outer_tag t → FitsItems inner_tag t
inner_fits [] h = h
inner_fits (a ∷ []) h = h
inner_fits (a ∷ b ∷ []) h = h
inner_fits (a ∷ b ∷ c ∷ []) h = h
inner_fits (a ∷ b ∷ c ∷ d ∷ []) h = h
inner_fits (a ∷ b ∷ c ∷ d ∷ e ∷ r) h = h

tags_kept : (n : ℕ) (f : ℕ → ℕ) (ts : List (List ℕ)) → AreTags ts → AreTags (tags_with n f ts)
tags_kept n f [] h = tt
tags_kept n f (t ∷ ts) h = (inner_fits (numbers_with n f outer_tag t) (fits_with n f outer_tag t (outer_fits t h.0)), ap is_tag_type (number_kept n f outer_tag t 0 refl) ∙ h.1, h.2)

-- ---- what an IP packet carries

carried_kept : (n : ℕ) (f : ℕ → ℕ) (kind : Transport) (c : Carried) → IsCarried kind c → IsCarried kind (carried_with n f c)
carried_kept n f kind c h = record { there = h.there; numbers = fits_with n f (items_of c.kind) c.numbers h.numbers; rest = h.rest }

pub chain_kept : (n : ℕ) (f : ℕ → ℕ) (kind : ℕ) (es : List Extension) (c : Carried) → AreExtensions kind es c → AreExtensions kind es (carried_with n f c)
chain_kept n f kind [] c h = (carried_kept n f _ c h.0, h.1)
chain_kept n f kind (Options ns bytes ∷ es) c h = (h.0, h.1, h.2, h.3, chain_kept n f _ es c h.4)
chain_kept n f kind (Fragment ns ∷ es) c h = (h.0, h.1, (λ z. chain_kept n f _ es c (h.2 z)), (λ z. let q = h.3 z in (q.0, carried_kept n f _ c q.1)))

-- ---- bodies

pub ipv4_kept : (n : ℕ) (f : ℕ → ℕ) (ns o : List ℕ) (c : Carried) (rest : List ℕ) → n ≢ 10 → IsIpv4 ns o c rest → IsIpv4 (numbers_with n f ipv4 ns) o (carried_with n f c) rest
unfolding row_of
ipv4_kept n f ns o c rest ne h =
    let ms : List ℕ = numbers_with n f ipv4 ns in
    let a : get_or (numbers_with n f ipv4 ns) 0 0 ≡ get_or ns 0 0 = number_kept n f ipv4 ns 0 refl in
    let b : get_or (numbers_with n f ipv4 ns) 1 0 ≡ get_or ns 1 0 = number_kept n f ipv4 ns 1 refl in
    let d : get_or (numbers_with n f ipv4 ns) 4 0 ≡ get_or ns 4 0 = number_kept n f ipv4 ns 4 refl in
    let e : get_or (numbers_with n f ipv4 ns) 7 0 ≡ get_or ns 7 0 = number_kept n f ipv4 ns 7 refl in
    let g : get_or (numbers_with n f ipv4 ns) 9 0 ≡ get_or ns 9 0 = number_kept n f ipv4 ns 9 (ne_eqb n 10 ne) in
    record {
      numbers = fits_with n f ipv4 ns h.numbers;
      version = a ∙ h.version;
      words = h.words ∙ ap (λ (k : ℕ). 4 * k) (sym b);
      total = subst (λ (k : ℕ). 20 + length o ≤ k) (sym d) h.total;
      inside = h.inside ∙ ap (λ (k : ℕ). min k (20 + length o + carried_size c + length rest)) (sym d);
      options_fit = h.options_fit;
      carries = subst (λ (k : Transport). IsCarried k (carried_with n f c)) (λ j. kind_behind (sym e j) (over_ipv4 (sym g j))) (carried_kept n f _ c h.carries);
      rest_fits = h.rest_fits;
    }

next_name : (n : ℕ) (es : List Extension) → n ≢ 10 → name_is n (name_at (ipv6 (next_before es)) 5) ≡ false
unfolding row_of
next_name n [] ne = ne_eqb n 10 ne
next_name n (e ∷ es) ne = refl

pub ipv6_kept : (n : ℕ) (f : ℕ → ℕ) (ns : List ℕ) (es : List Extension) (c : Carried) (rest : List ℕ) → n ≢ 10 → IsIpv6 ns es c rest → IsIpv6 (numbers_with n f (ipv6 (next_before es)) ns) es (carried_with n f c) rest
unfolding row_of
ipv6_kept n f ns es c rest ne h =
    let is : List Item = ipv6 (next_before es) in
    let a : get_or (numbers_with n f (ipv6 (next_before es)) ns) 0 0 ≡ get_or ns 0 0 = number_kept n f is ns 0 refl in
    let d : get_or (numbers_with n f (ipv6 (next_before es)) ns) 4 0 ≡ get_or ns 4 0 = number_kept n f is ns 4 refl in
    let g : get_or (numbers_with n f (ipv6 (next_before es)) ns) 5 0 ≡ get_or ns 5 0 = number_kept n f is ns 5 (next_name n es ne) in
    record {
      numbers = fits_with n f is ns h.numbers;
      version = a ∙ h.version;
      inside = h.inside ∙ ap (λ (k : ℕ). min k (all_bytes es + carried_size c + length rest)) (sym d);
      chain = subst (λ (k : ℕ). AreExtensions k es (carried_with n f c)) (sym g) (chain_kept n f _ es c h.chain);
      rest_fits = h.rest_fits;
    }

arp_kept : (n : ℕ) (f : ℕ → ℕ) (ns rest : List ℕ) → IsArp ns rest → IsArp (numbers_with n f arp ns) rest
arp_kept n f ns rest h = record {
  numbers = fits_with n f arp ns h.numbers;
  hardware = number_kept n f arp ns 0 refl ∙ h.hardware;
  protocol = number_kept n f arp ns 1 refl ∙ h.protocol;
  hardware_length = number_kept n f arp ns 2 refl ∙ h.hardware_length;
  protocol_length = number_kept n f arp ns 3 refl ∙ h.protocol_length;
  rest_fits = h.rest_fits;
}

body_kept : (n : ℕ) (f : ℕ → ℕ) (type : ℕ) (b : Body) → n ≢ 10 → IsBody type b → IsBody type (body_with n f b)
body_kept n f type (Plain rest) ne h = h
body_kept n f type (Arp ns rest) ne h = (h.0, arp_kept n f ns rest h.1)
body_kept n f type (Ipv4 ns o c rest) ne h = (h.0, ipv4_kept n f ns o c rest ne h.1)
body_kept n f type (Ipv6 ns es c rest) ne h = (h.0, ipv6_kept n f ns es c rest ne h.1)

-- ---- the frame

cut_wide : (n : ℕ) (f : ℕ → ℕ) (cs : List Cell) → width (cut_at n f cs) ≡ width cs
cut_wide n f [] = refl
cut_wide n f (c ∷ cs) =
    elim (name_is n c.name) as (λ t. width (cond t (record c { value = f c.value % 2 ^ c.width } ∷ cs) (c ∷ cut_at n f cs)) ≡ c.width + width cs) [
      | true ↦ refl
      | false ↦ ap (λ (k : ℕ). c.width + k) (cut_wide n f cs)
    ]

pub layers_kept : (n : ℕ) (f : ℕ → ℕ) (l : Layers) → n ≢ 10 → IsLayers l → IsLayers (layers_with n f l)
layers_kept n f l ne h =
    let same : length (encoded (body_cells (body_with n f l.body))) ≡ length (encoded (body_cells l.body)) =
    length_encoded (body_cells (body_with n f l.body)) ∙ ap width (sym (cut_body n f l.body ne)) ∙ cut_wide n f (body_cells l.body) ∙ sym (length_encoded (body_cells l.body)) in
    record {
      ends = fits_with n f addresses l.ends h.ends;
      tags = tags_kept n f l.tags h.tags;
      type = h.type;
      last = λ t. let k : length (encoded (body_cells l.body)) < 32 = h.last t in omega arith;
      body = body_kept n f l.type l.body ne h.body;
    }

-- ---- numbers without the bits that are not encoded

abbrev trim : List Cell → List Cell
trim [] = []
trim (c ∷ cs) = record c { value = c.value % 2 ^ c.width } ∷ trim cs

encoded_trim : (cs : List Cell) → encoded (trim cs) ≡ encoded cs
encoded_trim [] = refl
encoded_trim (c ∷ cs) = λ j. bits_low c.width c.value j ++ encoded_trim cs j

trim_sound : (cs : List Cell) → Sound cs → trim cs ≡ cs
trim_sound [] h = refl
trim_sound (c ∷ cs) h = let e : c.value % 2 ^ c.width ≡ c.value = mod-eq_of_lt h.0 in λ j. record c { value = e j } ∷ trim_sound cs h.1 j

-- the first number of a name is within its bits
abbrev SoundAt : ℕ → List Cell → Type 0
SoundAt k [] = Unit {0}
SoundAt k (c ∷ cs) = (name_is k c.name ≡ true → c.value < 2 ^ c.width) × (name_is k c.name ≡ false → SoundAt k cs)

sound_at : (k : ℕ) (cs : List Cell) → Sound cs → SoundAt k cs
sound_at k [] h = tt
sound_at k (c ∷ cs) h = ((λ _. h.0), (λ _. sound_at k cs h.1))

sound_changed : (k n : ℕ) (f : ℕ → ℕ) (cs : List Cell) → k ≢ n → SoundAt k cs → SoundAt k (change_at n f cs)
sound_changed k n f [] ne h = tt
sound_changed k n f (c ∷ cs) ne h =
    elim (name_is n c.name) as (λ t. name_is n c.name ≡ t → SoundAt k (cond t (record c { value = f c.value } ∷ cs) (c ∷ change_at n f cs))) [
      | true ↦ λ e. let no : name_is k c.name ≡ false = names_apart k n c.name ne e in ((λ yes. absurd (let z : true ≡ false = sym yes ∙ no in cc)), h.1)
      | false ↦ λ e. (h.0, (λ no. sound_changed k n f cs ne (h.1 no)))
    ] refl

trim_changed : (k : ℕ) (g : ℕ → ℕ) (cs : List Cell) → SoundAt k cs → trim (change_at k g cs) ≡ cut_at k g (trim cs)
trim_changed k g [] h = refl
trim_changed k g (c ∷ cs) h =
    elim (name_is k c.name) as (λ t. name_is k c.name ≡ t → trim (cond t (record c { value = g c.value } ∷ cs) (c ∷ change_at k g cs)) ≡ cond t (record c { value = g (c.value % 2 ^ c.width) % 2 ^ c.width } ∷ trim cs) (record c { value = c.value % 2 ^ c.width } ∷ cut_at k g (trim cs))) [
      | true ↦ λ e. let m : c.value % 2 ^ c.width ≡ c.value = mod-eq_of_lt (h.0 e) in let at : ℕ → List Cell = λ x. record c { value = g x % 2 ^ c.width } ∷ trim cs in ap at (sym m)
      | false ↦ λ e. ap (λ (x : List Cell). record c { value = c.value % 2 ^ c.width } ∷ x) (trim_changed k g cs (h.1 e))
    ] refl

-- ---- the layers of the new frame

trim_set : (n v : ℕ) (l : Layers) → Sound (cells l) → Replaceable n → trim (number_set n v l) ≡ cut_at 103 (carried_after l.body n v) (cut_at 102 (header_updated l.body n v) (cut_at n (λ x. v) (cells l)))
unfolding number_set
trim_set n v l h free =
    let cs : List Cell = cells l in
    let g : ℕ → ℕ = header_updated l.body n v in
    let k : ℕ → ℕ = carried_after l.body n v in
    let one : List Cell = change_at n (λ x. v) (cells l) in
    let two : List Cell = change_at 102 (header_updated l.body n v) (change_at n (λ x. v) (cells l)) in
    let sound_one : SoundAt 102 (change_at n (λ x. v) (cells l)) = sound_changed 102 n (λ x. v) cs (λ e. free.0 (sym e)) (sound_at 102 cs h) in
    let sound_two : SoundAt 103 (change_at 102 (header_updated l.body n v) (change_at n (λ x. v) (cells l))) = sound_changed 103 102 g one (omega arith) (sound_changed 103 n (λ x. v) cs (λ e. free.1 (sym e)) (sound_at 103 cs h)) in
    trim_changed 103 k two sound_two
    ∙ ap (cut_at 103 k) (trim_changed 102 g one sound_one ∙ ap (cut_at 102 g) (trim_changed n (λ x. v) cs (sound_at n cs h) ∙ ap (cut_at n (λ x. v)) (trim_sound cs h)))

set_cells : (n v : ℕ) (l : Layers) → Replaceable n → LeavesLayers n → cut_at 103 (carried_after l.body n v) (cut_at 102 (header_updated l.body n v) (cut_at n (λ x. v) (cells l))) ≡ cells (layers_set n v l)
unfolding layers_set row_of
set_cells n v l free leaves =
    let g : ℕ → ℕ = header_updated l.body n v in
    let k : ℕ → ℕ = carried_after l.body n v in
    let one : Layers = layers_with n (λ x. v) l in
    ap (λ (x : List Cell). cut_at 103 k (cut_at 102 g x)) (cut_layers n (λ x. v) l leaves.0 leaves.1)
    ∙ ap (cut_at 103 k) (cut_layers 102 g one (omega arith) (omega arith))
    ∙ cut_layers 103 k (layers_with 102 g one) (omega arith) (omega arith)

set_layers : (n v : ℕ) (l : Layers) → LeavesLayers n → IsLayers l → IsLayers (layers_set n v l)
unfolding layers_set row_of
set_layers n v l leaves h =
    let one : IsLayers (layers_with n (λ x. v) l) = layers_kept n (λ x. v) l leaves.1 h in
    let two = layers_kept 102 (header_updated l.body n v) (layers_with n (λ x. v) l) (omega arith) one in
    layers_kept 103 (carried_after l.body n v) (layers_with 102 (header_updated l.body n v) (layers_with n (λ x. v) l)) (omega arith) two

pub layers_are : (n v : ℕ) (s t : List ℕ) → Replaceable n → LeavesLayers n → AreBytes s → 14 ≤ length s → AreBytes t → bits_of t ≡ encoded (number_set n v (layers_of s)) → layers_of t ≡ layers_set n v (layers_of s)
layers_are n v s t free leaves b h c e =
    let l : Layers = layers_of s in
    let encodes : bits_of t ≡ encoded (cells (layers_set n v (layers_of s))) =
    e ∙ sym (encoded_trim (number_set n v l)) ∙ ap encoded (trim_set n v l (frame_stands s b h).is_sound free ∙ set_cells n v l free leaves) in
    sym (only_layers (layers_set n v l) t (set_layers n v l leaves (are_layers s b h)) c encodes)

-- a field that an action sets
pub leaves : (f : Field) → is_settable f ≡ true → LeavesLayers (number_of f)
unfolding row_of
leaves f h = elim f as (λ f. is_settable f ≡ true → LeavesLayers (number_of f)) [
  | EthType ↦ λ h. absurd cc
  | IpProto ↦ λ h. absurd cc
  | _ ↦ λ h. (omega arith, omega arith)
] h

pub leaves_ttl : LeavesLayers ttl
unfolding row_of
leaves_ttl = (omega arith, omega arith)

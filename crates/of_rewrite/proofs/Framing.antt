-- The bytes that cells encode, and how many there are.
use Rattle.std.proofs.Common.{◌≡◌, ℕ, zero, suc, ◌+◌, ◌-◌, ◌*◌, ◌/◌, ◌^◌, ◌<◌, ◌≤◌, Bool, true, false, cond, List, [], ◌∷◌, ◌++◌, length, take, drop, get_or, Option, Some, None, refl, sym, ap, ◌∙◌, arith, inl, inr}
use Rattle.std.proofs.lemmas.List.{take_at, drop_at, length-take, get_or-take, get_or-drop, get_or_past}
use Rattle.std.{specs.Prelude.nat_le, proofs.lemmas.Bool.cases_lt, proofs.lemmas.Bool.le-leb, proofs.lemmas.Bool.lt-leb}
use Rattle.std.proofs.Math.Nat.{mod-eq_of_lt, pow-suc, pow-le-pow_right}
use Rattle.of_layers.specs.Layers.{Cell, Layers, cells, encoded, cells_in, inner_cells, tag_cells, body_cells, addresses, outer_tag, inner_tag, ether_type, ttl}
use Rattle.of_layers.specs.{declared.field.Field.Field, Fields.number_of, Bits.bits, Bits.bits_of, Reading.layers_of, WellFormed.AreBytes}
use Rattle.of_layers.proofs.{BitLemmas.length-bits, BitLemmas.length-bits_of, FrameLemmas.frame_encoded}
use Rattle.of_headers.{specs.Places.width, specs.Tags.tag_before, specs.Tags.pushed, specs.Tags.inner_tags, specs.Tags.popped, proofs.LocateLemmas.width-append}
use Rattle.of_rewrite.specs.Frames.{IsFrame, octets_of, bytes_in, frame_set, frame_pushed, frame_popped, frame_ttl, frame_ttl_decremented}
use Rattle.of_rewrite.specs.{Checksum.number_of_bits, Rewriting.number_set, Rewriting.field_set, TimeToLive.ttl_of, TimeToLive.ttl_decremented_from}
use Rattle.of_rewrite.proofs.{Parts.length_changed, Renewing.number-bits, Standing.length_encoded}

-- ---- bytes back from their bits

octets_back : (s : List ℕ) → AreBytes s → octets_of (length s) (bits_of s) ≡ s
unfolding octets_of bits_of
octets_back [] b = refl
octets_back (x ∷ s) b =
    let t : take 8 (bits 8 x ++ bits_of s) ≡ bits 8 x = take_at (bits 8 x) (bits_of s) 8 (length-bits 8 x) in
    let d : drop 8 (bits 8 x ++ bits_of s) ≡ bits_of s = drop_at (bits 8 x) (bits_of s) 8 (length-bits 8 x) in
    let small : x < 256 = b 0 in
    let v : number_of_bits (take 8 (bits 8 x ++ bits_of s)) ≡ x = ap number_of_bits t ∙ number-bits 8 x ∙ mod-eq_of_lt small in
    let r : octets_of (length s) (drop 8 (bits 8 x ++ bits_of s)) ≡ s = ap (octets_of (length s)) d ∙ octets_back s (λ i. b (suc i)) in
    λ j. v j ∷ r j

-- bytes are those that the cells encode
pub bytes_are : (cs : List Cell) (s : List ℕ) → AreBytes s → bits_of s ≡ encoded cs → s ≡ bytes_in cs
bytes_are cs s b e =
    let n : length s ≡ length (bits_of s) / 8 = omega (arith, length-bits_of s) in
    sym (octets_back s b) ∙ ap (λ (k : ℕ). octets_of k (bits_of s)) n ∙ ap (λ (t : List ℕ). octets_of (length t / 8) t) e

-- ---- they are bytes, and so many

length-octets : (n : ℕ) (s : List ℕ) → length (octets_of n s) ≡ n
unfolding octets_of
length-octets zero s = refl
length-octets (suc n) s = ap suc (length-octets n (drop 8 s))

pub length_in : (cs : List Cell) → length (bytes_in cs) ≡ width cs / 8
length_in cs = length-octets (length (encoded cs) / 8) (encoded cs) ∙ ap (λ (k : ℕ). k / 8) (length_encoded cs)

abbrev pub AreBits : List ℕ → Type 0
AreBits s = (i : ℕ) → get_or s i 0 < 2

pub bits_append : (a b : List ℕ) → AreBits a → AreBits b → AreBits (a ++ b)
bits_append [] b h k i = k i
bits_append (x ∷ a) b h k zero = h 0
bits_append (x ∷ a) b h k (suc i) = bits_append a b (λ i. h (suc i)) k i

bits_bits : (n v : ℕ) → AreBits (bits n v)
unfolding bits
bits_bits zero v i = omega arith
bits_bits (suc n) v zero = omega arith
bits_bits (suc n) v (suc i) = bits_bits n v i

pub encoded_bits : (cs : List Cell) → AreBits (encoded cs)
encoded_bits [] i = omega arith
encoded_bits (c ∷ cs) i = bits_append (bits c.width c.value) (encoded cs) (bits_bits c.width c.value) (encoded_bits cs) i

below_two : (b p n : ℕ) → b < 2 → n < p → b * p + n < 2 * p
below_two zero p n h k = omega arith
below_two (suc zero) p n h k = omega arith
below_two (suc (suc b)) p n h k = absurd (omega arith)

pub number_below : (s : List ℕ) → AreBits s → number_of_bits s < 2 ^ length s
unfolding number_of_bits
number_below [] h = omega arith
number_below (b ∷ s) h =
    let r : number_of_bits s < 2 ^ length s = number_below s (λ i. h (suc i)) in
    let p : 2 ^ suc (length s) ≡ 2 ^ length s * 2 = pow-suc 2 (length s) in
    let q : b * 2 ^ length s + number_of_bits s < 2 * 2 ^ length s = below_two b (2 ^ length s) (number_of_bits s) (h 0) r in
    omega arith

pub bits_take : (n : ℕ) (s : List ℕ) → AreBits s → AreBits (take n s)
bits_take n s h i = elim (cases_lt i n) [
  | inl lt ↦ rw (get_or-take n s i 0 lt) (h i)
  | inr le ↦ rw (get_or_past (take n s) i 0 (omega (arith, length-take n s))) (omega arith)
]

pub bits_drop : (n : ℕ) (s : List ℕ) → AreBits s → AreBits (drop n s)
bits_drop n s h i = rw get_or-drop (h (n + i))

octet_below : (s : List ℕ) → AreBits s → number_of_bits (take 8 s) < 256
octet_below s h =
    let l : length (take 8 s) ≤ 8 = omega (arith, length-take 8 s) in
    let p : 2 ^ length (take 8 s) ≤ 2 ^ 8 = pow-le-pow_right (omega arith) l in
    let n : number_of_bits (take 8 s) < 2 ^ length (take 8 s) = number_below (take 8 s) (bits_take 8 s h) in
    omega arith

octets_below : (n : ℕ) (s : List ℕ) → AreBits s → AreBytes (octets_of n s)
unfolding octets_of
octets_below zero s h i = omega arith
octets_below (suc n) s h zero = octet_below s h
octets_below (suc n) s h (suc i) = octets_below n (drop 8 s) (bits_drop 8 s h) i

pub bytes_below : (cs : List Cell) → AreBytes (bytes_in cs)
bytes_below cs = octets_below (length (encoded cs) / 8) (encoded cs) (encoded_bits cs)

-- ---- the layers of a frame

pub frame_width : (s : List ℕ) → IsFrame s → width (cells (layers_of s)) ≡ 8 * length s
frame_width s h = sym (length_encoded (cells (layers_of s))) ∙ ap length (sym (frame_encoded s h.1 h.0)) ∙ length-bits_of s

-- with one number replaced
pub width_set : (n v : ℕ) (l : Layers) → width (number_set n v l) ≡ width (cells l)
unfolding number_set
width_set n v l =
    sym (length_encoded (number_set n v l))
    ∙ length_changed _ _ _ ∙ length_changed _ _ _ ∙ length_changed n (λ x. v) (cells l)
    ∙ length_encoded (cells l)

set_is : (n v : ℕ) (s : List ℕ) → IsFrame s → length (bytes_in (number_set n v (layers_of s))) ≡ length s
set_is n v s h = length_in (number_set n v (layers_of s)) ∙ omega (arith, width_set n v (layers_of s), frame_width s h)

outer_wide : (t : List ℕ) → width (cells_in outer_tag t) ≡ width (cells_in inner_tag t)
outer_wide [] = refl
outer_wide (a ∷ []) = refl
outer_wide (a ∷ b ∷ []) = refl
outer_wide (a ∷ b ∷ c ∷ []) = refl
outer_wide (a ∷ b ∷ c ∷ d ∷ r) = refl

tags_wide : (ts : List (List ℕ)) → width (tag_cells ts) ≡ width (inner_cells ts)
tags_wide [] = refl
tags_wide (t ∷ ts) = width-append (cells_in outer_tag t) (inner_cells ts) ∙ omega (arith, outer_wide t, width-append (cells_in inner_tag t) (inner_cells ts))

before_wide : (type : ℕ) (ts : List (List ℕ)) → width (cells_in outer_tag (tag_before type ts)) ≡ 32
before_wide type [] = refl
before_wide type (t ∷ ts) = refl

layers_wide : (l : Layers) → width (cells l) ≡ width (cells_in addresses l.ends) + (width (tag_cells l.tags) + (16 + width (body_cells l.body)))
layers_wide l =
    let y : List Cell = cells_in ether_type (l.type ∷ []) in
    width-append (cells_in addresses l.ends) (tag_cells l.tags ++ (y ++ body_cells l.body))
    ∙ ap (λ (k : ℕ). width (cells_in addresses l.ends) + k) (width-append (tag_cells l.tags) (y ++ body_cells l.body) ∙ ap (λ (k : ℕ). width (tag_cells l.tags) + k) (width-append y (body_cells l.body)))

pushed_wide : (type : ℕ) (l : Layers) → width (cells (pushed type l)) ≡ 32 + width (cells l)
pushed_wide type l =
    omega (arith, layers_wide (pushed type l), layers_wide l, width-append (cells_in outer_tag (tag_before type l.tags)) (inner_cells l.tags), before_wide type l.tags, tags_wide l.tags)

inner_less : (ts : List (List ℕ)) → width (tag_cells (inner_tags ts)) ≤ width (tag_cells ts)
inner_less [] = omega arith
inner_less (t ∷ ts) = omega (arith, tags_wide ts, width-append (cells_in outer_tag t) (inner_cells ts))

popped_wide : (l : Layers) → width (cells (popped l)) ≤ width (cells l)
popped_wide l = omega (arith, layers_wide (popped l), layers_wide l, inner_less l.tags)

ends_wide : (s : List ℕ) → width (cells_in addresses (layers_of s).ends) ≡ 96
unfolding layers_of
ends_wide s = refl

-- ---- what is made of a frame is one

pub set_frame : (f : Field) (v : ℕ) (s : List ℕ) → IsFrame s → (length (frame_set f v s) ≡ length s) × IsFrame (frame_set f v s)
unfolding frame_set
set_frame f v s h =
    let l = set_is (number_of f) v s h in
    (l, (omega (arith, l, h.0), bytes_below (field_set f v (layers_of s))))

pub ttl_frame : (v : ℕ) (s : List ℕ) → IsFrame s → (length (frame_ttl v s) ≡ length s) × IsFrame (frame_ttl v s)
unfolding frame_ttl
ttl_frame v s h =
    let l = set_is ttl v s h in
    (l, (omega (arith, l, h.0), bytes_below (number_set ttl v (layers_of s))))

aged_wide : (o : Option ℕ) (l : Layers) → width (ttl_decremented_from o l) ≡ width (cells l)
aged_wide None l = refl
aged_wide (Some t) l = elim (nat_le t 1) as (λ b. width (cond b (cells l) (number_set ttl (t - 1) l)) ≡ width (cells l)) [
  | true ↦ refl
  | false ↦ width_set ttl (t - 1) l
]

pub aged_frame : (s : List ℕ) → IsFrame s → (length (frame_ttl_decremented s) ≡ length s) × IsFrame (frame_ttl_decremented s)
unfolding frame_ttl_decremented
aged_frame s h =
    let cs : List Cell = ttl_decremented_from (ttl_of (layers_of s)) (layers_of s) in
    let l : length (bytes_in (ttl_decremented_from (ttl_of (layers_of s)) (layers_of s))) ≡ length s = length_in cs ∙ omega (arith, aged_wide (ttl_of (layers_of s)) (layers_of s), frame_width s h) in
    (l, (omega (arith, l, h.0), bytes_below cs))

pub pushed_frame : (type : ℕ) (s : List ℕ) → IsFrame s → (length (frame_pushed type s) ≡ length s + 4) × IsFrame (frame_pushed type s)
unfolding frame_pushed
pushed_frame type s h =
    let cs : List Cell = cells (pushed type (layers_of s)) in
    let l : length (bytes_in (cells (pushed type (layers_of s)))) ≡ length s + 4 = length_in cs ∙ omega (arith, pushed_wide type (layers_of s), frame_width s h) in
    (l, (omega (arith, l, h.0), bytes_below cs))

pub popped_frame : (s : List ℕ) → IsFrame s → (length (frame_popped s) ≤ length s) × IsFrame (frame_popped s)
unfolding frame_popped
popped_frame s h =
    let cs : List Cell = cells (popped (layers_of s)) in
    let l : length (bytes_in (cells (popped (layers_of s)))) ≡ width (cells (popped (layers_of s))) / 8 = length_in cs in
    (omega (arith, l, popped_wide (layers_of s), frame_width s h), (omega (arith, l, layers_wide (popped (layers_of s)), ends_wide s), bytes_below cs))

-- ---- what the code makes is that

pub is_set : (f : Field) (v : ℕ) (s t : List ℕ) → AreBytes t → bits_of t ≡ encoded (field_set f v (layers_of s)) → t ≡ frame_set f v s
unfolding frame_set
is_set f v s t b e = bytes_are (field_set f v (layers_of s)) t b e

pub is_ttl : (v : ℕ) (s t : List ℕ) → AreBytes t → bits_of t ≡ encoded (number_set ttl v (layers_of s)) → t ≡ frame_ttl v s
unfolding frame_ttl
is_ttl v s t b e = bytes_are (number_set ttl v (layers_of s)) t b e

pub is_aged : (s t : List ℕ) (o : Option ℕ) → o ≡ ttl_of (layers_of s) → t ≡ bytes_in (ttl_decremented_from o (layers_of s)) → t ≡ frame_ttl_decremented s
unfolding frame_ttl_decremented
is_aged s t o e f = f ∙ ap (λ (o : Option ℕ). bytes_in (ttl_decremented_from o (layers_of s))) e

pub is_last : (s : List ℕ) (v : ℕ) → Some v ≡ ttl_of (layers_of s) → v ≤ 1 → s ≡ bytes_in (cells (layers_of s)) → s ≡ frame_ttl_decremented s
is_last s v e h f = is_aged s s (Some v) e (f ∙ ap (λ (b : Bool). bytes_in (cond b (cells (layers_of s)) (number_set ttl (v - 1) (layers_of s)))) (sym (le-leb v 1 h)))

pub is_less : (s t : List ℕ) (v : ℕ) → Some v ≡ ttl_of (layers_of s) → 1 < v → t ≡ frame_ttl (v - 1) s → t ≡ frame_ttl_decremented s
unfolding frame_ttl
is_less s t v e h f = is_aged s t (Some v) e (f ∙ ap (λ (b : Bool). bytes_in (cond b (cells (layers_of s)) (number_set ttl (v - 1) (layers_of s)))) (sym (lt-leb v 1 h)))

pub is_pushed : (type : ℕ) (s t : List ℕ) → AreBytes t → 14 ≤ length t → layers_of t ≡ pushed type (layers_of s) → t ≡ frame_pushed type s
unfolding frame_pushed
is_pushed type s t b h e = bytes_are (cells (pushed type (layers_of s))) t b (frame_encoded t b h ∙ ap (λ (l : Layers). encoded (cells l)) e)

pub is_popped : (s t : List ℕ) → AreBytes t → 14 ≤ length t → layers_of t ≡ popped (layers_of s) → t ≡ frame_popped s
unfolding frame_popped
is_popped s t b h e = bytes_are (cells (popped (layers_of s))) t b (frame_encoded t b h ∙ ap (λ (l : Layers). encoded (cells l)) e)

-- A frame is the encoding of the layers that are read from it, these are well formed, and no others encode it.
use Rattle.std.proofs.Common.{◌≡◌, ℕ, zero, suc, ◌+◌, ◌*◌, ◌^◌, ◌<◌, ◌≤◌, true, false, List, [], ◌∷◌, ◌++◌, length, get_or, drop, refl, sym, ap, ◌∙◌, arith, append_assoc}
use Rattle.std.proofs.lemmas.List.{drop-drop, length-drop, length-append}
use Rattle.of_layers.specs.Layers.{Layers, cells_in, inner_cells, tag_cells, body_cells, addresses, outer_tag, inner_tag, ether_type, Body, encoded, EncodesLayers}
use Rattle.of_layers.specs.Reading.{word, six, tag_count, tags_of, tag_numbers, is_tag_type, body_of, layers_of}
use Rattle.of_layers.proofs.TagLemmas.{tag_step, tag_stop, tag_short, tag_room, count_tag, end_count, few_left}
use Rattle.of_layers.proofs.EncodingLemmas.{AreBytes-drop, then_bits, word_from, six_from, encoded-append, tag_encoded, inner_encoded, encoded_tags, ends_encoded}
use Rattle.of_layers.proofs.FrontLemmas.{front_same, length_fits, word_behind, tag_fits, ends_fit}
use Rattle.of_layers.specs.{Bits.bits, Bits.bits_of, WellFormed.AreBytes, WellFormed.AreTags, WellFormed.IsLayers}
use Rattle.of_layers.proofs.{BitLemmas.bits_front, BitLemmas.length-bits, BitLemmas.length-bits_of, BodyLemmas.body_encoded, BodyLemmas.body_fits, BodyLemmas.body_is}

-- ---- they encode it

pub frame_encoded : (frame : List ℕ) → AreBytes frame → 14 ≤ length frame → EncodesLayers (layers_of frame) frame
unfolding layers_of
frame_encoded frame b h =
    let n : ℕ = tag_count (drop 12 frame) in
    let at : ℕ = 12 + 4 * n in
    let long : 12 + length (drop 12 frame) ≡ length frame = omega (arith, length-drop 12 frame) in
    let room : 4 * n + 2 ≤ length (drop 12 frame) = tag_room (drop 12 frame) (omega arith) in
    let tags : bits_of (drop 12 frame) ≡ encoded (tag_cells (tags_of n (drop 12 frame))) ++ bits_of (drop at frame) =
    inner_encoded n (drop 12 frame) (omega arith) (AreBytes-drop 12 frame b)
    ∙ ap (λ (t : List ℕ). t ++ bits_of (drop (4 * n) (drop 12 frame))) (sym (encoded_tags n (drop 12 frame)))
    ∙ ap (λ (t : List ℕ). encoded (tag_cells (tags_of n (drop 12 frame))) ++ bits_of t) (drop-drop (4 * n) 12 frame) in
    let last : bits_of (drop at frame) ≡ bits 16 (word frame at) ++ encoded (body_cells (body_of (word frame at) (drop (at + 2) frame))) =
    word_from frame at b (omega arith) ∙ ap (λ (t : List ℕ). bits 16 (word frame at) ++ t) (body_encoded (word frame at) (drop (at + 2) frame) (AreBytes-drop (at + 2) frame b)) in
    then_bits (bits 48 (six frame 0)) (six_from frame 0 b (omega arith))
    (then_bits (bits 48 (six frame 6)) (six_from frame 6 b (omega arith))
    (tags ∙ ap (λ (t : List ℕ). encoded (tag_cells (tags_of n (drop 12 frame))) ++ t) last ∙ sym (encoded-append (tag_cells (tags_of n (drop 12 frame))) _)))

-- ---- they are well formed

are_tags : (n : ℕ) (s : List ℕ) → tag_count s ≡ n → AreBytes s → AreTags (tags_of n s)
are_tags zero s e b = tt
are_tags (suc n) s e b = let t = count_tag s n e in (tag_fits s b, t.is, are_tags n (drop 4 s) t.next (AreBytes-drop 4 s b))

pub are_layers : (frame : List ℕ) → AreBytes frame → 14 ≤ length frame → IsLayers (layers_of frame)
unfolding layers_of
are_layers frame b h =
    let n : ℕ = tag_count (drop 12 frame) in
    let at : ℕ = 12 + 4 * tag_count (drop 12 frame) in
    let p : List ℕ = drop (12 + 4 * tag_count (drop 12 frame) + 2) frame in
    let pb : AreBytes (drop (12 + 4 * tag_count (drop 12 frame) + 2) frame) = AreBytes-drop (12 + 4 * tag_count (drop 12 frame) + 2) frame b in
    let none : tag_count (drop (12 + 4 * tag_count (drop 12 frame)) frame) ≡ 0 = ap tag_count (sym (drop-drop (4 * tag_count (drop 12 frame)) 12 frame)) ∙ end_count (tag_count (drop 12 frame)) (drop 12 frame) refl in
    let here : word (drop (12 + 4 * tag_count (drop 12 frame)) frame) 0 ≡ word frame (12 + 4 * tag_count (drop 12 frame)) = word_behind frame (12 + 4 * tag_count (drop 12 frame)) 0 ∙ ap (word frame) (omega arith) in
    let size : length (encoded (body_cells (body_of (word frame at) p))) ≡ 8 * length (drop (12 + 4 * tag_count (drop 12 frame) + 2) frame) = sym (ap length (body_encoded (word frame at) p pb)) ∙ length-bits_of p in
    record {
      ends = ends_fit frame b;
      tags = are_tags (tag_count (drop 12 frame)) (drop 12 frame) refl (AreBytes-drop 12 frame b);
      type = omega (arith, b (12 + 4 * tag_count (drop 12 frame)), b (12 + 4 * tag_count (drop 12 frame) + 1));
      last = λ t. let few : length (drop (12 + 4 * tag_count (drop 12 frame)) frame) < 6 = few_left (drop (12 + 4 * tag_count (drop 12 frame)) frame) none (ap is_tag_type here ∙ t) in
          omega (arith, size, few, length-drop (12 + 4 * tag_count (drop 12 frame)) frame, length-drop (12 + 4 * tag_count (drop 12 frame) + 2) frame);
      body = body_fits (word frame at) p pb;
    }

-- ---- no others encode it

-- what the tags that bytes begin with are
record TagsAre (ts : List (List ℕ)) (type : ℕ) (rest s : List ℕ) : Type 0 where
  pub count : tag_count s ≡ length ts
  pub tags : ts ≡ tags_of (length ts) s
  pub type_is : type ≡ word s (4 * length ts)
  pub rest_is : rest ≡ bits_of (drop (4 * length ts + 2) s)
  pub room : 4 * length ts + 2 ≤ length s

tags_end : (type : ℕ) (rest s : List ℕ) → type < 2 ^ 16 → (is_tag_type type ≡ true → length rest < 32) → AreBytes s → bits_of s ≡ bits 16 type ++ rest → TagsAre [] type rest s
tags_end type rest s small last b e =
    let long : 8 * length s ≡ 16 + length rest = sym (length-bits_of s) ∙ ap length e ∙ length-append (bits 16 type) rest ∙ ap (λ (k : ℕ). k + length rest) (length-bits 16 type) in
    let r = bits_front 16 type (word s 0) rest (bits_of (drop 2 s)) small (omega (arith, b 0, b 1)) (sym e ∙ word_from s 0 b (omega arith)) in
    let none : tag_count s ≡ 0 = elim (is_tag_type (word s 0)) as (λ t. is_tag_type (word s 0) ≡ t → tag_count s ≡ 0) [
      | true ↦ λ h. let few : length rest < 32 = last (ap is_tag_type r.0 ∙ h) in tag_short s (omega arith)
      | false ↦ λ h. tag_stop s h
    ] refl in
    record { count = none; tags = refl; type_is = r.0; rest_is = r.1; room = omega arith }

tags_are : (ts : List (List ℕ)) (type : ℕ) (rest s : List ℕ) → AreTags ts → type < 2 ^ 16 → (is_tag_type type ≡ true → length rest < 32) → AreBytes s →
    bits_of s ≡ encoded (inner_cells ts) ++ (bits 16 type ++ rest) → TagsAre ts type rest s
tags_are [] type rest s t small last b e = tags_end type rest s small last b e
tags_are (t ∷ ts) type rest s h small last b e =
    let parts : bits_of s ≡ encoded (cells_in inner_tag t) ++ (encoded (inner_cells ts) ++ (bits 16 type ++ rest)) =
    e ∙ ap (λ (x : List ℕ). x ++ (bits 16 type ++ rest)) (encoded-append (cells_in inner_tag t) (inner_cells ts)) ∙ append_assoc (encoded (cells_in inner_tag t)) (encoded (inner_cells ts)) (bits 16 type ++ rest) in
    let long : 32 + 16 ≤ 8 * length s = omega (
      arith,
      length-bits_of s,
      ap length parts,
      length-append (encoded (cells_in inner_tag t)) (encoded (inner_cells ts) ++ (bits 16 type ++ rest)),
      length_fits inner_tag t h.0,
      length-append (encoded (inner_cells ts)) (bits 16 type ++ rest),
      length-append (bits 16 type) rest,
      length-bits 16 type,
    ) in
    let r = front_same inner_tag t (tag_numbers s) (encoded (inner_cells ts) ++ (bits 16 type ++ rest)) (bits_of (drop 4 s)) h.0 (tag_fits s b) (sym parts ∙ tag_encoded s b (omega arith)) in
    let tag : is_tag_type (word s 0) ≡ true = ap (λ (x : List ℕ). is_tag_type (get_or x 0 0)) (sym r.0) ∙ h.1 in
    let i = tags_are ts type rest (drop 4 s) h.2 small last (AreBytes-drop 4 s b) (sym r.1) in
    let n : ℕ = length ts in
    record {
      count = tag_step s (omega arith) tag ∙ ap suc i.count;
      tags = λ j. r.0 j ∷ i.tags j;
      type_is = i.type_is ∙ word_behind s 4 (4 * n) ∙ ap (word s) (omega arith);
      rest_is = i.rest_is ∙ ap bits_of (drop-drop (4 * n + 2) 4 s ∙ ap (λ (k : ℕ). drop k s) (omega arith));
      room = omega (arith, i.room, length-drop 4 s);
    }

same_layers : (a b : List ℕ) (t u : List (List ℕ)) (k m : ℕ) (x y : Body) → a ≡ b → t ≡ u → k ≡ m → x ≡ y → ◌≡◌ {A = Layers} (record { ends = a; tags = t; type = k; body = x }) (record { ends = b; tags = u; type = m; body = y })
same_layers a b t u k m x y p q r s = λ j. record { ends = p j; tags = q j; type = r j; body = s j }

outer_inner : (t : List ℕ) → encoded (cells_in outer_tag t) ≡ encoded (cells_in inner_tag t)
outer_inner [] = refl
outer_inner (a ∷ []) = refl
outer_inner (a ∷ b ∷ []) = refl
outer_inner (a ∷ b ∷ c ∷ []) = refl
outer_inner (a ∷ b ∷ c ∷ d ∷ r) = refl

tags_encoded : (ts : List (List ℕ)) → encoded (tag_cells ts) ≡ encoded (inner_cells ts)
tags_encoded [] = refl
tags_encoded (t ∷ ts) = encoded-append (cells_in outer_tag t) (inner_cells ts) ∙ ap (λ (x : List ℕ). x ++ encoded (inner_cells ts)) (outer_inner t) ∙ sym (encoded-append (cells_in inner_tag t) (inner_cells ts))

pub only_layers : (l : Layers) (frame : List ℕ) → IsLayers l → AreBytes frame → EncodesLayers l frame → l ≡ layers_of frame
unfolding layers_of
only_layers l frame h b e =
    let body : List ℕ = encoded (body_cells l.body) in
    let parts : bits_of frame ≡ encoded (cells_in addresses l.ends) ++ (encoded (inner_cells l.tags) ++ (bits 16 l.type ++ encoded (body_cells l.body))) =
    e ∙ encoded-append (cells_in addresses l.ends) (tag_cells l.tags ++ (cells_in ether_type (l.type ∷ []) ++ body_cells l.body))
    ∙ ap (λ (x : List ℕ). encoded (cells_in addresses l.ends) ++ x) (encoded-append (tag_cells l.tags) (cells_in ether_type (l.type ∷ []) ++ body_cells l.body)
    ∙ ap (λ (x : List ℕ). x ++ (bits 16 l.type ++ encoded (body_cells l.body))) (tags_encoded l.tags)) in
    let long : 96 + 16 ≤ 8 * length frame = omega (
      arith,
      length-bits_of frame,
      ap length parts,
      length-append (encoded (cells_in addresses l.ends)) (encoded (inner_cells l.tags) ++ (bits 16 l.type ++ encoded (body_cells l.body))),
      length_fits addresses l.ends h.ends,
      length-append (encoded (inner_cells l.tags)) (bits 16 l.type ++ encoded (body_cells l.body)),
      length-append (bits 16 l.type) (encoded (body_cells l.body)),
      length-bits 16 l.type,
    ) in
    let r = front_same addresses l.ends (six frame 0 ∷ six frame 6 ∷ []) (encoded (inner_cells l.tags) ++ (bits 16 l.type ++ encoded (body_cells l.body))) (bits_of (drop 12 frame)) h.ends (ends_fit frame b) (sym parts ∙ ends_encoded frame b (omega arith)) in
    let t = tags_are l.tags l.type (encoded (body_cells l.body)) (drop 12 frame) h.tags h.type h.last (AreBytes-drop 12 frame b) (sym r.1) in
    let n : tag_count (drop 12 frame) ≡ length l.tags = t.count in
    let type : l.type ≡ word frame (12 + 4 * length l.tags) = t.type_is ∙ word_behind frame 12 (4 * length l.tags) in
    let behind : drop (4 * length l.tags + 2) (drop 12 frame) ≡ drop (12 + 4 * length l.tags + 2) frame = drop-drop (4 * length l.tags + 2) 12 frame ∙ ap (λ (k : ℕ). drop k frame) (omega arith) in
    let x : l.body ≡ body_of l.type (drop (12 + 4 * length l.tags + 2) frame) = body_is l.type l.body (drop (12 + 4 * length l.tags + 2) frame) h.body (AreBytes-drop (12 + 4 * length l.tags + 2) frame b) (sym (t.rest_is ∙ ap bits_of behind)) in
    rw n (same_layers _ _ _ _ _ _ _ _ r.0 t.tags type (x ∙ ap (λ (k : ℕ). body_of k (drop (12 + 4 * length l.tags + 2) frame)) type))

-- The layers of a frame after an action.
use Rattle.std.proofs.Common.{◌≡◌, ℕ, zero, suc, ◌+◌, ◌-◌, ◌*◌, ◌/◌, ◌%◌, ◌^◌, ◌<◌, true, false, cond, List, [], ◌∷◌, ◌++◌, length, take, drop, Option, Some, None, refl, sym, ap, ◌∙◌, arith}
use Rattle.std.{specs.Prelude.IsTrue, specs.Prelude.nat_le, proofs.lemmas.Bool.Decides.nat_tests}
use Rattle.std.proofs.lemmas.List.{take-append-drop, length-take-le, length-drop}
use Rattle.of_layers.specs.{Bits.bits, Bits.bits_of, declared.field.Field.Field, Fields.number_of, Fields.is_settable, Layers.Cell, Layers.cells, Layers.encoded, Layers.ttl}
use Rattle.of_layers.{specs.Reading.is_tag_type, specs.Reading.layers_of, specs.WellFormed.AreBytes, proofs.BitLemmas.bits_parts, proofs.FrameLemmas.frame_encoded}
use Rattle.of_headers.specs.{Places.width, Tags.pushed, Tags.popped}
use Rattle.of_rewrite.specs.Frames.{IsFrame, octets_of, bytes_in, frame_set, frame_pushed, frame_popped, frame_ttl, frame_ttl_decremented}
use Rattle.of_rewrite.proofs.Framing.{AreBits, bits_take, bits_drop, number_below, encoded_bits, bytes_below, bytes_are, frame_width, width_set}
use Rattle.of_rewrite.proofs.TagPut.{tagged, four, push_is, pop_is, untagged_pops}
use Rattle.of_rewrite.specs.{Checksum.number_of_bits, Replaced.Replaceable, Replaced.LeavesLayers, Replaced.layers_set, Rewriting.number_set, Tagging.has_tag, Tagging.control_in}
use Rattle.of_rewrite.specs.TimeToLive.{ttl_of, ttl_decremented_from, layers_ttl_decremented}
use Rattle.of_rewrite.proofs.{KeptLayers.layers_are, KeptLayers.leaves, KeptLayers.leaves_ttl, Standing.length_encoded, TagFrames.tag_pushed, TagFrames.tag_popped, TagFrames.none_popped}
use Rattle.of_rewrite.proofs.Unset.{replaceable}

-- ---- bits back from their bytes

one_bit : (b : ℕ) → b < 2 → bits 1 b ≡ b ∷ []
unfolding bits
one_bit zero h = refl
one_bit (suc zero) h = refl
one_bit (suc (suc b)) h = absurd (omega arith)

bits-number : (s : List ℕ) → AreBits s → bits (length s) (number_of_bits s) ≡ s
unfolding number_of_bits bits
bits-number [] h = refl
bits-number (b ∷ s) h =
    let rest : AreBits s = λ i. h (suc i) in
    let one : suc (length s) ≡ 1 + length s = omega arith in
    ap (λ (k : ℕ). bits k (b * 2 ^ length s + number_of_bits s)) one ∙ bits_parts 1 (length s) b (number_of_bits s) (number_below s rest) ∙ (λ j. one_bit b (h 0) j ++ bits-number s rest j)

octets_bits : (n : ℕ) (s : List ℕ) → AreBits s → length s ≡ 8 * n → bits_of (octets_of n s) ≡ s
unfolding octets_of bits_of
octets_bits zero [] h e = refl
octets_bits zero (b ∷ s) h e = absurd (omega arith)
octets_bits (suc n) s h e =
    let eight : length (take 8 s) ≡ 8 = length-take-le 8 s (omega arith) in
    let front : bits 8 (number_of_bits (take 8 s)) ≡ take 8 s = ap (λ (k : ℕ). bits k (number_of_bits (take 8 s))) (sym eight) ∙ bits-number (take 8 s) (bits_take 8 s h) in
    let back : bits_of (octets_of n (drop 8 s)) ≡ drop 8 s = octets_bits n (drop 8 s) (bits_drop 8 s h) (omega (arith, length-drop 8 s)) in
    (λ j. front j ++ back j) ∙ take-append-drop 8 s

bits_in : (n : ℕ) (cs : List Cell) → width cs ≡ 8 * n → bits_of (bytes_in cs) ≡ encoded cs
bits_in n cs e =
    let long : length (encoded cs) ≡ 8 * (length (encoded cs) / 8) = omega (arith, length_encoded cs) in
    octets_bits (length (encoded cs) / 8) (encoded cs) (encoded_bits cs) long

-- ---- a number is replaced

layers_replaced : (n v : ℕ) (s : List ℕ) → IsFrame s → Replaceable n → LeavesLayers n → layers_of (bytes_in (number_set n v (layers_of s))) ≡ layers_set n v (layers_of s)
layers_replaced n v s h free leaves =
    let cs : List Cell = number_set n v (layers_of s) in
    layers_are n v s (bytes_in (number_set n v (layers_of s))) free leaves h.1 h.0 (bytes_below cs) (bits_in (length s) cs (width_set n v (layers_of s) ∙ frame_width s h))

pub layers_after_set : (f : Field) (v : ℕ) (s : List ℕ) → IsFrame s → IsTrue (is_settable f) → layers_of (frame_set f v s) ≡ layers_set (number_of f) v (layers_of s)
unfolding frame_set
layers_after_set f v s h settable = layers_replaced (number_of f) v s h (replaceable f) (leaves f settable)

pub layers_after_ttl : (v : ℕ) (s : List ℕ) → IsFrame s → layers_of (frame_ttl v s) ≡ layers_set ttl v (layers_of s)
unfolding frame_ttl
layers_after_ttl v s h = layers_replaced ttl v s h (omega arith, omega arith) leaves_ttl

same_cells : (s : List ℕ) → IsFrame s → layers_of (bytes_in (cells (layers_of s))) ≡ layers_of s
same_cells s h = sym (ap layers_of (bytes_are (cells (layers_of s)) s h.1 (frame_encoded s h.1 h.0)))

aged_by : (s : List ℕ) (h : IsFrame s) (o : Option ℕ) → layers_of (bytes_in (ttl_decremented_from o (layers_of s))) ≡ layers_ttl_decremented o (layers_of s)
aged_by s h None = same_cells s h
aged_by s h (Some t) = elim (nat_le t 1) as (λ b. layers_of (bytes_in (cond b (cells (layers_of s)) (number_set ttl (t - 1) (layers_of s)))) ≡ cond b (layers_of s) (layers_set ttl (t - 1) (layers_of s))) [
  | true ↦ same_cells s h
  | false ↦ layers_replaced ttl (t - 1) s h (omega arith, omega arith) leaves_ttl
]

pub layers_after_decrement : (s : List ℕ) → IsFrame s → layers_of (frame_ttl_decremented s) ≡ layers_ttl_decremented (ttl_of (layers_of s)) (layers_of s)
unfolding frame_ttl_decremented
layers_after_decrement s h = aged_by s h (ttl_of (layers_of s))

-- ---- a tag is pushed or popped

tag_below : (type : ℕ) → IsTrue (is_tag_type type) → type < 65536
tag_below type h = grind (arith, nat_tests)

control_below : (s : List ℕ) → AreBytes s → control_in s < 65536
control_below s b = grind (arith, nat_tests)

pub layers_after_push : (type : ℕ) (s : List ℕ) → IsFrame s → IsTrue (is_tag_type type) → layers_of (frame_pushed type s) ≡ pushed type (layers_of s)
layers_after_push type s h tag =
    let control : ℕ = control_in s in
    let r : List ℕ = tagged (four (type / 256) (type % 256) (control_in s / 256) (control_in s % 256)) s in
    let p = tag_pushed type control s r h.0 h.1 (tag_below type tag) (control_below s h.1) tag refl refl in
    ap layers_of (sym p.frame) ∙ push_is type control s r h.0 tag refl refl

pub layers_after_pop : (s : List ℕ) → IsFrame s → layers_of (frame_popped s) ≡ popped (layers_of s)
layers_after_pop s h = elim (has_tag s) as (λ b. has_tag s ≡ b → layers_of (frame_popped s) ≡ popped (layers_of s)) [
  | true ↦ λ has. let p = tag_popped s (take 12 s ++ drop 16 s) h.0 h.1 has refl in ap layers_of (sym p.frame) ∙ pop_is s (take 12 s ++ drop 16 s) has refl
  | false ↦ λ none. ap layers_of (sym (none_popped s h.0 h.1 none)) ∙ untagged_pops s none
] refl

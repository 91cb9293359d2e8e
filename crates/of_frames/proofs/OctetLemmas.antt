-- The bits of the bytes that cells encode are those of the cells, if they fill whole bytes.
use Rattle.std.proofs.Common.{◌≡◌, ℕ, zero, suc, ◌+◌, ◌*◌, ◌/◌, ◌^◌, ◌<◌, List, [], ◌∷◌, ◌++◌, length, take, drop, refl, sym, ap, ◌∙◌, arith}
use Rattle.std.proofs.lemmas.List.{length-take-le, length-drop, take-append-drop}
use Rattle.of_layers.{specs.Bits.bits, specs.Bits.bits_of, specs.Layers.Cell, specs.Layers.encoded, proofs.BitLemmas.bits_parts}
use Rattle.of_headers.specs.Places.{width}
use Rattle.of_rewrite.proofs.Framing.{AreBits, number_below, bits_take, bits_drop, encoded_bits}
use Rattle.of_rewrite.{specs.Checksum.number_of_bits, specs.Frames.octets_of, specs.Frames.bytes_in, proofs.Standing.length_encoded}

one_bit : (b : ℕ) → b < 2 → bits 1 b ≡ b ∷ []
unfolding bits
one_bit zero h = refl
one_bit (suc zero) h = refl
one_bit (suc (suc b)) h = absurd (omega arith)

one_more : (n : ℕ) → suc n ≡ 1 + n
one_more n = omega arith

bits_number : (s : List ℕ) → AreBits s → bits (length s) (number_of_bits s) ≡ s
unfolding bits number_of_bits
bits_number [] h = refl
bits_number (b ∷ s) h =
    let small : number_of_bits s < 2 ^ length s = number_below s (λ i. h (suc i)) in
    ap (λ (k : ℕ). bits k (b * 2 ^ length s + number_of_bits s)) (one_more (length s))
    ∙ bits_parts 1 (length s) b (number_of_bits s) small
    ∙ ap (λ (x : List ℕ). x ++ bits (length s) (number_of_bits s)) (one_bit b (h 0))
    ∙ ap (λ (x : List ℕ). b ∷ x) (bits_number s (λ i. h (suc i)))

empty : (s : List ℕ) → length s ≡ 0 → s ≡ []
empty [] e = refl
empty (x ∷ s) e = absurd (omega arith)

octets_bits : (n : ℕ) (s : List ℕ) → AreBits s → length s ≡ 8 * n → bits_of (octets_of n s) ≡ s
unfolding octets_of bits_of
octets_bits zero s h l = sym (empty s (omega arith))
octets_bits (suc n) s h l =
    let eight : length (take 8 s) ≡ 8 = length-take-le 8 s (omega arith) in
    let front : bits 8 (number_of_bits (take 8 s)) ≡ take 8 s = ap (λ (k : ℕ). bits k (number_of_bits (take 8 s))) (sym eight) ∙ bits_number (take 8 s) (bits_take 8 s h) in
    let back : bits_of (octets_of n (drop 8 s)) ≡ drop 8 s = octets_bits n (drop 8 s) (bits_drop 8 s h) (omega (arith, length-drop 8 s)) in
    (λ j. front j ++ back j) ∙ take-append-drop 8 s

pub bits_back : (cs : List Cell) (n : ℕ) → width cs ≡ 8 * n → bits_of (bytes_in cs) ≡ encoded cs
bits_back cs n e = octets_bits (length (encoded cs) / 8) (encoded cs) (encoded_bits cs) (omega (arith, length_encoded cs))

-- ARP: encoded by its numbers, by no others, and well formed.
use Rattle.std.proofs.Common.{◌≡◌, ℕ, ◌≤◌, true, List, ◌++◌, length, get_or, drop, sym, ap, ◌∙◌, arith, append_assoc}
use Rattle.std.{specs.Prelude.◌==◌, specs.Prelude.◌&&◌, specs.Prelude.nat_le, proofs.lemmas.Bool.leb-true, proofs.lemmas.Bool.le-leb, proofs.lemmas.Bool.eqb-true, proofs.lemmas.Bool.eq-eqb}
use Rattle.std.proofs.lemmas.List.{length-append}
use Rattle.of_layers.specs.Layers.{Arp, arp, cells_in, byte_cells, body_cells, encoded}
use Rattle.of_layers.specs.Reading.{word, double, six, is_arp, arp_numbers, arp_of}
use Rattle.of_layers.proofs.EncodingLemmas.{AreBytes-drop, then_bits, byte_from, word_from, double_from, six_from, word_small, double_small, six_small, encoded-append, encoded_bytes}
use Rattle.of_layers.{specs.Bits.bits, specs.Bits.bits_of, specs.WellFormed.AreBytes, specs.WellFormed.FitsItems, specs.WellFormed.IsArp, proofs.BitLemmas.length-bits_of}
use Rattle.of_layers.proofs.{FrontLemmas.front_same, FrontLemmas.bytes_same, FrontLemmas.length_fits, TestLemmas.and_true, TestLemmas.all_true}

record HasArp (p : List ℕ) : Type 0 where
  whole : 28 ≤ length p
  hardware : word p 0 ≡ 1
  protocol : word p 2 ≡ 0x0800
  hardware_length : get_or p 4 0 ≡ 6
  protocol_length : get_or p 5 0 ≡ 4

has_arp : (p : List ℕ) → is_arp p ≡ true → HasArp p
has_arp p e =
    let a = and_true (nat_le 28 (length p) && (word p 0 == 1) && (word p 2 == 0x0800) && (get_or p 4 0 == 6)) (get_or p 5 0 == 4) e in
    let b = and_true (nat_le 28 (length p) && (word p 0 == 1) && (word p 2 == 0x0800)) (get_or p 4 0 == 6) a.0 in
    let c = and_true (nat_le 28 (length p) && (word p 0 == 1)) (word p 2 == 0x0800) b.0 in
    let d = and_true (nat_le 28 (length p)) (word p 0 == 1) c.0 in
    record {
      whole = leb-true 28 (length p) d.0;
      hardware = eqb-true (word p 0) 1 d.1;
      protocol = eqb-true (word p 2) 0x0800 c.1;
      hardware_length = eqb-true (get_or p 4 0) 6 b.1;
      protocol_length = eqb-true (get_or p 5 0) 4 a.1;
    }

numbers_encoded : (p : List ℕ) → AreBytes p → 28 ≤ length p → bits_of p ≡ encoded (cells_in arp (arp_numbers p)) ++ bits_of (drop 28 p)
numbers_encoded p b h = simp append_assoc
    (then_bits (bits 16 (word p 0)) (word_from p 0 b (omega arith))
    (then_bits (bits 16 (word p 2)) (word_from p 2 b (omega arith))
    (then_bits (bits 8 (get_or p 4 0)) (byte_from p 4 (omega arith))
    (then_bits (bits 8 (get_or p 5 0)) (byte_from p 5 (omega arith))
    (then_bits (bits 16 (word p 6)) (word_from p 6 b (omega arith))
    (then_bits (bits 48 (six p 8)) (six_from p 8 b (omega arith))
    (then_bits (bits 32 (double p 14)) (double_from p 14 b (omega arith))
    (then_bits (bits 48 (six p 18)) (six_from p 18 b (omega arith))
    (double_from p 24 b (omega arith))))))))))

numbers_fit : (p : List ℕ) → AreBytes p → FitsItems arp (arp_numbers p)
numbers_fit p b = (word_small p 0 b, (word_small p 2 b, (b 4, (b 5, (word_small p 6 b, (six_small p 8 b, (double_small p 14 b, (six_small p 18 b, (double_small p 24 b, tt)))))))))

pub arp_encoded : (p : List ℕ) → AreBytes p → is_arp p ≡ true → bits_of p ≡ encoded (body_cells (arp_of p))
unfolding arp_of
arp_encoded p b e =
    numbers_encoded p b (has_arp p e).whole ∙ ap (λ (t : List ℕ). encoded (cells_in arp (arp_numbers p)) ++ t) (sym (encoded_bytes (drop 28 p)))
    ∙ sym (encoded-append (cells_in arp (arp_numbers p)) (byte_cells (drop 28 p)))

pub arp_fits : (p : List ℕ) → AreBytes p → is_arp p ≡ true → IsArp (arp_numbers p) (drop 28 p)
arp_fits p b e =
    let h : HasArp p = has_arp p e in
    record {
      numbers = numbers_fit p b;
      hardware = h.hardware;
      protocol = h.protocol;
      hardware_length = h.hardware_length;
      protocol_length = h.protocol_length;
      rest_fits = AreBytes-drop 28 p b;
    }

pub arp_is : (ns rest p : List ℕ) → IsArp ns rest → AreBytes p → bits_of p ≡ encoded (body_cells (Arp ns rest)) → (Arp ns rest ≡ arp_of p) × (is_arp p ≡ true)
unfolding arp_of
arp_is ns rest p h b e =
    let parts : bits_of p ≡ encoded (cells_in arp ns) ++ bits_of rest =
    e ∙ encoded-append (cells_in arp ns) (byte_cells rest) ∙ ap (λ (t : List ℕ). encoded (cells_in arp ns) ++ t) (encoded_bytes rest) in
    let whole : 28 ≤ length p = omega (arith, length-bits_of p, ap length parts, length-append (encoded (cells_in arp ns)) (bits_of rest), length_fits arp ns h.numbers) in
    let r = front_same arp ns (arp_numbers p) (bits_of rest) (bits_of (drop 28 p)) h.numbers (numbers_fit p b) (sym parts ∙ numbers_encoded p b whole) in
    let q : rest ≡ drop 28 p = bytes_same rest (drop 28 p) h.rest_fits (AreBytes-drop 28 p b) r.1 in (
      λ j. Arp (r.0 j) (q j),
      all_true
          (le-leb 28 (length p) whole)
          (eq-eqb (word p 0) 1 (ap (λ (x : List ℕ). get_or x 0 0) (sym r.0) ∙ h.hardware))
          (eq-eqb (word p 2) 0x0800 (ap (λ (x : List ℕ). get_or x 1 0) (sym r.0) ∙ h.protocol))
          (eq-eqb (get_or p 4 0) 6 (ap (λ (x : List ℕ). get_or x 2 0) (sym r.0) ∙ h.hardware_length))
          (eq-eqb (get_or p 5 0) 4 (ap (λ (x : List ℕ). get_or x 3 0) (sym r.0) ∙ h.protocol_length)),
    )

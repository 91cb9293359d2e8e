-- IPv4: encoded by its numbers, options and what it carries, by no others, and well formed.
use Rattle.std.proofs.Common.{◌≡◌, ℕ, ◌+◌, ◌*◌, ◌/◌, ◌%◌, ◌≤◌, min, true, List, ◌++◌, length, get_or, take, drop, refl, sym, ap, ◌∙◌, arith, append_assoc}
use Rattle.std.proofs.lemmas.List.{length-append, length-drop, length-take, drop-drop, drop-take, take_min, drop_min}
use Rattle.std.{specs.Prelude.◌==◌, specs.Prelude.◌&&◌, specs.Prelude.nat_le, proofs.lemmas.Bool.leb-true, proofs.lemmas.Bool.le-leb, proofs.lemmas.Bool.eqb-true, proofs.lemmas.Bool.eq-eqb}
use Rattle.of_layers.specs.Layers.{Cell, Carried, Ipv4, ipv4, cells_in, byte_cells, carried_cells, body_cells, encoded}
use Rattle.of_layers.specs.Reading.{word, double, carried_of, header_size, is_ipv4, ipv4_numbers, over_ipv4, kind_behind, ipv4_inside, ipv4_kind, ipv4_of}
use Rattle.of_layers.proofs.EncodingLemmas.{AreBytes-drop, AreBytes-take, then_bits, byte_from, word_from, double_from, cut_byte, cut_word, word_small, double_small, encoded-append, encoded_bytes}
use Rattle.of_layers.proofs.FrontLemmas.{front_same, take_front, cut_bits, drop_parts, length_fits}
use Rattle.of_layers.proofs.CarriedLemmas.{carried_encoded, carried_bytes, carries, length_carried, carried_is}
use Rattle.of_layers.specs.{Bits.bits, Bits.bits_of, WellFormed.AreBytes, WellFormed.FitsItems, WellFormed.IsIpv4, WellFormed.carried_size}
use Rattle.of_layers.proofs.{BitLemmas.length-bits_of, BitLemmas.bits_of-append, TestLemmas.min_of, TestLemmas.and_true, TestLemmas.all_true}

record HasIpv4 (p : List ℕ) : Type 0 where
  whole : 20 ≤ length p
  version : get_or p 0 0 / 16 ≡ 4
  size : 20 ≤ header_size p
  inside : header_size p ≤ length p
  total : header_size p ≤ word p 2

has_ipv4 : (p : List ℕ) → is_ipv4 p ≡ true → HasIpv4 p
has_ipv4 p e =
    let a = and_true (nat_le 20 (length p) && ((get_or p 0 0 / 16) == 4) && nat_le 20 (header_size p) && nat_le (header_size p) (length p)) (nat_le (header_size p) (word p 2)) e in
    let b = and_true (nat_le 20 (length p) && ((get_or p 0 0 / 16) == 4) && nat_le 20 (header_size p)) (nat_le (header_size p) (length p)) a.0 in
    let c = and_true (nat_le 20 (length p) && ((get_or p 0 0 / 16) == 4)) (nat_le 20 (header_size p)) b.0 in
    let d = and_true (nat_le 20 (length p)) ((get_or p 0 0 / 16) == 4) c.0 in
    record {
      whole = leb-true 20 (length p) d.0;
      version = eqb-true (get_or p 0 0 / 16) 4 d.1;
      size = leb-true 20 (header_size p) c.1;
      inside = leb-true (header_size p) (length p) b.1;
      total = leb-true (header_size p) (word p 2) a.1;
    }

numbers_encoded : (p : List ℕ) → AreBytes p → 20 ≤ length p → bits_of p ≡ encoded (cells_in ipv4 (ipv4_numbers p)) ++ bits_of (drop 20 p)
numbers_encoded p b h = simp append_assoc
    (then_bits (bits 4 (get_or p 0 0 / 16)) (cut_byte 4 4 p 0 refl (omega arith)) (ap (λ (t : List ℕ). bits 4 (get_or p 0 0 % 16) ++ t)
    (then_bits (bits 6 (get_or p 1 0 / 4)) (cut_byte 6 2 p 1 refl (omega arith)) (ap (λ (t : List ℕ). bits 2 (get_or p 1 0 % 4) ++ t)
    (then_bits (bits 16 (word p 2)) (word_from p 2 b (omega arith))
    (then_bits (bits 16 (word p 4)) (word_from p 4 b (omega arith))
    (then_bits (bits 3 (word p 6 / 8192)) (cut_word 3 13 p 6 refl b (omega arith)) (ap (λ (t : List ℕ). bits 13 (word p 6 % 8192) ++ t)
    (then_bits (bits 8 (get_or p 8 0)) (byte_from p 8 (omega arith))
    (then_bits (bits 8 (get_or p 9 0)) (byte_from p 9 (omega arith))
    (then_bits (bits 16 (word p 10)) (word_from p 10 b (omega arith))
    (then_bits (bits 32 (double p 12)) (double_from p 12 b (omega arith))
    (double_from p 16 b (omega arith))))))))))))))

numbers_fit : (p : List ℕ) → AreBytes p → FitsItems ipv4 (ipv4_numbers p)
numbers_fit p b =
    (omega (arith, b 0), (omega arith, (omega (arith, b 1), (omega arith, (word_small p 2 b, (word_small p 4 b, (omega (arith, word_small p 6 b), (omega arith, (b 8, (b 9, (word_small p 10 b, (double_small p 12 b, (double_small p 16 b, tt)))))))))))))

pub ipv4_encoded : (p : List ℕ) → AreBytes p → is_ipv4 p ≡ true → bits_of p ≡ encoded (body_cells (ipv4_of p))
unfolding ipv4_of
ipv4_encoded p b e =
    let h : HasIpv4 p = has_ipv4 p e in
    let opts : List ℕ = drop 20 (take (header_size p) p) in
    let rest : List ℕ = drop (word p 2) p in
    let cs : List Cell = carried_cells (carried_of (ipv4_kind p) (ipv4_inside p)) in
    let carried : bits_of (ipv4_inside p) ≡ encoded cs = carried_encoded (ipv4_kind p) (ipv4_inside p) (AreBytes-drop (header_size p) (take (word p 2) p) (AreBytes-take (word p 2) p b)) in
    let after : bits_of (drop (header_size p) p) ≡ encoded (cs ++ byte_cells rest) =
    ap bits_of (drop_parts (header_size p) (word p 2) p h.total h.inside) ∙ bits_of-append (ipv4_inside p) rest
    ∙ ap (λ (t : List ℕ). t ++ bits_of rest) carried ∙ ap (λ (t : List ℕ). encoded cs ++ t) (sym (encoded_bytes rest)) ∙ sym (encoded-append cs (byte_cells rest)) in
    let tail : bits_of (drop 20 p) ≡ encoded (byte_cells opts ++ (cs ++ byte_cells rest)) =
    ap bits_of (drop_parts 20 (header_size p) p h.size h.whole) ∙ bits_of-append opts (drop (header_size p) p)
    ∙ ap (λ (t : List ℕ). bits_of opts ++ t) after ∙ ap (λ (t : List ℕ). t ++ encoded (cs ++ byte_cells rest)) (sym (encoded_bytes opts))
    ∙ sym (encoded-append (byte_cells opts) (cs ++ byte_cells rest)) in
    numbers_encoded p b h.whole ∙ ap (λ (t : List ℕ). encoded (cells_in ipv4 (ipv4_numbers p)) ++ t) tail
    ∙ sym (encoded-append (cells_in ipv4 (ipv4_numbers p)) (byte_cells opts ++ (cs ++ byte_cells rest)))

pub ipv4_fits : (p : List ℕ) → AreBytes p → is_ipv4 p ≡ true → IsIpv4 (ipv4_numbers p) (drop 20 (take (header_size p) p)) (carried_of (ipv4_kind p) (ipv4_inside p)) (drop (word p 2) p)
ipv4_fits p b e =
    let h : HasIpv4 p = has_ipv4 p e in
    let inside_fits : AreBytes (ipv4_inside p) = AreBytes-drop (header_size p) (take (word p 2) p) (AreBytes-take (word p 2) p b) in
    let o : 20 + length (drop 20 (take (header_size p) p)) ≡ header_size p = omega (arith, h.size, h.inside, length-drop 20 (take (header_size p) p), length-take (header_size p) p) in
    let z : carried_size (carried_of (ipv4_kind p) (ipv4_inside p)) ≡ length (ipv4_inside p) = carried_bytes (ipv4_kind p) (ipv4_inside p) in
    record {
      numbers = numbers_fit p b;
      version = h.version;
      words = o;
      total = omega (arith, o, h.total);
      inside = omega (arith, o, z, h.total, h.inside, length-drop (header_size p) (take (word p 2) p), length-take (word p 2) p, length-drop (word p 2) p);
      options_fit = AreBytes-drop 20 (take (header_size p) p) (AreBytes-take (header_size p) p b);
      carries = carries (ipv4_kind p) (ipv4_inside p) inside_fits;
      rest_fits = AreBytes-drop (word p 2) p b;
    }

same_ipv4 : (ns ms o p : List ℕ) (t u : Carried) (r q : List ℕ) → ns ≡ ms → o ≡ p → t ≡ u → r ≡ q → Ipv4 ns o t r ≡ Ipv4 ms p u q
same_ipv4 ns ms o p t u r q a b c d = λ j. Ipv4 (a j) (b j) (c j) (d j)

le_of : (a b c d : ℕ) → a ≡ b → c ≡ d → a ≤ c → b ≤ d
le_of a b c d p q h = omega arith

pub ipv4_is : (ns o : List ℕ) (t : Carried) (rest p : List ℕ) → IsIpv4 ns o t rest → AreBytes p → bits_of p ≡ encoded (body_cells (Ipv4 ns o t rest)) → (Ipv4 ns o t rest ≡ ipv4_of p) × (is_ipv4 p ≡ true)
unfolding ipv4_of
ipv4_is ns o t rest p h b e =
    let kind = kind_behind (get_or ns 7 0) (over_ipv4 (get_or ns 9 0)) in
    let behind : List ℕ = bits_of o ++ (encoded (carried_cells t) ++ bits_of rest) in
    let parts : bits_of p ≡ encoded (cells_in ipv4 ns) ++ (bits_of o ++ (encoded (carried_cells t) ++ bits_of rest)) =
    e ∙ encoded-append (cells_in ipv4 ns) (byte_cells o ++ (carried_cells t ++ byte_cells rest))
    ∙ ap (λ (x : List ℕ). encoded (cells_in ipv4 ns) ++ x) (encoded-append (byte_cells o) (carried_cells t ++ byte_cells rest)
    ∙ ap (λ (x : List ℕ). x ++ encoded (carried_cells t ++ byte_cells rest)) (encoded_bytes o)
    ∙ ap (λ (x : List ℕ). bits_of o ++ x) (encoded-append (carried_cells t) (byte_cells rest) ∙ ap (λ (x : List ℕ). encoded (carried_cells t) ++ x) (encoded_bytes rest))) in
    let size : length (encoded (carried_cells t)) ≡ 8 * carried_size t = length_carried kind t h.carries in
    let all : length p ≡ 20 + length o + carried_size t + length rest =
    omega (
      arith,
      ap length parts,
      length-bits_of p,
      length-append (encoded (cells_in ipv4 ns)) behind,
      length_fits ipv4 ns h.numbers,
      length-append (bits_of o) (encoded (carried_cells t) ++ bits_of rest),
      length-bits_of o,
      length-append (encoded (carried_cells t)) (bits_of rest),
      size,
      length-bits_of rest,
    ) in
    let r = front_same ipv4 ns (ipv4_numbers p) behind (bits_of (drop 20 p)) h.numbers (numbers_fit p b) (sym parts ∙ numbers_encoded p b (omega arith)) in
    let at : 20 + length o ≡ header_size p = h.words ∙ ap (λ (x : List ℕ). 4 * get_or x 1 0) r.0 in
    let version : get_or p 0 0 / 16 ≡ 4 = ap (λ (x : List ℕ). get_or x 0 0) (sym r.0) ∙ h.version in
    let total : get_or ns 4 0 ≡ word p 2 = ap (λ (x : List ℕ). get_or x 4 0) r.0 in
    let f = take_front o (drop 20 p) (encoded (carried_cells t) ++ bits_of rest) h.options_fit (AreBytes-drop 20 p b) r.1 in
    let cut = cut_bits (encoded (carried_cells t)) rest (drop (20 + length o) p) (carried_size t) size h.rest_fits (AreBytes-drop (20 + length o) p b) (f.1 ∙ ap bits_of (drop-drop (length o) 20 p)) in
    let least : 20 + length o + carried_size t ≡ min (word p 2) (length p) = h.inside ∙ min_of (get_or ns 4 0) (word p 2) (20 + length o + carried_size t + length rest) (length p) total (sym all) in
    let inside : take (carried_size t) (drop (20 + length o) p) ≡ ipv4_inside p =
    sym (drop-take (20 + length o) (carried_size t) p) ∙ ap (λ (x : ℕ). drop (20 + length o) (take x p)) least ∙ ap (drop (20 + length o)) (take_min (word p 2) p) ∙ ap (λ (x : ℕ). drop x (take (word p 2) p)) at in
    let after : rest ≡ drop (word p 2) p = cut.1 ∙ drop-drop (carried_size t) (20 + length o) p ∙ ap (λ (x : ℕ). drop x p) least ∙ drop_min (word p 2) p in
    let opts : o ≡ drop 20 (take (header_size p) p) = f.0 ∙ sym (drop-take 20 (length o) p) ∙ ap (λ (x : ℕ). drop 20 (take x p)) at in
    let named : kind_behind (get_or ns 7 0) (over_ipv4 (get_or ns 9 0)) ≡ ipv4_kind p = ap (λ (x : List ℕ). kind_behind (get_or x 7 0) (over_ipv4 (get_or x 9 0))) r.0 in
    let inside_fits : AreBytes (ipv4_inside p) = AreBytes-drop (header_size p) (take (word p 2) p) (AreBytes-take (word p 2) p b) in
    let carried : t ≡ carried_of (ipv4_kind p) (ipv4_inside p) = carried_is kind t (ipv4_inside p) h.carries inside_fits (sym (cut.0 ∙ ap bits_of inside)) ∙ ap (λ k. carried_of k (ipv4_inside p)) named in
    let least_size : 20 ≤ header_size p = omega arith in
    let room : header_size p ≤ length p = omega arith in
    let fits : header_size p ≤ word p 2 = le_of (20 + length o) (header_size p) (get_or ns 4 0) (word p 2) at total h.total in (
      same_ipv4 ns (ipv4_numbers p) o (drop 20 (take (header_size p) p)) t (carried_of (ipv4_kind p) (ipv4_inside p)) rest (drop (word p 2) p) r.0 opts carried after,
      all_true
          (le-leb 20 (length p) (omega arith))
          (eq-eqb (get_or p 0 0 / 16) 4 version)
          (le-leb 20 (header_size p) least_size)
          (le-leb (header_size p) (length p) room)
          (le-leb (header_size p) (word p 2) fits),
    )

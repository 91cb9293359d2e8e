-- IPv6: encoded by its numbers, extension headers and what it carries, by no others, and well formed.
use Rattle.std.proofs.Common.{◌≡◌, ℕ, ◌+◌, ◌*◌, ◌/◌, ◌%◌, ◌<◌, ◌≤◌, min, true, List, [], ◌∷◌, ◌++◌, length, get_or, take, drop, sym, ap, ◌∙◌, arith, append_assoc}
use Rattle.std.proofs.lemmas.List.{length-append, length-drop, length-take, drop-drop, drop-take, take_min, drop_min}
use Rattle.std.{specs.Prelude.◌==◌, specs.Prelude.◌&&◌, specs.Prelude.nat_le, proofs.lemmas.Bool.leb-true, proofs.lemmas.Bool.le-leb, proofs.lemmas.Bool.eqb-true, proofs.lemmas.Bool.eq-eqb}
use Rattle.of_layers.specs.Layers.{Cell, Carried, Extension, Ipv6, plain, ipv6, cells_in, byte_cells, next_before, all_bytes, extension_cells, carried_cells, body_cells, encoded}
use Rattle.of_layers.specs.Reading.{word, double, sixteen, Chain, chain_of, is_ipv6, ipv6_numbers, ipv6_inside, ipv6_chain, ipv6_of}
use Rattle.of_layers.proofs.EncodingLemmas.{AreBytes-drop, AreBytes-take, then_bits, byte_from, word_from, double_from, sixteen_from, word_small, sixteen_small, encoded-append, encoded_bytes}
use Rattle.of_layers.proofs.ChainLemmas.{chain_cells, chain_encoded, chain_fits, chain_bytes, length_chain, chain_is}
use Rattle.of_layers.specs.{Bits.bits, Bits.bits_of, WellFormed.AreBytes, WellFormed.FitsItems, WellFormed.IsIpv6, WellFormed.carried_size}
use Rattle.of_layers.proofs.{BitLemmas.bits_cut, BitLemmas.length-bits_of, BitLemmas.bits_of-append, FrontLemmas.front_same, FrontLemmas.cut_bits, FrontLemmas.drop_parts, FrontLemmas.length_fits}
use Rattle.of_layers.proofs.TestLemmas.{min_of, and_true}

record HasIpv6 (p : List ℕ) : Type 0 where
  whole : 40 ≤ length p
  version : get_or p 0 0 / 16 ≡ 6

has_ipv6 : (p : List ℕ) → is_ipv6 p ≡ true → HasIpv6 p
has_ipv6 p e =
    let a = and_true (nat_le 40 (length p)) ((get_or p 0 0 / 16) == 6) e in
    record { whole = leb-true 40 (length p) a.0; version = eqb-true (get_or p 0 0 / 16) 6 a.1 }

-- ---- the first header

-- version, DSCP, ECN and flow label
first_bits : (a b v : ℕ) → b < 256 → v < 65536 → bits 32 (65536 * (256 * a + b) + v) ≡ bits 4 (a / 16) ++ (bits 6 ((256 * a + b) / 64 % 64) ++ (bits 2 ((256 * a + b) / 16 % 4) ++ bits 20 ((65536 * (256 * a + b) + v) % 1048576)))
first_bits a b v f g =
    let w : ℕ = 256 * a + b in
    let label : List ℕ = bits 20 ((65536 * (256 * a + b) + v) % 1048576) in
    let d : (65536 * (256 * a + b) + v) / 1048576 ≡ (256 * a + b) / 16 = omega arith in
    let e : (256 * a + b) / 16 / 256 ≡ a / 16 = omega arith in
    let m : (256 * a + b) / 16 % 256 / 4 ≡ (256 * a + b) / 64 % 64 = omega arith in
    let n : (256 * a + b) / 16 % 256 % 4 ≡ (256 * a + b) / 16 % 4 = omega arith in
    let class : bits 8 (w / 16 % 256) ≡ bits 6 (w / 64 % 64) ++ bits 2 (w / 16 % 4) = bits_cut 6 2 (w / 16 % 256) ∙ (λ j. bits 6 (m j) ++ bits 2 (n j)) in
    let front : bits 12 (w / 16) ≡ bits 4 (a / 16) ++ (bits 6 (w / 64 % 64) ++ bits 2 (w / 16 % 4)) = bits_cut 4 8 (w / 16) ∙ (λ j. bits 4 (e j) ++ class j) in
    bits_cut 12 20 (65536 * w + v) ∙ ap (λ (x : ℕ). bits 12 x ++ label) d ∙ ap (λ (x : List ℕ). x ++ label) front
    ∙ append_assoc (bits 4 (a / 16)) (bits 6 (w / 64 % 64) ++ bits 2 (w / 16 % 4)) label
    ∙ ap (λ (x : List ℕ). bits 4 (a / 16) ++ x) (append_assoc (bits 6 (w / 64 % 64)) (bits 2 (w / 16 % 4)) label)

first_encoded : (p : List ℕ) → AreBytes p → 4 ≤ length p →
    bits_of p ≡ bits 4 (get_or p 0 0 / 16) ++ (bits 6 (word p 0 / 64 % 64) ++ (bits 2 (word p 0 / 16 % 4) ++ (bits 20 (double p 0 % 1048576) ++ bits_of (drop 4 p))))
first_encoded p b h =
    double_from p 0 b h ∙ ap (λ (t : List ℕ). t ++ bits_of (drop 4 p)) (first_bits (get_or p 0 0) (get_or p 1 0) (word p 2) (b 1) (word_small p 2 b)) ∙ simp append_assoc

plain_encoded : (p : List ℕ) → AreBytes p → 40 ≤ length p → bits_of p ≡ encoded (cells_in (ipv6 (plain 8)) (ipv6_numbers p)) ++ bits_of (drop 40 p)
plain_encoded p b h = simp append_assoc
    (first_encoded p b (omega arith)
    ∙ ap (λ (t : List ℕ). bits 4 (get_or p 0 0 / 16) ++ (bits 6 (word p 0 / 64 % 64) ++ (bits 2 (word p 0 / 16 % 4) ++ (bits 20 (double p 0 % 1048576) ++ t))))
    (then_bits (bits 16 (word p 4)) (word_from p 4 b (omega arith))
    (then_bits (bits 8 (get_or p 6 0)) (byte_from p 6 (omega arith))
    (then_bits (bits 8 (get_or p 7 0)) (byte_from p 7 (omega arith))
    (then_bits (bits 128 (sixteen p 8)) (sixteen_from p 8 b (omega arith))
    (sixteen_from p 24 b (omega arith)))))))

numbers_encoded : (es : List Extension) (p : List ℕ) → AreBytes p → 40 ≤ length p → bits_of p ≡ encoded (cells_in (ipv6 (next_before es)) (ipv6_numbers p)) ++ bits_of (drop 40 p)
numbers_encoded [] p b h = plain_encoded p b h
numbers_encoded (e ∷ es) p b h = plain_encoded p b h

plain_fits : (p : List ℕ) → AreBytes p → FitsItems (ipv6 (plain 8)) (ipv6_numbers p)
plain_fits p b = (omega (arith, b 0), (omega arith, (omega arith, (omega arith, (word_small p 4 b, (b 6, (b 7, (sixteen_small p 8 b, (sixteen_small p 24 b, tt)))))))))

numbers_fit : (es : List Extension) (p : List ℕ) → AreBytes p → FitsItems (ipv6 (next_before es)) (ipv6_numbers p)
numbers_fit [] p b = plain_fits p b
numbers_fit (e ∷ es) p b = plain_fits p b

length_numbers : (es : List Extension) (ns : List ℕ) → FitsItems (ipv6 (next_before es)) ns → length (encoded (cells_in (ipv6 (next_before es)) ns)) ≡ 320
length_numbers [] ns f = length_fits (ipv6 (next_before [])) ns f
length_numbers (e ∷ es) ns f = length_fits (ipv6 (plain 8)) ns f

-- ---- the whole

back_encoded : (a b c : List Cell) → encoded (a ++ (b ++ c)) ≡ encoded (a ++ b) ++ encoded c
back_encoded a b c = ap encoded (sym (append_assoc a b c)) ∙ encoded-append (a ++ b) c

inside_fits : (p : List ℕ) → AreBytes p → AreBytes (ipv6_inside p)
inside_fits p b = AreBytes-drop 40 (take (40 + word p 4) p) (AreBytes-take (40 + word p 4) p b)

pub ipv6_encoded : (p : List ℕ) → AreBytes p → is_ipv6 p ≡ true → bits_of p ≡ encoded (body_cells (ipv6_of p))
unfolding ipv6_of
ipv6_encoded p b e =
    let h : HasIpv6 p = has_ipv6 p e in
    let chain : Chain = ipv6_chain p in
    let rest : List ℕ = drop (40 + word p 4) p in
    let header : List Cell = cells_in (ipv6 (next_before chain.extensions)) (ipv6_numbers p) in
    let tail : bits_of (drop 40 p) ≡ encoded (extension_cells chain.extensions ++ (carried_cells chain.carried ++ byte_cells rest)) =
    ap bits_of (drop_parts 40 (40 + word p 4) p (omega arith) h.whole) ∙ bits_of-append (ipv6_inside p) rest
    ∙ ap (λ (t : List ℕ). t ++ bits_of rest) (chain_encoded (length (ipv6_inside p)) (get_or p 6 0) (ipv6_inside p) (inside_fits p b))
    ∙ ap (λ (t : List ℕ). encoded (chain_cells chain) ++ t) (sym (encoded_bytes rest))
    ∙ sym (back_encoded (extension_cells chain.extensions) (carried_cells chain.carried) (byte_cells rest)) in
    numbers_encoded chain.extensions p b h.whole ∙ ap (λ (t : List ℕ). encoded header ++ t) tail
    ∙ sym (encoded-append header (extension_cells chain.extensions ++ (carried_cells chain.carried ++ byte_cells rest)))

pub ipv6_fits : (p : List ℕ) → AreBytes p → is_ipv6 p ≡ true → IsIpv6 (ipv6_numbers p) (ipv6_chain p).extensions (ipv6_chain p).carried (drop (40 + word p 4) p)
ipv6_fits p b e =
    let h : HasIpv6 p = has_ipv6 p e in
    let chain : Chain = ipv6_chain p in
    let n : all_bytes (ipv6_chain p).extensions + carried_size (ipv6_chain p).carried ≡ length (ipv6_inside p) = chain_bytes (length (ipv6_inside p)) (get_or p 6 0) (ipv6_inside p) (omega arith) (inside_fits p b) in
    let sizes : length (ipv6_inside p) ≡ min (word p 4) (length (ipv6_inside p) + length (drop (40 + word p 4) p)) =
    omega (arith, h.whole, length-drop 40 (take (40 + word p 4) p), length-take (40 + word p 4) p, length-drop (40 + word p 4) p) in
    record {
      numbers = numbers_fit chain.extensions p b;
      version = h.version;
      inside = n ∙ sizes ∙ ap (λ (k : ℕ). min (word p 4) (k + length (drop (40 + word p 4) p))) (sym n);
      chain = chain_fits (length (ipv6_inside p)) (get_or p 6 0) (ipv6_inside p) (omega arith) (inside_fits p b);
      rest_fits = AreBytes-drop (40 + word p 4) p b;
    }

same_ipv6 : (ns ms : List ℕ) (es : List Extension) (c : Carried) (d : Chain) (r q : List ℕ) → ns ≡ ms → ◌≡◌ {A = Chain} (record { extensions = es; carried = c }) d → r ≡ q → Ipv6 ns es c r ≡ Ipv6 ms d.extensions d.carried q
same_ipv6 ns ms es c d r q a b e = λ j. Ipv6 (a j) (b j).extensions (b j).carried (e j)

pub ipv6_is : (ns : List ℕ) (es : List Extension) (c : Carried) (rest p : List ℕ) → IsIpv6 ns es c rest → AreBytes p → bits_of p ≡ encoded (body_cells (Ipv6 ns es c rest)) → (Ipv6 ns es c rest ≡ ipv6_of p) × (is_ipv6 p ≡ true)
unfolding ipv6_of
ipv6_is ns es c rest p h b e =
    let header : List Cell = cells_in (ipv6 (next_before es)) ns in
    let inner : List Cell = extension_cells es ++ carried_cells c in
    let n : ℕ = all_bytes es + carried_size c in
    let parts : bits_of p ≡ encoded header ++ (encoded inner ++ bits_of rest) =
    e ∙ encoded-append header (extension_cells es ++ (carried_cells c ++ byte_cells rest))
    ∙ ap (λ (x : List ℕ). encoded header ++ x) (back_encoded (extension_cells es) (carried_cells c) (byte_cells rest) ∙ ap (λ (x : List ℕ). encoded inner ++ x) (encoded_bytes rest)) in
    let size : length (encoded inner) ≡ 8 * (all_bytes es + carried_size c) = length_chain (get_or ns 5 0) es c h.chain in
    let all : length p ≡ 40 + (all_bytes es + carried_size c + length rest) =
    omega (arith, ap length parts, length-bits_of p, length-append (encoded header) (encoded inner ++ bits_of rest), length_numbers es ns h.numbers, length-append (encoded inner) (bits_of rest), size, length-bits_of rest) in
    let whole : 40 ≤ length p = omega arith in
    let r = front_same (ipv6 (next_before es)) ns (ipv6_numbers p) (encoded inner ++ bits_of rest) (bits_of (drop 40 p)) h.numbers (numbers_fit es p b) (sym parts ∙ numbers_encoded es p b whole) in
    let cut = cut_bits (encoded inner) rest (drop 40 p) n size h.rest_fits (AreBytes-drop 40 p b) r.1 in
    let left : all_bytes es + carried_size c + length rest ≡ length (drop 40 p) = omega (arith, all, length-drop 40 p) in
    let least : all_bytes es + carried_size c ≡ min (word p 4) (length (drop 40 p)) =
    h.inside ∙ min_of (get_or ns 4 0) (word p 4) (all_bytes es + carried_size c + length rest) (length (drop 40 p)) (ap (λ (x : List ℕ). get_or x 4 0) r.0) left in
    let inside : take n (drop 40 p) ≡ ipv6_inside p = ap (λ (x : ℕ). take x (drop 40 p)) least ∙ take_min (word p 4) (drop 40 p) ∙ sym (drop-take 40 (word p 4) p) in
    let after : rest ≡ drop (40 + word p 4) p = cut.1 ∙ ap (λ (x : ℕ). drop x (drop 40 p)) least ∙ drop_min (word p 4) (drop 40 p) ∙ drop-drop (word p 4) 40 p in
    let next : get_or ns 5 0 ≡ get_or p 6 0 = ap (λ (x : List ℕ). get_or x 5 0) r.0 in
    let chain : ◌≡◌ {A = Chain} (record { extensions = es; carried = c }) (ipv6_chain p) =
    chain_is es c (length (ipv6_inside p)) (get_or ns 5 0) (ipv6_inside p) (omega arith) h.chain (inside_fits p b) (sym (cut.0 ∙ ap bits_of inside)) ∙ ap (λ (k : ℕ). chain_of (length (ipv6_inside p)) k (ipv6_inside p)) next in
    let version : get_or p 0 0 / 16 ≡ 6 = ap (λ (x : List ℕ). get_or x 0 0) (sym r.0) ∙ h.version in
    let tests : (nat_le 40 (length p) && ((get_or p 0 0 / 16) == 6)) ≡ true = λ j. le-leb 40 (length p) whole j && eq-eqb (get_or p 0 0 / 16) 6 version j in
    (same_ipv6 ns (ipv6_numbers p) es c (ipv6_chain p) rest (drop (40 + word p 4) p) r.0 chain after, tests)

-- The checksums of a frame with given fields are right: with the words that they cover they sum up to all ones (RFC 1071, 1).
use Rattle.std.proofs.Common.{◌≡◌, ℕ, zero, suc, ◌+◌, ◌-◌, ◌*◌, ◌/◌, ◌%◌, ◌^◌, ◌<◌, ◌≤◌, Bool, true, false, List, [], ◌∷◌, ◌++◌, length, take, drop, sum, refl, sym, ap, ◌∙◌, arith, append_assoc, append-nil, subst, inl, inr}
use Rattle.std.{specs.Prelude.◌||◌, specs.Prelude.is_some, specs.Prelude.IsTrue, proofs.lemmas.Bool.cases_eq, proofs.lemmas.Bool.eq-eqb, proofs.lemmas.Bool.ne_eqb}
use Rattle.std.proofs.{lemmas.List.take_at, lemmas.List.drop_at, lemmas.List.length-append, lemmas.List.Sums.sum_by-cons, lemmas.Nat.mod_below, Math.Nat.mod-eq_of_lt}
use Rattle.of_layers.specs.declared.field.Field.TheVariants.{IpDscp, IpEcn, Ipv4Src, Ipv4Dst, Ipv6Src, Ipv6Dst, TcpSrc, TcpDst, UdpSrc, UdpDst, Icmpv4Type, Icmpv4Code, Icmpv6Type, Icmpv6Code}
use Rattle.of_layers.specs.declared.transport.Transport.TheVariants.{Nothing, Tcp, Udp, Icmpv4, Icmpv6}
use Rattle.of_layers.specs.Layers.{Cell, Layers, cells_in, byte_cells, items_of, ipv4, ipv6, plain, encoded}
use Rattle.of_layers.specs.{declared.field.Field.Field, declared.transport.Transport.Transport, Bits.bits, Fields.row_of, Reading.layers_of}
use Rattle.of_layers.proofs.BitLemmas.{bits_parts, bits_cut, length-bits}
use Rattle.of_rewrite.specs.Checksum.{fold, never_zero, number_of_bits, words_of, sums_to_ones, AreWords}
use Rattle.of_rewrite.{specs.Right.header_is_right, specs.Right.carried_is_right, specs.Right.left_out, specs.Rewriting.words, proofs.Folding.fold_is, proofs.Renewing.number-bits}
use Rattle.of_frames.specs.Checksums.{checksum_of, word_sum, protocol_with, size_with, service_given, header_sum, ipv4_sum, ipv6_sum, carried_checksum}
use Rattle.of_frames.specs.Packets.{ipv4_given, ipv6_given, numbers_given, body_over_ipv4, body_given, frame_given}
use Rattle.of_frames.specs.{declared.shape.Shape.Shape, declared.shape.Tagging.Tagging, Rules.is_ipv4_shape, Rules.protocol_of, Given.given_number, Beside.numbers_beside}
use Rattle.of_frames.proofs.AddingLemmas.{bits_low, service_bits, version_bits}
use Rattle.of_frames.proofs.{FitLemmas.given_small, FitLemmas.protocol_small, FitLemmas.size_small, FitLemmas.checksum_small, FrameLemmas.given_layers}
use Rattle.of_frames.specs.declared.shape.Shape.TheVariants as shapes

-- ---- words of bits

abbrev as_words : List ℕ → List ℕ
as_words [] = []
as_words (w ∷ ws) = bits 16 w ++ as_words ws

words_back : (ws : List ℕ) → AreWords ws → words_of (length ws) (as_words ws) ≡ ws
unfolding words_of
words_back [] h = refl
words_back (w ∷ ws) h =
    let t : take 16 (bits 16 w ++ as_words ws) ≡ bits 16 w = take_at (bits 16 w) (as_words ws) 16 (length-bits 16 w) in
    let d : drop 16 (bits 16 w ++ as_words ws) ≡ as_words ws = drop_at (bits 16 w) (as_words ws) 16 (length-bits 16 w) in
    let small : w < 65536 = h 0 in
    let v : number_of_bits (take 16 (bits 16 w ++ as_words ws)) ≡ w = ap number_of_bits t ∙ number-bits 16 w ∙ mod-eq_of_lt small in
    let r : words_of (length ws) (drop 16 (bits 16 w ++ as_words ws)) ≡ ws = ap (words_of (length ws)) d ∙ words_back ws (λ i. h (suc i)) in
    λ j. v j ∷ r j

length_words : (ws : List ℕ) → length (as_words ws) ≡ 16 * length ws
length_words [] = refl
length_words (w ∷ ws) = omega (arith, length-append (bits 16 w) (as_words ws), length-bits 16 w, length_words ws)

sixteenth : (m n : ℕ) → m ≡ 16 * n → m / 16 ≡ n
sixteenth m n e = omega arith

words_are : (cs : List Cell) (ws : List ℕ) → AreWords ws → encoded cs ≡ as_words ws → words cs ≡ ws
words_are cs ws h e =
    ap (λ (x : List ℕ). words_of (length x / 16) x) e ∙ ap (λ (k : ℕ). words_of k (as_words ws)) (sixteenth (length (as_words ws)) (length ws) (length_words ws)) ∙ words_back ws h

as_words-append : (a b : List ℕ) → as_words (a ++ b) ≡ as_words a ++ as_words b
as_words-append [] b = refl
as_words-append (w ∷ a) b = ap (λ (t : List ℕ). bits 16 w ++ t) (as_words-append a b) ∙ sym (append_assoc (bits 16 w) (as_words a) (as_words b))

no_words : AreWords []
no_words i = omega arith

one_more : (w : ℕ) (ws : List ℕ) → w < 65536 → AreWords ws → AreWords (w ∷ ws)
one_more w ws h k zero = h
one_more w ws h k (suc i) = k i

record Small (ws : List ℕ) : Type 0 where
  are : AreWords ws

none_small : Small []
none_small = record { are = no_words }

more : {w : ℕ} {ws : List ℕ} → w < 65536 → Small ws → Small (w ∷ ws)
more {w} {ws} h k = record { are = one_more w ws h k.are }

words-append : (a b : List ℕ) → AreWords a → AreWords b → AreWords (a ++ b)
words-append [] b h k = k
words-append (w ∷ a) b h k = one_more w (a ++ b) (h 0) (words-append a b (λ i. h (suc i)) k)

-- ---- sums

abbrev total : List ℕ → ℕ
total [] = 0
total (w ∷ ws) = w + total ws

sum_is : (ws : List ℕ) → sum ws ≡ total ws
sum_is [] = refl
sum_is (w ∷ ws) = sum_by-cons (λ (k : ℕ). k) w ws ∙ ap (λ (s : ℕ). w + s) (sum_is ws)

total-append : (a b : List ℕ) → total (a ++ b) ≡ total a + total b
total-append [] b = omega arith
total-append (w ∷ a) b = omega (arith, total-append a b)

-- a sum and its complement
all_ones : (s : ℕ) → fold (s + (65535 - fold s)) ≡ 65535
all_ones s = elim (cases_eq s 0) [
  | inl e ↦ ap (λ (x : ℕ). fold (x + (65535 - fold x))) e
  | inr ne ↦
      let f : fold s ≡ 1 + (s - 1) % 65535 = fold_is s (omega arith) in
      let g : fold (s + (65535 - fold s)) ≡ 1 + (s + (65535 - fold s) - 1) % 65535 = fold_is (s + (65535 - fold s)) (omega arith) in
      let m : 1 + (s + (65535 - fold s) - 1) % 65535 ≡ 65535 = omega arith in
      g ∙ m
]

-- a computed 0 is written as 65535
never_wrong : (s : ℕ) → fold (s + never_zero (checksum_of s)) ≡ 65535
never_wrong s = elim (cases_eq (65535 - fold s) 0) [
  | inl e ↦
      let z : never_zero (checksum_of s) ≡ 65535 = ap never_zero e in
      ap (λ (c : ℕ). fold (s + c)) z ∙ full s e
  | inr ne ↦ let z : never_zero (checksum_of s) ≡ 65535 - fold s = rw (ne_eqb (65535 - fold s) 0 ne) refl in ap (λ (c : ℕ). fold (s + c)) z ∙ all_ones s
]
  where
    full : (s : ℕ) → 65535 - fold s ≡ 0 → fold (s + 65535) ≡ 65535
    full s e = elim (cases_eq s 0) [
      | inl z ↦ ap (λ (x : ℕ). fold (x + 65535)) z
      | inr ne ↦
          let f : fold s ≡ 1 + (s - 1) % 65535 = fold_is s (omega arith) in
          let g : fold (s + 65535) ≡ 1 + (s + 65535 - 1) % 65535 = fold_is (s + 65535) (omega arith) in
          let m : 1 + (s + 65535 - 1) % 65535 ≡ 65535 = omega arith in
          g ∙ m
    ]

ones_by : (ws : List ℕ) (n : ℕ) → total ws ≡ n → fold n ≡ 65535 → sums_to_ones ws ≡ true
ones_by ws n e f = eq-eqb (fold (sum ws)) 65535 (ap fold (sum_is ws ∙ e) ∙ f)

-- ---- the words of a number

abbrev words_in : ℕ → ℕ → List ℕ
words_in zero a = []
words_in (suc k) a = (a / 2 ^ (16 * k) % 65536) ∷ words_in k a

in_words : (k a : ℕ) → bits (16 * k) a ≡ as_words (words_in k a)
unfolding bits
in_words zero a = refl
in_words (suc k) a =
    let more : 16 * suc k ≡ 16 + 16 * k = omega arith in
    ap (λ (n : ℕ). bits n a) more ∙ bits_cut 16 (16 * k) a
    ∙ (λ j. bits_low 16 (a / 2 ^ (16 * k)) j ++ sym (bits_low (16 * k) a) j)
    ∙ ap (λ (t : List ℕ). bits 16 (a / 2 ^ (16 * k) % 65536) ++ t) (in_words k a)

words_in_small : (k a : ℕ) → AreWords (words_in k a)
words_in_small zero a = no_words
words_in_small (suc k) a = one_more (a / 2 ^ (16 * k) % 65536) (words_in k a) (mod_below (a / 2 ^ (16 * k)) 65536 (omega arith)) (words_in_small k a)

words_in_total : (k a : ℕ) → total (words_in k a) ≡ word_sum k a
words_in_total zero a = refl
words_in_total (suc k) a = ap (λ (t : ℕ). a / 2 ^ (16 * k) % 65536 + t) (words_in_total k a)

-- two addresses
pair_encoded : (k a b : ℕ) → bits (16 * k) a ++ (bits (16 * k) b ++ []) ≡ as_words (words_in k a ++ words_in k b)
pair_encoded k a b = (λ j. in_words k a j ++ (in_words k b j ++ [])) ∙ ap (λ (t : List ℕ). as_words (words_in k a) ++ t) (append-nil (as_words (words_in k b))) ∙ sym (as_words-append (words_in k a) (words_in k b))

pair_small : (k a b : ℕ) → AreWords (words_in k a ++ words_in k b)
pair_small k a b = words-append (words_in k a) (words_in k b) (words_in_small k a) (words_in_small k b)

pair_total : (k a b : ℕ) → total (words_in k a ++ words_in k b) ≡ word_sum k a + word_sum k b
pair_total k a b = total-append (words_in k a) (words_in k b) ∙ (λ j. words_in_total k a j + words_in_total k b j)

-- ---- the IPv4 header

service_small : (d e : ℕ) → d < 64 → e < 4 → d * 4 + e < 256
service_small d e h i = omega arith

first_word : (d e : ℕ) → d < 64 → e < 4 → bits 16 (0x4500 + (d * 4 + e)) ≡ bits 4 4 ++ (bits 4 5 ++ (bits 6 d ++ bits 2 e))
first_word d e h i =
    bits_parts 8 8 0x45 (d * 4 + e) (service_small d e h i) ∙ (λ j. version_bits j ++ service_bits d e i j)
    ∙ append_assoc (bits 4 4) (bits 4 5) (bits 6 d ++ bits 2 e)

abbrev front_words : Transport → (Field → ℕ) → List ℕ
front_words k v = (0x4500 + service_given v) ∷ (20 + size_with k) ∷ 0 ∷ 0 ∷ (0x4000 + protocol_with k v) ∷ checksum_of (header_sum k v) ∷ []

abbrev header_words : Transport → (Field → ℕ) → List ℕ
header_words k v = front_words k v ++ (words_in 2 (given_number v Ipv4Src) ++ words_in 2 (given_number v Ipv4Dst))

regrouped : (a b c d t z f g l p s x : List ℕ) →
    a ++ (b ++ (c ++ (d ++ (t ++ (z ++ (f ++ (g ++ (l ++ (p ++ (s ++ x))))))))))
    ≡ (a ++ (b ++ (c ++ d))) ++ (t ++ (z ++ ((f ++ g) ++ ((l ++ p) ++ (s ++ x)))))
regrouped a b c d t z f g l p s x = simp append_assoc

header_encoded : (k : Transport) (v : Field → ℕ) → encoded (cells_in ipv4 (ipv4_given k v) ++ byte_cells []) ≡ as_words (header_words k v)
unfolding row_of
header_encoded k v =
    let first : bits 16 (0x4500 + service_given v) ≡ bits 4 4 ++ (bits 4 5 ++ (bits 6 (given_number v IpDscp) ++ bits 2 (given_number v IpEcn))) =
    first_word (given_number v IpDscp) (given_number v IpEcn) (given_small v IpDscp) (given_small v IpEcn) in
    let lives : bits 16 (0x4000 + protocol_with k v) ≡ bits 8 64 ++ bits 8 (protocol_with k v) = bits_parts 8 8 64 (protocol_with k v) (protocol_small k v) in
    let none : bits 16 0 ≡ bits 3 0 ++ bits 13 0 = bits_parts 3 13 0 0 (omega arith) in
    regrouped (bits 4 4) (bits 4 5) (bits 6 (given_number v IpDscp)) (bits 2 (given_number v IpEcn)) (bits 16 (20 + size_with k)) (bits 16 0) (bits 3 0) (bits 13 0) (bits 8 64) (bits 8 (protocol_with k v)) (bits 16 (checksum_of (header_sum k v)))
    (bits 32 (given_number v Ipv4Src) ++ (bits 32 (given_number v Ipv4Dst) ++ []))
    ∙ (λ j. sym first j ++ (bits 16 (20 + size_with k) ++ (bits 16 0 ++ (sym none j ++ (sym lives j ++ (bits 16 (checksum_of (header_sum k v)) ++ pair_encoded 2 (given_number v Ipv4Src) (given_number v Ipv4Dst) j))))))

below : (f : ℕ) → 65535 - f < 65536
below f = omega arith

first_small : (x : ℕ) → x < 256 → 0x4500 + x < 65536
first_small x h = omega arith

second_small : (x : ℕ) → x ≤ 20 → 20 + x < 65536
second_small x h = omega arith

fifth_small : (x : ℕ) → x < 256 → 0x4000 + x < 65536
fifth_small x h = omega arith

nothing_small : 0 < 65536
nothing_small = omega arith

front_small : (k : Transport) (v : Field → ℕ) → Small (front_words k v)
unfolding row_of
front_small k v =
    more (first_small (service_given v) (service_small (given_number v IpDscp) (given_number v IpEcn) (given_small v IpDscp) (given_small v IpEcn)))
    (more (second_small (size_with k) (size_small k)) (more nothing_small (more nothing_small (more (fifth_small (protocol_with k v) (protocol_small k v)) (more (below (fold (header_sum k v))) none_small)))))

header_total : (a b e c x y : ℕ) → a + (b + (0 + (0 + (e + (c + (x + y)))))) ≡ (a + b + e + x + y) + c
header_total a b e c x y = omega arith

pub header_right : (k : Transport) (v : Field → ℕ) → header_is_right (body_over_ipv4 k v) ≡ true
header_right k v =
    let small : AreWords (header_words k v) = words-append (front_words k v) (words_in 2 (given_number v Ipv4Src) ++ words_in 2 (given_number v Ipv4Dst)) (front_small k v).are (pair_small 2 (given_number v Ipv4Src) (given_number v Ipv4Dst)) in
    let are : words (cells_in ipv4 (ipv4_given k v) ++ byte_cells []) ≡ header_words k v = words_are (cells_in ipv4 (ipv4_given k v) ++ byte_cells []) (header_words k v) small (header_encoded k v) in
    let all : total (header_words k v) ≡ header_sum k v + checksum_of (header_sum k v) =
    ap (λ (t : ℕ). (0x4500 + service_given v) + ((20 + size_with k) + (0 + (0 + ((0x4000 + protocol_with k v) + (checksum_of (header_sum k v) + t)))))) (pair_total 2 (given_number v Ipv4Src) (given_number v Ipv4Dst))
    ∙ header_total (0x4500 + service_given v) (20 + size_with k) (0x4000 + protocol_with k v) (checksum_of (header_sum k v)) (word_sum 2 (given_number v Ipv4Src)) (word_sum 2 (given_number v Ipv4Dst)) in
    ap sums_to_ones are ∙ ones_by (header_words k v) (header_sum k v + checksum_of (header_sum k v)) all (all_ones (header_sum k v))

-- ---- what IP packets carry

abbrev own_words : Transport → (Field → ℕ) → ℕ → List ℕ
own_words Nothing v c = []
own_words Tcp v c = given_number v TcpSrc ∷ given_number v TcpDst ∷ 0 ∷ 0 ∷ 0 ∷ 0 ∷ 0x5000 ∷ 0 ∷ c ∷ 0 ∷ []
own_words Udp v c = given_number v UdpSrc ∷ given_number v UdpDst ∷ 8 ∷ c ∷ []
own_words Icmpv4 v c = (given_number v Icmpv4Type * 256 + given_number v Icmpv4Code) ∷ c ∷ []
own_words Icmpv6 v c = (given_number v Icmpv6Type * 256 + given_number v Icmpv6Code) ∷ c ∷ []

abbrev own_sum : Transport → (Field → ℕ) → ℕ
own_sum Nothing v = 0
own_sum Tcp v = given_number v TcpSrc + given_number v TcpDst + 0x5000
own_sum Udp v = given_number v UdpSrc + given_number v UdpDst + 8
own_sum Icmpv4 v = given_number v Icmpv4Type * 256 + given_number v Icmpv4Code
own_sum Icmpv6 v = given_number v Icmpv6Type * 256 + given_number v Icmpv6Code

tcp_total : (a b c : ℕ) → a + (b + (0 + (0 + (0 + (0 + (0x5000 + (0 + (c + (0 + 0))))))))) ≡ a + b + 0x5000 + c
tcp_total a b c = omega arith

udp_total : (a b c : ℕ) → a + (b + (8 + (c + 0))) ≡ a + b + 8 + c
udp_total a b c = omega arith

icmp_total : (a c : ℕ) → a + (c + 0) ≡ a + c
icmp_total a c = omega arith

abbrev Carries : Transport → Type 0
Carries Nothing = ⊥
Carries other = Unit {0}

own_total : (k : Transport) (v : Field → ℕ) (c : ℕ) → Carries k → total (own_words k v c) ≡ own_sum k v + c
own_total Nothing v c h = absurd h
own_total Tcp v c h = tcp_total (given_number v TcpSrc) (given_number v TcpDst) c
own_total Udp v c h = udp_total (given_number v UdpSrc) (given_number v UdpDst) c
own_total Icmpv4 v c h = icmp_total (given_number v Icmpv4Type * 256 + given_number v Icmpv4Code) c
own_total Icmpv6 v c h = icmp_total (given_number v Icmpv6Type * 256 + given_number v Icmpv6Code) c

word_of_two : (t d : ℕ) → t < 256 → d < 256 → t * 256 + d < 65536
word_of_two t d h i = omega arith

offset_small : 0x5000 < 65536
offset_small = omega arith

length_small : 8 < 65536
length_small = omega arith

own_small : (k : Transport) (v : Field → ℕ) (c : ℕ) → c < 65536 → Small (own_words k v c)
unfolding row_of
own_small Nothing v c h = none_small
own_small Tcp v c h =
    more (given_small v TcpSrc) (more (given_small v TcpDst) (more nothing_small (more nothing_small (more nothing_small (more nothing_small (more offset_small (more nothing_small (more h (more nothing_small none_small)))))))))
own_small Udp v c h = more (given_small v UdpSrc) (more (given_small v UdpDst) (more length_small (more h none_small)))
own_small Icmpv4 v c h = more (word_of_two (given_number v Icmpv4Type) (given_number v Icmpv4Code) (given_small v Icmpv4Type) (given_small v Icmpv4Code)) (more h none_small)
own_small Icmpv6 v c h = more (word_of_two (given_number v Icmpv6Type) (given_number v Icmpv6Code) (given_small v Icmpv6Type) (given_small v Icmpv6Code)) (more h none_small)

zeros : bits 32 0 ≡ bits 16 0 ++ bits 16 0
zeros = bits_parts 16 16 0 0 (omega arith)

tcp_regrouped : (a b z w x : List ℕ) → a ++ (b ++ ((z ++ z) ++ ((z ++ z) ++ (w ++ (z ++ (x ++ (z ++ []))))))) ≡ a ++ (b ++ (z ++ (z ++ (z ++ (z ++ (w ++ (z ++ (x ++ (z ++ [])))))))))
tcp_regrouped a b z w x = simp append_assoc

icmp_encoded : (t d c : ℕ) → d < 256 → bits 8 t ++ (bits 8 d ++ (bits 16 c ++ [])) ≡ bits 16 (t * 256 + d) ++ (bits 16 c ++ [])
icmp_encoded t d c h = sym (append_assoc (bits 8 t) (bits 8 d) (bits 16 c ++ [])) ∙ ap (λ (x : List ℕ). x ++ (bits 16 c ++ [])) (sym (bits_parts 8 8 t d h))

own_encoded : (k : Transport) (v : Field → ℕ) (c : ℕ) → encoded (cells_in (items_of k) (numbers_given k v c)) ≡ as_words (own_words k v c)
unfolding row_of
own_encoded Tcp v c =
    (λ j. bits 16 (given_number v TcpSrc) ++ (bits 16 (given_number v TcpDst) ++ (zeros j ++ (zeros j ++ (bits 16 0x5000 ++ (bits 16 0 ++ (bits 16 c ++ (bits 16 0 ++ []))))))))
    ∙ tcp_regrouped (bits 16 (given_number v TcpSrc)) (bits 16 (given_number v TcpDst)) (bits 16 0) (bits 16 0x5000) (bits 16 c)
own_encoded Icmpv4 v c = icmp_encoded (given_number v Icmpv4Type) (given_number v Icmpv4Code) c (given_small v Icmpv4Code)
own_encoded Icmpv6 v c = icmp_encoded (given_number v Icmpv6Type) (given_number v Icmpv6Code) c (given_small v Icmpv6Code)
own_encoded other v c = refl

own_are : (k : Transport) (v : Field → ℕ) (c : ℕ) → c < 65536 → words (cells_in (items_of k) (numbers_given k v c)) ≡ own_words k v c
own_are k v c h = words_are (cells_in (items_of k) (numbers_given k v c)) (own_words k v c) (own_small k v c h).are (own_encoded k v c)

-- with what is around, and the checksum of both
summed3 : (x a b c : ℕ) → x + a + b + c ≡ x + (a + b + c)
summed3 x a b c = omega arith

summed2 : (x a b : ℕ) → x + a + b ≡ x + (a + b)
summed2 x a b = omega arith

-- what is around counts, unless it is ICMP over IPv4
abbrev counted : ℕ → Transport → ℕ
counted around Icmpv4 = 0
counted around other = around

zero_first : (x y : ℕ) → 0 + x + y ≡ x + y
zero_first x y = omega arith

own_ones : (around : ℕ) (k : Transport) (v : Field → ℕ) → Carries k → fold (counted around k + own_sum k v + carried_checksum around k v) ≡ 65535
own_ones around Nothing v h = absurd h
own_ones around Tcp v h = ap (λ (s : ℕ). fold (around + own_sum Tcp v + checksum_of s)) (summed3 around (given_number v TcpSrc) (given_number v TcpDst) 0x5000) ∙ all_ones (around + own_sum Tcp v)
own_ones around Udp v h = ap (λ (s : ℕ). fold (around + own_sum Udp v + never_zero (checksum_of s))) (summed3 around (given_number v UdpSrc) (given_number v UdpDst) 8) ∙ never_wrong (around + own_sum Udp v)
own_ones around Icmpv4 v h = ap fold (zero_first (own_sum Icmpv4 v) (checksum_of (own_sum Icmpv4 v))) ∙ all_ones (own_sum Icmpv4 v)
own_ones around Icmpv6 v h = ap (λ (s : ℕ). fold (around + own_sum Icmpv6 v + checksum_of s)) (summed2 around (given_number v Icmpv6Type * 256) (given_number v Icmpv6Code)) ∙ all_ones (around + own_sum Icmpv6 v)

or_true : (b c : Bool) → c ≡ true → (b || c) ≡ true
or_true true c e = refl
or_true false c e = e

with_addresses : (left : Bool) (p z : ℕ) (wa wc a c : List ℕ) (x s sum : ℕ) → wa ≡ a → wc ≡ c → total a ≡ x → total c ≡ s + sum → fold (x + p + z + s + sum) ≡ 65535 → (left || sums_to_ones ((p ∷ z ∷ []) ++ (wa ++ wc))) ≡ true
with_addresses left p z wa wc a c x s sum ea ec ta tc f =
    let both : total (a ++ c) ≡ total a + total c = total-append a c in
    let all : p + (z + total (a ++ c)) ≡ x + p + z + s + sum = omega arith in
    or_true left (sums_to_ones ((p ∷ z ∷ []) ++ (wa ++ wc))) ((λ j. sums_to_ones ((p ∷ z ∷ []) ++ (ea j ++ ec j))) ∙ ones_by ((p ∷ z ∷ []) ++ (a ++ c)) (x + p + z + s + sum) all f)

addresses4_are : (k : Transport) (v : Field → ℕ) → words (drop 11 (cells_in ipv4 (ipv4_given k v))) ≡ words_in 2 (given_number v Ipv4Src) ++ words_in 2 (given_number v Ipv4Dst)
addresses4_are k v = words_are (drop 11 (cells_in ipv4 (ipv4_given k v))) (words_in 2 (given_number v Ipv4Src) ++ words_in 2 (given_number v Ipv4Dst)) (pair_small 2 (given_number v Ipv4Src) (given_number v Ipv4Dst)) (pair_encoded 2 (given_number v Ipv4Src) (given_number v Ipv4Dst))

addresses6_are : (k : Transport) (v : Field → ℕ) → words (drop 7 (cells_in (ipv6 (plain 8)) (ipv6_given k v))) ≡ words_in 8 (given_number v Ipv6Src) ++ words_in 8 (given_number v Ipv6Dst)
addresses6_are k v = words_are (drop 7 (cells_in (ipv6 (plain 8)) (ipv6_given k v))) (words_in 8 (given_number v Ipv6Src) ++ words_in 8 (given_number v Ipv6Dst)) (pair_small 8 (given_number v Ipv6Src) (given_number v Ipv6Dst)) (pair_encoded 8 (given_number v Ipv6Src) (given_number v Ipv6Dst))

over4 : (k : Transport) (v : Field → ℕ) (left : Bool) → Carries k → (counted (ipv4_sum k v) k ≡ ipv4_sum k v) →
    (left || sums_to_ones ((protocol_with k v ∷ size_with k ∷ []) ++ (words (drop 11 (cells_in ipv4 (ipv4_given k v))) ++ words (cells_in (items_of k) (numbers_given k v (carried_checksum (ipv4_sum k v) k v)))))) ≡ true
over4 k v left h e =
    with_addresses left (protocol_with k v) (size_with k) _ _ (words_in 2 (given_number v Ipv4Src) ++ words_in 2 (given_number v Ipv4Dst)) (own_words k v (carried_checksum (ipv4_sum k v) k v)) (word_sum 2 (given_number v Ipv4Src) + word_sum 2 (given_number v Ipv4Dst)) (own_sum k v) (carried_checksum (ipv4_sum k v) k v)
    (addresses4_are k v) (own_are k v (carried_checksum (ipv4_sum k v) k v) (checksum_small (ipv4_sum k v) k v)) (pair_total 2 (given_number v Ipv4Src) (given_number v Ipv4Dst)) (own_total k v (carried_checksum (ipv4_sum k v) k v) h)
    (ap (λ (n : ℕ). fold (n + own_sum k v + carried_checksum (ipv4_sum k v) k v)) (sym e) ∙ own_ones (ipv4_sum k v) k v h)

over6 : (k : Transport) (v : Field → ℕ) (left : Bool) → Carries k → (counted (ipv6_sum k v) k ≡ ipv6_sum k v) →
    (left || sums_to_ones ((protocol_with k v ∷ size_with k ∷ []) ++ (words (drop 7 (cells_in (ipv6 (plain 8)) (ipv6_given k v))) ++ words (cells_in (items_of k) (numbers_given k v (carried_checksum (ipv6_sum k v) k v)))))) ≡ true
over6 k v left h e =
    with_addresses left (protocol_with k v) (size_with k) _ _ (words_in 8 (given_number v Ipv6Src) ++ words_in 8 (given_number v Ipv6Dst)) (own_words k v (carried_checksum (ipv6_sum k v) k v)) (word_sum 8 (given_number v Ipv6Src) + word_sum 8 (given_number v Ipv6Dst)) (own_sum k v) (carried_checksum (ipv6_sum k v) k v)
    (addresses6_are k v) (own_are k v (carried_checksum (ipv6_sum k v) k v) (checksum_small (ipv6_sum k v) k v)) (pair_total 8 (given_number v Ipv6Src) (given_number v Ipv6Dst)) (own_total k v (carried_checksum (ipv6_sum k v) k v) h)
    (ap (λ (n : ℕ). fold (n + own_sum k v + carried_checksum (ipv6_sum k v) k v)) (sym e) ∙ own_ones (ipv6_sum k v) k v h)

icmp4 : (v : Field → ℕ) (left : Bool) (c : ℕ) → c ≡ carried_checksum (ipv4_sum Icmpv4 v) Icmpv4 v → (left || sums_to_ones ([] ++ (words [] ++ words (cells_in (items_of Icmpv4) (numbers_given Icmpv4 v c))))) ≡ true
unfolding words_of
icmp4 v left c e =
    let small : c < 65536 = subst (λ (n : ℕ). n < 65536) (sym e) (checksum_small (ipv4_sum Icmpv4 v) Icmpv4 v) in
    or_true left (sums_to_ones (words (cells_in (items_of Icmpv4) (numbers_given Icmpv4 v c))))
    (ap sums_to_ones (own_are Icmpv4 v c small) ∙ ones_by (own_words Icmpv4 v c) (own_sum Icmpv4 v + c) (own_total Icmpv4 v c tt) (ap (λ (n : ℕ). fold (own_sum Icmpv4 v + n)) e ∙ all_ones (own_sum Icmpv4 v)))

-- ---- frames

header_by : (s : Shape) (v : Field → ℕ) → is_ipv4_shape s ≡ true → header_is_right (body_given s v) ≡ true
header_by shapes.Ipv4 v e = header_right Nothing v
header_by shapes.Ipv4Tcp v e = header_right Tcp v
header_by shapes.Ipv4Udp v e = header_right Udp v
header_by shapes.Ipv4Icmp v e = header_right Icmpv4 v
header_by other v e = absurd cc

carried_by : (s : Shape) (v : Field → ℕ) → is_some (protocol_of s) ≡ true → carried_is_right (numbers_beside s) (body_given s v) ≡ true
carried_by shapes.Ipv4Tcp v e = over4 Tcp v (left_out (body_given shapes.Ipv4Tcp v)) tt refl
carried_by shapes.Ipv4Udp v e = over4 Udp v (left_out (body_given shapes.Ipv4Udp v)) tt refl
carried_by shapes.Ipv4Icmp v e = icmp4 v (left_out (body_given shapes.Ipv4Icmp v)) _ refl
carried_by shapes.Ipv6Tcp v e = over6 Tcp v (left_out (body_given shapes.Ipv6Tcp v)) tt refl
carried_by shapes.Ipv6Udp v e = over6 Udp v (left_out (body_given shapes.Ipv6Udp v)) tt refl
carried_by shapes.Ipv6Icmp v e = over6 Icmpv6 v (left_out (body_given shapes.Ipv6Icmp v)) tt refl
carried_by other v e = absurd cc

pub frames_header_right : (s : Shape) (t : Tagging) (v : Field → ℕ) → is_ipv4_shape s ≡ true → IsTrue (header_is_right (layers_of (frame_given s t v)).body)
frames_header_right s t v e = ap (λ (l : Layers). header_is_right l.body) (given_layers s t v) ∙ header_by s v e

pub frames_carried_right : (s : Shape) (t : Tagging) (v : Field → ℕ) → is_some (protocol_of s) ≡ true → IsTrue (carried_is_right (numbers_beside s) (layers_of (frame_given s t v)).body)
frames_carried_right s t v e = ap (λ (l : Layers). carried_is_right (numbers_beside s) l.body) (given_layers s t v) ∙ carried_by s v e

-- Bytes that grow by bits.
use Rattle.std.proofs.Common.{◌≡◌, ℕ, ◌+◌, ◌*◌, ◌/◌, ◌%◌, ◌^◌, ◌<◌, List, [], ◌∷◌, ◌++◌, refl, sym, ap, ◌∙◌, arith, append_assoc, subst}
use Rattle.std.proofs.lemmas.List.{append-nil}
use Rattle.of_layers.specs.Layers.{Cell, Carried, Ipv4, Ipv6, Layers, addresses, ipv4, ipv6, named, ether_type, cells_in, carried_cells, tag_cells, body_cells, cells, encoded}
use Rattle.of_layers.{specs.declared.field.Field.TheVariants.IpProto, specs.Bits.bits, specs.Bits.bits_of, proofs.BitLemmas.bits_parts, proofs.BitLemmas.bits_cut, proofs.BitLemmas.bits_of-append}
use Rattle.of_layers.proofs.EncodingLemmas.{encoded-append}
use Rattle.of_frames.specs.Adding.{Adds}

joined : (o a b x y : List ℕ) → Adds o a x → Adds a b y → Adds o b (x ++ y)
joined o a b x y p q = record { is = q.is ∙ ap (λ (t : List ℕ). t ++ y) p.is ∙ append_assoc (bits_of o) x y }

-- one after the other
pub add : {o a b x y : List ℕ} → Adds o a x → Adds a b y → Adds o b (x ++ y)
add p q = joined _ _ _ _ _ p q

-- the same bits
pub same : {o a x : List ℕ} (y : List ℕ) → x ≡ y → Adds o a x → Adds o a y
same {o} {a} {x} y e p = record { is = p.is ∙ ap (λ (t : List ℕ). bits_of o ++ t) e }

-- nothing after them
pub last : {o a x : List ℕ} → Adds o a x → Adds o a (x ++ [])
last {o} {a} {x} p = same (x ++ []) (sym (append-nil x)) p

pub no_bits : (o : List ℕ) → Adds o o []
no_bits o = record { is = sym (append-nil (bits_of o)) }

pub from_nothing : (o a x : List ℕ) → o ≡ [] → Adds o a x → Adds [] a x
from_nothing o a x e p = subst (λ (s : List ℕ). Adds s a x) e p

-- bits that are parts
pub two : {o a b y : List ℕ} (x z : List ℕ) → Adds o a (x ++ z) → Adds a b y → Adds o b (x ++ (z ++ y))
two {o} {a} {b} {y} x z p q = same (x ++ (z ++ y)) (append_assoc x z y) (joined o a b (x ++ z) y p q)

pub three : {o a b y : List ℕ} (x z w : List ℕ) → Adds o a (x ++ (z ++ w)) → Adds a b y → Adds o b (x ++ (z ++ (w ++ y)))
three {o} {a} {b} {y} x z w p q = same (x ++ (z ++ (w ++ y))) (append_assoc x (z ++ w) y ∙ ap (λ (t : List ℕ). x ++ t) (append_assoc z w y)) (joined o a b (x ++ (z ++ w)) y p q)

pub four : {o a b y : List ℕ} (x z w v : List ℕ) → Adds o a (x ++ (z ++ (w ++ v))) → Adds a b y → Adds o b (x ++ (z ++ (w ++ (v ++ y))))
four {o} {a} {b} {y} x z w v p q =
    same (x ++ (z ++ (w ++ (v ++ y))))
    (append_assoc x (z ++ (w ++ v)) y ∙ ap (λ (t : List ℕ). x ++ t) (append_assoc z (w ++ v) y ∙ ap (λ (t : List ℕ). z ++ t) (append_assoc w v y)))
    (joined o a b (x ++ (z ++ (w ++ v))) y p q)

-- ---- numbers

no_more : (k : ℕ) → k ≡ 0 + k
no_more k = omega arith

pub bits_low : (k v : ℕ) → bits k v ≡ bits k (v % 2 ^ k)
unfolding bits
bits_low k v = ap (λ (m : ℕ). bits m v) (no_more k) ∙ bits_cut 0 k v

-- of a number only its low bits
pub low : {o a : List ℕ} (k v : ℕ) → Adds o a (bits k v) → Adds o a (bits k (v % 2 ^ k))
low k v p = same (bits k (v % 2 ^ k)) (bits_low k v) p

-- a number in two parts
pub halves : {o a b : List ℕ} (j k v : ℕ) → Adds o a (bits j (v / 2 ^ k)) → Adds a b (bits k (v % 2 ^ k)) → Adds o b (bits (j + k) v)
halves {o} {a} {b} j k v p q = same (bits (j + k) v) (sym (bits_cut j k v)) (joined o a b (bits j (v / 2 ^ k)) (bits k (v % 2 ^ k)) p q)

-- a byte
pub one_byte : (old new : List ℕ) (b : ℕ) → new ≡ old ++ (b ∷ []) → Adds old new (bits 8 b)
unfolding bits_of
one_byte old new b e = record { is = ap bits_of e ∙ bits_of-append old (b ∷ []) ∙ ap (λ (t : List ℕ). bits_of old ++ t) (append-nil (bits 8 b)) }

-- ---- numbers that are parts of bytes

-- version and header length of IPv4
pub version_bits : bits 8 0x45 ≡ bits 4 4 ++ bits 4 5
version_bits = bits_parts 4 4 4 5 (omega arith)

-- no identification, no flags, no offset
pub fragment_bits : bits 32 0 ≡ bits 16 0 ++ (bits 3 0 ++ bits 13 0)
fragment_bits = bits_parts 16 16 0 0 (omega arith) ∙ ap (λ (t : List ℕ). bits 16 0 ++ t) (bits_parts 3 13 0 0 (omega arith))

-- four bytes of zeros
pub zero_bits : bits 32 0 ≡ bits 8 0 ++ (bits 8 0 ++ (bits 8 0 ++ (bits 8 0 ++ [])))
unfolding bits
zero_bits = refl

-- DSCP and ECN
pub service_bits : (d e : ℕ) → e < 4 → bits 8 (d * 4 + e) ≡ bits 6 d ++ bits 2 e
service_bits d e h = bits_parts 6 2 d e h

-- PCP, DEI and VID
pub control_bits : (p v : ℕ) → v < 4096 → bits 16 (p * 8192 + v) ≡ bits 3 p ++ (bits 1 0 ++ bits 12 v)
control_bits p v h =
    let parts : p * 8192 + v ≡ (p * 2 + 0) * 4096 + v = omega arith in
    ap (bits 16) parts ∙ bits_parts 4 12 (p * 2 + 0) v h ∙ ap (λ (t : List ℕ). t ++ bits 12 v) (bits_parts 3 1 p 0 (omega arith)) ∙ append_assoc (bits 3 p) (bits 1 0) (bits 12 v)

-- and nothing after them
pub tag_bits : (p v : ℕ) → v < 4096 → bits 16 (p * 8192 + v) ≡ bits 3 p ++ (bits 1 0 ++ (bits 12 v ++ []))
tag_bits p v h = control_bits p v h ∙ ap (λ (t : List ℕ). bits 3 p ++ (bits 1 0 ++ t)) (sym (append-nil (bits 12 v)))

-- version, DSCP, ECN and flow label of IPv6
pub first_bits : (d e f : ℕ) → d < 64 → e < 4 → f < 1048576 → bits 32 ((6 * 256 + (d * 4 + e)) * 1048576 + f) ≡ bits 4 6 ++ (bits 6 d ++ (bits 2 e ++ bits 20 f))
first_bits d e f h i j =
    let small : d * 4 + e < 256 = omega arith in
    bits_parts 12 20 (6 * 256 + (d * 4 + e)) f j
    ∙ ap (λ (t : List ℕ). t ++ bits 20 f) (bits_parts 4 8 6 (d * 4 + e) small ∙ ap (λ (t : List ℕ). bits 4 6 ++ t) (service_bits d e i))
    ∙ append_assoc (bits 4 6) (bits 6 d ++ bits 2 e) (bits 20 f)
    ∙ ap (λ (t : List ℕ). bits 4 6 ++ t) (append_assoc (bits 6 d) (bits 2 e) (bits 20 f))

-- type, code, checksum and four bytes of ICMP
pub icmp_header : {o a : List ℕ} (t d sum : ℕ) → Adds o a (bits 8 t ++ (bits 8 d ++ (bits 16 sum ++ bits 32 0))) →
    Adds o a (bits 8 (t % 2 ^ 8) ++ (bits 8 (d % 2 ^ 8) ++ (bits 16 sum ++ (bits 8 0 ++ (bits 8 0 ++ (bits 8 0 ++ (bits 8 0 ++ [])))))))
icmp_header t d sum p =
    same (bits 8 (t % 2 ^ 8) ++ (bits 8 (d % 2 ^ 8) ++ (bits 16 sum ++ (bits 8 0 ++ (bits 8 0 ++ (bits 8 0 ++ (bits 8 0 ++ [])))))))
    (λ j. bits_low 8 t j ++ (bits_low 8 d j ++ (bits 16 sum ++ zero_bits j))) p

-- ---- packets and frames

-- a header of IPv4 and what it carries
pub ipv4_packet : {o a b : List ℕ} (ns : List ℕ) (c : Carried) → Adds o a (encoded (cells_in ipv4 ns)) → Adds a b (encoded (carried_cells c)) → Adds o b (encoded (body_cells (Ipv4 ns [] c [])))
ipv4_packet {o} {a} {b} ns c p q =
    same (encoded (body_cells (Ipv4 ns [] c [])))
    (ap (λ (t : List Cell). encoded (cells_in ipv4 ns) ++ encoded t) (sym (append-nil (carried_cells c))) ∙ sym (encoded-append (cells_in ipv4 ns) (carried_cells c ++ [])))
    (joined o a b (encoded (cells_in ipv4 ns)) (encoded (carried_cells c)) p q)

pub ipv6_packet : {o a b : List ℕ} (ns : List ℕ) (c : Carried) → Adds o a (encoded (cells_in (ipv6 (named IpProto 8)) ns)) → Adds a b (encoded (carried_cells c)) → Adds o b (encoded (body_cells (Ipv6 ns [] c [])))
ipv6_packet {o} {a} {b} ns c p q =
    same (encoded (body_cells (Ipv6 ns [] c [])))
    (ap (λ (t : List Cell). encoded (cells_in (ipv6 (named IpProto 8)) ns) ++ encoded t) (sym (append-nil (carried_cells c))) ∙ sym (encoded-append (cells_in (ipv6 (named IpProto 8)) ns) (carried_cells c ++ [])))
    (joined o a b (encoded (cells_in (ipv6 (named IpProto 8)) ns)) (encoded (carried_cells c)) p q)

-- bytes of ARP
pub arp_packet : {o a : List ℕ} (is : List Cell) → Adds o a (encoded is) → Adds o a (encoded (is ++ []))
arp_packet is p = same (encoded (is ++ [])) (ap encoded (sym (append-nil is))) p

parts_of : (l : Layers) → encoded (cells l) ≡ encoded (cells_in addresses l.ends) ++ (encoded (tag_cells l.tags) ++ (bits 16 l.type ++ encoded (body_cells l.body)))
parts_of l =
    encoded-append (cells_in addresses l.ends) (tag_cells l.tags ++ (cells_in ether_type (l.type ∷ []) ++ body_cells l.body))
    ∙ ap (λ (x : List ℕ). encoded (cells_in addresses l.ends) ++ x) (encoded-append (tag_cells l.tags) (cells_in ether_type (l.type ∷ []) ++ body_cells l.body))

-- the parts of a frame
pub whole : {a b c d : List ℕ} (l : Layers) → Adds [] a (encoded (cells_in addresses l.ends)) → Adds a b (encoded (tag_cells l.tags)) → Adds b c (bits 16 l.type) → Adds c d (encoded (body_cells l.body)) → bits_of d ≡ encoded (cells l)
unfolding bits_of
whole l p q r s = let all = add p (add q (add r s)) in all.is ∙ sym (parts_of l)

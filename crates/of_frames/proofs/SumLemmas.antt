-- Sums of words, part by part.
use Rattle.std.proofs.Common.{◌≡◌, ℕ, ◌+◌, ◌*◌, ◌^◌, ◌<◌, sym, ap, ◌∙◌}
use Rattle.std.proofs.Math.Nat.{mod-eq_of_lt}
use Rattle.of_layers.specs.declared.field.Field.TheVariants.{Ipv4Src, Ipv4Dst, Ipv6Src, Ipv6Dst, TcpSrc, TcpDst, UdpSrc, UdpDst, Icmpv4Type, Icmpv4Code, Icmpv6Type, Icmpv6Code}
use Rattle.of_layers.specs.{Fields.row_of, declared.transport.Transport.Transport}
use Rattle.of_layers.specs.declared.transport.Transport.TheVariants.{Tcp, Udp, Icmpv4, Icmpv6}
use Rattle.of_headers.specs.declared.numbers.Numbers.{Numbers}
use Rattle.of_rewrite.specs.Checksum.{never_zero}
use Rattle.of_frames.specs.Checksums.{checksum_of, word_sum, protocol_with, size_with, service_given, header_sum, ipv4_sum, ipv6_sum, carried_checksum}
use Rattle.of_frames.specs.Given.{given_number, number}

-- the IPv4 header
pub header_sum_is : (k : Transport) (n : Numbers) (s z p a b : ℕ) → n.ipv4_src < 2 ^ 32 → n.ipv4_dst < 2 ^ 32 →
    s ≡ service_given (number n) → z ≡ size_with k → p ≡ protocol_with k (number n) → a ≡ word_sum 2 n.ipv4_src → b ≡ word_sum 2 n.ipv4_dst →
    0x4500 + s + (20 + z) + (0x4000 + p) + a + b ≡ header_sum k (number n)
unfolding row_of
header_sum_is k n s z p a b src dst es ez ep ea eb =
    let x : a ≡ word_sum 2 (given_number (number n) Ipv4Src) = ea ∙ ap (word_sum 2) (sym (mod-eq_of_lt src)) in
    let y : b ≡ word_sum 2 (given_number (number n) Ipv4Dst) = eb ∙ ap (word_sum 2) (sym (mod-eq_of_lt dst)) in
    λ j. 0x4500 + es j + (20 + ez j) + (0x4000 + ep j) + x j + y j

pub ipv4_sum_is : (k : Transport) (n : Numbers) (z p a b : ℕ) → n.ipv4_src < 2 ^ 32 → n.ipv4_dst < 2 ^ 32 →
    z ≡ size_with k → p ≡ protocol_with k (number n) → a ≡ word_sum 2 n.ipv4_src → b ≡ word_sum 2 n.ipv4_dst →
    a + b + p + z ≡ ipv4_sum k (number n)
unfolding row_of
ipv4_sum_is k n z p a b src dst ez ep ea eb =
    let x : a ≡ word_sum 2 (given_number (number n) Ipv4Src) = ea ∙ ap (word_sum 2) (sym (mod-eq_of_lt src)) in
    let y : b ≡ word_sum 2 (given_number (number n) Ipv4Dst) = eb ∙ ap (word_sum 2) (sym (mod-eq_of_lt dst)) in
    λ j. x j + y j + ep j + ez j

pub ipv6_sum_is : (k : Transport) (n : Numbers) (z p a b : ℕ) → n.ipv6_src < 2 ^ 128 → n.ipv6_dst < 2 ^ 128 →
    z ≡ size_with k → p ≡ protocol_with k (number n) → a ≡ word_sum 8 n.ipv6_src → b ≡ word_sum 8 n.ipv6_dst →
    a + b + p + z ≡ ipv6_sum k (number n)
unfolding row_of
ipv6_sum_is k n z p a b src dst ez ep ea eb =
    let x : a ≡ word_sum 8 (given_number (number n) Ipv6Src) = ea ∙ ap (word_sum 8) (sym (mod-eq_of_lt src)) in
    let y : b ≡ word_sum 8 (given_number (number n) Ipv6Dst) = eb ∙ ap (word_sum 8) (sym (mod-eq_of_lt dst)) in
    λ j. x j + y j + ep j + ez j

-- the headers that IP packets carry
pub tcp_checksum_is : (around r : ℕ) (n : Numbers) → n.tcp_src < 2 ^ 16 → n.tcp_dst < 2 ^ 16 → r ≡ checksum_of (around + n.tcp_src + n.tcp_dst + 0x5000) → r ≡ carried_checksum around Tcp (number n)
unfolding row_of
tcp_checksum_is around r n a b e =
    let x : n.tcp_src ≡ given_number (number n) TcpSrc = sym (mod-eq_of_lt a) in
    let y : n.tcp_dst ≡ given_number (number n) TcpDst = sym (mod-eq_of_lt b) in
    e ∙ (λ j. checksum_of (around + x j + y j + 0x5000))

pub udp_checksum_is : (around q r : ℕ) (n : Numbers) → n.udp_src < 2 ^ 16 → n.udp_dst < 2 ^ 16 → q ≡ checksum_of (around + n.udp_src + n.udp_dst + 8) → r ≡ never_zero q → r ≡ carried_checksum around Udp (number n)
unfolding row_of
udp_checksum_is around q r n a b e f =
    let x : n.udp_src ≡ given_number (number n) UdpSrc = sym (mod-eq_of_lt a) in
    let y : n.udp_dst ≡ given_number (number n) UdpDst = sym (mod-eq_of_lt b) in
    f ∙ ap never_zero e ∙ (λ j. never_zero (checksum_of (around + x j + y j + 8)))

pub icmpv4_checksum_is : (around r : ℕ) (n : Numbers) → n.icmpv4_type < 2 ^ 8 → n.icmpv4_code < 2 ^ 8 → r ≡ checksum_of (n.icmpv4_type * 256 + n.icmpv4_code) → r ≡ carried_checksum around Icmpv4 (number n)
unfolding row_of
icmpv4_checksum_is around r n a b e =
    let x : n.icmpv4_type ≡ given_number (number n) Icmpv4Type = sym (mod-eq_of_lt a) in
    let y : n.icmpv4_code ≡ given_number (number n) Icmpv4Code = sym (mod-eq_of_lt b) in
    e ∙ (λ j. checksum_of (x j * 256 + y j))

pub icmpv6_checksum_is : (around r : ℕ) (n : Numbers) → n.icmpv6_type < 2 ^ 8 → n.icmpv6_code < 2 ^ 8 → r ≡ checksum_of (around + n.icmpv6_type * 256 + n.icmpv6_code) → r ≡ carried_checksum around Icmpv6 (number n)
unfolding row_of
icmpv6_checksum_is around r n a b e =
    let x : n.icmpv6_type ≡ given_number (number n) Icmpv6Type = sym (mod-eq_of_lt a) in
    let y : n.icmpv6_code ≡ given_number (number n) Icmpv6Code = sym (mod-eq_of_lt b) in
    e ∙ (λ j. checksum_of (around + x j * 256 + y j))

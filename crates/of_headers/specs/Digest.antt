-- One number for all fields of a key, which depends on a secret: equal keys have the same one.
use Rattle.std.specs.Prelude.{ℕ, ◌+◌, ◌*◌, ◌/◌, ◌%◌, ◌^◌, bit_xor, List, [], ◌∷◌}
use Rattle.std.specs.List.{fold}
use Rattle.of_headers.specs.{declared.mixer.Mixer.Mixer, declared.numbers.Numbers.Numbers}

-- ---- numbers mixed under a secret

-- a product of 128 bits folded to 64
unfoldable pub folded_product : ℕ → ℕ → ℕ
folded_product a b = bit_xor ((a * b) % 2 ^ 64) ((a * b) / 2 ^ 64)

-- Two chains take a number of 128 bits in turn. Both its halves are changed by what only the secret tells before they are multiplied.
unfoldable pub mixed : Mixer → ℕ → Mixer
mixed m number = record { next = m.last; last = folded_product (bit_xor (number % 2 ^ 64) m.next) (bit_xor (number / 2 ^ 64) m.factor); factor = m.factor }

unfoldable pub mixer_number : Mixer → ℕ
mixer_number m = (m.next + m.last) % 2 ^ 64

-- a number whose bits look random, as splitmix64 makes it
unfoldable pub scrambled : ℕ → ℕ
scrambled n =
    let a = (bit_xor n (n / 2 ^ 30) * 0xbf58_476d_1ce4_e5b9) % 2 ^ 64 in
    let b = (bit_xor a (a / 2 ^ 27) * 0x94d0_49bb_1331_11eb) % 2 ^ 64 in
    bit_xor b (b / 2 ^ 31)

-- of a seed the first three numbers that splitmix64 gives
unfoldable pub mixer_of : ℕ → Mixer
mixer_of seed = record { next = scrambled ((seed + 0x9e37_79b9_7f4a_7c15) % 2 ^ 64); last = scrambled ((seed + 0x3c6e_f372_fe94_f82a) % 2 ^ 64); factor = scrambled ((seed + 0xdaa6_6d2c_7ddf_743f) % 2 ^ 64) }

-- ---- the words of a key: fields of which a frame has one at most may share one

-- numbers side by side in one, all in 64 bits: each place is worth `place` times the next one
unfoldable pub side_by_side : ℕ → List ℕ → ℕ
side_by_side place xs = fold (λ sum x. ((sum * place) % 2 ^ 64 + x) % 2 ^ 64) 0 xs

-- two words of 64 bits in one of 128
unfoldable pub word_pair : ℕ → ℕ → ℕ
word_pair high low = high * 2 ^ 64 + low

unfoldable pub place_word_of : Numbers → ℕ
place_word_of k = word_pair (side_by_side 0x1_0000_0000 (k.in_port ∷ k.present ∷ [])) k.metadata

unfoldable pub link_word_of : Numbers → ℕ
link_word_of k = word_pair (side_by_side 0x1_0000 (k.eth_dst ∷ k.eth_type ∷ [])) (side_by_side 0x1_0000 (k.eth_src ∷ k.vlan_vid ∷ []))

unfoldable pub internet_word_of : Numbers → ℕ
internet_word_of k = word_pair (side_by_side 0x1_0000_0000 (k.ipv4_src ∷ k.ipv4_dst ∷ [])) (side_by_side 0x1_0000 (k.tcp_src ∷ k.tcp_dst ∷ k.udp_src ∷ k.udp_dst ∷ []))

unfoldable pub octet_word_of : Numbers → ℕ
octet_word_of k = word_pair (side_by_side 0x100 (k.icmpv4_type ∷ k.icmpv4_code ∷ k.icmpv6_type ∷ k.icmpv6_code ∷ k.vlan_pcp ∷ k.ip_proto ∷ k.ip_dscp ∷ k.ip_ecn ∷ [])) k.ipv6_flabel

unfoldable pub source_word_of : Numbers → ℕ
source_word_of k = (k.ipv6_src + word_pair (side_by_side 0x1_0000 (k.arp_sha ∷ k.arp_op ∷ [])) (side_by_side 0x1_0000_0000 (k.arp_spa ∷ k.arp_tpa ∷ []))) % 2 ^ 128

unfoldable pub target_word_of : Numbers → ℕ
target_word_of k = (k.ipv6_dst + k.arp_tha) % 2 ^ 128

unfoldable pub key_words : Numbers → List ℕ
key_words k = place_word_of k ∷ link_word_of k ∷ internet_word_of k ∷ octet_word_of k ∷ source_word_of k ∷ target_word_of k ∷ []

-- ---- the whole

unfoldable pub digest_of : Mixer → Numbers → ℕ
digest_of secret k = mixer_number (fold mixed secret (key_words k))

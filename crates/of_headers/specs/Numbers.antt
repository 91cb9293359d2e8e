-- The numbers of a key as a list.
use Rattle.std.specs.Prelude.{ℕ, List, [], ◌∷◌, bit_and, bit_or}
use Rattle.of_headers.specs.declared.numbers.Numbers.{Numbers}

-- each in the place of its field's number; no field has the numbers 1, 17 and 18
abbrev pub numbers_in : Numbers → List ℕ
numbers_in k =
    k.in_port ∷ 0 ∷ k.metadata ∷ k.eth_dst ∷ k.eth_src ∷ k.eth_type ∷ k.vlan_vid ∷ k.vlan_pcp ∷ k.ip_dscp ∷ k.ip_ecn ∷ k.ip_proto ∷ k.ipv4_src ∷ k.ipv4_dst
    ∷ k.tcp_src ∷ k.tcp_dst ∷ k.udp_src ∷ k.udp_dst ∷ 0 ∷ 0 ∷ k.icmpv4_type ∷ k.icmpv4_code ∷ k.arp_op ∷ k.arp_spa ∷ k.arp_tpa ∷ k.arp_sha ∷ k.arp_tha
    ∷ k.ipv6_src ∷ k.ipv6_dst ∷ k.ipv6_flabel ∷ k.icmpv6_type ∷ k.icmpv6_code ∷ []

-- the bits that both lists have, place by place
abbrev pub bits_both : List ℕ → List ℕ → List ℕ
bits_both [] ys = []
bits_both (x ∷ xs) [] = []
bits_both (x ∷ xs) (y ∷ ys) = bit_and x y ∷ bits_both xs ys

-- the bits that one or both lists have, place by place
abbrev pub bits_either : List ℕ → List ℕ → List ℕ
bits_either [] ys = ys
bits_either (x ∷ xs) [] = x ∷ xs
bits_either (x ∷ xs) (y ∷ ys) = bit_or x y ∷ bits_either xs ys

-- What a checksum covers beside the addresses and the header that it is in: the protocol and the length (RFC 768; RFC 8200, 8.1; RFC 9293, 3.1); ICMP over IPv4 leaves these out, too (RFC 792).
use Rattle.std.specs.Prelude.{ℕ, List, [], ◌∷◌}
use Rattle.of_frames.specs.declared.shape.Shape.TheVariants.{Ipv4Tcp, Ipv4Udp, Ipv6Tcp, Ipv6Udp, Ipv6Icmp}
use Rattle.of_frames.specs.declared.shape.Shape.{Shape}

-- the bytes after the header are zeros
abbrev pub numbers_beside : Shape → List ℕ
numbers_beside Ipv4Tcp = 6 ∷ 20 ∷ []
numbers_beside Ipv4Udp = 17 ∷ 8 ∷ []
numbers_beside Ipv6Tcp = 6 ∷ 20 ∷ []
numbers_beside Ipv6Udp = 17 ∷ 8 ∷ []
numbers_beside Ipv6Icmp = 58 ∷ 8 ∷ []
numbers_beside other = []

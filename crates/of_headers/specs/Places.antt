-- Where the layers of a frame begin, and how many bits its cells take.
use Rattle.std.specs.Prelude.{ℕ, ◌+◌, List, [], ◌∷◌, length}
use Rattle.of_layers.specs.Layers.{Cell, Extension, extension_bytes, all_bytes, Body, Plain, Arp, Ipv4, Ipv6, Layers}
use Rattle.of_layers.specs.Reading.{Chain}
use Rattle.of_headers.specs.{declared.layout.Layout.Layout, declared.layout.Network.Network}
use Rattle.of_headers.specs.declared.layout.Network.TheVariants as network

-- the byte of the number that names what is carried, where `named` is that of the first extension header, which begins at `at`
abbrev pub protocol_at : ℕ → ℕ → List Extension → ℕ
protocol_at named at [] = named
protocol_at named at (e ∷ es) = protocol_at at (at + extension_bytes e) es

-- the layers after IPv6's own header, where the first of them begins at `at`
abbrev pub network_behind : ℕ → ℕ → Chain → Network
network_behind named at c = network.Ipv6 (protocol_at named at c.extensions) (record { transport = c.carried.kind; at = at + all_bytes c.extensions })

-- from the packet's start: IPv6's own next header is byte 6, and its header has 40 bytes
abbrev pub network_of : Body → Network
network_of (Plain rest) = network.Plain
network_of (Arp ns rest) = network.Arp
network_of (Ipv4 ns opts carried rest) = network.Ipv4 (record { transport = carried.kind; at = 20 + length opts })
network_of (Ipv6 ns extensions carried rest) = network.Ipv6 (protocol_at 6 40 extensions) (record { transport = carried.kind; at = 40 + all_bytes extensions })

abbrev pub layout_of : Layers → Layout
layout_of l = record { tags = length l.tags; network = network_of l.body }

-- how many bits cells take
abbrev pub width : List Cell → ℕ
width [] = 0
width (c ∷ cs) = c.width + width cs
